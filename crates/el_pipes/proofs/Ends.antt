-- The ends of a new pipe, which no number holds.
use Rattle.el_room.proofs.Vocabulary.{nat_tests, right_of, Event, Pipe, Fault, Handle, PipeEnds, Seen, is_held, are_usable, without, pipe_act, Added, Done, ok_value, usable_held, is_same, is_at_some, streams_in, usable_streams, usable_set}
use Rattle.std.proofs.Common.{◌≡◌, Bool, true, false, not, ◌||◌, ◌==◌, cond, List, [], ◌∷◌, Option, Some, Result, Ok, Err, IfOk, set, refl, sym, ap, ◌∙◌, arith}
use Rattle.std.specs.Prelude.{nat_lt}
use Rattle.el_words.proofs.Truths.{left_of}
use Rattle.el_world.specs.Runs.{ActAgrees}
use Rattle.el_proc.proofs.Piped.{not_true, IsNew, unusable}
use Rattle.el_pipes.specs.declared.side.Side.{Side}
use Rattle.el_pipes.specs.declared.side.Side.TheVariants.{Input, Output}
use Rattle.el_pipes.specs.Pipes.{number_at, end_at, other_side, IsLoose, AreLoose}

-- ---- a new pipe

-- both ends are new, and the reader has the lower number
record AreNew (held : List Handle) (ends : PipeEnds) : Type 0 where
  reader : IsNew held ends.reader
  writer : IsNew held ends.writer
  differ : is_same ends.reader ends.writer ≡ false

new_ends : {old new : Seen} {ends : PipeEnds} → Done old new pipe_act (Some (Ok ends)) → AreNew old.held ends
unfolding pipe_act
new_ends {old} {new} {ends} p = by p.events p.added p.agrees
  where
    by : (events : List Event) → Added old new events → ActAgrees pipe_act events (Some (Ok ends)) → AreNew old.held ends
    by [] added agrees = absurd agrees
    by (event ∷ []) added agrees =
        let is : event ≡ Pipe (Ok ends) = agrees.1 ∙ sym (ap Pipe agrees.2) in
        let rising = rw is at added.rising in
        let fresh = left_of _ true (rw is at added.fresh) in
        let above = rising.2.1 in
        record {
          reader = record { given = rising.0; apart = not_true _ (left_of _ _ fresh) };
          writer = record { given = rising.2.0; apart = not_true _ (left_of _ true (right_of (not (is_held old.held ends.reader)) _ fresh)) };
          differ = grind (arith, nat_tests);
        }
    by (event ∷ other ∷ events) added agrees = absurd agrees.2

-- a new handle is at no number
new_apart : (held : List Handle) (fds : List (Option Handle)) (handle : Handle) → IsNew held handle → are_usable held fds ≡ true → is_at_some fds handle ≡ false
new_apart held fds handle is usable =
    let above : nat_lt handle.number 3 ≡ false = let given = is.given in grind (arith, nat_tests) in
    unusable held fds handle usable (rw above is.apart)

pub ends_loose : {E : Type 0} (old new : Seen) (fds : List (Option Handle)) (answer : Result (Result PipeEnds Fault) E) → Done old new pipe_act (ok_value answer) → are_usable old.held fds ≡ true
    → IfOk answer (λ inner. IfOk inner (λ ends. is_held new.held ends.reader ≡ true)) → IfOk answer (λ inner. IfOk inner (λ ends. is_held new.held ends.writer ≡ true))
    → IfOk answer (λ inner. IfOk inner (AreLoose new.held fds))
ends_loose old new fds (Ok (Ok ends)) done usable reader writer =
    let are = new_ends done in
    record {
      reader = record { is_open = reader; apart = new_apart old.held fds ends.reader are.reader usable };
      writer = record { is_open = writer; apart = new_apart old.held fds ends.writer are.writer usable };
      differ = are.differ;
    }
ends_loose old new fds (Ok (Err fault)) done usable reader writer = tt
ends_loose old new fds (Err error) done usable reader writer = tt

-- ---- its two sides

pub end_loose : (held : List Handle) (fds : List (Option Handle)) (ends : PipeEnds) (side : Side) → AreLoose held fds ends → IsLoose held fds (end_at side ends)
end_loose held fds ends Input loose = loose.reader
end_loose held fds ends Output loose = loose.writer

-- what a block is started with
pub usable_with : (held : List Handle) (fds : List (Option Handle)) (ends : PipeEnds) (side : Side) → AreLoose held fds ends → are_usable held fds ≡ true
    → are_usable held (set (streams_in fds) (number_at side) (Some (end_at side ends))) ≡ true
usable_with held fds ends side loose usable =
    usable_set held (streams_in fds) (number_at side) (Some (end_at side ends)) (usable_streams held fds usable) (usable_held held (end_at side ends) (end_loose held fds ends side loose).is_open)

-- what is held stays held where another is closed
held_without : (held : List Handle) (handle other : Handle) → is_same handle other ≡ false → is_held held other ≡ true → is_held (without held handle) other ≡ true
held_without [] handle other apart is = is
held_without (first ∷ held) handle other apart is = by (first.number == handle.number) refl (first.number == other.number) refl is (λ is. held_without held handle other apart is)
  where
    by : (gone : Bool) → (first.number == handle.number) ≡ gone → (here : Bool) → (first.number == other.number) ≡ here → (here || is_held held other) ≡ true
        → (is_held held other ≡ true → is_held (without held handle) other ≡ true)
        → is_held (cond (not (first.number == handle.number)) (first ∷ without held handle) (without held handle)) other ≡ true
    by true gone true here is h = absurd (grind (arith, nat_tests))
    by true gone false here is h = rw gone (h is)
    by false gone true here is h = rw gone (rw here refl)
    by false gone false here is h = rw gone (rw here (h is))

turned : (one other : Handle) → is_same one other ≡ false → is_same other one ≡ false
turned one other apart = grind (arith, nat_tests)

-- where one end is closed, the other one stays
pub other_loose : (held : List Handle) (fds : List (Option Handle)) (ends : PipeEnds) (side : Side) → AreLoose held fds ends → IsLoose (without held (end_at side ends)) fds (end_at (other_side side) ends)
other_loose held fds ends Input loose = record { is_open = held_without held ends.reader ends.writer loose.differ loose.writer.is_open; apart = loose.writer.apart }
other_loose held fds ends Output loose = record { is_open = held_without held ends.writer ends.reader (turned ends.reader ends.writer loose.differ) loose.reader.is_open; apart = loose.reader.apart }
