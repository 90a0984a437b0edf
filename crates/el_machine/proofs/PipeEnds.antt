-- The ends of a new pipe.
use Rattle.el_room.proofs.Vocabulary.{nat_tests, not-true, right_of, Fault, Handle, PipeEnds, is_held, are_fresh, Rising, piped_handles, is_given, is_at_some}
use Rattle.std.proofs.Common.{◌≡◌, ℕ, ◌+◌, ◌≤◌, Bool, true, false, not, ◌&&◌, ◌||◌, ◌==◌, List, ◌∷◌, Option, Result, Ok, Err, IfOk, refl, ap, ◌∙◌, arith}
use Rattle.el_words.proofs.Truths.{left_of}
use Rattle.el_machine.specs.Exact.{HoldsExactly}
use Rattle.el_machine.proofs.ExactChanges.{given_above, base_fresh}

-- the world gave this end, and it is neither the other one nor of the base
pub record IsNew (base : List Handle) (handle other : Handle) : Type 0 where
  pub given : is_given handle ≡ true
  pub alone : is_held base handle ≡ false
  pub apart : is_held (other ∷ base) handle ≡ false

pub record AreNew (base : List Handle) (ends : PipeEnds) : Type 0 where
  pub reader : IsNew base ends.reader ends.writer
  pub writer : IsNew base ends.writer ends.reader

-- so it is with those that a world gives while exactly what is due is held
pub ends_new : {base held : List Handle} {fds : List (Option Handle)} (answer : Result PipeEnds Fault) (next : ℕ) → HoldsExactly base held fds → Rising 0 (piped_handles answer) next → are_fresh held (piped_handles answer) ≡ true → IfOk answer (AreNew base)
ends_new {base} {held} (Ok ends) next h rising fresh =
    let above : ends.reader.number + 1 ≤ ends.writer.number = rising.2.1 in
    let reader : is_held base ends.reader ≡ false = base_fresh h ends.reader (not-true _ (left_of (not (is_held held ends.reader)) _ fresh)) in
    let writer : is_held base ends.writer ≡ false = base_fresh h ends.writer (not-true _ (left_of _ true (right_of (not (is_held held ends.reader)) _ fresh))) in
    let below : (ends.reader.number == ends.writer.number) ≡ false = grind (arith, nat_tests) in
    let beyond : (ends.writer.number == ends.reader.number) ≡ false = grind (arith, nat_tests) in
    record {
      reader = record { given = given_above ends.reader rising.0; alone = reader; apart = rw (beyond, reader) refl };
      writer = record { given = given_above ends.writer rising.2.0; alone = writer; apart = rw (below, writer) refl };
    }
ends_new (Err fault) next h rising fresh = tt

-- the order of the base is no matter
pub turned : {base held : List Handle} {fds : List (Option Handle)} {one other : Handle} → HoldsExactly (one ∷ other ∷ base) held fds → HoldsExactly (other ∷ one ∷ base) held fds
turned {base} {held} {fds} {one} {other} h = record {
  exactly = λ x. h.exactly x ∙ ap (λ b. b || (is_given x && is_at_some fds x)) (by (one.number == x.number) (other.number == x.number) (is_held base x));
  apart = λ x there. h.apart x (by (one.number == x.number) (other.number == x.number) (is_held base x) ∙ there);
  numbers = h.numbers;
}
  where
    by : (a b c : Bool) → (a || (b || c)) ≡ (b || (a || c))
    by true true c = refl
    by true false c = refl
    by false b c = refl
