-- A new pipe's ends are at no number.
use Rattle.std.proofs.Common.{◌≡◌, ◌≤◌, Bool, true, false, ◌||◌, not, ◌==◌, List, [], ◌∷◌, Option, Some, None, Ok, refl, sym, ap, ◌∙◌, eqb-true, true≢false, arith}
use Rattle.std.specs.Prelude.{nat_lt}
use Rattle.std.proofs.lemmas.Bool.Decides.{nat_tests}
use Rattle.el_world.specs.declared.event.Event.{Event}
use Rattle.el_world.specs.declared.event.Event.TheVariants.{Pipe}
use Rattle.el_world.specs.declared.event.Handle.{Handle}
use Rattle.el_world.specs.declared.event.PipeEnds.{PipeEnds}
use Rattle.el_world.specs.World.{Seen}
use Rattle.el_world.specs.Handles.{is_held, is_usable, are_usable}
use Rattle.el_world.specs.Acts.{pipe_act}
use Rattle.el_world.specs.Runs.{ActAgrees, Added, Done}
use Rattle.el_proc.specs.Descriptors.{is_at_some}
pub use Rattle.el_words.proofs.Truths.{left_of, right_of}
pub use Rattle.std.proofs.lemmas.Bool.{not-true as not_true}

-- the handle is neither one of the process's own nor held
pub record IsNew (held : List Handle) (handle : Handle) : Type 0 where
  pub given : 3 ≤ handle.number
  pub apart : is_held held handle ≡ false

new_writer : {old new : Seen} {ends : PipeEnds} → Done old new pipe_act (Some (Ok ends)) → IsNew old.held ends.writer
unfolding pipe_act
new_writer {old} {new} {ends} p = by p.events p.added p.agrees
  where
    by : (events : List Event) → Added old new events → ActAgrees pipe_act events (Some (Ok ends)) → IsNew old.held ends.writer
    by [] added agrees = absurd agrees
    by (event ∷ []) added agrees =
        let is : event ≡ Pipe (Ok ends) = agrees.1 ∙ sym (ap Pipe agrees.2) in
        let rising = rw is at added.rising in
        let fresh = rw is at added.fresh in
        record { given = rising.2.0; apart = not_true _ (left_of _ true (right_of (not (is_held old.held ends.reader)) _ (left_of _ true fresh))) }
    by (event ∷ other ∷ events) added agrees = absurd agrees.2

-- what isn't usable is at no number
pub unusable : (held : List Handle) (fds : List (Option Handle)) (handle : Handle) → are_usable held fds ≡ true → is_usable held handle ≡ false → is_at_some fds handle ≡ false
unusable held [] handle h apart = refl
unusable held (None ∷ fds) handle h apart = unusable held fds handle h apart
unusable held (Some other ∷ fds) handle h apart = by (handle.number == other.number) refl (unusable held fds handle (right_of (is_usable held other) _ h) apart)
  where
    by : (same : Bool) → (handle.number == other.number) ≡ same → is_at_some fds handle ≡ false → (same || is_at_some fds handle) ≡ false
    by false e rest = rest
    by true e rest =
        let number : other.number ≡ handle.number = sym (eqb-true handle.number other.number e) in
        absurd (true≢false (sym (left_of (is_usable held other) _ h) ∙ ap (λ n. is_usable held (record { number = n })) number ∙ apart))

pub writer_apart : {old new : Seen} {ends : PipeEnds} (fds : List (Option Handle)) → Done old new pipe_act (Some (Ok ends)) → are_usable old.held fds ≡ true → is_at_some fds ends.writer ≡ false
writer_apart {old} {new} {ends} fds p usable =
    let writer = new_writer p in
    let above : nat_lt ends.writer.number 3 ≡ false = let given = writer.given in grind (arith, nat_tests) in
    unusable old.held fds ends.writer usable (rw above writer.apart)
