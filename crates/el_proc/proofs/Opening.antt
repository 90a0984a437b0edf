-- A newly opened handle is at no number.
use Rattle.std.proofs.Common.{◌≡◌, ℕ, true, false, List, [], ◌∷◌, Option, Result, Ok, Err, IfOk, Some, sym, ap, ◌∙◌, arith}
use Rattle.std.specs.Prelude.{nat_lt}
use Rattle.std.proofs.lemmas.Bool.Decides.{nat_tests}
use Rattle.el_world.specs.declared.event.Event.{Event}
use Rattle.el_world.specs.declared.event.Event.TheVariants.{Opened}
use Rattle.el_world.specs.declared.event.Fault.{Fault}
use Rattle.el_world.specs.declared.event.Handle.{Handle}
use Rattle.el_world.specs.declared.event.Mode.{Mode}
use Rattle.el_world.specs.World.{Seen}
use Rattle.el_world.specs.Handles.{are_usable, opened_handles}
use Rattle.el_world.specs.Acts.{open_act}
use Rattle.el_world.specs.Runs.{ActAgrees, Added, Done, ok_value, NowHolds}
use Rattle.el_proc.specs.Descriptors.{is_at_some}
use Rattle.el_proc.proofs.Changes.{usable_given}
use Rattle.el_proc.proofs.Piped.{left_of, not_true, IsNew, unusable}

module _ (old new : Seen) (dir path : List ℕ) (mode : Mode) where
  new_opened : {handle : Handle} → Done old new (open_act dir path mode) (Some (Ok handle)) → IsNew old.held handle
  unfolding open_act
  new_opened {handle} p = by p.events p.added p.agrees
    where
      by : (events : List Event) → Added old new events → ActAgrees (open_act dir path mode) events (Some (Ok handle)) → IsNew old.held handle
      by [] added agrees = absurd agrees
      by (event ∷ []) added agrees =
          let is : event ≡ Opened dir path mode (Ok handle) = agrees.1 ∙ sym (ap (Opened dir path mode) agrees.2) in
          let rising = rw is at added.rising in
          let fresh = rw is at added.fresh in
          record { given = rising.0; apart = not_true _ (left_of _ true (left_of _ true fresh)) }
      by (event ∷ other ∷ events) added agrees = absurd agrees.2

  pub opened_apart : {E : Type 0} (fds : List (Option Handle)) (answer : Result (Result Handle Fault) E) → Done old new (open_act dir path mode) (ok_value answer) → are_usable old.held fds ≡ true
      → IfOk answer (λ inner. IfOk inner (λ handle. is_at_some fds handle ≡ false))
  opened_apart fds (Ok (Ok handle)) done usable =
      let opened = new_opened done in
      let above : nat_lt handle.number 3 ≡ false = let given = opened.given in grind (arith, nat_tests) in
      unusable old.held fds handle usable (rw above opened.apart)
  opened_apart fds (Ok (Err fault)) done usable = tt
  opened_apart fds (Err error) done usable = tt

-- the handles of a process stay usable
pub usable_opened : {E : Type 0} (old new : Seen) (answer : Result (Result Handle Fault) E) (fds : List (Option Handle)) → NowHolds old new answer opened_handles → are_usable old.held fds ≡ true
    → are_usable new.held fds ≡ true
usable_opened old new answer fds holds usable = usable_given old new answer opened_handles fds holds usable

pub ruleset opening = (opened_apart, usable_opened)
