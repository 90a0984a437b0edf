-- The handles of a process.
use Rattle.std.proofs.Common.{◌≡◌, ℕ, suc, true, List, [], ◌∷◌, Option, Some, refl}
use Rattle.std.proofs.lemmas.Bool.{and_from}
use Rattle.el_words.proofs.Truths.{left_of, right_of}
use Rattle.el_world.specs.declared.event.Handle.{Handle}
use Rattle.el_world.specs.Handles.{is_usable, is_usable_end, are_usable}
use Rattle.el_proc.specs.Descriptors.{held_in, streams_in}

-- what a number holds is usable
pub usable_at : (held : List Handle) (fds : List (Option Handle)) (number : ℕ) → are_usable held fds ≡ true → is_usable_end held (held_in fds number) ≡ true
usable_at held [] number h = refl
usable_at held (slot ∷ fds) Prim.Native.Nat.zero h = left_of (is_usable_end held slot) _ h
usable_at held (slot ∷ fds) (suc number) h = usable_at held fds number (right_of (is_usable_end held slot) _ h)

pub usable_handle : (held : List Handle) (fds : List (Option Handle)) (number : ℕ) (handle : Handle) → held_in fds number ≡ Some handle → are_usable held fds ≡ true → is_usable held handle ≡ true
usable_handle held fds number handle is h = rw is at (usable_at held fds number h)

pub usable_streams : (held : List Handle) (fds : List (Option Handle)) → are_usable held fds ≡ true → are_usable held (streams_in fds) ≡ true
usable_streams held fds h = and_from _ _ (usable_at held fds 0 h) (and_from _ _ (usable_at held fds 1 h) (and_from _ _ (usable_at held fds 2 h) refl))

pub ruleset usable = (usable_handle, usable_streams)
