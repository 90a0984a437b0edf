-- Whether numbers hold the handles that they must hold, by the answer of a change.
use Rattle.std.proofs.Common.{◌≡◌, ℕ, ◌<◌, true, ◌&&◌, List, Option, Some, None, Result, Ok, Err, is_ok, is_some, refl, ◌∙◌, arith}
use Rattle.std.proofs.lemmas.Bool.Decides.{nat_tests}
use Rattle.el_world.specs.declared.event.Handle.{Handle}
use Rattle.el_proc.specs.declared.descriptors.FdFault.{FdFault}
use Rattle.el_proc.specs.Descriptors.{held_in}
use Rattle.el_proc.specs.DescriptorFaults.{fault_of, in_range, open_or_fault, first_fault, move_fault, swap_fault}

-- numbers in range may still hold none
by_handle : (fds : List (Option Handle)) (other number : ℕ) → other < 64 → number < 64 → move_fault fds other number ≡ fault_of (open_or_fault (held_in fds number))
by_handle fds other number o n =
    let first : in_range other ≡ true = grind (arith, nat_tests) in
    let second : in_range number ≡ true = grind (arith, nat_tests) in
    rw (first, second) refl

module _ {A : Type 0} where
  one_open : (slot : Option Handle) (r : Result A FdFault) → fault_of r ≡ fault_of (open_or_fault slot) → is_ok r ≡ is_some slot
  one_open None (Ok x) e = let no : ⊥ = cc in absurd no
  one_open None (Err fault) e = refl
  one_open (Some handle) (Ok x) e = refl
  one_open (Some handle) (Err fault) e = let no : ⊥ = cc in absurd no

  two_open : (slot other : Option Handle) (r : Result A FdFault) → fault_of r ≡ first_fault (fault_of (open_or_fault slot)) (fault_of (open_or_fault other)) → is_ok r ≡ (is_some slot && is_some other)
  two_open None other (Ok x) e = let no : ⊥ = cc in absurd no
  two_open None other (Err fault) e = refl
  two_open (Some handle) other r e = one_open other r e

  pub open_moved : (fds : List (Option Handle)) (to from : ℕ) (r : Result A FdFault) → to < 64 → from < 64 → fault_of r ≡ move_fault fds to from → is_ok r ≡ is_some (held_in fds from)
  open_moved fds to from r t f e = one_open (held_in fds from) r (e ∙ by_handle fds to from t f)

  pub open_swapped : (fds : List (Option Handle)) (one other : ℕ) (r : Result A FdFault) → one < 64 → other < 64 → fault_of r ≡ swap_fault fds one other
      → is_ok r ≡ (is_some (held_in fds one) && is_some (held_in fds other))
  open_swapped fds one other r o p e =
      two_open (held_in fds one) (held_in fds other) r (e ∙ rw (by_handle fds other one p o, by_handle fds one other o p) refl)
