-- The kid of a number leaves: where it stands, and what stays.
use Rattle.std.proofs.Common.{◌≡◌, ℕ, suc, ◌+◌, Bool, true, false, not, ◌||◌, ◌==◌, cond, List, [], ◌∷◌, length, Some, None, refl, sym, ap, ◌∙◌, eqb-true, arith}
use Rattle.std.specs.Prelude.{nat_lt, slice_index_or}
use Rattle.std.specs.List.{position, position_or_len, remove}
use Rattle.std.proofs.lemmas.Bool.Decides.{nat_tests}
use Rattle.el_world.specs.declared.event.Pid.{Pid}
use Rattle.el_proc.specs.Kids.{is_kid, kid_of, without_pid}

module _ (number : ℕ) where
  has_number : Pid → Bool
  has_number pid = pid.number == number

  -- where it stands, or behind the last one
  abbrev place_in : List Pid → ℕ
  place_in kids = position_or_len (λ (pid : Pid). pid.number == number) kids

  -- without the one there
  left_at : (kids : List Pid) → remove kids (place_in kids) ≡ without_pid kids number
  left_at [] = refl
  left_at (pid ∷ kids) = by (pid.number == number) (left_at kids)
    where
      by : (here : Bool) → remove kids (place_in kids) ≡ without_pid kids number → remove (pid ∷ kids) (cond (not here) (1 + place_in kids) 0) ≡ cond here kids (pid ∷ without_pid kids number)
      by true h = refl
      by false h = let next : 1 + place_in kids ≡ suc (place_in kids) = omega arith in rw next (ap (λ kids. pid ∷ kids) h)

  -- it is among them where the place is
  among_at : (kids : List Pid) → is_kid kids number ≡ nat_lt (place_in kids) (length kids)
  among_at [] = refl
  among_at (pid ∷ kids) = by (pid.number == number) (among_at kids)
    where
      by : (here : Bool) → is_kid kids number ≡ nat_lt (place_in kids) (length kids) → (here || is_kid kids number) ≡ nat_lt (cond (not here) (1 + place_in kids) 0) (suc (length kids))
      by true h = grind (arith, nat_tests)
      by false h = let next : nat_lt (place_in kids) (length kids) ≡ nat_lt (1 + place_in kids) (suc (length kids)) = grind (arith, nat_tests) in h ∙ next

  -- the one there is it
  found_at : (kids : List Pid) (other : Pid) → nat_lt (place_in kids) (length kids) ≡ true → slice_index_or kids (place_in kids) other ≡ record { number = number }
  found_at [] other = λ inside. let no : ⊥ = grind (arith, nat_tests) in absurd no
  found_at (pid ∷ kids) other = by (pid.number == number) refl (found_at kids other)
    where
      by : (here : Bool) → (pid.number == number) ≡ here → (nat_lt (place_in kids) (length kids) ≡ true → slice_index_or kids (place_in kids) other ≡ record { number = number })
          → nat_lt (cond (not here) (1 + place_in kids) 0) (suc (length kids)) ≡ true → slice_index_or (pid ∷ kids) (cond (not here) (1 + place_in kids) 0) other ≡ record { number = number }
      by true is h inside = ap (λ n. record { number = n }) (eqb-true pid.number number is)
      by false is h inside =
          let next : 1 + place_in kids ≡ suc (place_in kids) = omega arith in
          let here : nat_lt (place_in kids) (length kids) ≡ true = grind (arith, nat_tests) in
          rw next (h here)

  -- what leaves and what stays, where it is found
  module _ (kids : List Pid) (place : ℕ) (found : position (λ (pid : Pid). pid.number == number) kids ≡ Some place) where
    place_is : (inside : Bool) → nat_lt (place_in kids) (length kids) ≡ inside → cond inside (Some (place_in kids)) None ≡ Some place → (place_in kids ≡ place) × (nat_lt (place_in kids) (length kids) ≡ true)
    place_is true is e = (cc, is)
    place_is false is e = let no : ⊥ = cc in absurd no

    at_place : (place_in kids ≡ place) × (nat_lt (place_in kids) (length kids) ≡ true)
    at_place = place_is (nat_lt (place_in kids) (length kids)) refl found

    pub kid_found : (pid : Pid) → pid ≡ slice_index_or kids place pid → Some pid ≡ kid_of kids number
    kid_found pid is = rw (among_at kids, at_place.1) (ap Some (is ∙ ap (λ n. slice_index_or kids n pid) (sym at_place.0) ∙ found_at kids pid at_place.1))

    pub kids_left : remove kids place ≡ without_pid kids number
    kids_left = ap (remove kids) (sym at_place.0) ∙ left_at kids

  -- where there is none
  module _ (kids : List Pid) (missing : position (λ (pid : Pid). pid.number == number) kids ≡ None) where
    is_outside : (inside : Bool) → nat_lt (place_in kids) (length kids) ≡ inside → cond inside (Some (place_in kids)) None ≡ None → nat_lt (place_in kids) (length kids) ≡ false
    is_outside true is e = let no : ⊥ = cc in absurd no
    is_outside false is e = is

    pub no_kid : None ≡ kid_of kids number
    no_kid = rw (among_at kids, is_outside (nat_lt (place_in kids) (length kids)) refl missing) refl

  -- a number of none of them changes nothing
  pub none_leaves : (kids : List Pid) → is_kid kids number ≡ false → kids ≡ without_pid kids number
  none_leaves [] = λ none. refl
  none_leaves (pid ∷ kids) = by (pid.number == number) (none_leaves kids)
    where
      by : (here : Bool) → (is_kid kids number ≡ false → kids ≡ without_pid kids number) → (here || is_kid kids number) ≡ false → pid ∷ kids ≡ cond here kids (pid ∷ without_pid kids number)
      by true h none = let no : ⊥ = cc in absurd no
      by false h none = ap (λ kids. pid ∷ kids) (h none)

  pub all_left : (kids : List Pid) → position (λ (pid : Pid). pid.number == number) kids ≡ None → kids ≡ without_pid kids number
  all_left kids missing = none_leaves kids (among_at kids ∙ is_outside kids missing (nat_lt (place_in kids) (length kids)) refl missing)
