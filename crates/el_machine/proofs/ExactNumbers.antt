-- The changes of numbers: a number takes a handle or drops one, and numbers trade what they hold.
use Rattle.el_room.proofs.Vocabulary.{nat_tests, or_right, Handle, is_held, held_in, is_this, is_given, is_at_some, moved, copied, swapped}
use Rattle.std.proofs.Common.{◌≡◌, ℕ, ◌<◌, Bool, true, false, ◌&&◌, ◌||◌, ◌==◌, cond, List, [], ◌∷◌, length, set, Option, Some, None, refl, sym, ap, subst, ◌∙◌, ◌⊎◌, inl, inr, eqb-true, eq-eqb, true≢false, arith}
use Rattle.std.proofs.lemmas.List.{get_or-set_same, get_or-set_other, length-set}
use Rattle.el_proc.proofs.Lost.{at_some}
use Rattle.el_machine.specs.Exact.{HoldsExactly}
use Rattle.el_machine.proofs.ExactHandles.{same_handle, number_of, at_set}
use Rattle.el_machine.proofs.ExactChanges.{Takes}

-- the only one
only : (handle x : Handle) → is_held (handle ∷ []) x ≡ true → handle ≡ x
only handle x there = by (handle.number == x.number) refl there
  where
    by : (b : Bool) → (handle.number == x.number) ≡ b → (b || false) ≡ true → handle ≡ x
    by true e there = same_handle handle x (eqb-true handle.number x.number e)
    by false e there = absurd (true≢false (sym there))

-- a number takes a new handle
module _ {base : List Handle} (fds : List (Option Handle)) (number : ℕ) (handle : Handle) where
  pub put_takes : is_given handle ≡ true → is_held base handle ≡ false → number < 64 → length fds ≡ 64 → Takes (handle ∷ []) base fds (set fds number (Some handle))
  put_takes given apart below numbers = record {
    given = λ x there. subst (λ x. is_given x ≡ true) (only handle x there) given;
    apart = λ x there. subst (λ x. is_held base x ≡ false) (only handle x there) apart;
    taken = λ x there. subst (λ x. is_at_some (set fds number (Some handle)) x ≡ true) (only handle x there) (at_some (set fds number (Some handle)) number handle (get_or-set_same fds number (Some handle) None (omega arith)));
    others = λ x there. by x (at_set fds number (Some handle) x there);
    numbers = length-set fds number (Some handle) ∙ numbers;
  }
    where
      by : (x : Handle) → (is_this x (Some handle) ≡ true) ⊎ (is_at_some fds x ≡ true) → (is_held (handle ∷ []) x || is_at_some fds x) ≡ true
      by x (inl here) = let same : (handle.number == x.number) ≡ true = grind (arith, nat_tests) in rw same refl
      by x (inr was) = or_right (is_held (handle ∷ []) x) _ was

-- ---- numbers hold nothing that none held

trades : {base : List Handle} (before after : List (Option Handle)) → length after ≡ 64 → ((x : Handle) → is_at_some after x ≡ true → is_at_some before x ≡ true) → Takes [] base before after
trades before after numbers was = record {
  given = λ x none. absurd (true≢false (sym none));
  apart = λ x none. absurd (true≢false (sym none));
  taken = λ x none. absurd (true≢false (sym none));
  others = was;
  numbers = numbers;
}

-- what a number holds is at some
at_number : (fds : List (Option Handle)) (j : ℕ) (x : Handle) → is_this x (held_in fds j) ≡ true → is_at_some fds x ≡ true
at_number fds j x = by (held_in fds j) refl
  where
    by : (slot : Option Handle) → held_in fds j ≡ slot → is_this x slot ≡ true → is_at_some fds x ≡ true
    by None is none = absurd (true≢false (sym none))
    by (Some y) is same = at_some fds j x (is ∙ ap Some (sym (same_handle x y (eqb-true x.number y.number same))))

-- a number takes what another one holds
at_traded : (fds from : List (Option Handle)) (n j : ℕ) → ((x : Handle) → is_at_some from x ≡ true → is_at_some fds x ≡ true) → (x : Handle) → is_at_some (set from n (held_in fds j)) x ≡ true → is_at_some fds x ≡ true
at_traded fds from n j was x there = by (at_set from n (held_in fds j) x there)
  where
    by : (is_this x (held_in fds j) ≡ true) ⊎ (is_at_some from x ≡ true) → is_at_some fds x ≡ true
    by (inl here) = at_number fds j x here
    by (inr other) = was x other

-- a number drops what it holds
at_dropped : (fds : List (Option Handle)) (n : ℕ) (x : Handle) → is_at_some (set fds n None) x ≡ true → is_at_some fds x ≡ true
at_dropped fds n x there = by (at_set fds n None x there)
  where
    by : (is_this x None ≡ true) ⊎ (is_at_some fds x ≡ true) → is_at_some fds x ≡ true
    by (inl none) = absurd (true≢false (sym none))
    by (inr was) = was

module _ {base : List Handle} (fds : List (Option Handle)) (numbers : length fds ≡ 64) where
  pub drop_takes : (number : ℕ) → Takes [] base fds (set fds number None)
  drop_takes number = trades fds (set fds number None) (length-set fds number None ∙ numbers) (at_dropped fds number)

  pub copy_takes : (to from : ℕ) → Takes [] base fds (copied fds to from)
  copy_takes to from = by (to == from)
    where
      by : (same : Bool) → Takes [] base fds (cond same fds (set fds to (held_in fds from)))
      by true = trades fds fds numbers (λ x there. there)
      by false = trades fds (set fds to (held_in fds from)) (length-set fds to (held_in fds from) ∙ numbers) (at_traded fds fds to from (λ x there. there))

  pub move_takes : (to from : ℕ) → Takes [] base fds (moved fds to from)
  move_takes to from = by (to == from)
    where
      by : (same : Bool) → Takes [] base fds (cond same fds (set (set fds from None) to (held_in fds from)))
      by true = trades fds fds numbers (λ x there. there)
      by false = trades fds (set (set fds from None) to (held_in fds from)) (length-set (set fds from None) to (held_in fds from) ∙ length-set fds from None ∙ numbers)
          (at_traded fds (set fds from None) to from (at_dropped fds from))

-- ---- two numbers change places

elsewhere : {P : Type 0} (j k : ℕ) → (j ≡ k → P) → ((j ≡ k → ⊥) → P) → P
elsewhere {P} j k here there = by (j == k) refl
  where
    by : (b : Bool) → (j == k) ≡ b → P
    by true e = here (eqb-true j k e)
    by false e = there (λ same. true≢false (sym (eq-eqb j k same) ∙ e))

module _ (fds : List (Option Handle)) (one other : ℕ) (numbers : length fds ≡ 64) (first : one < 64) (second : other < 64) where
  abbrev half : List (Option Handle)
  half = set fds one (held_in fds other)

  -- what a number held is at some still
  still_there : (j : ℕ) (x : Handle) → held_in fds j ≡ Some x → is_at_some (swapped fds one other) x ≡ true
  still_there j x is =
      elsewhere j one (λ same. at_other (ap (held_in fds) (sym same) ∙ is))
      (λ apart. elsewhere j other (λ same. at_one (λ e. apart (same ∙ sym e)) (ap (held_in fds) (sym same) ∙ is))
      (λ away. at_some (swapped fds one other) j x (get_or-set_other half other j (held_in fds one) None away ∙ get_or-set_other fds one j (held_in fds other) None apart ∙ is)))
    where
      at_other : held_in fds one ≡ Some x → is_at_some (swapped fds one other) x ≡ true
      at_other is = at_some (swapped fds one other) other x (get_or-set_same half other (held_in fds one) None (omega (arith, length-set fds one (held_in fds other))) ∙ is)

      at_one : (one ≡ other → ⊥) → held_in fds other ≡ Some x → is_at_some (swapped fds one other) x ≡ true
      at_one apart is = at_some (swapped fds one other) one x (get_or-set_other half other one (held_in fds one) None apart ∙ get_or-set_same fds one (held_in fds other) None (omega arith) ∙ is)

  same_at : (x : Handle) → is_at_some (swapped fds one other) x ≡ is_at_some fds x
  same_at x = by (is_at_some (swapped fds one other) x) refl (is_at_some fds x) refl
    where
      by : (a : Bool) → is_at_some (swapped fds one other) x ≡ a → (b : Bool) → is_at_some fds x ≡ b → a ≡ b
      by true e true f = refl
      by false e false f = refl
      by true e false f = sym (at_traded fds half other one (at_traded fds fds one other (λ x there. there)) x e) ∙ f
      by false e true f = let j = number_of fds x f in sym e ∙ still_there j.0 x j.1

  -- no handle is lost or gained
  pub swapped_exactly : {base held : List Handle} → HoldsExactly base held fds → HoldsExactly base held (swapped fds one other)
  swapped_exactly {base} h = record {
    exactly = λ x. h.exactly x ∙ ap (λ b. is_held base x || (is_given x && b)) (sym (same_at x));
    apart = λ x old. same_at x ∙ h.apart x old;
    numbers = length-set half other (held_in fds one) ∙ length-set fds one (held_in fds other) ∙ numbers;
  }
