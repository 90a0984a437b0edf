-- What a change of the numbers takes out of its last number.
use Rattle.std.proofs.Common.{◌≡◌, ℕ, suc, ◌<◌, Bool, true, false, not, ◌&&◌, ◌||◌, ◌==◌, cond, List, [], ◌∷◌, filter, length, set, Option, Some, None, refl, sym, ap, subst, ◌∙◌, eqb-true, eq-eqb, true≢false, arith}
use Rattle.std.proofs.lemmas.Bool.Decides.{nat_tests}
use Rattle.std.proofs.lemmas.List.{get_or-set_same, get_or-set_other}
use Rattle.std.proofs.lemmas.Bool.{or_right}
use Rattle.el_world.specs.declared.event.Handle.{Handle}
use Rattle.el_proc.specs.Descriptors.{held_in, is_same, is_this, is_given, given_handles, ends_of, is_at_some, lost_handles, lost_from, handles_in}
use Rattle.el_proc.proofs.Given.{filter-swap, others_than}

-- ---- handles and numbers

same_handle : (one other : Handle) → one.number ≡ other.number → one ≡ other
same_handle one other e = ap (λ n. record { number = n }) e

-- where a number holds it
pub at_some : (fds : List (Option Handle)) (j : ℕ) (x : Handle) → held_in fds j ≡ Some x → is_at_some fds x ≡ true
at_some [] j x e = let no : ⊥ = cc in absurd no
at_some (slot ∷ fds) Prim.Native.Nat.zero x e = rw e (rw (eq-eqb x.number x.number refl) refl)
at_some (slot ∷ fds) (suc j) x e = or_right (is_this x slot) _ (at_some fds j x e)

-- no number holds it
ends_none : (fds : List (Option Handle)) (handle : Handle) → (ends_of fds handle == 0) ≡ not (is_at_some fds handle)
ends_none [] handle = refl
ends_none (slot ∷ fds) handle = by (is_this handle slot) (ends_none fds handle)
  where
    by : (here : Bool) → (ends_of fds handle == 0) ≡ not (is_at_some fds handle)
        → (length (cond here (slot ∷ filter (is_this handle) fds) (filter (is_this handle) fds)) == 0) ≡ not (here || is_at_some fds handle)
    by true h = grind (arith, nat_tests)
    by false h = h

elsewhere : {P : Type 0} (j k : ℕ) → (j ≡ k → P) → ((j ≡ k → ⊥) → P) → P
elsewhere {P} j k here there = by (j == k) refl
  where
    by : (b : Bool) → (j == k) ≡ b → P
    by true e = here (eqb-true j k e)
    by false e = there (λ same. true≢false (sym (eq-eqb j k same) ∙ e))

-- ---- which of the world's handles pass a test

module _ (p : Handle → Bool) where
  none_passes : (fds : List (Option Handle)) → ((j : ℕ) (x : Handle) → held_in fds j ≡ Some x → is_given x ≡ true → p x ≡ false) → filter p (given_handles fds) ≡ []
  none_passes [] h = refl
  none_passes (None ∷ fds) h = none_passes fds (λ j. h (suc j))
  none_passes (Some x ∷ fds) h = by (is_given x) refl (none_passes fds (λ j. h (suc j)))
    where
      by : (given : Bool) → is_given x ≡ given → filter p (given_handles fds) ≡ [] → filter p (cond given (x ∷ others_than x (given_handles fds)) (given_handles fds)) ≡ []
      by true e r = rw (h 0 x refl e) (filter-swap p (λ other. not (is_same x other)) (given_handles fds) ∙ ap (others_than x) r)
      by false e r = r

  module _ (d : Handle) (given : is_given d ≡ true) (passes : p d ≡ true) where
    gone : (b : Bool) → others_than d (cond b (d ∷ []) []) ≡ []
    gone true = rw (eq-eqb d.number d.number refl) refl
    gone false = refl

    kept : (x : Handle) → is_same d x ≡ false → (b : Bool) → others_than x (cond b (d ∷ []) []) ≡ cond b (d ∷ []) []
    kept x apart true = let other : is_same x d ≡ false = grind (arith, nat_tests) in rw other refl
    kept x apart false = refl

    -- only this one does
    one_passes : (fds : List (Option Handle)) → ((j : ℕ) (x : Handle) → held_in fds j ≡ Some x → p x ≡ true → x ≡ d) → filter p (given_handles fds) ≡ cond (is_at_some fds d) (d ∷ []) []
    one_passes [] h = refl
    one_passes (None ∷ fds) h = one_passes fds (λ j. h (suc j))
    one_passes (Some x ∷ fds) h = by (p x) refl (one_passes fds (λ j. h (suc j)))
      where
        first : filter p (given_handles fds) ≡ cond (is_at_some fds d) (d ∷ []) []
            → filter p (cond (is_given d) (d ∷ others_than d (given_handles fds)) (given_handles fds)) ≡ cond (is_same d d || is_at_some fds d) (d ∷ []) []
        first r =
            rw (given, passes, eq-eqb d.number d.number refl)
            (ap (λ rest. d ∷ rest) (filter-swap p (λ other. not (is_same d other)) (given_handles fds) ∙ ap (others_than d) r ∙ gone (is_at_some fds d)))

        other : p x ≡ false → (same : Bool) → is_same d x ≡ same → (b : Bool) → filter p (given_handles fds) ≡ cond (is_at_some fds d) (d ∷ []) []
            → filter p (cond b (x ∷ others_than x (given_handles fds)) (given_handles fds)) ≡ cond (same || is_at_some fds d) (d ∷ []) []
        other e true same b r = absurd (true≢false (sym passes ∙ ap p (same_handle d x (eqb-true d.number x.number same)) ∙ e))
        other e false same true r =
            rw e (filter-swap p (λ other. not (is_same x other)) (given_handles fds) ∙ ap (others_than x) r ∙ kept x same (is_at_some fds d))
        other e false same false r = r

        by : (here : Bool) → p x ≡ here → filter p (given_handles fds) ≡ cond (is_at_some fds d) (d ∷ []) []
            → filter p (cond (is_given x) (x ∷ others_than x (given_handles fds)) (given_handles fds)) ≡ cond (is_same d x || is_at_some fds d) (d ∷ []) []
        by true e r = subst (λ y. filter p (cond (is_given y) (y ∷ others_than y (given_handles fds)) (given_handles fds)) ≡ cond (is_same d y || is_at_some fds d) (d ∷ []) []) (sym (h 0 x refl e)) (first r)
        by false e r = other e (is_same d x) refl (is_given x) r

-- ---- what is lost

-- where all stay but what one number held, at most this is lost
lost_one : (before after : List (Option Handle)) (k : ℕ) → ((j : ℕ) (x : Handle) → held_in before j ≡ Some x → (j ≡ k → ⊥) → is_at_some after x ≡ true)
    → lost_handles before after ≡ handles_in (lost_from after (held_in before k))
lost_one before after k stay = by (held_in before k) refl
  where
    p : Handle → Bool
    p = λ handle. not (is_at_some after handle)

    none : (stays : (x : Handle) → held_in before k ≡ Some x → is_given x ≡ true → is_at_some after x ≡ true) → lost_handles before after ≡ []
    none stays = none_passes p before (λ j x e given. ap not (elsewhere j k (λ same. stays x (subst (λ n. held_in before n ≡ Some x) same e) given) (stay j x e)))

    one : (d : Handle) → held_in before k ≡ Some d → is_given d ≡ true → is_at_some after d ≡ false → lost_handles before after ≡ d ∷ []
    one d is given apart =
        one_passes p d given (ap not apart) before (λ j x e passes.
        elsewhere j k
        (λ same. let e : held_in before k ≡ Some x = subst (λ n. held_in before n ≡ Some x) same e in let two : Some x ≡ Some d = sym e ∙ is in cc)
        (λ apart. absurd (true≢false (sym passes ∙ ap not (stay j x e apart)))))
        ∙ rw (at_some before k d is) refl

    of : (d : Handle) → held_in before k ≡ Some d → (given held : Bool) → is_given d ≡ given → is_at_some after d ≡ held → lost_handles before after ≡ handles_in (cond (given && not held) (Some d) None)
    of d is true false g h = one d is g h
    of d is true true g h = none (λ x e given. let same : d ≡ x = let two : Some d ≡ Some x = sym is ∙ e in cc in subst (λ x. is_at_some after x ≡ true) same h)
    of d is false held g h = none (λ x e given. let same : d ≡ x = let two : Some d ≡ Some x = sym is ∙ e in cc in absurd (true≢false (sym given ∙ ap is_given (sym same) ∙ g)))

    by : (was : Option Handle) → held_in before k ≡ was → lost_handles before after ≡ handles_in (lost_from after was)
    by None is = none (λ x e given. let no : ⊥ = let two : None ≡ Some x = sym is ∙ e in cc in absurd no)
    by (Some d) is = rw (ends_none after d) (of d is (is_given d) (is_at_some after d) refl refl)

-- nothing changes
pub lost_same : (fds : List (Option Handle)) → lost_handles fds fds ≡ []
lost_same fds = none_passes (λ handle. not (is_at_some fds handle)) fds (λ j x e given. ap not (at_some fds j x e))

-- one number holds something else
pub lost_set : (fds : List (Option Handle)) (n : ℕ) (held : Option Handle) → lost_handles fds (set fds n held) ≡ handles_in (lost_from (set fds n held) (held_in fds n))
lost_set fds n held = lost_one fds (set fds n held) n (λ j x e apart. at_some (set fds n held) j x (get_or-set_other fds n j held None apart ∙ e))

-- one number takes what another one held
pub lost_moved : (fds : List (Option Handle)) (to from : ℕ) (handle : Handle) → to < length (set fds from None) → held_in fds from ≡ Some handle
    → lost_handles fds (set (set fds from None) to (Some handle)) ≡ handles_in (lost_from (set (set fds from None) to (Some handle)) (held_in fds to))
lost_moved fds to from handle below is = lost_one fds after to (λ j x e apart. elsewhere j from
    (λ same. at_some after to x (get_or-set_same (set fds from None) to (Some handle) None below ∙ sym is ∙ ap (held_in fds) (sym same) ∙ e))
    (λ other. at_some after j x (get_or-set_other (set fds from None) to j (Some handle) None apart ∙ get_or-set_other fds from j None None other ∙ e)))
  where
    after : List (Option Handle)
    after = set (set fds from None) to (Some handle)
