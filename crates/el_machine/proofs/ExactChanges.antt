-- Handles that are held exactly: where handles are given or closed, and where numbers change.
use Rattle.el_room.proofs.Vocabulary.{list_all, nat_tests, and_from, and_right, not-true, or_cases, or_right, and-true, right_of, Handle, is_held, are_fresh, without, Rising, is_given, is_same, is_at_some, given_handles, without_given, lost_handles}
use Rattle.std.proofs.Common.{◌≡◌, ℕ, ◌≤◌, ◌+◌, Bool, true, false, not, ◌&&◌, ◌||◌, ◌==◌, List, [], ◌∷◌, ◌++◌, length, cond, Option, Some, None, refl, sym, ap, subst, ◌∙◌, ◌⊎◌, inl, inr, append-nil, eqb-true, true≢false, arith}
use Rattle.el_words.proofs.Truths.{left_of}
use Rattle.el_machine.specs.Exact.{HoldsExactly}
use Rattle.el_machine.proofs.ExactHandles.{number_is, same_handle, held-append, held-filter, held-given}
use Rattle.el_machine.proofs.ExactClosings.{HoldsOthers}

-- ---- given handles

pub all_given : (handles : List Handle) (x : Handle) → list_all is_given handles ≡ true → is_held handles x ≡ true → is_given x ≡ true
all_given [] x given there = absurd (true≢false (sym there))
all_given (handle ∷ handles) x given there = by (handle.number == x.number) refl there (λ later. all_given handles x (right_of (is_given handle) _ given) later)
  where
    by : (here : Bool) → (handle.number == x.number) ≡ here → (here || is_held handles x) ≡ true → (is_held handles x ≡ true → is_given x ≡ true) → is_given x ≡ true
    by true e there rest = ap is_given (sym (same_handle handle x (eqb-true handle.number x.number e))) ∙ left_of (is_given handle) _ given
    by false e there rest = rest there

pub given_above : (handle : Handle) → 3 ≤ handle.number → is_given handle ≡ true
given_above handle above = grind (arith, nat_tests)

-- given ones are the world's
rising_given : (handles : List Handle) (from to : ℕ) (x : Handle) → Rising from handles to → is_held handles x ≡ true → is_given x ≡ true
rising_given [] from to x rising there = absurd (true≢false (sym there))
rising_given (handle ∷ handles) from to x rising there = by (handle.number == x.number) refl there (λ later. rising_given handles (handle.number + 1) to x rising.2 later)
  where
    by : (here : Bool) → (handle.number == x.number) ≡ here → (here || is_held handles x) ≡ true → (is_held handles x ≡ true → is_given x ≡ true) → is_given x ≡ true
    by true e there rest = let above : 3 ≤ handle.number = rising.0 in grind (arith, nat_tests)
    by false e there rest = rest there

-- and fresh ones aren't held
fresh_apart : (held handles : List Handle) (x : Handle) → are_fresh held handles ≡ true → is_held handles x ≡ true → is_held held x ≡ false
fresh_apart held [] x fresh there = absurd (true≢false (sym there))
fresh_apart held (handle ∷ handles) x fresh there = by (handle.number == x.number) refl there (λ later. fresh_apart held handles x (right_of (not (is_held held handle)) _ fresh) later)
  where
    by : (here : Bool) → (handle.number == x.number) ≡ here → (here || is_held handles x) ≡ true → (is_held handles x ≡ true → is_held held x ≡ false) → is_held held x ≡ false
    by true e there rest = let same : handle.number ≡ x.number = grind (arith, nat_tests) in ap (is_held held) (sym (same_handle handle x same)) ∙ not-true _ (left_of (not (is_held held handle)) _ fresh)
    by false e there rest = rest there

module _ {base held : List Handle} {fds : List (Option Handle)} where
  -- ---- handles are given

  pub none_given : HoldsExactly base held fds → HoldsExactly base (held ++ []) fds
  none_given h = subst (λ held. HoldsExactly base held fds) (sym (append-nil held)) h

  -- they are of the base while no number holds them
  pub more_given : (given : List Handle) (next : ℕ) → Rising 0 given next → are_fresh held given ≡ true → HoldsExactly base held fds → HoldsExactly (given ++ base) (held ++ given) fds
  more_given given next rising fresh h = record {
    exactly = λ x. held-append held given x ∙ ap (λ b. b || is_held given x) (h.exactly x) ∙ turned (is_held base x) (is_given x && is_at_some fds x) (is_held given x) ∙ ap (λ b. b || (is_given x && is_at_some fds x)) (sym (held-append given base x));
    apart = λ x there. by x (or_cases (is_held given x) (is_held base x) (sym (held-append given base x) ∙ there));
    numbers = h.numbers;
  }
    where
      turned : (a b c : Bool) → ((a || b) || c) ≡ ((c || a) || b)
      turned true b true = refl
      turned true b false = refl
      turned false true true = refl
      turned false true false = refl
      turned false false true = refl
      turned false false false = refl

      no : (x : Handle) → is_held given x ≡ true → (b : Bool) → is_at_some fds x ≡ b → b ≡ false
      no x new false e = refl
      no x new true e = absurd (true≢false (sym (or_right (is_held base x) (is_given x && is_at_some fds x) (and_from _ _ (rising_given given 0 next x rising new) e)) ∙ sym (h.exactly x) ∙ fresh_apart held given x fresh new))

      by : (x : Handle) → (is_held given x ≡ true) ⊎ (is_held base x ≡ true) → is_at_some fds x ≡ false
      by x (inl new) = no x new (is_at_some fds x) refl
      by x (inr old) = h.apart x old

-- what isn't held isn't of the base
pub base_fresh : {base held : List Handle} {fds : List (Option Handle)} → HoldsExactly base held fds → (x : Handle) → is_held held x ≡ false → is_held base x ≡ false
base_fresh {base} h x none = by (is_held base x) refl
  where
    by : (b : Bool) → is_held base x ≡ b → b ≡ false
    by false e = refl
    by true e = sym (h.exactly x ∙ rw e refl) ∙ none

-- ---- numbers change

-- Numbers take these handles of the world's, which are none of the base, and otherwise nothing that no number held.
pub record Takes (new base : List Handle) (before after : List (Option Handle)) : Type 0 where
  pub given : (x : Handle) → is_held new x ≡ true → is_given x ≡ true
  pub apart : (x : Handle) → is_held new x ≡ true → is_held base x ≡ false
  pub taken : (x : Handle) → is_held new x ≡ true → is_at_some after x ≡ true
  pub others : (x : Handle) → is_at_some after x ≡ true → (is_held new x || is_at_some before x) ≡ true
  pub numbers : length after ≡ 64

held-lost : (before after : List (Option Handle)) (x : Handle) → is_held (lost_handles before after) x ≡ ((is_given x && is_at_some before x) && not (is_at_some after x))
held-lost before after x = held-filter (λ handle. not (is_at_some after handle)) (given_handles before) x ∙ ap (λ b. b && not (is_at_some after x)) (held-given before x)

module _ (new base held : List Handle) (before after : List (Option Handle)) (takes : Takes new base before after) (h : HoldsExactly (new ++ base) held before) where
  -- none of the base is at a number
  base_apart : (x : Handle) → is_held base x ≡ true → is_at_some after x ≡ false
  base_apart x old = by (is_at_some after x) refl
    where
      by : (b : Bool) → is_at_some after x ≡ b → b ≡ false
      by false e = refl
      by true e = either (or_cases (is_held new x) (is_at_some before x) (takes.others x e))
        where
          either : (is_held new x ≡ true) ⊎ (is_at_some before x ≡ true) → true ≡ false
          either (inl fresh) = sym old ∙ takes.apart x fresh
          either (inr was) = sym was ∙ h.apart x (held-append new base x ∙ or_right (is_held new x) _ old)

  -- what is held once the lost ones are closed
  pub changed_exactly : (now : List Handle) → HoldsOthers (lost_handles before after) held now → HoldsExactly base now after
  changed_exactly now others = record {
    exactly = λ x. others.others x
        ∙ (λ i. (h.exactly x ∙ ap (λ b. b || (is_given x && is_at_some before x)) (held-append new base x)) i && not (held-lost before after x i))
        ∙ by x (is_held new x) refl (is_held base x) refl (is_given x) refl (is_at_some before x) refl (is_at_some after x) refl;
    apart = base_apart;
    numbers = takes.numbers;
  }
    where
      by : (x : Handle) (n : Bool) → is_held new x ≡ n → (old : Bool) → is_held base x ≡ old → (given : Bool) → is_given x ≡ given → (was : Bool) → is_at_some before x ≡ was → (is : Bool) → is_at_some after x ≡ is
          → (((n || old) || (given && was)) && not ((given && was) && not is)) ≡ (old || (given && is))
      by x true en true eo g eg p ep a ea = absurd (true≢false (sym eo ∙ takes.apart x en))
      by x true en false eo false eg p ep a ea = absurd (true≢false (sym (takes.given x en) ∙ eg))
      by x true en false eo true eg p ep false ea = absurd (true≢false (sym (takes.taken x en) ∙ ea))
      by x true en false eo true eg true ep true ea = refl
      by x true en false eo true eg false ep true ea = refl
      by x false en true eo g eg true ep a ea = absurd (true≢false (sym ep ∙ h.apart x (held-append new base x ∙ or_right (is_held new x) _ eo)))
      by x false en true eo true eg false ep a ea = refl
      by x false en true eo false eg false ep a ea = refl
      by x false en false eo false eg p ep a ea = refl
      by x false en false eo true eg true ep true ea = refl
      by x false en false eo true eg true ep false ea = refl
      by x false en false eo true eg false ep false ea = refl
      by x false en false eo true eg false ep true ea = absurd (true≢false (sym (takes.others x ea) ∙ (λ i. en i || ep i)))

-- ---- handles that no number holds

-- one of the base is closed
pub file_closed : {base held : List Handle} {fds : List (Option Handle)} (handle : Handle) → is_held base handle ≡ false → HoldsExactly (handle ∷ base) held fds → HoldsExactly base (without held handle) fds
file_closed {base} {held} {fds} handle apart h = record {
  exactly = λ x. held-filter (λ other. not (other.number == handle.number)) held x ∙ ap (λ b. b && not (x.number == handle.number)) (h.exactly x) ∙ by x (x.number == handle.number) refl (handle.number == x.number) refl;
  apart = λ x there. h.apart x (or_right (handle.number == x.number) _ there);
  numbers = h.numbers;
}
  where
    by : (x : Handle) (same : Bool) → (x.number == handle.number) ≡ same → (here : Bool) → (handle.number == x.number) ≡ here
        → (((here || is_held base x) || (is_given x && is_at_some fds x)) && not same) ≡ (is_held base x || (is_given x && is_at_some fds x))
    by x true e here f =
        let same : handle ≡ x = sym (same_handle x handle (eqb-true x.number handle.number e)) in
        let old : is_held base x ≡ false = ap (is_held base) (sym same) ∙ apart in
        let at : is_at_some fds x ≡ false = ap (is_at_some fds) (sym same) ∙ h.apart handle (rw (number_is handle.number) refl) in
        and_right _ false refl ∙ rw (old, at) (sym (and_right (is_given x) false refl))
    by x false e true f = absurd (grind (arith, nat_tests))
    by x false e false f = and-true _

-- ---- all of the world's are closed

at_own : (fds : List (Option Handle)) (x : Handle) → is_at_some (without_given fds) x ≡ (not (is_given x) && is_at_some fds x)
at_own [] x = sym (and_right (not (is_given x)) false refl)
at_own (None ∷ fds) x = at_own fds x
at_own (Some handle ∷ fds) x = by (is_given handle) refl (is_same x handle) refl (at_own fds x)
  where
    by : (given : Bool) → is_given handle ≡ given → (here : Bool) → is_same x handle ≡ here → is_at_some (without_given fds) x ≡ (not (is_given x) && is_at_some fds x)
        → is_at_some (cond given None (Some handle) ∷ without_given fds) x ≡ (not (is_given x) && (here || is_at_some fds x))
    by true is false e h = h
    by true is true e h = let given : is_given x ≡ true = ap is_given (same_handle x handle (eqb-true x.number handle.number e)) ∙ is in h ∙ rw given refl
    by false is false e h = rw e h
    by false is true e h = let own : is_given x ≡ false = ap is_given (same_handle x handle (eqb-true x.number handle.number e)) ∙ is in rw (e, own) refl

length-without_given : (fds : List (Option Handle)) → length (without_given fds) ≡ length fds
length-without_given [] = refl
length-without_given (None ∷ fds) = let rest = length-without_given fds in omega arith
length-without_given (Some handle ∷ fds) = let rest = length-without_given fds in omega arith

module _ {base held : List Handle} {fds : List (Option Handle)} (h : HoldsExactly base held fds) where
  pub given_closed : (now : List Handle) → HoldsOthers (given_handles fds) held now → HoldsExactly base now (without_given fds)
  given_closed now others = record {
    exactly = λ x. others.others x ∙ (λ i. h.exactly x i && not (held-given fds x i)) ∙ by x (is_held base x) refl (is_given x) (is_at_some fds x) refl ∙ ap (λ b. is_held base x || (is_given x && b)) (sym (at_own fds x));
    apart = λ x old. at_own fds x ∙ ap (λ b. not (is_given x) && b) (h.apart x old) ∙ and_right (not (is_given x)) false refl;
    numbers = length-without_given fds ∙ h.numbers;
  }
    where
      by : (x : Handle) (old : Bool) → is_held base x ≡ old → (given is : Bool) → is_at_some fds x ≡ is → ((old || (given && is)) && not (given && is)) ≡ (old || (given && (not given && is)))
      by x true eo true true e = absurd (true≢false (sym e ∙ h.apart x eo))
      by x true eo true false e = refl
      by x true eo false is e = refl
      by x false eo true true e = refl
      by x false eo true false e = refl
      by x false eo false is e = refl
