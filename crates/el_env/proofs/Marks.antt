-- Variables whose names are marked.
use Rattle.std.proofs.Common.{◌≡◌, ◌≢◌, ℕ, Bool, true, false, cond, List, [], ◌∷◌, ◌++◌, slice_get, None, Some, refl, sym, ap, ◌∙◌, subst, remove, true≢false}
use Rattle.std.specs.Ordering.{nat_cmp, eq_by_cmp}
use Rattle.std.specs.Cmp.Lexicographic.{slice_cmp, bytes_decides, texts_ties}
use Rattle.el_env.specs.declared.env.place.Place.{Place}
use Rattle.el_env.specs.Places.{pairs_at, IsFindable}
use Rattle.el_env.specs.Inherited.{value_in, AreRising}
use Rattle.el_env.specs.Marks.{is_marked, AreMarked}
use Rattle.el_env.proofs.Places.{Extends, Gains, value_in-remove}

-- more marks
pub AreMarked-more : (flags more : List ℕ) (pairs : List (List ℕ × List ℕ)) → ((name : List ℕ) → is_marked flags name ≡ true → is_marked more name ≡ true)
    → AreMarked flags pairs → AreMarked more pairs
AreMarked-more flags more pairs kept marked = record { unmarked = λ name off. by name off (is_marked flags name) refl }
  where
    by : (name : List ℕ) → is_marked more name ≡ false → (b : Bool) → is_marked flags name ≡ b → value_in name pairs ≡ None
    by name off true is = absurd (true≢false (sym (kept name is) ∙ off))
    by name off false is = marked.unmarked name is

-- a name that neither the variables have nor the one behind them
value_in-push : (pairs : List (List ℕ × List ℕ)) (name value other : List ℕ) → other ≢ name → value_in other pairs ≡ None → value_in other (pairs ++ (name, value) ∷ []) ≡ None
value_in-push [] name value other apart none = by (eq_by_cmp (slice_cmp nat_cmp) other name) refl
  where
    by : (b : Bool) → eq_by_cmp (slice_cmp nat_cmp) other name ≡ b → cond b (Some value) None ≡ None
    by true same = absurd (apart ((bytes_decides other name).0 (texts_ties other name ∙ same)))
    by false _ = refl
value_in-push (p ∷ ps) name value other apart none = by (eq_by_cmp (slice_cmp nat_cmp) other p.0) none (value_in-push ps name value other apart)
  where
    by : (b : Bool) → cond b (Some p.1) (value_in other ps) ≡ None → (value_in other ps ≡ None → value_in other (ps ++ (name, value) ∷ []) ≡ None)
        → cond b (Some p.1) (value_in other (ps ++ (name, value) ∷ [])) ≡ None
    by true none later = let no : ⊥ = cc in absurd no
    by false none later = later none

-- one more variable, whose name is marked
pub AreMarked-push : (flags : List ℕ) (pairs : List (List ℕ × List ℕ)) (name value : List ℕ) → is_marked flags name ≡ true → AreMarked flags pairs
    → AreMarked flags (pairs ++ (name, value) ∷ [])
AreMarked-push flags pairs name value here marked = record {
  unmarked = λ other off.
      value_in-push pairs name value other (λ same. true≢false (sym here ∙ ap (is_marked flags) (sym same) ∙ off)) (marked.unmarked other off);
}

-- without the place of a variable that is found
pub AreMarked-remove : (bytes : List ℕ) (places : List Place) (flags : List ℕ) (k : ℕ) (name value : List ℕ) → slice_get (pairs_at bytes places) k ≡ Some (name, value)
    → value_in name (pairs_at bytes places) ≡ Some value → AreMarked flags (pairs_at bytes places) → AreMarked flags (pairs_at bytes (remove places k))
AreMarked-remove bytes places flags k name value there counts marked = record {
  unmarked = λ other off.
      value_in-remove bytes places k name value other there (λ same. is_none other off same) ∙ marked.unmarked other off;
}
  where
    is_none : (other : List ℕ) → is_marked flags other ≡ false → other ≡ name → ⊥
    is_none other off same =
        let none : value_in name (pairs_at bytes places) ≡ None = marked.unmarked name (ap (is_marked flags) (sym same) ∙ off) in
        cc

-- a buffer under more marks
pub IsFindable-more : (bytes : List ℕ) (places : List Place) (flags more : List ℕ) → ((name : List ℕ) → is_marked flags name ≡ true → is_marked more name ≡ true)
    → IsFindable bytes places flags → IsFindable bytes places more
IsFindable-more bytes places flags more kept findable = record { sound = findable.sound; marked = AreMarked-more flags more (pairs_at bytes places) kept findable.marked; rising = findable.rising }

-- bytes behind a buffer
pub IsFindable-extended : (bytes more : List ℕ) (places : List Place) (flags : List ℕ) → Extends bytes more places → IsFindable bytes places flags → IsFindable more places flags
IsFindable-extended bytes more places flags extends findable = record { sound = extends.sound; marked = subst (AreMarked flags) (sym extends.same) findable.marked; rising = subst AreRising (sym extends.same) findable.rising }

-- one more variable behind the others
pub IsFindable-pushed : (bytes more : List ℕ) (places places2 : List Place) (flags : List ℕ) (name value : List ℕ) → Gains bytes more places places2 name value
    → is_marked flags name ≡ true → AreRising (pairs_at bytes places ++ (name, value) ∷ []) → IsFindable bytes places flags → IsFindable more places2 flags
IsFindable-pushed bytes more places places2 flags name value gains here rises findable = record {
  sound = gains.sound;
  marked = subst (AreMarked flags) (sym gains.gains) (AreMarked-push flags (pairs_at bytes places) name value here findable.marked);
  rising = subst AreRising (sym gains.gains) rises;
}

-- the same places
pub IsFindable-same : (bytes : List ℕ) (places places2 : List Place) (flags : List ℕ) → places2 ≡ places → IsFindable bytes places flags → IsFindable bytes places2 flags
IsFindable-same bytes places places2 flags same = subst (λ ps. IsFindable bytes ps flags) (sym same)
