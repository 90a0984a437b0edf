-- Flags as the set of their places.
use Rattle.std.proofs.Common.{◌≡◌, ℕ, suc, ◌+◌, ◌<◌, Bool, true, false, List, [], ◌∷◌, refl, sym, ap, ◌∙◌, true≢false, ◌≢◌, slice_index_or, nat_eq, length, take, slice_set, IsTrue, ◌↔◌, not, replicate, ◌||◌, arith, eq-eqb, get_or-set_other}
use Rattle.std.specs.List.{list_any}
use Rattle.std.specs.Cmp.{nat_cmp_total}
use Rattle.std.proofs.lemmas.Grind.{get_or-set_at}
use mathlib.Core.Bool.{beq}
use Rattle.std.proofs.lemmas.List.Folds.{list_any_more}
use Rattle.std.proofs.Math.Bool.{or-true, or-false}
use Rattle.std.specs.Ordering.{nat_cmp}
use Rattle.std.specs.FinSet as set
use Rattle.std.specs.FinSet.{contains-from_list_nat, contains-empty, same_set, nat_cmp-IsAntisymmetric}
use Rattle.el_words.specs.ByteSet.{places_of}
use Rattle.el_words.specs.Flags.{contains-places}

abbrev is_among : ℕ → List ℕ → Bool
is_among q bytes = list_any (λ y. nat_eq y q) bytes

-- flags that are true just at the bytes of a list
abbrev pub Flags : List Bool → List ℕ → Type 0
Flags flags bytes = (q : ℕ) → slice_index_or flags q false ≡ is_among q bytes

pub no_flags : (n : ℕ) → Flags (replicate n false) []
no_flags Prim.Native.Nat.zero q = refl
no_flags (suc n) Prim.Native.Nat.zero = refl
no_flags (suc n) (suc q) = no_flags n q

pub one_more_flag : (flags : List Bool) (bytes : List ℕ) (i b : ℕ) → b < length flags → i < length bytes → b ≡ slice_index_or bytes i 0
    → Flags flags (take i bytes) → Flags (slice_set flags b true) (take (i + 1) bytes)
one_more_flag flags bytes i b lt in_bytes is old q = by (nat_eq b q) refl
  where
    more : is_among q (take (i + 1) bytes) ≡ (is_among q (take i bytes) || nat_eq b q)
    more = list_any_more (λ y. nat_eq y q) bytes i 0 in_bytes ∙ ap (λ y. is_among q (take i bytes) || nat_eq y q) (sym is)

    by : (e : Bool) → nat_eq b q ≡ e → slice_index_or (slice_set flags b true) q false ≡ is_among q (take (i + 1) bytes)
    by true same =
        let at : q ≡ b = grind (arith, same) in
        get_or-set_at flags b q true false at lt ∙ sym (more ∙ ap (λ e. is_among q (take i bytes) || e) same ∙ or-true (is_among q (take i bytes)))
    by false other =
        let ne : q ≢ b = λ e. true≢false (sym (eq-eqb b q (sym e)) ∙ other) in
        get_or-set_other flags b q true false ne ∙ old q ∙ sym (more ∙ ap (λ e. is_among q (take i bytes) || e) other ∙ or-false (is_among q (take i bytes)))

-- flags as a set are the set of the list
pub from_list-flags : (flags : List Bool) (bytes : List ℕ) → Flags flags bytes → set.from_list {R = nat_cmp} (places_of 0 flags) ≡ set.from_list bytes
from_list-flags flags bytes are = same_set nat_cmp_total nat_cmp-IsAntisymmetric _ _ (λ q. contains-places flags q ∙ are q ∙ sym (contains-from_list_nat bytes q))

abbrev has_flag : List Bool → Bool
has_flag flags = list_any (λ flag. beq flag true) flags

no_flag_at : (flags : List Bool) → has_flag flags ≡ false → (q : ℕ) → slice_index_or flags q false ≡ false
no_flag_at [] none q = refl
no_flag_at (true ∷ flags) none q = absurd (true≢false none)
no_flag_at (false ∷ flags) none Prim.Native.Nat.zero = refl
no_flag_at (false ∷ flags) none (suc q) = no_flag_at flags none q

no_flag_from : (flags : List Bool) → ((q : ℕ) → slice_index_or flags q false ≡ false) → has_flag flags ≡ false
no_flag_from [] none = refl
no_flag_from (true ∷ flags) none = absurd (true≢false (none 0))
no_flag_from (false ∷ flags) none = no_flag_from flags (λ q. none (suc q))

-- no flag is true just where the set is empty
pub empty-flags : (flags : List Bool) (found : Bool) → found ≡ has_flag flags → IsTrue (not found) ↔ (set.from_list {R = nat_cmp} (places_of 0 flags) ≡ set.empty)
empty-flags flags true some = (
  λ h. absurd (true≢false (sym h)),
  λ e. absurd (true≢false (some ∙ no_flag_from flags
      (λ q. sym (contains-places flags q) ∙ ap (λ s. set.contains {R = nat_cmp} s q) e ∙ contains-empty nat_cmp q))),
)
empty-flags flags false none = (
  λ h. same_set nat_cmp_total nat_cmp-IsAntisymmetric _ _
      (λ q. contains-places flags q ∙ no_flag_at flags (sym none) q ∙ sym (contains-empty nat_cmp q)),
  λ e. refl,
)
