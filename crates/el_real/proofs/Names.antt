-- Names as the keys of a map.
use Rattle.std.proofs.Common.{◌≡◌, ℕ, Bool, true, false, true≢false, List, refl, sym, ◌∙◌}
use Rattle.std.specs.Str.{bytes_eq}
use Rattle.std.specs.Ordering.{nat_cmp, eq_by_cmp}
use Rattle.std.specs.Cmp.Lexicographic.{slice_cmp, bytes_decides, texts_ties}

pub same_name : (name : List ℕ) → eq_by_cmp (slice_cmp nat_cmp) name name ≡ true
same_name name = sym (texts_ties name name) ∙ (bytes_decides name name).1 refl

pub other_name : (name key : List ℕ) → (key ≡ name → ⊥) → eq_by_cmp (slice_cmp nat_cmp) name key ≡ false
other_name name key apart = sym (texts_ties name key) ∙ by (bytes_eq name key) refl
  where
    by : (b : Bool) → bytes_eq name key ≡ b → bytes_eq name key ≡ false
    by true same = absurd (apart (sym ((bytes_decides name key).0 same)))
    by false other = other

-- the two tests of a name are one
pub same_test : (key name : List ℕ) → bytes_eq key name ≡ eq_by_cmp (slice_cmp nat_cmp) name key
same_test key name = both (bytes_eq key name) refl (bytes_eq name key) refl ∙ texts_ties name key
  where
    both : (a : Bool) → bytes_eq key name ≡ a → (b : Bool) → bytes_eq name key ≡ b → a ≡ b
    both true is true same = refl
    both false is false same = refl
    both true is false same = absurd (true≢false (sym ((bytes_decides name key).1 (sym ((bytes_decides key name).0 is))) ∙ same))
    both false is true same = absurd (true≢false (sym ((bytes_decides key name).1 (sym ((bytes_decides name key).0 same))) ∙ is))
