-- Variables of letters that are removed, name by name.
use Rattle.el_room.proofs.Vocabulary.{nat_cmp, eq_by_cmp, slice_cmp, bytes_decides, texts_ties, nat_list_cmp_total, list_any, get-remove, get-retain_keys, slice_cmp-IsAntisymmetric, nat_cmp-IsAntisymmetric, Vars}
use Rattle.std.proofs.Common.{◌≡◌, ℕ, Bool, true, false, not, ◌||◌, cond, if◌then◌else◌, is_some, List, [], ◌∷◌, Option, None, Some, refl, sym, ap, ◌∙◌, true≢false}
use Rattle.std.specs.FinMap as map
use Rattle.std.specs.FinMap.{contains_key-keys}
use Rattle.el_env.proofs.Named.{same_vars}
use Rattle.el_getopt.specs.Environment.{is_option_name, without_options}

-- the two names are one
abbrev ties : List ℕ → List ℕ → Bool
ties name other = eq_by_cmp (slice_cmp nat_cmp) name other

one_name : (name other : List ℕ) → ties name other ≡ true → name ≡ other
one_name name other tie = (bytes_decides name other).0 (texts_ties name other ∙ tie)

-- the other variables are as they were, and of those of letters none is left but of names that are still to come
pub record IsRemoving (begun now : Vars) (names : List (List ℕ)) : Type 0 where
  pub others : (name : List ℕ) → is_option_name name ≡ false → map.get now name ≡ map.get begun name
  pub gone : (name : List ℕ) → is_option_name name ≡ true → list_any (ties name) names ≡ false → map.get now name ≡ None

not_set : (value : Option (List ℕ)) → is_some value ≡ false → value ≡ None
not_set None none = refl
not_set (Some value) none = absurd (cc)

pub none_removed : (begun : Vars) → IsRemoving begun begun (map.keys begun)
none_removed begun = record { others = λ name _. refl; gone = λ name _ none. not_set (map.get begun name) (contains_key-keys begun name ∙ none) }

pub one_removed : (begun now : Vars) (name : List ℕ) (names : List (List ℕ)) → IsRemoving begun now (name ∷ names) → IsRemoving begun (if is_option_name name then map.remove now name else now) names
one_removed begun now name names so_far = by (is_option_name name) refl
  where
    by : (is : Bool) → is_option_name name ≡ is → IsRemoving begun (if is then map.remove now name else now) names
    by true is = record {
      others = λ other plain. get-remove nat_list_cmp_total now name other ∙ kept other plain (ties other name) refl ∙ so_far.others other plain;
      gone = λ other option none. get-remove nat_list_cmp_total now name other ∙ left other option none (ties other name) refl;
    }
      where
        kept : (other : List ℕ) → is_option_name other ≡ false → (tie : Bool) → ties other name ≡ tie → cond tie None (map.get now other) ≡ map.get now other
        kept other plain true tie = absurd (true≢false (sym is ∙ ap is_option_name (sym (one_name other name tie)) ∙ plain))
        kept other plain false tie = refl

        left : (other : List ℕ) → is_option_name other ≡ true → list_any (ties other) names ≡ false → (tie : Bool) → ties other name ≡ tie → cond tie None (map.get now other) ≡ None
        left other option none true tie = refl
        left other option none false tie = so_far.gone other option (ap (λ tie. tie || list_any (ties other) names) tie ∙ none)
    by false is = record {
      others = so_far.others;
      gone = λ other option none. so_far.gone other option (apart other option (ties other name) refl none);
    }
      where
        apart : (other : List ℕ) → is_option_name other ≡ true → (tie : Bool) → ties other name ≡ tie → list_any (ties other) names ≡ false → (tie || list_any (ties other) names) ≡ false
        apart other option true tie none = absurd (true≢false (sym option ∙ ap is_option_name (one_name other name tie) ∙ is))
        apart other option false tie none = none

pub all_removed : (begun now : Vars) → IsRemoving begun now [] → now ≡ without_options begun
all_removed begun now all = same_vars now (without_options begun) (λ name. by name (is_option_name name) refl ∙ sym (kept name))
  where
    kept : (name : List ℕ) → map.get (without_options begun) name ≡ cond (not (is_option_name name)) (map.get begun name) None
    kept name = get-retain_keys begun (λ name. not (is_option_name name)) name (λ other tie. ap (λ name. not (is_option_name name)) (sym (slice_cmp-IsAntisymmetric nat_cmp-IsAntisymmetric name other tie)))

    by : (name : List ℕ) (is : Bool) → is_option_name name ≡ is → map.get now name ≡ cond (not (is_option_name name)) (map.get begun name) None
    by name true is = all.gone name is refl ∙ ap (λ is. cond (not is) (map.get begun name) None) (sym is)
    by name false is = all.others name is ∙ ap (λ is. cond (not is) (map.get begun name) None) (sym is)
