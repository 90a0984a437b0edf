-- The variables in order: those that were set here are put one after another among the inherited ones.
use Rattle.std.proofs.Common.{◌≡◌, ℕ, ◌<◌, arith, length, Bool, true, false, cond, List, [], ◌∷◌, ◌++◌, Option, None, Some, map as mapped, refl, sym, ap, ◌∙◌, subst}
use Rattle.std.specs.Ordering.{nat_cmp, eq_by_cmp}
use Rattle.std.specs.Cmp.Lexicographic.{slice_cmp, nat_list_cmp_total}
use Rattle.std.specs.Option.{option_or}
use Rattle.std.specs.FinMap as map
use Rattle.std.specs.FinMap.{get-from_entries, slice_cmp-IsAntisymmetric, nat_cmp-IsAntisymmetric}
use Rattle.std.specs.FinMap.Entries.{find-put, is_sorted-put, same_entries}
use Rattle.el_env.specs.Vars.{Vars}
use Rattle.el_env.specs.Variable.{pair_of}
use Rattle.el_env.specs.declared.env.variable.Variable.{Variable}
use Rattle.el_env.specs.Inherited.{value_in, AreRising, placed}
use Rattle.el_env.proofs.Named.{Pairs, same_vars, value_in-append}
use Rattle.el_env.proofs.Places.{mapped-push}

-- these are still to be put among those, whose names rise
pub record IsSorting (own sorted : List Variable) (vars : Vars) : Type 0 where
  pub all : map.from_entries (mapped pair_of own ++ mapped pair_of sorted) ≡ vars
  pub rising : AreRising (mapped pair_of sorted)

pub begun : (own sorted : List Variable) (set inherited : Pairs) (vars : Vars) → mapped pair_of own ≡ set → mapped pair_of sorted ≡ inherited → map.from_entries (set ++ inherited) ≡ vars
    → AreRising inherited → IsSorting own sorted vars
begun own sorted set inherited vars lent behind all rising = record {
  all = (λ i. map.from_entries (lent i ++ behind i)) ∙ all;
  rising = subst AreRising (sym behind) rising;
}

either : (a b c : Option (List ℕ)) → option_or (option_or a b) c ≡ option_or a (option_or b c)
either None b c = refl
either (Some v) b c = refl

first_of : (b : Bool) (v : List ℕ) (o : Option (List ℕ)) → option_or (cond b (Some v) None) o ≡ cond b (Some v) o
first_of true v o = refl
first_of false v o = refl

-- one more is put
pub one_placed : (own rest sorted more : List Variable) (v : Variable) (vars : Vars) → own ≡ rest ++ v ∷ [] → mapped pair_of more ≡ placed (pair_of v) (mapped pair_of sorted)
    → IsSorting own sorted vars → IsSorting rest more vars
one_placed own rest sorted more v vars last is sorting = record {
  all = same_vars _ _ (λ q. get-from_entries nat_list_cmp_total (mapped pair_of rest ++ mapped pair_of more) q ∙ value_in-append q (mapped pair_of rest) (mapped pair_of more)
      ∙ ap (λ ps. option_or (value_in q (mapped pair_of rest)) (value_in q ps)) is
      ∙ ap (option_or (value_in q (mapped pair_of rest))) (find-put (slice_cmp nat_cmp) nat_list_cmp_total q v.name.now v.value.now (mapped pair_of sorted))
      ∙ ap (option_or (value_in q (mapped pair_of rest))) (sym (first_of (eq_by_cmp (slice_cmp nat_cmp) q v.name.now) v.value.now (value_in q (mapped pair_of sorted))))
      ∙ sym (either (value_in q (mapped pair_of rest)) (value_in q (pair_of v ∷ [])) (value_in q (mapped pair_of sorted)))
      ∙ ap (λ o. option_or o (value_in q (mapped pair_of sorted))) (sym (value_in-append q (mapped pair_of rest) (pair_of v ∷ [])) ∙ ap (value_in q) (sym (ap (mapped pair_of) last ∙ mapped-push rest v)))
      ∙ sym (value_in-append q (mapped pair_of own) (mapped pair_of sorted)) ∙ sym (get-from_entries nat_list_cmp_total (mapped pair_of own ++ mapped pair_of sorted) q)
      ∙ ap (λ (m : Vars). map.get m q) sorting.all);
  rising = subst AreRising (sym is) (is_sorted-put (slice_cmp nat_cmp) nat_list_cmp_total v.name.now v.value.now (mapped pair_of sorted) sorting.rising);
}

-- rising ones are the entries of their map
pub entries-rising : (pairs : Pairs) → AreRising pairs → pairs ≡ map.entries {R = slice_cmp nat_cmp} (map.from_entries pairs)
entries-rising pairs rising =
    same_entries (slice_cmp nat_cmp) nat_list_cmp_total (slice_cmp-IsAntisymmetric nat_cmp-IsAntisymmetric) pairs (map.entries {R = slice_cmp nat_cmp} (map.from_entries pairs))
    rising (map.entries_sorted {R = slice_cmp nat_cmp} (map.from_entries pairs))
    (λ q. sym (get-from_entries nat_list_cmp_total pairs q) ∙ map.get-entries {R = slice_cmp nat_cmp} (map.from_entries pairs) q)

-- where none is left
pub none_own : (own : List Variable) (n : ℕ) → n ≡ length own → (0 < n → ⊥) → own ≡ []
none_own [] n is never = refl
none_own (v ∷ vs) n is never = absurd (never (omega (arith, is)))

-- all are put
pub all_placed : (own sorted : List Variable) (vars : Vars) → own ≡ [] → IsSorting own sorted vars → mapped pair_of sorted ≡ map.entries vars
all_placed own sorted vars none sorting =
    entries-rising (mapped pair_of sorted) sorting.rising ∙ ap map.entries (ap (λ vs. map.from_entries (mapped pair_of vs ++ mapped pair_of sorted)) (sym none) ∙ sorting.all)
