-- Each name that is set is a good one and holds no NUL byte, whatever is set and unset.
use Rattle.std.proofs.Common.{◌≡◌, ℕ, suc, ◌^◌, ◌<◌, length, Bool, true, false, List, [], ◌∷◌, None, Some, is_some, Contains, inl, inr, refl, sym, ap, ◌∙◌, subst, true≢false, arith, cond, map as mapped, slice_index_or}
use Rattle.std.specs.Ordering.{nat_cmp, eq_by_cmp}
use Rattle.std.specs.Cmp.Lexicographic.{slice_cmp, nat_list_cmp_total, bytes_decides, texts_ties}
use Rattle.std.specs.Fmt.{decimal}
use Rattle.std.proofs.lemmas.Fmt.{decimal_nonempty}
use Rattle.std.specs.FinMap as map
use Rattle.std.specs.FinMap.{get-empty, get-insert, get-remove, get-from_entries}
use Rattle.el_env.specs.Vars.{Vars}
use Rattle.el_words.specs.Word.{HasNul}
use Rattle.el_env.specs.Name.{is_good_name, IsName, NamesAreGood}
use Rattle.el_env.specs.Inherited.{value_in, HaveGoodNames, HaveNoNul}
use Rattle.el_env.specs.Variable.{pair_of}
use Rattle.el_env.specs.declared.env.variable.Variable.{Variable}
use Rattle.el_env.proofs.Names.{IsBadName-is, IsBadName-from}
use Rattle.el_env.proofs.FrameNames.{IsForeign-nul, IsForeign-equals}

-- a name is good that isn't empty and holds no equals sign
pub good_name : (name : List ℕ) → (name ≡ [] → ⊥) → (Contains name 61 → ⊥) → is_good_name name ≡ true
good_name name some no_equals = by (is_good_name name) refl
  where
    by : (b : Bool) → is_good_name name ≡ b → is_good_name name ≡ true
    by true good = good
    by false bad = absurd (elim (IsBadName-is name bad) [
      | inl empty ↦ some empty
      | inr holds ↦ no_equals holds
    ])

-- and a good one is such
pub IsName-not_empty : (name : List ℕ) → IsName name → name ≡ [] → ⊥
IsName-not_empty name is empty = true≢false (sym is.good ∙ IsBadName-from name (inl empty))

pub IsName-no_equals : (name : List ℕ) → IsName name → Contains name 61 → ⊥
IsName-no_equals name is holds = true≢false (sym is.good ∙ IsBadName-from name (inr holds))

-- a number is a good name
pub IsName-decimal : (n : ℕ) → n < 2 ^ 64 → IsName (decimal n)
IsName-decimal n small = record {
  no_nul = IsForeign-nul.no_digit n small;
  good = good_name (decimal n) (λ empty. let some = decimal_nonempty n small in let none : length (decimal n) ≡ 0 = ap length empty in omega (arith, some, none)) (IsForeign-equals.no_digit n small);
}

-- a name of a list is set in it
pub item_is_set : (items : List Variable) (k : ℕ) (v : Variable) → k < length items → v ≡ slice_index_or items k v → is_some (value_in v.name.now (mapped pair_of items)) ≡ true
item_is_set [] k v below is = absurd (omega (arith, below))
item_is_set (w ∷ ws) Prim.Native.Nat.zero v below is =
    let same : eq_by_cmp (slice_cmp nat_cmp) v.name.now w.name.now ≡ true =
    sym (texts_ties v.name.now w.name.now) ∙ (bytes_decides v.name.now w.name.now).1 (ap (λ (u : Variable). u.name.now) is) in
    ap (λ b. is_some (cond b (Some w.value.now) (value_in v.name.now (mapped pair_of ws)))) same
item_is_set (w ∷ ws) (suc k) v below is = by (eq_by_cmp (slice_cmp nat_cmp) v.name.now w.name.now) (item_is_set ws k v (omega (arith, below)) is)
  where
    by : (b : Bool) → is_some (value_in v.name.now (mapped pair_of ws)) ≡ true → is_some (cond b (Some w.value.now) (value_in v.name.now (mapped pair_of ws))) ≡ true
    by true later = refl
    by false later = later

-- so it is good where the list is all that is set
pub item_is_good : (vars : Vars) (items : List Variable) (k : ℕ) (v : Variable) → k < length items → v ≡ slice_index_or items k v
    → mapped pair_of items ≡ map.entries vars → NamesAreGood vars → IsName v.name.now
item_is_good vars items k v below is all good = good v.name.now
    (ap is_some (map.get-entries vars v.name.now) ∙ ap (λ ps. is_some (value_in v.name.now ps)) (sym all) ∙ item_is_set items k v below is)

pub NamesAreGood-empty : NamesAreGood map.empty
NamesAreGood-empty name set = absurd (true≢false (sym (sym (ap is_some (get-empty (slice_cmp nat_cmp) name)) ∙ set)))

pub NamesAreGood-insert : (vars : Vars) (key value : List ℕ) → IsName key → NamesAreGood vars → NamesAreGood (map.insert vars key value)
NamesAreGood-insert vars key value good others name set = by (eq_by_cmp (slice_cmp nat_cmp) name key) refl
  where
    by : (b : Bool) → eq_by_cmp (slice_cmp nat_cmp) name key ≡ b → IsName name
    by true same = subst IsName (sym ((bytes_decides name key).0 (texts_ties name key ∙ same))) good
    by false other = others name (sym (ap is_some (get-insert nat_list_cmp_total vars key value name ∙ ap (λ b. cond b (Some value) (map.get vars name)) other)) ∙ set)

pub NamesAreGood-remove : (vars : Vars) (key : List ℕ) → NamesAreGood vars → NamesAreGood (map.remove vars key)
NamesAreGood-remove vars key good name set = by (eq_by_cmp (slice_cmp nat_cmp) name key) refl
  where
    after : (b : Bool) → eq_by_cmp (slice_cmp nat_cmp) name key ≡ b → is_some (cond b None (map.get vars name)) ≡ true
    after b e = sym (ap is_some (get-remove nat_list_cmp_total vars key name ∙ ap (λ c. cond c None (map.get vars name)) e)) ∙ set

    by : (b : Bool) → eq_by_cmp (slice_cmp nat_cmp) name key ≡ b → IsName name
    by true same = absurd (true≢false (sym (after true same)))
    by false other = good name (after false other)

-- the names of a list
named_good : (pairs : List (List ℕ × List ℕ)) (name : List ℕ) → HaveGoodNames pairs → is_some (value_in name pairs) ≡ true → is_good_name name ≡ true
named_good [] name good set = absurd (true≢false (sym set))
named_good (pair ∷ pairs) name good set = by (eq_by_cmp (slice_cmp nat_cmp) name pair.0) refl (named_good pairs name good.1) set
  where
    by : (b : Bool) → eq_by_cmp (slice_cmp nat_cmp) name pair.0 ≡ b → (is_some (value_in name pairs) ≡ true → is_good_name name ≡ true)
        → is_some (cond b (Some pair.1) (value_in name pairs)) ≡ true → is_good_name name ≡ true
    by true same later set = ap is_good_name ((bytes_decides name pair.0).0 (texts_ties name pair.0 ∙ same)) ∙ good.0
    by false other later set = later set

named_no_nul : (pairs : List (List ℕ × List ℕ)) (name : List ℕ) → HaveNoNul pairs → is_some (value_in name pairs) ≡ true → HasNul name → ⊥
named_no_nul [] name none set = absurd (true≢false (sym set))
named_no_nul (pair ∷ pairs) name none set = by (eq_by_cmp (slice_cmp nat_cmp) name pair.0) refl (named_no_nul pairs name none.1) set
  where
    by : (b : Bool) → eq_by_cmp (slice_cmp nat_cmp) name pair.0 ≡ b → (is_some (value_in name pairs) ≡ true → HasNul name → ⊥)
        → is_some (cond b (Some pair.1) (value_in name pairs)) ≡ true → HasNul name → ⊥
    by true same later set nul = none.0 (subst HasNul ((bytes_decides name pair.0).0 (texts_ties name pair.0 ∙ same)) nul)
    by false other later set nul = later set nul

-- of a list of good names, and of one without NUL, that make the same map
pub NamesAreGood-listed : (pairs kept : List (List ℕ × List ℕ)) → HaveGoodNames pairs → HaveNoNul kept → map.from_entries {R = slice_cmp nat_cmp} kept ≡ map.from_entries pairs
    → NamesAreGood (map.from_entries kept)
NamesAreGood-listed pairs kept good none same name set = record {
  no_nul = named_no_nul kept name none (ap is_some (sym (get-from_entries nat_list_cmp_total kept name)) ∙ set);
  good = named_good pairs name good (ap is_some (sym (get-from_entries nat_list_cmp_total pairs name) ∙ ap (λ (m : Vars). map.get m name) (sym same)) ∙ set);
}
