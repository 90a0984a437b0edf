-- Things with names and values, sorted by their names, the first of each name kept.
use Rattle.std.proofs.Common.{◌≡◌, ℕ, Bool, true, false, cond, not, nat_eq, ◌&&◌, List, [], ◌∷◌, Option, None, Some, map as mapped, refl, sym, ap, ◌∙◌, subst, T, true≢false}
use Rattle.std.specs.Ordering.{nat_cmp, eq_by_cmp, is_lt, is_eq, ordering_reverse}
use Rattle.std.specs.declared.cmp.Ordering.{Ordering}
use Rattle.std.specs.declared.cmp.Ordering.TheVariants.{Less, Equal, Greater}
use Rattle.std.specs.Cmp.Lexicographic.{slice_cmp, pointwise, nat_list_cmp_total, bytes_decides, texts_ties}
use Rattle.std.specs.List.{filter, dedup, dedup_from, AllByRecursion}
use Rattle.std.specs.List.Sorted.{IsSortedByKey, IsStableByKey, IsStrictlySortedBy, ties}
use Rattle.std.specs.FinMap as map
use Rattle.std.specs.FinMap.{find, is_sorted, get-from_entries, slice_cmp-IsAntisymmetric, nat_cmp-IsAntisymmetric}
use Rattle.std.specs.FinMap.Entries.{below_all, same_entries}
use Rattle.std.proofs.lemmas.List.Kept.{IsStrictlySortedBy-dedup}
use Rattle.std.proofs.lemmas.Cmp.{on_total}
use Rattle.el_env.proofs.Named.{shadowed}

abbrev by_bytes : List ℕ → List ℕ → Ordering
by_bytes = slice_cmp nat_cmp

abbrev is_same : List ℕ → List ℕ → Bool
is_same p q = eq_by_cmp (slice_cmp nat_cmp) p q

-- two names tie where neither is below the other
ties-is_same : (p q : List ℕ) → (not (is_lt (by_bytes p q)) && not (is_lt (by_bytes q p))) ≡ is_same p q
ties-is_same p q = by (by_bytes p q) (by_bytes q p) (nat_list_cmp_total.antisymm q p)
  where
    by : (o r : Ordering) → r ≡ ordering_reverse o → (not (is_lt o) && not (is_lt r)) ≡ is_eq o
    by Less r is = refl
    by Equal r is = ap (λ s. not (is_lt s)) is
    by Greater r is = ap (λ s. not (is_lt s)) is

module _ {X : Type 0} (name value : X → List ℕ) where
  abbrev pair : X → List ℕ × List ℕ
  pair x = (name x, value x)

  abbrev value_of : List ℕ → List X → Option (List ℕ)
  value_of q xs = find (slice_cmp nat_cmp) q (mapped pair xs)

  abbrev first_value : List X → Option (List ℕ)
  first_value [] = None
  first_value (x ∷ xs) = Some (value x)

  abbrev tie : X → X → Bool
  tie = ties (λ x y. is_lt (by_bytes (name x) (name y)))

  -- what is found is the first that has the name
  value_of-first : (x : X) (xs : List X) → value_of (name x) xs ≡ first_value (filter (tie x) xs)
  value_of-first x [] = refl
  value_of-first x (y ∷ ys) = by (is_same (name x) (name y)) (tie x y) (ties-is_same (name x) (name y)) (value_of-first x ys)
    where
      by : (a b : Bool) → b ≡ a → value_of (name x) ys ≡ first_value (filter (tie x) ys)
          → cond a (Some (value y)) (value_of (name x) ys) ≡ first_value (cond b (y ∷ filter (tie x) ys) (filter (tie x) ys))
      by true true _ rest = refl
      by false false _ rest = rest
      by true false is rest = absurd (true≢false (sym is))
      by false true is rest = absurd (true≢false is)

  -- where a name is found, something has it
  has_name : (q : List ℕ) (xs : List X) (v : List ℕ) → value_of q xs ≡ Some v → (x : X) × (name x ≡ q)
  has_name q [] v found = let no : ⊥ = cc in absurd no
  has_name q (x ∷ xs) v found = by (is_same q (name x)) refl (has_name q xs v)
    where
      by : (b : Bool) → is_same q (name x) ≡ b → (value_of q xs ≡ Some v → (y : X) × (name y ≡ q)) → (y : X) × (name y ≡ q)
      by true same later = (x, sym ((bytes_decides q (name x)).0 (texts_ties q (name x) ∙ same)))
      by false other later = later (sym (ap (λ b. cond b (Some (value x)) (value_of q xs)) other) ∙ found)

  -- a stable sort finds the same
  value_of-sorted : (xs ys : List X) → IsStableByKey name (slice_cmp nat_cmp) xs ys → (q : List ℕ) → value_of q ys ≡ value_of q xs
  value_of-sorted xs ys stable q = by (value_of q xs) refl (value_of q ys) refl
    where
      at : (x : X) → value_of (name x) ys ≡ value_of (name x) xs
      at x = value_of-first x ys ∙ ap first_value (stable x) ∙ sym (value_of-first x xs)

      by : (o : Option (List ℕ)) → value_of q xs ≡ o → (p : Option (List ℕ)) → value_of q ys ≡ p → value_of q ys ≡ value_of q xs
      by (Some v) one p two = let has = has_name q xs v one in subst (λ n. value_of n ys ≡ value_of n xs) has.1 (at has.0)
      by None one (Some v) two = let has = has_name q ys v two in subst (λ n. value_of n ys ≡ value_of n xs) has.1 (at has.0)
      by None one None two = two ∙ sym one

  abbrev pub same : X → X → Bool
  same x y = pointwise nat_eq (name x) (name y)

  value_of-dedup_from : (q : List ℕ) (k : X) (xs : List X) → value_of q (dedup_from same k xs) ≡ cond (is_same q (name k)) (Some (value k)) (value_of q xs)
  value_of-dedup_from q k [] = refl
  value_of-dedup_from q k (x ∷ xs) = by (same x k) refl (value_of-dedup_from q k xs) (value_of-dedup_from q x xs)
    where
      by : (b : Bool) → same x k ≡ b
          → value_of q (dedup_from same k xs) ≡ cond (is_same q (name k)) (Some (value k)) (value_of q xs)
          → value_of q (dedup_from same x xs) ≡ cond (is_same q (name x)) (Some (value x)) (value_of q xs)
          → value_of q (cond b (dedup_from same k xs) (k ∷ dedup_from same x xs))
          ≡ cond (is_same q (name k)) (Some (value k)) (cond (is_same q (name x)) (Some (value x)) (value_of q xs))
      by true is one two =
          one ∙ shadowed (is_same q (name k)) (Some (value k)) (Some (value x)) (value_of q xs)
          ∙ ap (λ n. cond (is_same q (name k)) (Some (value k)) (cond (is_same q n) (Some (value x)) (value_of q xs)))
          (sym ((bytes_decides (name x) (name k)).0 is))
      by false other one two = ap (cond (is_same q (name k)) (Some (value k))) two

  -- and so does what is left of each name's first
  value_of-dedup : (q : List ℕ) (xs : List X) → value_of q (dedup same xs) ≡ value_of q xs
  value_of-dedup q [] = refl
  value_of-dedup q (x ∷ xs) = value_of-dedup_from q x xs

  abbrev by_name : X → X → Ordering
  by_name x y = by_bytes (name x) (name y)

  rising : (xs : List X) → IsStrictlySortedBy by_name xs → T (is_sorted (slice_cmp nat_cmp) (mapped pair xs))
  unfolding IsStrictlySortedBy
  rising [] rises = tt
  rising (x ∷ xs) rises = both (below_all (slice_cmp nat_cmp) (name x) (mapped pair xs)) (below xs rises.0) (rising xs rises.1)
    where
      below : (ys : List X) → AllByRecursion (λ y. by_name x y ≡ Less) ys → below_all (slice_cmp nat_cmp) (name x) (mapped pair ys) ≡ true
      below [] all = refl
      below (y ∷ ys) all = (λ i. is_lt (all.0 i) && below_all (slice_cmp nat_cmp) (name x) (mapped pair ys)) ∙ below ys all.1

      both : (b : Bool) → b ≡ true → T (is_sorted (slice_cmp nat_cmp) (mapped pair xs)) → T (b && is_sorted (slice_cmp nat_cmp) (mapped pair xs))
      both true _ sorted = sorted
      both false other sorted = absurd (true≢false (sym other))

  -- the first of each name, sorted by the names, are the entries of the map
  pub entries-sorted : (xs ys zs : List X) → IsSortedByKey name (slice_cmp nat_cmp) ys → IsStableByKey name (slice_cmp nat_cmp) xs ys → zs ≡ dedup same ys
      → mapped pair zs ≡ map.entries {R = slice_cmp nat_cmp} (map.from_entries (mapped pair xs))
  entries-sorted xs ys zs sorted stable left =
      ap (mapped pair) left
      ∙ same_entries (slice_cmp nat_cmp) nat_list_cmp_total (slice_cmp-IsAntisymmetric nat_cmp-IsAntisymmetric)
      (mapped pair (dedup same ys)) (map.entries {R = slice_cmp nat_cmp} (map.from_entries (mapped pair xs)))
      (rising (dedup same ys) (IsStrictlySortedBy-dedup (on_total name nat_list_cmp_total) (λ x y. texts_ties (name x) (name y)) ys sorted))
      (map.entries_sorted {R = slice_cmp nat_cmp} (map.from_entries (mapped pair xs)))
      (λ q. value_of-dedup q ys ∙ value_of-sorted xs ys stable q ∙ sym (get-from_entries nat_list_cmp_total (mapped pair xs) q) ∙ map.get-entries {R = slice_cmp nat_cmp} (map.from_entries (mapped pair xs)) q)
