-- That paths put one after the other at their places are those of a set.
use Rattle.std.proofs.Common.{◌≡◌, ◌∙◌, sym, refl, ap, subst, ℕ, true, List, [], ◌∷◌, map, inl, inr, ◌⊎◌}
use Rattle.std.specs.Borrow.{Bor}
use Rattle.std.specs.List.{list_any, AllByRecursion}
use Rattle.std.specs.List.Sorted.{IsStrictlySortedBy}
use Rattle.std.specs.Ordering.{nat_cmp, eq_by_cmp, ordering_reverse}
use Rattle.std.specs.declared.cmp.Ordering.{Ordering}
use Rattle.std.specs.declared.cmp.Ordering.TheVariants.{Less, Greater}
use Rattle.std.specs.Cmp.Lexicographic.{slice_cmp, nat_list_cmp_total}
use Rattle.std.specs.BTreeSet.{BTreeSet, IsFromIterResult}
use Rattle.std.proofs.lemmas.Bool.{false≢true, or_cases, or_left, or_right}
use Rattle.std.proofs.lemmas.Map.Text.{is_eq-slice_cmp}
use Rattle.std.proofs.lemmas.Slice.Eq.{bytes_eq-Decides}
use Rattle.el_glob.specs.Names.{IsIn}
use Rattle.el_glob.specs.Listings.{placed}
use Rattle.el_glob.specs.PathsKept.{all_placed}
use Rattle.el_glob.specs.Rising.{IsBelow, Rises}
use Rattle.el_glob.proofs.Order.{rises-placed}
use Rattle.el_glob.proofs.Found.{in-placed, placed-in}

abbrev by_bytes : List ℕ → List ℕ → Ordering
by_bytes = slice_cmp nat_cmp

-- ---- what rises is known by its members

not-below : (x : List ℕ) → by_bytes x x ≡ Less → ⊥
not-below x less =
    let other : Less ≡ Greater = sym less ∙ nat_list_cmp_total.antisymm x x ∙ ap ordering_reverse less in
    let no : ⊥ = cc in no

below-in : (x q : List ℕ) (xs : List (List ℕ)) → IsBelow x xs → IsIn xs q → by_bytes x q ≡ Less
below-in x q [] below none = absurd none
below-in x q (y ∷ ys) below (inl is) = subst (λ p. by_bytes x p ≡ Less) (sym is) below.0
below-in x q (y ∷ ys) below (inr later) = below-in x q ys below.1 later

first-same : (x y : List ℕ) (xs ys : List (List ℕ)) → IsBelow x xs → IsBelow y ys → (x ≡ y) ⊎ IsIn ys x → (y ≡ x) ⊎ IsIn xs y → x ≡ y
first-same x y xs ys below above (inl is) back = is
first-same x y xs ys below above (inr there) (inl is) = sym is
first-same x y xs ys below above (inr there) (inr here) = absurd (not-below x (nat_list_cmp_total.trans x y x (below-in x y xs below here) (below-in y x ys above there)))

rest-in : (x y q : List ℕ) (xs ys : List (List ℕ)) → IsBelow x xs → x ≡ y → IsIn xs q → (q ≡ y) ⊎ IsIn ys q → IsIn ys q
rest-in x y q xs ys below same there (inl is) = absurd (not-below x (below-in x x xs below (subst (λ p. IsIn xs p) (is ∙ sym same) there)))
rest-in x y q xs ys below same there (inr later) = later

same-members : (xs ys : List (List ℕ)) → Rises xs → Rises ys → ((q : List ℕ) → IsIn xs q → IsIn ys q) → ((q : List ℕ) → IsIn ys q → IsIn xs q) → xs ≡ ys
same-members [] [] r s f g = refl
same-members [] (y ∷ ys) r s f g = absurd (g y (inl refl))
same-members (x ∷ xs) [] r s f g = absurd (f x (inl refl))
same-members (x ∷ xs) (y ∷ ys) r s f g =
    let same : x ≡ y = first-same x y xs ys r.0 s.0 (f x (inl refl)) (g y (inl refl)) in
    let rest : xs ≡ ys = same-members xs ys r.1 s.1 (λ q there. rest-in x y q xs ys r.0 same there (f q (inr there))) (λ q there. rest-in y x q ys xs s.0 (sym same) there (g q (inr there))) in
    ap (λ first. first ∷ xs) same ∙ ap (λ more. y ∷ more) rest

-- ---- paths put one after the other

rises-all : (paths found : List (List ℕ)) → Rises found → Rises (all_placed paths found)
rises-all [] found h = h
rises-all (path ∷ paths) found h = rises-all paths (placed found path) (rises-placed found path h)

in-all : (paths found : List (List ℕ)) (q : List ℕ) → IsIn (all_placed paths found) q → IsIn paths q ⊎ IsIn found q
in-all [] found q there = inr there
in-all (path ∷ paths) found q there = elim (in-all paths (placed found path) q there) [
  | inl later ↦ inl (inr later)
  | inr here ↦ elim (in-placed found path q here) [ inl is ↦ inl (inl is) | inr old ↦ inr old ]
]

all-in : (paths found : List (List ℕ)) (q : List ℕ) → IsIn paths q ⊎ IsIn found q → IsIn (all_placed paths found) q
all-in [] found q (inl none) = absurd none
all-in [] found q (inr old) = old
all-in (path ∷ paths) found q (inl (inl is)) = all-in paths (placed found path) q (inr (placed-in found path q (inl is)))
all-in (path ∷ paths) found q (inl (inr later)) = all-in paths (placed found path) q (inl later)
all-in (path ∷ paths) found q (inr old) = all-in paths (placed found path) q (inr (placed-in found path q (inr old)))

-- ---- the members of a set

abbrev pub bytes_of : List (Bor (List ℕ)) → List (List ℕ)
bytes_of = map (λ (path : Bor (List ℕ)). path.now)

abbrev pub by_now : Bor (List ℕ) → Bor (List ℕ) → Ordering
by_now a b = slice_cmp nat_cmp a.now b.now

below-keys : (k : Bor (List ℕ)) (ks : List (Bor (List ℕ))) → AllByRecursion (λ other. by_now k other ≡ Less) ks → IsBelow k.now (bytes_of ks)
below-keys k [] h = tt
below-keys k (other ∷ ks) h = (h.0, below-keys k ks h.1)

rises-keys : (ks : List (Bor (List ℕ))) → IsStrictlySortedBy by_now ks → Rises (bytes_of ks)
unfolding IsStrictlySortedBy
rises-keys [] h = tt
rises-keys (k ∷ ks) h = (below-keys k ks h.0, rises-keys ks h.1)

member-in : (ks : List (Bor (List ℕ))) (q : Bor (List ℕ)) → list_any (eq_by_cmp by_now q) ks ≡ true → IsIn (bytes_of ks) q.now
member-in [] q none = absurd (false≢true none)
member-in (k ∷ ks) q is = elim (or_cases (eq_by_cmp by_now q k) (list_any (eq_by_cmp by_now q) ks) is) [
  | inl same ↦ inl ((bytes_eq-Decides q.now k.now).0 (sym (is_eq-slice_cmp q.now k.now) ∙ same))
  | inr later ↦ inr (member-in ks q later)
]

in-member : (ks : List (Bor (List ℕ))) (path : List ℕ) → IsIn (bytes_of ks) path → (q : Bor (List ℕ)) × (q.now ≡ path) × (list_any (eq_by_cmp by_now q) ks ≡ true)
in-member [] path none = absurd none
in-member (k ∷ ks) path (inl is) = (k, sym is, or_left (eq_by_cmp by_now k k) (list_any (eq_by_cmp by_now k) ks) (is_eq-slice_cmp k.now k.now ∙ (bytes_eq-Decides k.now k.now).1 refl))
in-member (k ∷ ks) path (inr later) =
    let m = in-member ks path later in
    (m.0, m.1, or_right (eq_by_cmp by_now m.0 k) (list_any (eq_by_cmp by_now m.0) ks) m.2)

-- a set of paths holds them as they are put one after the other
pub set-placed : (paths : List (List ℕ)) (items : List (Bor (List ℕ))) (set : BTreeSet (Bor (List ℕ))) → bytes_of items ≡ paths → IsFromIterResult by_now items set → bytes_of set.keys ≡ all_placed paths []
set-placed paths items set same from = same-members (bytes_of set.keys) (all_placed paths []) (rises-keys set.keys from.1) (rises-all paths [] tt) to back
  where
    to : (q : List ℕ) → IsIn (bytes_of set.keys) q → IsIn (all_placed paths []) q
    to q there =
        let m = in-member set.keys q there in
        let among : IsIn (bytes_of items) m.0.now = member-in items m.0 (sym (from.0 m.0) ∙ m.2) in
        all-in paths [] q (inl (subst (λ ps. IsIn ps q) same (subst (λ p. IsIn (bytes_of items) p) m.1 among)))

    back : (q : List ℕ) → IsIn (all_placed paths []) q → IsIn (bytes_of set.keys) q
    back q there = elim (in-all paths [] q there) [
      | inl was ↦
          let m = in-member items q (subst (λ ps. IsIn ps q) (sym same) was) in
          subst (λ p. IsIn (bytes_of set.keys) p) m.1 (member-in set.keys m.0 (from.0 m.0 ∙ m.2))
      | inr none ↦ absurd none
    ]
