-- Variables whose names rise: parts of them, and one more among them.
use Rattle.std.proofs.Common.{◌≡◌, ℕ, suc, ◌+◌, ◌<◌, ◌≤◌, Bool, true, false, ◌&&◌, ◌==◌, T, List, [], ◌∷◌, ◌++◌, length, take, drop, remove, insert, slice_index_or, map as mapped, refl, sym, ap, ◌∙◌, subst, arith}
use Rattle.std.proofs.Math.ListN.{set}
use Rattle.std.proofs.lemmas.List.{take_more}
use Rattle.std.specs.Ordering.{nat_cmp, is_lt, ordering_reverse, ordering_index}
use Rattle.std.specs.declared.cmp.Ordering.{Ordering}
use Rattle.std.specs.declared.cmp.Ordering.TheVariants.{Less, Equal, Greater}
use Rattle.std.specs.Cmp.Lexicographic.{slice_cmp, nat_list_cmp_total}
use Rattle.std.specs.List.Sorted.{IsNonDecreasingBy, IsPartitionPoint}
use Rattle.std.specs.FinMap.{slice_cmp-IsAntisymmetric, nat_cmp-IsAntisymmetric}
use Rattle.std.specs.FinMap.Entries.{below_all, by_order}
use Rattle.el_env.specs.declared.env.place.Place.{Place}
use Rattle.el_env.specs.declared.env.variable.Variable.{Variable}
use Rattle.el_env.specs.Variable.{pair_of}
use Rattle.el_env.specs.Places.{pair_at, pairs_at}
use Rattle.el_words.specs.Word.{HasNul}
use Rattle.el_env.specs.Inherited.{AreRising, HaveNoNul, placed}
use Rattle.el_env.proofs.Named.{Pairs}
use Rattle.el_env.proofs.Places.{mapped-push}

abbrev by_bytes : List ℕ → List ℕ → Ordering
by_bytes = slice_cmp nat_cmp

abbrev is_below : List ℕ → Pairs → Bool
is_below = below_all (slice_cmp nat_cmp)

both : (a b : Bool) → T a → T b → T (a && b)
both true b one two = two
both false b one two = absurd one

pub left : (a b : Bool) → T (a && b) → T a
left true b both = tt
left false b both = absurd both

pub right : (a b : Bool) → T (a && b) → T b
right true b both = both
right false b both = absurd both

less : (o : Ordering) → T (is_lt o) → o ≡ Less
less Less is = refl
less Equal is = absurd is
less Greater is = absurd is

-- the first of rising variables rise
below-front : (name : List ℕ) (ps qs : Pairs) → T (is_below name (ps ++ qs)) → T (is_below name ps)
below-front name [] qs below = tt
below-front name (p ∷ ps) qs below = both _ _ (left _ _ below) (below-front name ps qs (right _ _ below))

pub rising-front : (ps qs : Pairs) → AreRising (ps ++ qs) → AreRising ps
rising-front [] qs rising = tt
rising-front (p ∷ ps) qs rising = both _ _ (below-front p.0 ps qs (left _ _ rising)) (rising-front ps qs (right _ _ rising))

-- and so do those that are left without one
below-remove : (bytes name : List ℕ) (places : List Place) (k : ℕ) → T (is_below name (pairs_at bytes places)) → T (is_below name (pairs_at bytes (remove places k)))
below-remove bytes name [] Prim.Native.Nat.zero below = tt
below-remove bytes name [] (suc k) below = tt
below-remove bytes name (p ∷ ps) Prim.Native.Nat.zero below = right _ _ below
below-remove bytes name (p ∷ ps) (suc k) below = both _ _ (left _ _ below) (below-remove bytes name ps k (right _ _ below))

pub rising-remove : (bytes : List ℕ) (places : List Place) (k : ℕ) → AreRising (pairs_at bytes places) → AreRising (pairs_at bytes (remove places k))
rising-remove bytes [] Prim.Native.Nat.zero rising = tt
rising-remove bytes [] (suc k) rising = tt
rising-remove bytes (p ∷ ps) Prim.Native.Nat.zero rising = right _ _ rising
rising-remove bytes (p ∷ ps) (suc k) rising =
    both _ _ (below-remove bytes (pair_at bytes p).0 ps k (left _ _ rising)) (rising-remove bytes ps k (right _ _ rising))

-- ---- one more among them

abbrev name_of : Variable → List ℕ
name_of variable = variable.name.now

-- each of these stands behind the name
below-at : (name : List ℕ) (vs : List Variable) (k : ℕ) (d : Variable) → T (is_below name (mapped pair_of vs)) → k < length vs → by_bytes name (name_of (slice_index_or vs k d)) ≡ Less
below-at name [] k d below lt = absurd (omega (arith, lt))
below-at name (v ∷ vs) Prim.Native.Nat.zero d below lt = less _ (left _ _ below)
below-at name (v ∷ vs) (suc k) d below lt = below-at name vs k d (right _ _ below) (omega (arith, lt))

rising-at : (vs : List Variable) (i j : ℕ) (d : Variable) → AreRising (mapped pair_of vs) → i < j → j < length vs
    → by_bytes (name_of (slice_index_or vs i d)) (name_of (slice_index_or vs j d)) ≡ Less
rising-at [] i j d rising before lt = absurd (omega (arith, lt))
rising-at (v ∷ vs) Prim.Native.Nat.zero Prim.Native.Nat.zero d rising before lt = absurd (omega (arith, before))
rising-at (v ∷ vs) Prim.Native.Nat.zero (suc j) d rising before lt = below-at (name_of v) vs j d (left _ _ rising) (omega (arith, lt))
rising-at (v ∷ vs) (suc i) Prim.Native.Nat.zero d rising before lt = absurd (omega (arith, before))
rising-at (v ∷ vs) (suc i) (suc j) d rising before lt = rising-at vs i j d (right _ _ rising) (omega (arith, before)) (omega (arith, lt))

-- so that a search by a name sees them in order
pub rising-searched : (vs : List Variable) (name : List ℕ) → AreRising (mapped pair_of vs) → IsNonDecreasingBy (λ v. ordering_index (by_bytes (name_of v) name)) vs
rising-searched vs name rising i j d le lt = by (i == j) refl
  where
    at : ℕ → List ℕ
    at k = name_of (slice_index_or vs k d)

    order : (x y : List ℕ) → by_bytes x y ≡ Less → (o : Ordering) → by_bytes y name ≡ o → ordering_index (by_bytes x name) ≤ ordering_index o
    order x y before Less is = rw (nat_list_cmp_total.trans x y name before is) omega arith
    order x y before Equal is =
        let same : y ≡ name = slice_cmp-IsAntisymmetric nat_cmp-IsAntisymmetric y name is in
        rw (ap (by_bytes x) (sym same) ∙ before) omega arith
    order x y before Greater is = any (by_bytes x name)
      where
        any : (o : Ordering) → ordering_index o ≤ ordering_index Greater
        any Less = omega arith
        any Equal = omega arith
        any Greater = omega arith

    by : (b : Bool) → (i == j) ≡ b → ordering_index (by_bytes (at i) name) ≤ ordering_index (by_bytes (at j) name)
    by true same = let is : i ≡ j = grind (arith, same) in subst (λ k. ordering_index (by_bytes (at i) name) ≤ ordering_index (by_bytes (at k) name)) is (omega arith)
    by false other = let before : i < j = grind (arith, other, le) in order (at i) (at j) (rising-at vs i j d rising before lt) (by_bytes (at j) name) refl

turned : (x y : List ℕ) (o : Ordering) → by_bytes x y ≡ o → by_bytes y x ≡ ordering_reverse o
turned x y o is = nat_list_cmp_total.antisymm y x ∙ ap ordering_reverse is

-- what a search by a variable's name finds, and where it would go
pub record IsFound (vs : List Variable) (k : ℕ) (v : Variable) : Type 0 where
  pub bound : k < length vs
  pub there : (d : Variable) → by_bytes (name_of (slice_index_or vs k d)) (name_of v) ≡ Equal

pub record IsBetween (vs : List Variable) (k : ℕ) (v : Variable) : Type 0 where
  pub bound : k ≤ length vs
  pub parts : IsNonDecreasingBy (λ w. ordering_index (by_bytes (name_of w) (name_of v))) vs
      → IsPartitionPoint (λ w. by_bytes (name_of w) (name_of v) ≡ Less) (λ w. by_bytes (name_of w) (name_of v) ≡ Greater) vs k

-- which of the three lists it is
abbrev chosen : Variable → List Variable → Variable → Ordering → Pairs
chosen w ws v order = by_order order (pair_of v ∷ mapped pair_of (w ∷ ws)) ((name_of w, v.value.now) ∷ mapped pair_of ws) (pair_of w ∷ placed (pair_of v) (mapped pair_of ws))

-- what is found is replaced
replaced : (vs : List Variable) (k : ℕ) (v : Variable) → AreRising (mapped pair_of vs) → k < length vs → ((d : Variable) → by_bytes (name_of (slice_index_or vs k d)) (name_of v) ≡ Equal)
    → mapped pair_of (set vs k v) ≡ placed (pair_of v) (mapped pair_of vs)
replaced [] k v rising lt found = absurd (omega (arith, lt))
replaced (w ∷ ws) Prim.Native.Nat.zero v rising lt found =
    let same : name_of w ≡ name_of v = slice_cmp-IsAntisymmetric nat_cmp-IsAntisymmetric (name_of w) (name_of v) (found v) in
    (λ i. (sym same i, v.value.now) ∷ mapped pair_of ws) ∙ sym (ap (chosen w ws v) (turned (name_of w) (name_of v) Equal (found v)))
replaced (w ∷ ws) (suc k) v rising lt found =
    let same : name_of (slice_index_or ws k v) ≡ name_of v = slice_cmp-IsAntisymmetric nat_cmp-IsAntisymmetric (name_of (slice_index_or ws k v)) (name_of v) (found v) in
    let before : by_bytes (name_of w) (name_of v) ≡ Less = ap (by_bytes (name_of w)) (sym same) ∙ below-at (name_of w) ws k v (left _ _ rising) (omega (arith, lt)) in
    ap (λ ps. pair_of w ∷ ps) (replaced ws k v (right _ _ rising) (omega (arith, lt)) found) ∙ sym (ap (chosen w ws v) (turned (name_of w) (name_of v) Less before))

pub placed-found : (vs : List Variable) (k : ℕ) (v : Variable) → AreRising (mapped pair_of vs) → IsFound vs k v → mapped pair_of (set vs k v) ≡ placed (pair_of v) (mapped pair_of vs)
placed-found vs k v rising found = replaced vs k v rising found.bound found.there

-- what isn't goes between those before it and those behind it
put_between : (vs : List Variable) (k : ℕ) (v : Variable) → k ≤ length vs
    → IsPartitionPoint (λ w. by_bytes (name_of w) (name_of v) ≡ Less) (λ w. by_bytes (name_of w) (name_of v) ≡ Greater) vs k
    → mapped pair_of (insert vs k v) ≡ placed (pair_of v) (mapped pair_of vs)
put_between [] Prim.Native.Nat.zero v le parts = refl
put_between [] (suc k) v le parts = absurd (omega (arith, le))
put_between (w ∷ ws) Prim.Native.Nat.zero v le parts = sym (ap (chosen w ws v) (turned (name_of w) (name_of v) Greater (parts.1 0 v (omega arith) (omega arith))))
put_between (w ∷ ws) (suc k) v le parts =
    ap (λ ps. pair_of w ∷ ps) (put_between ws k v (omega (arith, le))
    (λ j d low high. parts.0 (suc j) d (omega arith) (omega (arith, high)), λ j d low high. parts.1 (suc j) d (omega (arith, low)) (omega (arith, high))))
    ∙ sym (ap (chosen w ws v) (turned (name_of w) (name_of v) Less (parts.0 0 v (omega arith) (omega arith))))

pub placed-between : (vs : List Variable) (k : ℕ) (v : Variable) → AreRising (mapped pair_of vs) → IsBetween vs k v → mapped pair_of (insert vs k v) ≡ placed (pair_of v) (mapped pair_of vs)
placed-between vs k v rising between = put_between vs k v between.bound (between.parts (rising-searched vs (name_of v) rising))

-- ---- read one after another

-- these were read, and none of them holds a NUL
pub record AreRead (vs : List Variable) (pairs : Pairs) : Type 0 where
  pub all : pairs ≡ mapped pair_of vs
  pub no_nul : HaveNoNul (mapped pair_of vs)

pub none_read : (vs : List Variable) → AreRead (take 0 vs) []
none_read vs = record { all = refl; no_nul = tt }

no_nul-push : (vs : List Variable) (v : Variable) → HaveNoNul (mapped pair_of vs) → (HasNul v.name.now → ⊥) → HaveNoNul (mapped pair_of (vs ++ v ∷ []))
no_nul-push [] v none word = (word, tt)
no_nul-push (w ∷ ws) v none word = (none.0, no_nul-push ws v none.1 word)

pub one_read : (vs : List Variable) (k : ℕ) (v : Variable) (pairs more : Pairs) → k < length vs → v ≡ slice_index_or vs k v → more ≡ pairs ++ pair_of v ∷ []
    → AreRead (take k vs) pairs → AreRead (take (k + 1) vs) more
one_read vs k v pairs more lt is pushed read =
    let next : take (k + 1) vs ≡ take k vs ++ v ∷ [] = take_more vs k v lt ∙ ap (λ w. take k vs ++ w ∷ []) (sym is) in
    subst (λ ws. AreRead ws more) (sym next) (record {
      all = pushed ∙ ap (λ ps. ps ++ pair_of v ∷ []) read.all ∙ sym (mapped-push (take k vs) v);
      no_nul = no_nul-push (take k vs) v read.no_nul v.name_is_word;
    })

-- the next of rising ones rises behind those that were read
pub next_rises : (vs : List Variable) (k : ℕ) (v : Variable) (pairs : Pairs) → k < length vs → v ≡ slice_index_or vs k v → AreRising (mapped pair_of vs)
    → AreRead (take k vs) pairs → AreRising (pairs ++ (v.name.now, v.value.now) ∷ [])
next_rises vs k v pairs lt is rising read =
    let next : take (k + 1) vs ≡ take k vs ++ v ∷ [] = take_more vs k v lt ∙ ap (λ w. take k vs ++ w ∷ []) (sym is) in
    let front : AreRising (mapped pair_of (take (k + 1) vs)) = front-rises vs (k + 1) rising in
    subst AreRising (ap (mapped pair_of) next ∙ mapped-push (take k vs) v ∙ ap (λ ps. ps ++ pair_of v ∷ []) (sym read.all)) front
  where
    front-rises : (vs : List Variable) (k : ℕ) → AreRising (mapped pair_of vs) → AreRising (mapped pair_of (take k vs))
    front-rises vs k rising = rising-front (mapped pair_of (take k vs)) (mapped pair_of (drop k vs)) (subst AreRising (sym (parts vs k)) rising)
      where
        parts : (vs : List Variable) (k : ℕ) → mapped pair_of (take k vs) ++ mapped pair_of (drop k vs) ≡ mapped pair_of vs
        parts vs Prim.Native.Nat.zero = refl
        parts [] (suc k) = refl
        parts (v ∷ vs) (suc k) = ap (λ ps. pair_of v ∷ ps) (parts vs k)

pub all_read : (vs : List Variable) (k : ℕ) (pairs : Pairs) → length vs ≤ k → AreRead (take k vs) pairs → AreRead vs pairs
all_read vs k pairs le = subst (λ ws. AreRead ws pairs) (whole vs k le)
  where
    whole : (vs : List Variable) (n : ℕ) → length vs ≤ n → take n vs ≡ vs
    whole [] Prim.Native.Nat.zero le = refl
    whole [] (suc n) le = refl
    whole (v ∷ vs) Prim.Native.Nat.zero le = absurd (omega (arith, le))
    whole (v ∷ vs) (suc n) le = ap (λ ws. v ∷ ws) (whole vs n (omega (arith, le)))
