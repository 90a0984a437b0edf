-- Stored entries as a finite map.
use Rattle.std.proofs.Common.{◌≡◌, ◌≢◌, ◌++◌, ℕ, Bool, true, false, cond, nat_eq, List, [], ◌∷◌, Vec, Option, None, Some, refl, sym, ap, ◌∙◌, true≢false, if◌then◌else◌, vec_len}
use Rattle.std.specs.Ordering.{nat_cmp, eq_by_cmp}
use Rattle.std.specs.Cmp.Lexicographic.{slice_cmp, pointwise, bytes_decides, texts_ties, nat_list_cmp_total, nat_list_eq_equiv}
use Rattle.std.specs.declared.alloc.Global.{Global}
use Rattle.std.specs.List.{AllZip, each_same}
use Rattle.std.specs.Map.{lookup, KeepsOthers}
use Rattle.std.specs.Option.{option_or}
use Rattle.el_env.specs.Inherited.{value_in}
use Rattle.std.specs.FinMap as map
use Rattle.std.specs.FinMap.{find, get-from_entries, get-insert, same_map, slice_cmp-IsAntisymmetric, nat_cmp-IsAntisymmetric, get-remove}
use Rattle.indexmap.specs.IndexMap.{insert_entry}
use Rattle.el_env.specs.Vars.{Vars}
use Rattle.el_env.specs.Entries.{named}

abbrev pub Entries : Type 0
Entries = List (Vec ℕ Global × List ℕ)

abbrev pub same_name : Vec ℕ Global → Vec ℕ Global → Bool
same_name k l = pointwise nat_eq k.items l.items

abbrev pub lookup_by : List ℕ → Entries → Option (List ℕ)
lookup_by q es = find (slice_cmp nat_cmp) q (named es)

pub lookup-named : (q : List ℕ) (es : Entries) → lookup (λ k. pointwise nat_eq q k.items) es ≡ lookup_by q es
lookup-named q [] = refl
lookup-named q (e ∷ es) =
    ap (λ b. cond b (Some e.1) (lookup (λ k. pointwise nat_eq q k.items) es)) (texts_ties q e.0.items)
    ∙ ap (cond (eq_by_cmp (slice_cmp nat_cmp) q e.0.items) (Some e.1)) (lookup-named q es)

pub shadowed : {A : Type 0} (b : Bool) (x y z : A) → cond b x z ≡ cond b x (cond b y z)
shadowed true x y z = refl
shadowed false x y z = refl

apart : {A : Type 0} (a b : Bool) (x y z : A) → (a ≡ true → b ≡ true → ⊥) → cond a x (cond b y z) ≡ cond b y (cond a x z)
apart a b x y z never = (elim a as (λ v. (v ≡ true → b ≡ true → ⊥) → cond v x (cond b y z) ≡ cond b y (cond v x z)) [
  | true ↦ (elim b as (λ w. (true ≡ true → w ≡ true → ⊥) → cond true x (cond w y z) ≡ cond w y (cond true x z)) [
    | true ↦ λ f. absurd (f refl refl)
    | false ↦ λ _. refl
  ])
  | false ↦ λ _. refl
]) never

pub lookup-insert : (q : List ℕ) (es : Entries) (k : Vec ℕ Global) (v : List ℕ)
    → lookup_by q (insert_entry same_name es k v) ≡ cond (eq_by_cmp (slice_cmp nat_cmp) q k.items) (Some v) (lookup_by q es)
lookup-insert q [] k v = refl
lookup-insert q (e ∷ es) k v = by (same_name k e.0) refl (lookup-insert q es k v)
  where
    by : (b : Bool) → same_name k e.0 ≡ b
        → lookup_by q (insert_entry same_name es k v) ≡ cond (eq_by_cmp (slice_cmp nat_cmp) q k.items) (Some v) (lookup_by q es)
        → lookup_by q (if b then (e.0, v) ∷ es else e ∷ insert_entry same_name es k v)
        ≡ cond (eq_by_cmp (slice_cmp nat_cmp) q k.items) (Some v) (lookup_by q (e ∷ es))
    by true same rest =
        let is : k.items ≡ e.0.items = (bytes_decides k.items e.0.items).0 same in
        shadowed (eq_by_cmp (slice_cmp nat_cmp) q e.0.items) (Some v) (Some e.1) (lookup_by q es)
        ∙ ap (λ n. cond (eq_by_cmp (slice_cmp nat_cmp) q n) (Some v) (lookup_by q (e ∷ es))) (sym is)
    by false other rest =
        ap (cond (eq_by_cmp (slice_cmp nat_cmp) q e.0.items) (Some e.1)) rest
        ∙ apart (eq_by_cmp (slice_cmp nat_cmp) q e.0.items) (eq_by_cmp (slice_cmp nat_cmp) q k.items) (Some e.1) (Some v) (lookup_by q es)
        (λ one two. true≢false (sym ((bytes_decides k.items e.0.items).1
        (sym ((bytes_decides q k.items).0 (texts_ties q k.items ∙ two)) ∙ (bytes_decides q e.0.items).0 (texts_ties q e.0.items ∙ one))) ∙ other))

pub same_vars : (m n : Vars) → ((q : List ℕ) → map.get m q ≡ map.get n q) → m ≡ n
same_vars = same_map nat_list_cmp_total (slice_cmp-IsAntisymmetric nat_cmp-IsAntisymmetric)

abbrev pub Pairs : Type 0
Pairs = List (List ℕ × List ℕ)

pub value_in-append : (q : List ℕ) (ps qs : Pairs) → value_in q (ps ++ qs) ≡ option_or (value_in q ps) (value_in q qs)
value_in-append q [] qs = refl
value_in-append q (p ∷ ps) qs =
    ap (cond (eq_by_cmp (slice_cmp nat_cmp) q p.0) (Some p.1)) (value_in-append q ps qs) ∙ by (eq_by_cmp (slice_cmp nat_cmp) q p.0)
  where
    by : (b : Bool) → cond b (Some p.1) (option_or (value_in q ps) (value_in q qs)) ≡ option_or (cond b (Some p.1) (value_in q ps)) (value_in q qs)
    by true = refl
    by false = refl

-- the variables that are set, with the inherited ones behind them
abbrev pub vars_of : Entries → Pairs → Vars
vars_of es ps = map.from_entries (named es ++ ps)

-- what they answer
pub get-vars_of : (q : List ℕ) (es : Entries) (ps : Pairs) → map.get (vars_of es ps) q ≡ option_or (lookup_by q es) (value_in q ps)
get-vars_of q es ps = get-from_entries nat_list_cmp_total (named es ++ ps) q ∙ value_in-append q (named es) ps

-- a name that is set, and one that isn't
pub get_set : (q : List ℕ) (es : Entries) (ps : Pairs) (v : List ℕ) → Some v ≡ lookup (λ k. pointwise nat_eq q k.items) es → Some v ≡ map.get (vars_of es ps) q
get_set q es ps v is = ap (λ o. option_or o (value_in q ps)) (is ∙ lookup-named q es) ∙ sym (get-vars_of q es ps)

pub get_unset : (q : List ℕ) (es : Entries) (ps : Pairs) (o : Option (List ℕ)) → None ≡ lookup (λ k. pointwise nat_eq q k.items) es → o ≡ value_in q ps → o ≡ map.get (vars_of es ps) q
get_unset q es ps o is behind = behind ∙ ap (λ p. option_or p (value_in q ps)) (is ∙ lookup-named q es) ∙ sym (get-vars_of q es ps)

cond-or : {A : Type 0} (b : Bool) (x y z : Option A) → option_or (cond b x y) z ≡ cond b (option_or x z) (option_or y z)
cond-or true x y z = refl
cond-or false x y z = refl

-- to insert an entry is to insert in the map
pub vars_of-insert : (es : Entries) (ps : Pairs) (k : Vec ℕ Global) (v : List ℕ) → vars_of (insert_entry same_name es k v) ps ≡ map.insert (vars_of es ps) k.items v
vars_of-insert es ps k v = same_vars _ _
    (λ q. get-vars_of q _ ps ∙ ap (λ o. option_or o (value_in q ps)) (lookup-insert q es k v)
    ∙ cond-or (eq_by_cmp (slice_cmp nat_cmp) q k.items) (Some v) (lookup_by q es) (value_in q ps)
    ∙ sym (get-insert nat_list_cmp_total (vars_of es ps) k.items v q
    ∙ ap (cond (eq_by_cmp (slice_cmp nat_cmp) q k.items) (Some v)) (get-vars_of q es ps)))

-- to take a name out of both is to remove it from the map
pub vars_of-remove : (es fs : Entries) (ps rest : Pairs) (name : List ℕ)
    → lookup (λ k. pointwise nat_eq name k.items) fs ≡ None
    → KeepsOthers same_name (λ k. pointwise nat_eq name k.items) es fs
    → value_in name rest ≡ None → ((other : List ℕ) → other ≢ name → value_in other rest ≡ value_in other ps)
    → vars_of fs rest ≡ map.remove (vars_of es ps) name
unfolding KeepsOthers
vars_of-remove es fs ps rest name gone keeps none others = same_vars _ _ (λ q. get-vars_of q fs rest ∙ by q (pointwise nat_eq q name) refl
    ∙ sym (get-remove nat_list_cmp_total (vars_of es ps) name q
    ∙ ap (λ b. cond b None (map.get (vars_of es ps) q)) (sym (texts_ties q name))
    ∙ ap (cond (pointwise nat_eq q name) None) (get-vars_of q es ps)))
  where
    other_name : (q k : List ℕ) → pointwise nat_eq q name ≡ false → pointwise nat_eq name k ≡ true → pointwise nat_eq q k ≡ false
    other_name q k is_not same = sym (ap (λ n. pointwise nat_eq q n) ((bytes_decides name k).0 same)) ∙ is_not

    by : (q : List ℕ) (b : Bool) → pointwise nat_eq q name ≡ b
        → option_or (lookup_by q fs) (value_in q rest) ≡ cond (pointwise nat_eq q name) None (option_or (lookup_by q es) (value_in q ps))
    by q true same =
        (λ i. option_or ((ap (λ n. lookup_by n fs) ((bytes_decides q name).0 same) ∙ sym (lookup-named name fs) ∙ gone) i)
        ((ap (λ n. value_in n rest) ((bytes_decides q name).0 same) ∙ none) i))
        ∙ sym (ap (λ b. cond b None (option_or (lookup_by q es) (value_in q ps))) same)
    by q false other =
        (λ i. option_or
        ((sym (lookup-named q fs)
        ∙ keeps (λ k. pointwise nat_eq q k.items) (λ x y h. nat_list_eq_equiv.congr q x.items y.items h) (λ k h. other_name q k.items other h)
        ∙ lookup-named q es) i)
        (others q (λ is. true≢false (sym ((bytes_decides q name).1 is) ∙ other)) i))
        ∙ sym (ap (λ b. cond b None (option_or (lookup_by q es) (value_in q ps))) other)

-- the entries of a map make it again
pub from_entries-entries : (vars : Vars) → map.from_entries (map.entries vars) ≡ vars
from_entries-entries vars = same_vars _ _ (λ name. get-from_entries nat_list_cmp_total (map.entries vars) name ∙ sym (map.get-entries vars name))

-- clones of the entries are seen as the same
pub named-clones : (es fs : Entries) → AllZip (λ p q. (AllZip (λ x y. y ≡ x) p.0.items q.0.items × (vec_len q.0 ≡ vec_len p.0)) × (q.1 ≡ p.1)) es fs → named fs ≡ named es
named-clones [] [] h = refl
named-clones [] (f ∷ fs) h = absurd h
named-clones (e ∷ es) [] h = absurd h
named-clones (e ∷ es) (f ∷ fs) h = λ i. (each_same e.0.items f.0.items h.0.0.0 i, h.0.1 i) ∷ named-clones es fs h.1 i
