-- Renamings of all names at once.
use Rattle.std.proofs.Common.{T, ◌&&◌, ◌≡◌, ℕ, Bool, true, false, cond, List, [], ◌∷◌, Option, None, Some, refl, sym, ap, ◌∙◌, true≢false}
use Rattle.std.specs.Option.{option_map, option_and_then, option_or}
use Rattle.std.specs.List.{cons_option, filter_map}
use Rattle.std.specs.Ordering.{nat_cmp, eq_by_cmp, is_lt, is_eq}
use Rattle.std.specs.declared.cmp.Ordering.{Ordering}
use Rattle.std.specs.declared.cmp.Ordering.TheVariants.{Less, Equal, Greater}
use Rattle.std.specs.Cmp.Lexicographic.{slice_cmp, bytes_decides, texts_ties, nat_list_cmp_total}
use Rattle.std.specs.Cmp.{both_ways}
use Rattle.std.specs.FinMap as map
use Rattle.std.specs.FinMap.{is_sorted, get-from_entries, get-empty, get-insert}
use Rattle.std.specs.FinMap.Entries.{below_all}
use Rattle.el_env.specs.Vars.{Vars}
use Rattle.el_env.specs.Inherited.{value_in}
use Rattle.el_env.proofs.Named.{Pairs, same_vars}
use Rattle.el_env.proofs.Rising.{left, right}

abbrev pub Rename : Type 0
Rename = List ℕ → Option (List ℕ)

abbrev is_same : List ℕ → List ℕ → Bool
is_same p q = eq_by_cmp (slice_cmp nat_cmp) p q

same_from : (p q : List ℕ) → is_same p q ≡ true → p ≡ q
same_from p q same = (bytes_decides p q).0 (texts_ties p q ∙ same)

same_to : (p q : List ℕ) → p ≡ q → is_same p q ≡ true
same_to p q same = sym (texts_ties p q) ∙ (bytes_decides p q).1 same

-- one entry under its new name, where it has one
abbrev pub renamed_entry : Rename → (List ℕ × List ℕ) → Option (List ℕ × List ℕ)
renamed_entry rename e = option_map (λ name. (name, e.1)) (rename e.0)

abbrev pub renamed : Rename → Vars → Vars
renamed rename vars = map.from_entries (filter_map (renamed_entry rename) (map.entries vars))

-- `back` leads from each new name to its old one, and from no other
pub record IsInverse (rename back : Rename) : Type 0 where
  pub leads_back : (p q : List ℕ) → rename p ≡ Some q → back q ≡ Some p
  pub leads_on : (p q : List ℕ) → back q ≡ Some p → rename p ≡ Some q

-- whether there is a name and it is this one
abbrev leads : Option (List ℕ) → List ℕ → Bool
leads None name = false
leads (Some other) name = is_same other name

leads-true : (o : Option (List ℕ)) (name : List ℕ) → leads o name ≡ true → o ≡ Some name
leads-true None name is = absurd (true≢false (sym is))
leads-true (Some other) name is = ap (λ n. Some n) (same_from other name is)

leads-Some : (o : Option (List ℕ)) (name : List ℕ) → o ≡ Some name → leads o name ≡ true
leads-Some o name is = ap (λ (x : Option (List ℕ)). leads x name) is ∙ same_to name name refl

is_same-symm : (p q : List ℕ) → is_same p q ≡ is_same q p
is_same-symm p q = both_ways _ _ (λ same. same_to q p (sym (same_from p q same))) (λ same. same_to p q (sym (same_from q p same)))

-- a name leads to another just where that leads back
leads-inverse : (rename back : Rename) → IsInverse rename back → (p q : List ℕ) → leads (rename p) q ≡ leads (back q) p
leads-inverse rename back inverse p q = both_ways _ _
    (λ on. leads-Some (back q) p (inverse.leads_back p q (leads-true (rename p) q on)))
    (λ returns. leads-Some (rename p) q (inverse.leads_on p q (leads-true (back q) p returns)))

find-renamed_entry : (o : Option (List ℕ)) (v q : List ℕ) (es : List (List ℕ × List ℕ))
    → value_in q (cons_option (option_map (λ name. (name, v)) o) es) ≡ cond (leads o q) (Some v) (value_in q es)
find-renamed_entry None v q es = refl
find-renamed_entry (Some name) v q es = ap (λ b. cond b (Some v) (value_in q es)) (is_same-symm q name)

then-cons : (o : Option (List ℕ)) (name v : List ℕ) (f : List ℕ → Option (List ℕ))
    → option_and_then (λ p. cond (is_same p name) (Some v) (f p)) o ≡ cond (leads o name) (Some v) (option_and_then f o)
then-cons None name v f = refl
then-cons (Some p) name v f = refl

-- an entry is found under its new name just where it was under the old
find-renamed : (rename back : Rename) → IsInverse rename back → (es : List (List ℕ × List ℕ)) (q : List ℕ)
    → value_in q (filter_map (renamed_entry rename) es) ≡ option_and_then (λ p. value_in p es) (back q)
find-renamed rename back inverse [] q = by (back q)
  where
    by : (o : Option (List ℕ)) → None ≡ option_and_then (λ p. value_in p []) o
    by None = refl
    by (Some p) = refl
find-renamed rename back inverse (e ∷ es) q =
    find-renamed_entry (rename e.0) e.1 q (filter_map (renamed_entry rename) es)
    ∙ ap (λ b. cond b (Some e.1) (value_in q (filter_map (renamed_entry rename) es))) (leads-inverse rename back inverse e.0 q)
    ∙ ap (cond (leads (back q) e.0) (Some e.1)) (find-renamed rename back inverse es q)
    ∙ sym (then-cons (back q) e.0 e.1 (λ p. value_in p es))

-- what a renamed map answers
pub get-renamed : (rename back : Rename) → IsInverse rename back → (vars : Vars) (q : List ℕ)
    → map.get (renamed rename vars) q ≡ option_and_then (map.get vars) (back q)
get-renamed rename back inverse vars q =
    get-from_entries nat_list_cmp_total _ q ∙ find-renamed rename back inverse (map.entries vars) q ∙ by (back q)
  where
    by : (o : Option (List ℕ)) → option_and_then (λ p. value_in p (map.entries vars)) o ≡ option_and_then (map.get vars) o
    by None = refl
    by (Some p) = sym (map.get-entries vars p)

-- the rest of the variables is still to be renamed, and the others are renamed
pub record IsRenaming (back : Rename) (pairs rest : Pairs) (moved : Vars) : Type 0 where
  pub sorted : T (is_sorted (slice_cmp nat_cmp) rest)
  pub answers : (q : List ℕ) → option_and_then (λ p. value_in p pairs) (back q) ≡ option_or (option_and_then (λ p. value_in p rest) (back q)) (map.get moved q)

pub none_renamed : (back : Rename) (pairs : Pairs) (moved : Vars) → T (is_sorted (slice_cmp nat_cmp) pairs) → moved ≡ map.empty → IsRenaming back pairs pairs moved
none_renamed back pairs moved sorted is = record { sorted = sorted; answers = λ q. by q (option_and_then (λ p. value_in p pairs) (back q)) }
  where
    by : (q : List ℕ) (o : Option (List ℕ)) → o ≡ option_or o (map.get moved q)
    by q None = sym (ap (λ (m : Vars). map.get m q) is ∙ get-empty (slice_cmp nat_cmp) q)
    by q (Some v) = refl

-- a name that is below all others isn't among them
absent : (name : List ℕ) (rest : Pairs) → T (below_all (slice_cmp nat_cmp) name rest) → value_in name rest ≡ None
absent name [] below = refl
absent name (e ∷ es) below = by (slice_cmp nat_cmp name e.0) below (absent name es)
  where
    by : (o : Ordering) → T (is_lt o && below_all (slice_cmp nat_cmp) name es) → (T (below_all (slice_cmp nat_cmp) name es) → value_in name es ≡ None)
        → cond (is_eq o) (Some e.1) (value_in name es) ≡ None
    by Less below rest = rest below
    by Equal below rest = absurd below
    by Greater below rest = absurd below

one_renamed : (rename back : Rename) → IsInverse rename back → (pairs rest : Pairs) (moved more : Vars) (e : List ℕ × List ℕ)
    → ((q : List ℕ) → map.get more q ≡ cond (leads (rename e.0) q) (Some e.1) (map.get moved q))
    → IsRenaming back pairs (e ∷ rest) moved → IsRenaming back pairs rest more
one_renamed rename back inverse pairs rest moved more e adds so_far = record {
  sorted = right (below_all (slice_cmp nat_cmp) e.0 rest) (is_sorted (slice_cmp nat_cmp) rest) so_far.sorted;
  answers = λ q.
      so_far.answers q ∙ ap (λ o. option_or o (map.get moved q)) (then-cons (back q) e.0 e.1 (λ p. value_in p rest))
      ∙ by (left (below_all (slice_cmp nat_cmp) e.0 rest) (is_sorted (slice_cmp nat_cmp) rest) so_far.sorted) q (leads (back q) e.0) refl
      ∙ ap (option_or (option_and_then (λ p. value_in p rest) (back q)))
      (ap (λ b. cond b (Some e.1) (map.get moved q)) (sym (leads-inverse rename back inverse e.0 q)) ∙ sym (adds q));
}
  where
    none_first : (o p : Option (List ℕ)) → o ≡ None → p ≡ option_or o p
    none_first o p is = sym (ap (λ (x : Option (List ℕ)). option_or x p) is)

    by : T (below_all (slice_cmp nat_cmp) e.0 rest) → (q : List ℕ) (b : Bool) → leads (back q) e.0 ≡ b
        → option_or (cond b (Some e.1) (option_and_then (λ p. value_in p rest) (back q))) (map.get moved q)
        ≡ option_or (option_and_then (λ p. value_in p rest) (back q)) (cond b (Some e.1) (map.get moved q))
    by below q true here = none_first _ (Some e.1) (ap (option_and_then (λ p. value_in p rest)) (leads-true (back q) e.0 here) ∙ absent e.0 rest below)
    by below q false other = refl

-- one variable is put under its new name
pub entry_renamed : (rename back : Rename) → IsInverse rename back → (pairs rest : Pairs) (moved : Vars) (name value key : List ℕ)
    → rename name ≡ Some key → IsRenaming back pairs ((name, value) ∷ rest) moved → IsRenaming back pairs rest (map.insert moved key value)
entry_renamed rename back inverse pairs rest moved name value key goes = one_renamed rename back inverse pairs rest moved _ (name, value)
    (λ q. get-insert nat_list_cmp_total moved key value q
    ∙ ap (λ b. cond b (Some value) (map.get moved q)) (is_same-symm q key ∙ ap (λ (o : Option (List ℕ)). leads o q) (sym goes)))

-- one variable has no new name
pub entry_removed : (rename back : Rename) → IsInverse rename back → (pairs rest : Pairs) (moved : Vars) (name value : List ℕ)
    → rename name ≡ None → IsRenaming back pairs ((name, value) ∷ rest) moved → IsRenaming back pairs rest moved
entry_removed rename back inverse pairs rest moved name value removed = one_renamed rename back inverse pairs rest moved moved (name, value)
    (λ q. ap (λ (o : Option (List ℕ)). cond (leads o q) (Some value) (map.get moved q)) (sym removed))

-- where no variable is left the map is the renamed one
pub all_renamed : (rename back : Rename) → IsInverse rename back → (vars : Vars) (rest : Pairs) (moved : Vars) → rest ≡ [] → IsRenaming back (map.entries vars) rest moved
    → moved ≡ renamed rename vars
all_renamed rename back inverse vars rest moved none so_far = same_vars _ _ (λ q.
    sym (so_far.answers q ∙ ap (λ o. option_or o (map.get moved q)) (ap (λ es. option_and_then (λ p. value_in p es) (back q)) none ∙ no_rest (back q)))
    ∙ seen (back q) ∙ sym (get-renamed rename back inverse vars q))
  where
    no_rest : (o : Option (List ℕ)) → option_and_then (λ p. value_in p []) o ≡ None
    no_rest None = refl
    no_rest (Some p) = refl

    seen : (o : Option (List ℕ)) → option_and_then (λ p. value_in p (map.entries vars)) o ≡ option_and_then (map.get vars) o
    seen None = refl
    seen (Some p) = sym (map.get-entries vars p)
