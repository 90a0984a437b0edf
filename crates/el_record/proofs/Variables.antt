-- Variables that are read in rising order.
use Rattle.std.proofs.Common.{◌≡◌, ℕ, Bool, true, false, true≢false, List, [], ◌∷◌, ◌++◌, Some, None, refl, sym, ap, subst, ◌∙◌, append_assoc, append-nil}
use Rattle.std.specs.Prelude.{suc, ◌&&◌, T}
use Rattle.std.specs.List.{list_all}
use Rattle.std.specs.FinMap as map
use Rattle.std.specs.Cmp.Lexicographic.{slice_cmp}
use Rattle.std.specs.FinMap.Entries.{below_all}
use Rattle.std.specs.Ordering.{nat_cmp, is_lt, ordering_then, MatchOrdering}
use Rattle.std.specs.declared.cmp.Ordering.{Ordering}
use Rattle.std.specs.declared.cmp.Ordering.TheVariants.{Less, Equal, Greater}
use Rattle.std.proofs.lemmas.Bool.{and_from, and_left, and_right, and_parts}
use Rattle.std.proofs.lemmas.Cmp.{nat_list_cmp_total}
use Rattle.el_env.specs.Vars.{Vars}
use Rattle.el_env.specs.Name.{is_good_name}
use Rattle.el_env.specs.Inherited.{listed, AreRising, HaveGoodNames}
use Rattle.el_env.proofs.Sorting.{entries-rising}
use Rattle.el_record.specs.Reading.{and_read}
use Rattle.el_record.specs.TraceReading.{FrontRead, checked, word_at, pairs_at, are_variables}
use Rattle.el_record.specs.Read.{variables_at}

abbrev Pairs : Type 0
Pairs = List (List ℕ × List ℕ)

abbrev order : List ℕ → List ℕ → Ordering
order = slice_cmp nat_cmp

abbrev rising : Pairs → Bool
rising = map.is_sorted order

-- all names are good
abbrev pub are_good : Pairs → Bool
are_good pairs = list_all (λ (pair : List ℕ × List ℕ). is_good_name pair.0) pairs

-- the name of the last variable, or no bytes
abbrev pub last_name : Pairs → List ℕ
last_name [] = []
last_name (pair ∷ []) = pair.0
last_name (pair ∷ next ∷ pairs) = last_name (next ∷ pairs)

is_less : (o : Ordering) → is_lt o ≡ true → o ≡ Less
is_less Less e = refl
is_less Equal e = absurd (true≢false (sym e))
is_less Greater e = absurd (true≢false (sym e))

-- the first name of rising ones is below what is above the last
below_last : (pair : List ℕ × List ℕ) (pairs : Pairs) (name : List ℕ) → rising (pair ∷ pairs) ≡ true → is_lt (order (last_name (pair ∷ pairs)) name) ≡ true → order pair.0 name ≡ Less
below_last pair [] name sorted above = is_less _ above
below_last pair (next ∷ pairs) name sorted above =
    let parts = and_parts (below_all order pair.0 (next ∷ pairs)) (rising (next ∷ pairs)) sorted in
    let first = and_parts (is_lt (order pair.0 next.0)) (below_all order pair.0 pairs) parts.0 in
    nat_list_cmp_total.trans pair.0 next.0 name (is_less _ first.0) (below_last next pairs name parts.1 above)

-- names that rise still do with one above the last
below_more : (name : List ℕ) (pairs : Pairs) (last value : List ℕ) → below_all order name pairs ≡ true → is_lt (order name last) ≡ true → below_all order name (pairs ++ (last, value) ∷ []) ≡ true
below_more name [] last value below above = and_from (is_lt (order name last)) true above refl
below_more name (next ∷ pairs) last value below above =
    let parts = and_parts (is_lt (order name next.0)) (below_all order name pairs) below in
    and_from (is_lt (order name next.0)) (below_all order name (pairs ++ (last, value) ∷ [])) parts.0 (below_more name pairs last value parts.1 above)

rising_more : (pairs : Pairs) (name value : List ℕ) → rising pairs ≡ true → is_lt (order (last_name pairs) name) ≡ true → rising (pairs ++ (name, value) ∷ []) ≡ true
rising_more [] name value sorted above = refl
rising_more (pair ∷ []) name value sorted above = and_from (below_all order pair.0 ((name, value) ∷ [])) true (below_more pair.0 [] name value refl above) refl
rising_more (pair ∷ next ∷ pairs) name value sorted above =
    let parts = and_parts (below_all order pair.0 (next ∷ pairs)) (rising (next ∷ pairs)) sorted in
    let more = (next ∷ pairs) ++ (name, value) ∷ [] in
    and_from (below_all order pair.0 more) (rising more) (below_more pair.0 (next ∷ pairs) name value parts.0 (ap is_lt (below_last pair (next ∷ pairs) name sorted above))) (rising_more (next ∷ pairs) name value parts.1 above)

pub last_of_more : (pairs : Pairs) (name value : List ℕ) → last_name (pairs ++ (name, value) ∷ []) ≡ name
last_of_more [] name value = refl
last_of_more (pair ∷ []) name value = refl
last_of_more (pair ∷ next ∷ pairs) name value = last_of_more (next ∷ pairs) name value

good_more : (pairs : Pairs) (name value : List ℕ) → are_good pairs ≡ true → is_good_name name ≡ true → are_good (pairs ++ (name, value) ∷ []) ≡ true
good_more [] name value are good = and_from (is_good_name name) true good refl
good_more (pair ∷ pairs) name value are good = let parts = and_parts (is_good_name pair.0) (are_good pairs) are in and_from (is_good_name pair.0) (are_good (pairs ++ (name, value) ∷ [])) parts.0 (good_more pairs name value parts.1 good)

-- a bad name makes all bad
one_bad : (pairs : Pairs) (name value : List ℕ) (more : Pairs) → is_good_name name ≡ false → are_good (pairs ++ (name, value) ∷ more) ≡ false
one_bad [] name value more bad = and_left (is_good_name name) (are_good more) bad
one_bad (pair ∷ pairs) name value more bad = and_right (is_good_name pair.0) (are_good (pairs ++ (name, value) ∷ more)) (one_bad pairs name value more bad)

-- and so does one that isn't above the last
one_back : (pair : List ℕ × List ℕ) (pairs : Pairs) (name value : List ℕ) (more : Pairs) → is_lt (order (last_name (pair ∷ pairs)) name) ≡ false → rising ((pair ∷ pairs) ++ (name, value) ∷ more) ≡ false
one_back pair [] name value more back =
    and_left (below_all order pair.0 ((name, value) ∷ more)) (rising ((name, value) ∷ more)) (and_left (is_lt (order pair.0 name)) (below_all order pair.0 more) back)
one_back pair (next ∷ pairs) name value more back =
    and_right (below_all order pair.0 ((next ∷ pairs) ++ (name, value) ∷ more)) (rising ((next ∷ pairs) ++ (name, value) ∷ more)) (one_back next pairs name value more back)

not_rising : (pairs : Pairs) (name value : List ℕ) (more : Pairs) → is_good_name name ≡ true → is_lt (order (last_name pairs) name) ≡ false → are_variables (pairs ++ (name, value) ∷ more) ≡ false
not_rising [] [] value more good back = absurd (true≢false (sym good))
not_rising [] (byte ∷ name) value more good back = absurd (true≢false back)
not_rising (pair ∷ pairs) name value more good back =
    let all = (pair ∷ pairs) ++ (name, value) ∷ more in
    and_left (rising all) (are_good all) (one_back pair pairs name value more back)

-- ---- one variable more

more_read : (before : Pairs) (count : ℕ) (bytes name mid value rest : List ℕ) → word_at bytes ≡ Some (name, mid) → word_at mid ≡ Some (value, rest) → variables_at before (suc count) bytes ≡ variables_at (before ++ (name, value) ∷ []) count rest
unfolding variables_at and_read
more_read before count bytes name mid value rest first second = rw first (rw second (by (pairs_at count rest)))
  where
    by : (found : FrontRead Pairs) → and_read (and_read found (λ pairs rest. Some ((name, value) ∷ pairs, rest))) (λ pairs rest. checked (are_variables (before ++ pairs)) (map.from_sorted {R = order} (before ++ pairs)) rest)
        ≡ and_read found (λ pairs rest. checked (are_variables ((before ++ (name, value) ∷ []) ++ pairs)) (map.from_sorted {R = order} ((before ++ (name, value) ∷ []) ++ pairs)) rest)
    by None = refl
    by (Some found) = ap (λ pairs. checked (are_variables pairs) (map.from_sorted {R = order} pairs) found.1) (sym (append_assoc before ((name, value) ∷ []) found.0))

bad_read : (before : Pairs) (count : ℕ) (bytes name mid value rest : List ℕ) → word_at bytes ≡ Some (name, mid) → word_at mid ≡ Some (value, rest)
    → ((more : Pairs) → are_variables (before ++ (name, value) ∷ more) ≡ false) → variables_at before (suc count) bytes ≡ None
unfolding variables_at and_read
bad_read before count bytes name mid value rest first second bad = rw first (rw second (by (pairs_at count rest)))
  where
    by : (found : FrontRead Pairs) → and_read (and_read found (λ pairs rest. Some ((name, value) ∷ pairs, rest))) (λ pairs rest. checked (are_variables (before ++ pairs)) (map.from_sorted {R = order} (before ++ pairs)) rest) ≡ None
    by None = refl
    by (Some found) = rw (bad found.0) refl

-- what is known of the variables that were gathered
pub record AreGathered (pairs : Pairs) (last : List ℕ) (left : ℕ) (rest : List ℕ) (count : ℕ) (bytes : List ℕ) : Type 0 where
  pub same : variables_at pairs left rest ≡ variables_at [] count bytes
  pub last_is : last ≡ last_name pairs
  pub sorted : rising pairs ≡ true
  pub good : are_good pairs ≡ true

-- how many are left, said otherwise
pub left_so : {pairs : Pairs} {last : List ℕ} {left fewer : ℕ} {rest : List ℕ} {count : ℕ} {bytes : List ℕ} → AreGathered pairs last left rest count bytes → left ≡ fewer → AreGathered pairs last fewer rest count bytes
left_so {pairs} {last} {left} {fewer} {rest} {count} {bytes} are e = subst (λ n. AreGathered pairs last n rest count bytes) e are

pub no_name : {pairs : Pairs} {last : List ℕ} {left : ℕ} {rest : List ℕ} {count : ℕ} {bytes : List ℕ} → AreGathered pairs last (suc left) rest count bytes → word_at rest ≡ None → variables_at [] count bytes ≡ None
unfolding variables_at and_read
no_name are none = sym are.same ∙ rw none refl

pub no_value : {pairs : Pairs} {last : List ℕ} {left : ℕ} {rest : List ℕ} {count : ℕ} {bytes : List ℕ} (name mid : List ℕ) → AreGathered pairs last (suc left) rest count bytes
    → word_at rest ≡ Some (name, mid) → word_at mid ≡ None → variables_at [] count bytes ≡ None
unfolding variables_at and_read
no_value name mid are first none = sym are.same ∙ rw first (rw none refl)

bad_there : (pairs : Pairs) (name value : List ℕ) (more : Pairs) (good less : Bool) → is_good_name name ≡ good → is_lt (order (last_name pairs) name) ≡ less → (good && less) ≡ false → are_variables (pairs ++ (name, value) ∷ more) ≡ false
bad_there pairs name value more true true good less e = absurd (true≢false e)
bad_there pairs name value more true false good less e = not_rising pairs name value more good less
bad_there pairs name value more false less good is e =
    let all = pairs ++ (name, value) ∷ more in
    and_right (rising all) (are_good all) (one_bad pairs name value more good)

pub bad_name : {pairs : Pairs} {last : List ℕ} {left : ℕ} {rest : List ℕ} {count : ℕ} {bytes : List ℕ} (name mid value more : List ℕ) → AreGathered pairs last (suc left) rest count bytes
    → word_at rest ≡ Some (name, mid) → word_at mid ≡ Some (value, more) → (is_good_name name && is_lt (slice_cmp nat_cmp last name)) ≡ false → variables_at [] count bytes ≡ None
bad_name {pairs} {last} {left} {rest} name mid value more are first second bad =
    sym are.same ∙ bad_read pairs left rest name mid value more first second
    (λ later. bad_there pairs name value later _ _ refl refl (subst (λ l. (is_good_name name && is_lt (order l name)) ≡ false) are.last_is bad))

pub one_gathered : {pairs : Pairs} (new : Pairs) {last : List ℕ} {left : ℕ} {rest : List ℕ} {count : ℕ} {bytes : List ℕ} (name mid value more : List ℕ) → AreGathered pairs last (suc left) rest count bytes
    → word_at rest ≡ Some (name, mid) → word_at mid ≡ Some (value, more) → (is_good_name name && is_lt (slice_cmp nat_cmp last name)) ≡ true → new ≡ pairs ++ (name, value) ∷ []
    → AreGathered new name left more count bytes
one_gathered {pairs} new {last} {left} {rest} name mid value more are first second fits behind =
    let passes = and_parts (is_good_name name) (is_lt (order last name)) fits in
    let above = subst (λ l. is_lt (order l name) ≡ true) are.last_is passes.1 in
    record {
      same = ap (λ pairs. variables_at pairs left more) behind ∙ sym (more_read pairs left rest name mid value more first second) ∙ are.same;
      last_is = sym (ap last_name behind ∙ last_of_more pairs name value);
      sorted = ap rising behind ∙ rising_more pairs name value are.sorted above;
      good = ap are_good behind ∙ good_more pairs name value are.good passes.0;
    }

-- such names are good one by one
pub have_good_names : (pairs : Pairs) → are_good pairs ≡ true → HaveGoodNames pairs
have_good_names [] are = tt
have_good_names (pair ∷ pairs) are = let parts = and_parts (is_good_name pair.0) (are_good pairs) are in (parts.0, have_good_names pairs parts.1)

pub all_gathered : {pairs : Pairs} {last : List ℕ} {rest : List ℕ} {count : ℕ} {bytes : List ℕ} (env : Vars) → AreGathered pairs last 0 rest count bytes → env ≡ listed pairs → variables_at [] count bytes ≡ Some (env, rest)
unfolding variables_at and_read
all_gathered {pairs} {last} {rest} env are is =
    let rise : AreRising pairs = subst T (sym are.sorted) tt in
    let passes : are_variables pairs ≡ true = and_from (rising pairs) (are_good pairs) are.sorted are.good in
    let same : map.from_sorted pairs ≡ listed pairs = map.same_entries_map (map.from_sorted pairs) (listed pairs) (map.entries-from_sorted order pairs rise ∙ entries-rising pairs rise) in
    sym are.same
    ∙ ap (λ pairs. checked (are_variables pairs) (map.from_sorted {R = order} pairs) rest) (append-nil pairs)
    ∙ rw passes (ap (λ (e : Vars). Some (e, rest)) (same ∙ sym is))

pub none_gathered : (pairs : Pairs) (last : List ℕ) (left count : ℕ) (bytes : List ℕ) → pairs ≡ [] → last ≡ [] → left ≡ count → AreGathered pairs last left bytes count bytes
none_gathered pairs last left count bytes none no_last all = rw (none, no_last, all) (record { same = refl; last_is = refl; sorted = refl; good = refl })

-- how one byte more is compared
pub more_compared : (x y : ℕ) (xs ys : List ℕ) (o : Ordering) → o ≡ nat_cmp x y
    → MatchOrdering o (is_lt (order (x ∷ xs) (y ∷ ys)) ≡ true) (is_lt (order (x ∷ xs) (y ∷ ys)) ≡ is_lt (order xs ys)) (is_lt (order (x ∷ xs) (y ∷ ys)) ≡ false)
more_compared x y xs ys Less e = ap (λ r. is_lt (ordering_then r (order xs ys))) (sym e)
more_compared x y xs ys Equal e = ap (λ r. is_lt (ordering_then r (order xs ys))) (sym e)
more_compared x y xs ys Greater e = ap (λ r. is_lt (ordering_then r (order xs ys))) (sym e)
