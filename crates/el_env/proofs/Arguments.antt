-- The positionals, set and read.
use Rattle.std.proofs.Common.{◌≡◌, Result, Ok, Err, OnOk, OnErr, ℕ, suc, ◌+◌, ◌-◌, ◌^◌, ◌<◌, ◌≤◌, Bool, true, false, cond, List, [], ◌∷◌, ◌++◌, length, slice_get, Option, None, Some, refl, sym, ap, ◌∙◌, subst, arith, lit<, inl, inr, codes, append_assoc}
use Rattle.std.proofs.lemmas.List.{append-nil}
use Rattle.std.proofs.lemmas.List.Elements.{All-tail}
use Rattle.std.specs.List.{All}
use Rattle.el_words.specs.Word.{HasNul}
use Rattle.std.specs.Option.{option_map, option_and_then, IfSome}
use Rattle.std.specs.Fmt.{decimal}
use Rattle.std.proofs.lemmas.Fmt.{decimal_digit, decimal_injective}
use Rattle.std.proofs.lemmas.Option.{same_Some}
use Rattle.std.specs.Ordering.{nat_cmp, eq_by_cmp}
use Rattle.std.specs.Cmp.Lexicographic.{slice_cmp, bytes_decides, texts_ties, nat_list_cmp_total}
use Rattle.std.specs.FinMap as map
use Rattle.std.specs.FinMap.{get-insert}
use Rattle.el_words.proofs.Truths.{none_is_some}
use Rattle.el_words.specs.Number.{number_of}
use Rattle.el_words.proofs.Numbers.{number_of-decimal}
use Rattle.el_env.specs.Vars.{Vars}
use Rattle.el_env.specs.Positionals.{with_numbered, with_positionals, IsPositional, ArePositionals, NoPositionals, count_of, with_argument, numbered_of, positionals_counted, positionals_of}

pub get-insert_same : (vars : Vars) (name value : List ℕ) → map.get (map.insert vars name value) name ≡ Some value
get-insert_same vars name value =
    get-insert nat_list_cmp_total vars name value name
    ∙ ap (λ b. cond b (Some value) (map.get vars name)) (sym (texts_ties name name) ∙ (bytes_decides name name).1 refl)

pub get-insert_other : (vars : Vars) (name value other : List ℕ) → (other ≡ name → ⊥) → map.get (map.insert vars name value) other ≡ map.get vars other
get-insert_other vars name value other apart = get-insert nat_list_cmp_total vars name value other ∙ by (eq_by_cmp (slice_cmp nat_cmp) other name) refl
  where
    by : (b : Bool) → eq_by_cmp (slice_cmp nat_cmp) other name ≡ b → cond (eq_by_cmp (slice_cmp nat_cmp) other name) (Some value) (map.get vars other) ≡ map.get vars other
    by true same = absurd (apart ((bytes_decides other name).0 (texts_ties other name ∙ same)))
    by false is = ap (λ b. cond b (Some value) (map.get vars other)) is

-- arguments that are set one by one are those that are numbered
numbered_of-args : (args : List (List ℕ)) (n : ℕ) (vars : Vars) → ((i : ℕ) → i < length args → map.get vars (decimal (n + i)) ≡ slice_get args i) → numbered_of (length args) n vars ≡ Some args
numbered_of-args [] n vars set = refl
numbered_of-args (arg ∷ args) n vars set =
    let here : map.get vars (decimal n) ≡ Some arg = ap (λ m. map.get vars (decimal m)) (omega arith) ∙ set 0 (omega arith) in
    let others = numbered_of-args args (suc n) vars (λ i below. ap (λ m. map.get vars (decimal m)) (omega arith) ∙ set (suc i) (omega arith)) in
    ap (λ first. with_argument first (numbered_of (length args) (suc n) vars)) here ∙ ap (option_map (λ rest. arg ∷ rest)) others

record AreNumbered (count n : ℕ) (vars : Vars) (args : List (List ℕ)) : Type 0 where
  pub len : length args ≡ count
  pub set : (i : ℕ) → i < length args → map.get vars (decimal (n + i)) ≡ slice_get args i

args-numbered_of : (count n : ℕ) (vars : Vars) (args : List (List ℕ)) → numbered_of count n vars ≡ Some args → AreNumbered count n vars args
args-numbered_of Prim.Native.Nat.zero n vars args is =
    subst (AreNumbered 0 n vars) (same_Some [] args is) (record { len = refl; set = λ i below. absurd (omega arith) })
args-numbered_of (suc count) n vars args is = by (map.get vars (decimal n)) refl (numbered_of count (suc n) vars) (args-numbered_of count (suc n) vars) is
  where
    at : (arg : List ℕ) (others : List (List ℕ)) → map.get vars (decimal n) ≡ Some arg → AreNumbered count (suc n) vars others
        → (i : ℕ) → i < length (arg ∷ others) → map.get vars (decimal (n + i)) ≡ slice_get (arg ∷ others) i
    at arg others here rest Prim.Native.Nat.zero below = ap (λ m. map.get vars (decimal m)) (omega arith) ∙ here
    at arg others here rest (suc i) below = ap (λ m. map.get vars (decimal m)) (omega arith) ∙ rest.set i (omega arith)

    by : (first : Option (List ℕ)) → map.get vars (decimal n) ≡ first → (rest : Option (List (List ℕ))) → ((others : List (List ℕ)) → rest ≡ Some others → AreNumbered count (suc n) vars others)
        → with_argument first rest ≡ Some args → AreNumbered (suc count) n vars args
    by None _ rest _ is = none_is_some args is
    by (Some arg) _ None _ is = none_is_some args is
    by (Some arg) here (Some others) later is =
        let rest = later others refl in
        subst (AreNumbered (suc count) n vars) (same_Some (arg ∷ others) args is)
        (record { len = ap suc rest.len; set = at arg others here rest })

-- positionals are the value that is read
pub positionals_of-exact : (vars : Vars) (zero : List ℕ) (args : List (List ℕ)) → ArePositionals vars zero args → positionals_of vars ≡ Some (zero, args)
positionals_of-exact vars zero args are =
    let count : count_of vars ≡ Some (length args) = ap (option_and_then number_of) are.count_is_set ∙ are.is_count in
    let numbered = numbered_of-args args 1 vars (λ i below. ap (λ m. map.get vars (decimal m)) (omega arith) ∙ are.are_set i below) in
    (λ i. positionals_counted (count i) (are.zero_is_set i) vars) ∙ ap (option_map {U = List ℕ × List (List ℕ)} (λ all. (zero, all))) numbered

-- and the value that is read are positionals
pub ArePositionals-read : (vars : Vars) (zero : List ℕ) (args : List (List ℕ)) → positionals_of vars ≡ Some (zero, args) → ArePositionals vars zero args
ArePositionals-read vars zero args is = by (map.get vars (codes "#")) refl (map.get vars (codes "0")) refl is
  where
    same_pair : (p q : List ℕ × List (List ℕ)) → Some p ≡ Some q → p ≡ q
    same_pair p q e = cc

    all : (text : List ℕ) → map.get vars (codes "#") ≡ Some text → (count : ℕ) → number_of text ≡ Some count → (first : List ℕ) → map.get vars (codes "0") ≡ Some first
        → (numbered : Option (List (List ℕ))) → numbered_of count 1 vars ≡ numbered → option_map {U = List ℕ × List (List ℕ)} (λ others. (first, others)) numbered ≡ Some (zero, args) → ArePositionals vars zero args
    all text text_set count counts first first_set None _ is = none_is_some _ is
    all text text_set count counts first first_set (Some others) later is =
        let pair = same_pair (first, others) (zero, args) is in
        let rest = args-numbered_of count 1 vars others later in
        let numbered = subst (AreNumbered count 1 vars) (ap (λ p. p.1) pair) rest in
        record {
          count = text;
          count_is_set = text_set;
          is_count = counts ∙ ap (λ n. Some n) (sym numbered.len);
          zero_is_set = first_set ∙ ap (λ (p : List ℕ × List (List ℕ)). Some p.0) pair;
          are_set = λ i below. ap (λ m. map.get vars (decimal m)) (omega arith) ∙ numbered.set i below;
        }

    counted : (text : List ℕ) → map.get vars (codes "#") ≡ Some text → (count : Option ℕ) → number_of text ≡ count → (first : Option (List ℕ)) → map.get vars (codes "0") ≡ first
        → positionals_counted count first vars ≡ Some (zero, args) → ArePositionals vars zero args
    counted text text_set None _ first _ is = none_is_some _ is
    counted text text_set (Some count) _ None _ is = none_is_some _ is
    counted text text_set (Some count) counts (Some first) first_set is = all text text_set count counts first first_set (numbered_of count 1 vars) refl is

    by : (text : Option (List ℕ)) → map.get vars (codes "#") ≡ text → (first : Option (List ℕ)) → map.get vars (codes "0") ≡ first
        → positionals_counted (option_and_then number_of text) first vars ≡ Some (zero, args) → ArePositionals vars zero args
    by None _ first _ is = none_is_some _ is
    by (Some text) text_set first first_set is = counted text text_set (number_of text) refl first first_set is

pub NoPositionals-read : (vars : Vars) → positionals_of vars ≡ None → NoPositionals vars
NoPositionals-read vars none zero args are = none_is_some (zero, args) (sym none ∙ positionals_of-exact vars zero args are)

-- the positionals of an environment are one
pub positionals_unique : (vars : Vars) (zero zero2 : List ℕ) (args args2 : List (List ℕ)) → ArePositionals vars zero args → ArePositionals vars zero2 args2 → (zero ≡ zero2) × (args ≡ args2)
positionals_unique vars zero zero2 args args2 one two =
    let same = sym (positionals_of-exact vars zero args one) ∙ positionals_of-exact vars zero2 args2 two in
    let pair = pairs (zero, args) (zero2, args2) same in
    (ap (λ (p : List ℕ × List (List ℕ)). p.0) pair, ap (λ (p : List ℕ × List (List ℕ)). p.1) pair)
  where
    pairs : (p q : List ℕ × List (List ℕ)) → Some p ≡ Some q → p ≡ q
    pairs p q e = cc

-- a name that is no number of an argument keeps its value
get-with_numbered_other : (args : List (List ℕ)) (n : ℕ) (vars : Vars) (name : List ℕ) → ((i : ℕ) → i < length args → name ≡ decimal (n + i) → ⊥) → map.get (with_numbered n args vars) name ≡ map.get vars name
get-with_numbered_other [] n vars name apart = refl
get-with_numbered_other (arg ∷ args) n vars name apart =
    get-with_numbered_other args (suc n) (map.insert vars (decimal n) arg) name (λ i below is. apart (suc i) (omega arith) (is ∙ ap decimal (omega arith)))
    ∙ get-insert_other vars (decimal n) arg name (λ is. apart 0 (omega arith) (is ∙ ap decimal (omega arith)))

-- and each number has its argument
get-with_numbered : (args : List (List ℕ)) (n : ℕ) (vars : Vars) (i : ℕ) → i < length args → n + length args ≤ 2 ^ 64 → map.get (with_numbered n args vars) (decimal (n + i)) ≡ slice_get args i
get-with_numbered [] n vars i below small = absurd (omega arith)
get-with_numbered (arg ∷ args) n vars Prim.Native.Nat.zero below small =
    ap (λ m. map.get (with_numbered (suc n) args (map.insert vars (decimal n) arg)) (decimal m)) (omega arith)
    ∙ get-with_numbered_other args (suc n) (map.insert vars (decimal n) arg) (decimal n)
    (λ i in_args same. let e : n ≡ suc n + i = decimal_injective n (suc n + i) (omega arith) (omega arith) same in absurd (omega arith))
    ∙ get-insert_same vars (decimal n) arg
get-with_numbered (arg ∷ args) n vars (suc i) below small =
    ap (λ m. map.get (with_numbered (suc n) args (map.insert vars (decimal n) arg)) (decimal m)) (omega arith)
    ∙ get-with_numbered args (suc n) (map.insert vars (decimal n) arg) i (omega arith) (omega arith)

zero_text : codes "0" ≡ decimal 0
zero_text = sym (decimal_digit 0 (omega arith))

-- no number is written `#`
decimal-no_hash : (n : ℕ) → n < 2 ^ 64 → decimal n ≡ codes "#" → ⊥
decimal-no_hash n small is = none_is_some n (ap number_of (sym is) ∙ number_of-decimal n small)

-- positionals that are set are those that are read
pub ArePositionals-set : (zero : List ℕ) (args : List (List ℕ)) (vars : Vars) → length args < 2 ^ 64 → ArePositionals (with_positionals zero args vars) zero args
ArePositionals-set zero args vars small = record {
  count = decimal (length args);
  count_is_set = get-insert_same _ (codes "#") (decimal (length args));
  is_count = number_of-decimal (length args) small;
  zero_is_set =
      get-insert_other _ (codes "#") (decimal (length args)) (codes "0") (λ e. decimal-no_hash 0 (lit< tt) (sym zero_text ∙ e))
      ∙ get-with_numbered_other args 1 _ (codes "0")
      (λ i below e. let same : 0 ≡ 1 + i = decimal_injective 0 (1 + i) (lit< tt) (omega arith) (sym zero_text ∙ e) in absurd (omega arith))
      ∙ get-insert_same vars (codes "0") zero;
  are_set = λ i below.
      get-insert_other _ (codes "#") (decimal (length args)) (decimal (suc i)) (decimal-no_hash (suc i) (omega arith))
      ∙ ap (λ m. map.get (with_numbered 1 args (map.insert vars (codes "0") zero)) (decimal m)) (omega arith)
      ∙ get-with_numbered args 1 _ i below (omega arith);
}

-- so many arguments are set, and those that are left are still to be
pub record IsSetting (args left : List (List ℕ)) (number : ℕ) (vars begun now : Vars) : Type 0 where
  pub rest : with_numbered 1 args begun ≡ with_numbered (number + 1) left now
  pub counted : number + length left ≡ length args
  pub words : All (λ word. HasNul word → ⊥) left
  pub others : (name : List ℕ) → (IsPositional (length args) name → ⊥) → map.get now name ≡ map.get vars name

pub none_set : (args left : List (List ℕ)) (zero : List ℕ) (vars begun : Vars) → left ≡ args → All (λ word. HasNul word → ⊥) args
    → begun ≡ map.insert vars (codes "0") zero → IsSetting args left 0 vars begun begun
none_set args left zero vars begun all words is = record {
  rest = ap (λ ls. with_numbered 1 ls begun) (sym all);
  counted = let e : 0 + length left ≡ length left = omega arith in e ∙ ap length all;
  words = subst (All (λ word. HasNul word → ⊥)) (sym all) words;
  others = λ name other. ap (λ (m : Vars). map.get m name) is ∙ get-insert_other vars (codes "0") zero name (λ e. other (inr (inl e)));
}

pub one_set : (args left more : List (List ℕ)) (number : ℕ) (vars begun now next : Vars) (name arg value : List ℕ) → left ≡ arg ∷ more → name ≡ decimal (number + 1) → value ≡ arg
    → next ≡ map.insert now name value → IsSetting args left number vars begun now → IsSetting args more (number + 1) vars begun next
one_set args left more number vars begun now next name arg value here name_is value_is set so_far =
    let inserted : next ≡ map.insert now (decimal (number + 1)) arg = set ∙ (λ i. map.insert now (name_is i) (value_is i)) in
    let counted : number + length (arg ∷ more) ≡ length args = ap (λ ls. number + length ls) (sym here) ∙ so_far.counted in
    record {
      rest = so_far.rest ∙ ap (λ ls. with_numbered (number + 1) ls now) here ∙ (λ i. with_numbered (one_more i) more (sym inserted i));
      counted = omega arith;
      words = All-tail (λ word. HasNul word → ⊥) arg more (subst (All (λ word. HasNul word → ⊥)) here so_far.words);
      others = λ other no_positional. ap (λ (m : Vars). map.get m other) inserted
          ∙ get-insert_other now (decimal (number + 1)) arg other (λ e. no_positional (inr (inr (number, omega arith, e ∙ ap decimal (omega arith)))))
          ∙ so_far.others other no_positional;
    }
  where
    one_more : suc (number + 1) ≡ number + 1 + 1
    one_more = omega arith

-- the next argument is a word
pub next_is_word : (args left more : List (List ℕ)) (number : ℕ) (vars begun now : Vars) (arg : List ℕ) → left ≡ arg ∷ more → IsSetting args left number vars begun now → HasNul arg → ⊥
next_is_word args left more number vars begun now arg here so_far = subst (All (λ word. HasNul word → ⊥)) here so_far.words 0 arg (omega arith)

-- there are fewer than all before it
pub next_is_counted : (args left more : List (List ℕ)) (number : ℕ) (vars begun now : Vars) (arg : List ℕ) → left ≡ arg ∷ more → IsSetting args left number vars begun now → number + 1 ≤ length args
next_is_counted args left more number vars begun now arg here so_far =
    let counted : number + length (arg ∷ more) ≡ length args = ap (λ ls. number + length ls) (sym here) ∙ so_far.counted in omega arith

pub all_set : (zero : List ℕ) (args left : List (List ℕ)) (number : ℕ) (vars begun now next : Vars) (count : List ℕ) → begun ≡ map.insert vars (codes "0") zero
    → left ≡ [] → count ≡ decimal number → next ≡ map.insert now (codes "#") count → IsSetting args left number vars begun now → next ≡ with_positionals zero args vars
all_set zero args left number vars begun now next count is none count_is set so_far =
    set ∙ (λ i. map.insert (whole i) (codes "#") ((count_is ∙ ap decimal all) i))
  where
    all : number ≡ length args
    all = let counted : number + length {A = List ℕ} [] ≡ length args = ap (λ ls. number + length ls) (sym none) ∙ so_far.counted in omega arith

    whole : now ≡ with_numbered 1 args (map.insert vars (codes "0") zero)
    whole = sym (so_far.rest ∙ ap (λ ls. with_numbered (number + 1) ls now) none) ∙ ap (with_numbered 1 args) is

pub all_set-others : (args left : List (List ℕ)) (number : ℕ) (vars begun now next : Vars) (count : List ℕ)
    → next ≡ map.insert now (codes "#") count → IsSetting args left number vars begun now → (name : List ℕ) → (IsPositional (length args) name → ⊥) → map.get next name ≡ map.get vars name
all_set-others args left number vars begun now next count set so_far name other =
    ap (λ (m : Vars). map.get m name) set ∙ get-insert_other now (codes "#") count name (λ e. other (inl e)) ∙ so_far.others name other

-- the arguments that are read so far, with those that are left
abbrev pub IsReading : (count place : ℕ) → Vars → List (List ℕ) → Type 0
IsReading count place vars args = numbered_of count 1 vars ≡ option_map (λ rest. args ++ rest) (numbered_of (count - place) (place + 1) vars)

pub none_read : (count : ℕ) (vars : Vars) → IsReading count 0 vars []
none_read count vars =
    let all : count ≡ count - 0 = omega arith in
    by (numbered_of count 1 vars) ∙ ap (λ left. option_map (λ rest. rest) (numbered_of left 1 vars)) all
  where
    by : (o : Option (List (List ℕ))) → o ≡ option_map (λ rest. rest) o
    by None = refl
    by (Some args) = refl

left_first : (count place : ℕ) (vars : Vars) → place < count
    → numbered_of (count - place) (place + 1) vars ≡ with_argument (map.get vars (decimal (place + 1))) (numbered_of (count - (place + 1)) (place + 1 + 1) vars)
left_first count place vars below = (λ i. numbered_of (left i) (place + 1) vars) ∙ (λ i. with_argument (map.get vars (decimal (place + 1))) (numbered_of (count - (place + 1)) (next i) vars))
  where
    left : count - place ≡ suc (count - (place + 1))
    left = omega arith

    next : suc (place + 1) ≡ place + 1 + 1
    next = omega arith

pub one_read : (count place : ℕ) (vars : Vars) (args : List (List ℕ)) (name arg : List ℕ) → place < count → name ≡ decimal (place + 1) → map.get vars name ≡ Some arg
    → IsReading count place vars args → IsReading count (place + 1) vars (args ++ arg ∷ [])
one_read count place vars args name arg below name_is set so_far =
    so_far ∙ ap (option_map (λ rest. args ++ rest)) (left_first count place vars below
    ∙ ap (λ first. with_argument first (numbered_of (count - (place + 1)) (place + 1 + 1) vars)) (ap (map.get vars) (sym name_is) ∙ set))
    ∙ by (numbered_of (count - (place + 1)) (place + 1 + 1) vars)
  where
    by : (o : Option (List (List ℕ))) → option_map (λ rest. args ++ rest) (option_map (λ rest. arg ∷ rest) o) ≡ option_map (λ rest. args ++ arg ∷ [] ++ rest) o
    by None = refl
    by (Some rest) = ap (λ all. Some all) (sym (append_assoc args (arg ∷ []) rest))

pub gap_read : (count place : ℕ) (vars : Vars) (args : List (List ℕ)) (name : List ℕ) → place < count → name ≡ decimal (place + 1) → map.get vars name ≡ None
    → IsReading count place vars args → numbered_of count 1 vars ≡ None
gap_read count place vars args name below name_is unset so_far =
    so_far ∙ ap (option_map (λ rest. args ++ rest)) (left_first count place vars below
    ∙ ap (λ first. with_argument first (numbered_of (count - (place + 1)) (place + 1 + 1) vars)) (ap (map.get vars) (sym name_is) ∙ unset))

pub all_read : (count place : ℕ) (vars : Vars) (args : List (List ℕ)) → count ≤ place → IsReading count place vars args → numbered_of count 1 vars ≡ Some args
all_read count place vars args all so_far =
    let none_left : count - place ≡ 0 = omega arith in
    so_far ∙ ap (λ left. option_map (λ rest. args ++ rest) (numbered_of left (place + 1) vars)) none_left ∙ ap (λ all. Some all) (append-nil args)

-- how the value is read, and where there is none
pub positionals_of-read : (vars : Vars) (count : ℕ) (zero zero2 : List ℕ) (args : List (List ℕ)) → count_of vars ≡ Some count → map.get vars (codes "0") ≡ Some zero → zero2 ≡ zero
    → numbered_of count 1 vars ≡ Some args → positionals_of vars ≡ Some (zero2, args)
positionals_of-read vars count zero zero2 args counts zero_set same numbered =
    (λ i. positionals_counted (counts i) (zero_set i) vars) ∙ ap (option_map {U = List ℕ × List (List ℕ)} (λ all. (zero, all))) numbered
    ∙ ap (λ z. Some (z, args)) (sym same)

pub positionals_of-no_count : (vars : Vars) → count_of vars ≡ None → positionals_of vars ≡ None
positionals_of-no_count vars none = ap (λ count. positionals_counted count (map.get vars (codes "0")) vars) none

pub positionals_of-no_zero : (vars : Vars) → map.get vars (codes "0") ≡ None → positionals_of vars ≡ None
positionals_of-no_zero vars none = ap (λ zero. positionals_counted (count_of vars) zero vars) none ∙ by (count_of vars)
  where
    by : (count : Option ℕ) → positionals_counted count None vars ≡ None
    by None = refl
    by (Some count) = refl

pub positionals_of-gap : (vars : Vars) (count : ℕ) (zero : List ℕ) → count_of vars ≡ Some count → map.get vars (codes "0") ≡ Some zero → numbered_of count 1 vars ≡ None → positionals_of vars ≡ None
positionals_of-gap vars count zero counts zero_set gap =
    (λ i. positionals_counted (counts i) (zero_set i) vars) ∙ ap (option_map {U = List ℕ × List (List ℕ)} (λ all. (zero, all))) gap

-- a fact after each answer of a call
pub OnOk-then : {T E : Type 0} {A B : Type 0} (r : Result T E) → (A → B) → OnOk r A → OnOk r B
OnOk-then (Ok x) f a = f a
OnOk-then (Err e) f a = tt

pub either_way : {T E : Type 0} {A B C : Type 0} (r : Result T E) → (A → C) → (B → C) → OnOk r A → OnErr r B → C
either_way (Ok x) f g a b = f a
either_way (Err e) f g a b = g b

-- a fact of the value that is there
pub IfSome-at : {A : Type 0} (o : Option A) (x : A) (P : A → Type 0) → o ≡ Some x → IfSome o P → P x
IfSome-at None x P is holds = let no : ⊥ = cc in absurd no
IfSome-at (Some y) x P is holds = subst P (same_Some y x is) holds
