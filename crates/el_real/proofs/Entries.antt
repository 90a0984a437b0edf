-- The entries of an environment.
use Rattle.std.proofs.Common.{◌≡◌, ℕ, ◌+◌, ◌<◌, true, false, List, [], ◌∷◌, ◌++◌, Option, None, Some, Result, Ok, Err, IfOk, length, take, drop, refl, sym, ap, subst, ◌∙◌, arith, ◌≤◌, ◌||◌, suc, not, get_or, nat_lt, if◌then◌else◌, map as mapped}
use Rattle.std.proofs.lemmas.Bool.{false_from_ne_true, and_right}
use Rattle.std.specs.List.{position_or_len, list_any}
use Rattle.std.specs.Option.{option_or}
use Rattle.std.proofs.lemmas.List.{length-take-le}
use Rattle.std.proofs.lemmas.List.Folds.{list_any_more}
use Rattle.std.proofs.lemmas.List.Sums.{position_or_len_is, fails_before_first}
use Rattle.memchr.specs.Find.{IsFirstByte, is_byte}
use Rattle.std.specs.Ordering.{nat_cmp}
use Rattle.std.specs.Cmp.Lexicographic.{slice_cmp, nat_list_cmp_total}
use Rattle.std.specs.FinMap as map
use Rattle.std.specs.FinMap.{find, get-from_entries}
use Rattle.el_env.specs.Vars.{Vars}
use Rattle.el_env.specs.Name.{is_good_name}
use Rattle.el_env.specs.Variable.{pair_of}
use Rattle.el_env.specs.declared.env.variable.Variable.{Variable}
use Rattle.el_env.specs.Inherited.{listed, HaveGoodNames}
use Rattle.el_env.proofs.Named.{value_in-append}
use Rattle.el_env.proofs.Places.{mapped-push}
use Rattle.el_real.proofs.Names.{same_test}
use Rattle.el_real.specs.Variables.{is_equals, variable_of, value_in, value_among, AreVariables}

-- the first `=` that is found
pub first_equals : (entry : List ℕ) (at : ℕ) → IsFirstByte (is_byte 61) entry (Some at) → position_or_len is_equals entry ≡ at
first_equals entry at found =
    position_or_len_is is_equals entry at 0 (omega (arith, found.0.high)) (λ k less. false_from_ne_true _ (found.0.before k (omega arith) less)) (λ _. found.1)

pub no_equals : (entry : List ℕ) → IsFirstByte (is_byte 61) entry None → position_or_len is_equals entry ≡ length entry
no_equals entry none =
    position_or_len_is is_equals entry (length entry) 0 (omega arith) (λ k less. false_from_ne_true _ (none k (omega arith) less)) (λ less. let never : ⊥ = omega (arith, less) in absurd never)

is_less : (n m : ℕ) → n < m → nat_lt n m ≡ true
is_less n m less = grind (arith, less)

not_less : (n : ℕ) → nat_lt n n ≡ false
not_less n = grind arith

-- an entry is split at its first `=`, where a name stands before it
pub variable_of-some : (entry : List ℕ) (at : ℕ) → position_or_len is_equals entry ≡ at → 0 < at → at < length entry → variable_of entry ≡ Some (take at entry, drop (at + 1) entry)
variable_of-some entry at first low high = rw (first, is_less 0 at low, is_less at (length entry) high) refl

pub variable_of-unnamed : (entry : List ℕ) → position_or_len is_equals entry ≡ 0 → variable_of entry ≡ None
variable_of-unnamed entry first = rw first refl

pub variable_of-none : (entry : List ℕ) → position_or_len is_equals entry ≡ length entry → variable_of entry ≡ None
variable_of-none entry first = rw (first, not_less (length entry), and_right (nat_lt 0 (length entry)) false refl) refl

-- what stands before the first `=` holds none
none_before : (entry : List ℕ) (n : ℕ) → n ≤ position_or_len is_equals entry → n ≤ length entry → list_any is_equals (take n entry) ≡ false
none_before entry Prim.Native.Nat.zero before within = refl
none_before entry (suc n) before within =
    let next : suc n ≡ n + 1 = omega arith in
    ap (λ k. list_any is_equals (take k entry)) next ∙ list_any_more is_equals entry n 0 (omega (arith, within))
    ∙ ap (λ b. b || is_equals (get_or entry n 0)) (none_before entry n (omega (arith, before)) (omega (arith, within))) ∙ fails_before_first is_equals entry n 0 (omega (arith, before))

good_name : (name : List ℕ) → 0 < length name → list_any is_equals name ≡ false → is_good_name name ≡ true
good_name [] some none = absurd (omega (arith, some))
good_name (byte ∷ bytes) some none = ap not none

-- and is a good name, where it isn't empty
pub good_before : (entry : List ℕ) (at : ℕ) → position_or_len is_equals entry ≡ at → 0 < at → at < length entry → is_good_name (take at entry) ≡ true
good_before entry at first low high =
    good_name (take at entry) (omega (arith, low, length-take-le at entry (omega (arith, high)))) (none_before entry at (omega (arith, first)) (omega (arith, high)))

option_or-assoc : (a b c : Option (List ℕ)) → option_or (option_or a b) c ≡ option_or a (option_or b c)
option_or-assoc None b c = refl
option_or-assoc (Some x) b c = refl

pub option_or-none : (a : Option (List ℕ)) → option_or a None ≡ a
option_or-none None = refl
option_or-none (Some x) = refl

-- one more entry
pub value_among-more : (entries : List (List ℕ)) (entry name : List ℕ) → value_among (entries ++ entry ∷ []) name ≡ option_or (value_among entries name) (value_in (variable_of entry) name)
value_among-more [] entry name = option_or-none _
value_among-more (first ∷ entries) entry name =
    ap (λ value. option_or (value_in (variable_of first) name) value) (value_among-more entries entry name)
    ∙ sym (option_or-assoc (value_in (variable_of first) name) (value_among entries name) (value_in (variable_of entry) name))

-- these entries were read, and these are their variables
pub record AreRead (entries : List (List ℕ)) (variables : List Variable) : Type 0 where
  pub values : (name : List ℕ) → find (slice_cmp nat_cmp) name (mapped pair_of variables) ≡ value_among entries name
  pub good : HaveGoodNames (mapped pair_of variables)

pub none_read : AreRead [] []
none_read = record { values = λ name. refl; good = tt }

-- an entry without a variable
pub entry_passed : (entries : List (List ℕ)) (entry : List ℕ) (variables : List Variable) → variable_of entry ≡ None → AreRead entries variables → AreRead (entries ++ entry ∷ []) variables
entry_passed entries entry variables none read = record {
  values = λ name. read.values name ∙ sym (value_among-more entries entry name ∙ ap (λ v. option_or (value_among entries name) (value_in v name)) none ∙ option_or-none _);
  good = read.good;
}

good_names-more : (pairs : List (List ℕ × List ℕ)) (pair : List ℕ × List ℕ) → HaveGoodNames pairs → is_good_name pair.0 ≡ true → HaveGoodNames (pairs ++ pair ∷ [])
good_names-more [] pair good more = (more, tt)
good_names-more (first ∷ pairs) pair good more = (good.0, good_names-more pairs pair good.1 more)

-- and one with a variable
pub entry_read : (entries : List (List ℕ)) (entry : List ℕ) (variables : List Variable) (v : Variable) → variable_of entry ≡ Some (pair_of v) → is_good_name v.name.now ≡ true
    → AreRead entries variables → AreRead (entries ++ entry ∷ []) (variables ++ v ∷ [])
entry_read entries entry variables v is good read = record {
  values = λ name. ap (find (slice_cmp nat_cmp) name) (mapped-push variables v) ∙ value_in-append name (mapped pair_of variables) (pair_of v ∷ [])
      ∙ (λ i. option_or (read.values name i) (if sym (same_test v.name.now name) i then Some v.value.now else None))
      ∙ sym (value_among-more entries entry name ∙ ap (λ held. option_or (value_among entries name) (value_in held name)) is);
  good = subst HaveGoodNames (sym (mapped-push variables v)) (good_names-more (mapped pair_of variables) (pair_of v) read.good good);
}

-- so they are the variables of the environment
pub all_read : {E : Type 0} (entries : List (List ℕ)) (place : ℕ) (variables : List Variable) (made : Result Vars E) → length entries ≤ place → IfOk made (λ env. env ≡ listed (mapped pair_of variables))
    → AreRead (take place entries) variables → IfOk made (AreVariables entries)
all_read entries place variables (Err fault) le is read = tt
all_read entries place variables (Ok vars) le is read = λ name. ap (λ (m : Vars). map.get m name) is ∙ get-from_entries nat_list_cmp_total (mapped pair_of variables) name ∙ read.values name ∙ ap (λ es. value_among es name) (whole entries place le)
  where
    whole : (entries : List (List ℕ)) (place : ℕ) → length entries ≤ place → take place entries ≡ entries
    whole [] Prim.Native.Nat.zero le = refl
    whole [] (suc place) le = refl
    whole (entry ∷ entries) Prim.Native.Nat.zero le = absurd (omega (arith, le))
    whole (entry ∷ entries) (suc place) le = ap (λ es. entry ∷ es) (whole entries place (omega (arith, le)))
