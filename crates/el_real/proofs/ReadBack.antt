-- The entries that a child is given hold just the variables that it is to have.
use Rattle.std.proofs.Common.{◌≡◌, ℕ, suc, ◌+◌, ◌==◌, ◌||◌, Bool, true, false, true≢false, cond, List, [], ◌∷◌, ◌++◌, length, length-append, take, drop, None, Some, refl, sym, ap, ◌∙◌, arith, add-one, if◌then◌else◌, map as mapped}
use Rattle.std.proofs.lemmas.Bool.{not-true}
use Rattle.std.specs.List.{list_any, position_or_len}
use Rattle.std.specs.Option.{option_or}
use Rattle.std.specs.Str.{bytes_eq}
use Rattle.std.specs.Ordering.{nat_cmp, eq_by_cmp}
use Rattle.std.specs.Cmp.Lexicographic.{slice_cmp}
use Rattle.std.specs.FinMap as map
use Rattle.std.specs.FinMap.{find, get-entries}
use Rattle.el_env.specs.Name.{is_good_name}
use Rattle.el_env.specs.Vars.{Vars}
use Rattle.el_real.specs.Commands.{entry_of, entries_of}
use Rattle.el_real.specs.Variables.{is_equals, variable_of, value_in, value_among, AreVariables}
use Rattle.el_env.specs.Inherited.{HaveGoodNames}
use Rattle.el_real.proofs.Names.{same_test}
use Rattle.el_real.proofs.Entries.{variable_of-some}

one_more : (n : ℕ) → 1 + n ≡ suc n
one_more n = omega arith

-- the first `=` of an entry stands behind the name
behind_name : (name value : List ℕ) → list_any is_equals name ≡ false → position_or_len is_equals (name ++ 61 ∷ value) ≡ length name
behind_name [] value none = refl
behind_name (byte ∷ name) value none = by (byte == 61) refl none (behind_name name value)
  where
    by : (is : Bool) → (byte == 61) ≡ is → (is || list_any is_equals name) ≡ false
        → (list_any is_equals name ≡ false → position_or_len is_equals (name ++ 61 ∷ value) ≡ length name) → position_or_len is_equals (byte ∷ name ++ 61 ∷ value) ≡ suc (length name)
    by true is none rest = absurd (true≢false none)
    by false is none rest = rw is (ap (λ n. 1 + n) (rest none) ∙ one_more (length name))

name_before : (name rest : List ℕ) → take (length name) (name ++ rest) ≡ name
name_before [] rest = refl
name_before (byte ∷ name) rest = ap (λ bytes. byte ∷ bytes) (name_before name rest)

value_behind : (name value : List ℕ) → drop (suc (length name)) (name ++ 61 ∷ value) ≡ value
value_behind [] value = refl
value_behind (byte ∷ name) value = value_behind name value

-- an entry holds its variable
pub variable-entry : (name value : List ℕ) → is_good_name name ≡ true → variable_of (entry_of (name, value)) ≡ Some (name, value)
variable-entry [] value good = absurd (true≢false (sym good))
variable-entry (byte ∷ name) value good =
    let whole = byte ∷ name in
    variable_of-some (whole ++ 61 ∷ value) (length whole) (behind_name whole value (not-true (list_any is_equals whole) good)) (omega arith)
    (let longer : length (whole ++ 61 ∷ value) ≡ length whole + length (61 ∷ value) = length-append whole (61 ∷ value) in omega (arith, longer))
    ∙ ap (λ (parts : List ℕ × List ℕ). Some parts) (λ i. (name_before whole (61 ∷ value) i, (ap (λ n. drop n (whole ++ 61 ∷ value)) (add-one (length whole)) ∙ value_behind whole value) i))

-- and so do all
pub value_among-entries : (variables : List (List ℕ × List ℕ)) (name : List ℕ) → HaveGoodNames variables → value_among (mapped entry_of variables) name ≡ find (slice_cmp nat_cmp) name variables
value_among-entries [] name good = refl
value_among-entries (variable ∷ variables) name good =
    ap (λ held. option_or (value_in held name) (value_among (mapped entry_of variables) name)) (variable-entry variable.0 variable.1 good.0)
    ∙ ap (option_or (value_in (Some variable) name)) (value_among-entries variables name good.1)
    ∙ by (bytes_eq variable.0 name) refl
  where
    by : (b : Bool) → bytes_eq variable.0 name ≡ b
        → option_or (if b then Some variable.1 else None) (find (slice_cmp nat_cmp) name variables) ≡ cond (eq_by_cmp (slice_cmp nat_cmp) name variable.0) (Some variable.1) (find (slice_cmp nat_cmp) name variables)
    by true is = ap (λ b. cond b (Some variable.1) (find (slice_cmp nat_cmp) name variables)) (sym is ∙ same_test variable.0 name)
    by false is = ap (λ b. cond b (Some variable.1) (find (slice_cmp nat_cmp) name variables)) (sym is ∙ same_test variable.0 name)

-- a child reads the variables back that it was started with
pub reads_back : (vars : Vars) → HaveGoodNames (map.entries vars) → AreVariables (entries_of vars) vars
reads_back vars good name = get-entries vars name ∙ sym (value_among-entries (map.entries vars) name good)
