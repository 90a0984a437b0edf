-- What decimal texts are read as.
use Rattle.std.proofs.Common.{◌≡◌, ℕ, ◌<◌, ◌^◌, true, List, [], ◌∷◌, Some, None, Result, Ok, Err, refl, sym, ap, ◌∙◌, length, arith, rules, nat_lt, false, MatchResult, subst}
use Rattle.std.specs.Str.{IsUtf8}
use Rattle.std.specs.Str.Parse.{ParsesUnsigned}
use Rattle.std.specs.Fmt.{decimal}
use Rattle.std.specs.Result.{result_ok, OkIff}
use Rattle.std.proofs.lemmas.Str.{IsUtf8-from_ascii}
use Rattle.std.proofs.lemmas.Str.Parse.{IsNumeralModel, numerals_by_fold, parse_digits, digit_at}
use Rattle.std.proofs.lemmas.Fmt.{IsAscii-from_digits, digits_decimal, digits_value-decimal, decimal_nonempty}
use Rattle.el_words.specs.Number.{are_digits, decimal_value, number_of}
use Rattle.el_words.specs.Word.{HasNul}

own : IsNumeralModel (λ ds. are_digits ds ≡ true) (decimal_value 0)
own = numerals_by_fold _ (search rules) decimal_value (search rules)

pub number_of-digits : (bytes : List ℕ) → 0 < length bytes → are_digits bytes ≡ true → decimal_value 0 bytes < 2 ^ 64 → number_of bytes ≡ Some (decimal_value 0 bytes)
number_of-digits [] some digits small = absurd (omega arith)
number_of-digits (b ∷ bs) some digits small = let lt : nat_lt (decimal_value 0 (b ∷ bs)) (2 ^ 64) ≡ true = grind arith in rw (digits, lt) refl

-- what `parse` gives of digits
pub result_ok-parse : {E : Type 0} (bytes : List ℕ) (r : Result ℕ E) → are_digits bytes ≡ true → ParsesUnsigned 64 10 bytes r → result_ok r ≡ number_of bytes
result_ok-parse bytes r digits parsed = by bytes r digits (parse_digits own 64 bytes r parsed digits)
  where
    by : {E : Type 0} (bs : List ℕ) (r : Result ℕ E) → are_digits bs ≡ true → OkIff r ((0 < length bs) × (decimal_value 0 bs < 2 ^ 64)) (decimal_value 0 bs) → result_ok r ≡ number_of bs
    by [] (Ok x) digits is = absurd (omega (arith, is.0.0))
    by [] (Err e) digits is = refl
    by (b ∷ bs) (Ok x) digits is = ap Some is.1 ∙ sym (number_of-digits (b ∷ bs) (omega arith) digits is.0.1)
    by (b ∷ bs) (Err e) digits is = let ge : nat_lt (decimal_value 0 (b ∷ bs)) (2 ^ 64) ≡ false = grind (arith, is) in rw (digits, ge) refl

pub number_of-not_digits : (bytes : List ℕ) → are_digits bytes ≡ false → None ≡ number_of bytes
number_of-not_digits [] other = refl
number_of-not_digits (b ∷ bs) other = rw other refl

pub IsUtf8-digits : (bytes : List ℕ) → are_digits bytes ≡ true → IsUtf8 bytes
IsUtf8-digits bytes digits = IsUtf8-from_ascii bytes (IsAscii-from_digits bytes (own.to bytes digits))

pub digits-no_nul : (bytes : List ℕ) → are_digits bytes ≡ true → HasNul bytes → ⊥
digits-no_nul bytes digits nul = let digit = digit_at bytes nul.0 (own.to bytes digits) nul.1 in omega (arith, digit, nul.2)

pub decimal-no_nul : (n : ℕ) → n < 2 ^ 64 → HasNul (decimal n) → ⊥
decimal-no_nul n small = digits-no_nul (decimal n) (digits_decimal own n small)

-- a number that was put as text is read back
pub number_of-decimal : (n : ℕ) → n < 2 ^ 64 → number_of (decimal n) ≡ Some n
number_of-decimal n small =
    let value = digits_value-decimal own n small in
    number_of-digits (decimal n) (decimal_nonempty n small) (digits_decimal own n small) (omega (arith, value)) ∙ ap Some value

-- the cases of a result, through its `ok`
pub MatchResult-ok : {S E : Type 0} (r : Result S E) (P : S → Type 0) (Q : E → Type 0) (s : S) → Some s ≡ result_ok r → MatchResult r P Q → P s
MatchResult-ok (Ok t) P Q s e p = let same : s ≡ t = cc in subst P (sym same) p
MatchResult-ok (Err error) P Q s e p = let no : ⊥ = cc in absurd no

pub MatchResult-not_ok : {S E : Type 0} (r : Result S E) (P : S → Type 0) (Q : E → Type 0) → None ≡ result_ok r → MatchResult r P Q → (e : E) × Q e
MatchResult-not_ok (Ok t) P Q e p = let no : ⊥ = cc in absurd no
MatchResult-not_ok (Err error) P Q e p = (error, p)
