-- Decimal lengths without leading zeros.
use Rattle.std.proofs.Common.{◌≡◌, ℕ, ◌<◌, ◌^◌, ◌==◌, nat_lt, Bool, true, false, if◌then◌else◌, List, [], ◌∷◌, Some, None, refl, sym, ap, ◌∙◌, length, get_or, arith, rules}
use Rattle.std.specs.Fmt.{decimal}
use Rattle.std.proofs.lemmas.Fmt.{decimal-digits_value, decimal_digit, first_decimal}
use Rattle.std.proofs.lemmas.Str.Parse.{IsNumeralModel, numerals_by_fold}
use Rattle.el_words.specs.Number.{are_digits, decimal_value, number_of}
use Rattle.el_words.proofs.Numbers.{number_of-decimal}
use Rattle.el_transform.specs.Computed.{length_of}

pub own : IsNumeralModel (λ ds. are_digits ds ≡ true) (decimal_value 0)
own = numerals_by_fold _ (search rules) decimal_value (search rules)

-- what a text that is read as a number is
record Written (digits : List ℕ) (n : ℕ) : Type 0 where
  some : 0 < length digits
  are : are_digits digits ≡ true
  small : n < 2 ^ 64
  value : decimal_value 0 digits ≡ n

written : (digits : List ℕ) (n : ℕ) → number_of digits ≡ Some n → Written digits n
written [] n e = absurd (cc)
written (digit ∷ digits) n e = by (are_digits (digit ∷ digits)) (nat_lt value (2 ^ 64)) refl refl e
  where
    value : ℕ
    value = decimal_value 0 (digit ∷ digits)

    by : (all small : Bool) → are_digits (digit ∷ digits) ≡ all → nat_lt (decimal_value 0 (digit ∷ digits)) (2 ^ 64) ≡ small
        → (if all then (if small then Some (decimal_value 0 (digit ∷ digits)) else None) else None) ≡ Some n → Written (digit ∷ digits) n
    by true true are small e = let same : decimal_value 0 (digit ∷ digits) ≡ n = cc in record { some = omega arith; are = are; small = grind (arith, small, same); value = same }
    by true false are small e = absurd (cc)
    by false small are is e = absurd (cc)

decimal-written : (digits : List ℕ) (n : ℕ) → number_of digits ≡ Some n → (get_or digits 0 0 ≡ 48 → length digits ≡ 1) → decimal n ≡ digits
decimal-written digits n e no_zero =
    let is = written digits n e in
    ap decimal (sym is.value) ∙ decimal-digits_value own digits is.are is.some no_zero (omega (arith, is.value, is.small))

-- a length is what is written of it
pub decimal-length_of : (digits : List ℕ) (n : ℕ) → length_of digits ≡ Some n → decimal n ≡ digits
decimal-length_of [] n e = absurd (cc)
decimal-length_of (digit ∷ []) n e = decimal-written (digit ∷ []) n e (λ zero. refl)
decimal-length_of (digit ∷ next ∷ digits) n e = by (digit == 48) refl e
  where
    by : (b : Bool) → (digit == 48) ≡ b → (if b then None else number_of (digit ∷ next ∷ digits)) ≡ Some n → decimal n ≡ digit ∷ next ∷ digits
    by true zero e = absurd (cc)
    by false other e = decimal-written (digit ∷ next ∷ digits) n e (λ zero. absurd (grind (arith, zero, other)))

length_of-number : (digits : List ℕ) (n : ℕ) → number_of digits ≡ Some n → (get_or digits 0 0 ≡ 48 → length digits ≡ 1) → length_of digits ≡ Some n
length_of-number [] n e no_zero = absurd (cc)
length_of-number (digit ∷ []) n e no_zero = e
length_of-number (digit ∷ next ∷ digits) n e no_zero =
    let other : (digit == 48) ≡ false = grind (arith, no_zero) in
    rw other e

-- and what is written of a length is read back
pub length_of-decimal : (n : ℕ) → n < 2 ^ 64 → length_of (decimal n) ≡ Some n
length_of-decimal Prim.Native.Nat.zero small = length_of-number (decimal 0) 0 (number_of-decimal 0 small) (λ zero. ap length (decimal_digit 0 (omega arith)))
length_of-decimal (Prim.Native.Nat.suc n) small =
    length_of-number (decimal (Prim.Native.Nat.suc n)) (Prim.Native.Nat.suc n) (number_of-decimal _ small)
    (λ zero. absurd (omega (arith, first_decimal (Prim.Native.Nat.suc n) (omega arith) small)))
