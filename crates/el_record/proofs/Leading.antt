-- A number at the front of bytes, digit by digit.
use Rattle.std.proofs.Common.{◌≡◌, ℕ, ◌<◌, ◌≤◌, ◌+◌, ◌-◌, ◌*◌, ◌^◌, ◌==◌, nat_lt, Bool, true, false, cond, if◌then◌else◌, List, [], ◌∷◌, Option, Some, None, refl, sym, ap, ◌∙◌, length, drop, arith}
use Rattle.std.specs.Prelude.{option_map}
use Rattle.std.specs.List.{take_while}
use Rattle.std.specs.Char.{is_ascii_digit}
use Rattle.std.proofs.lemmas.List.Sums.{take_while-cons}
use Rattle.std.proofs.lemmas.Bool.{ltb-true, ltb-false, lt-ltb, le-ltb, ne_eqb}
use Rattle.el_words.specs.Number.{are_digits, decimal_value, within_limit, number_of}
use Rattle.el_transform.specs.Computed.{length_of, cut_word}
use Rattle.el_record.specs.Reading.{and_read, cut_semicolon, number_of_front, bytes_of_front}
use Rattle.el_record.specs.Read.{leading_number}
use Rattle.el_record.proofs.FieldLaws.{read_then, read_none}

abbrev digits_of : List ℕ → List ℕ
digits_of bytes = take_while is_ascii_digit bytes

-- the number that digits at the front write behind those of n, which isn't 0 where there are some, and the bytes behind them
abbrev pub number_behind : (n : ℕ) → List ℕ → Option (ℕ × List ℕ)
number_behind n [] = Some (n, [])
number_behind n (byte ∷ rest) = if is_ascii_digit byte then (if n == 0 then None else if nat_lt (10 * n + (byte - 48)) (2 ^ 64) then number_behind (10 * n + (byte - 48)) rest else None) else Some (n, byte ∷ rest)

are-digits : (bytes : List ℕ) → are_digits (digits_of bytes) ≡ true
are-digits [] = refl
are-digits (byte ∷ bytes) = rw (take_while-cons is_ascii_digit byte bytes) (by (is_ascii_digit byte) refl (are-digits bytes))
  where
    by : (b : Bool) → is_ascii_digit byte ≡ b → are_digits (digits_of bytes) ≡ true → are_digits (cond b (byte ∷ digits_of bytes) []) ≡ true
    by true is are = rw (is, are) refl
    by false is are = refl

grows : (digits : List ℕ) (n : ℕ) → n ≤ decimal_value n digits
grows [] n = omega arith
grows (digit ∷ digits) n = omega (arith, grows digits (10 * n + (digit - 48)))

-- a number of digits, and what stands behind them
abbrev split : (bytes : List ℕ) → Option ℕ → Option (ℕ × List ℕ)
split bytes number = option_map (λ n. (n, drop (length (digits_of bytes)) bytes)) number

abbrev Positive : List ℕ → Type 0
Positive bytes = (n : ℕ) → 0 < n → n < 2 ^ 64 → number_behind n bytes ≡ split bytes (within_limit (decimal_value n (digits_of bytes)))

positive : (bytes : List ℕ) → Positive bytes
positive [] n some small = rw (lt-ltb n (2 ^ 64) small) refl
positive (byte ∷ bytes) n some small = rw (take_while-cons is_ascii_digit byte bytes) (by (is_ascii_digit byte) (positive bytes))
  where
    m : ℕ
    m = 10 * n + (byte - 48)

    below : Positive bytes → (b : Bool) → nat_lt m (2 ^ 64) ≡ b → (if b then number_behind m bytes else None) ≡ split bytes (within_limit (decimal_value m (digits_of bytes)))
    below more true is = more m (omega (arith, some)) (ltb-true _ _ is)
    below more false is = rw (le-ltb (decimal_value m (digits_of bytes)) (2 ^ 64) (omega (arith, grows (digits_of bytes) m, ltb-false _ _ is))) refl

    by : (b : Bool) → Positive bytes → (if b then (if n == 0 then None else if nat_lt m (2 ^ 64) then number_behind m bytes else None) else Some (n, byte ∷ bytes))
        ≡ option_map (λ n. (n, drop (length (cond b (byte ∷ digits_of bytes) [])) (byte ∷ bytes))) (within_limit (decimal_value n (cond b (byte ∷ digits_of bytes) [])))
    by true more = rw (ne_eqb n 0 (λ none. absurd (omega (arith, some, none)))) (below more (nat_lt m (2 ^ 64)) refl)
    by false more = rw (lt-ltb n (2 ^ 64) small) refl

-- ---- the first digit

pub is_digit : (byte : ℕ) → 48 ≤ byte → byte ≤ 57 → is_ascii_digit byte ≡ true
is_digit byte low high = grind (arith, low, high)

number_of-first : (byte : ℕ) (digits : List ℕ) → is_ascii_digit byte ≡ true → are_digits digits ≡ true → number_of (byte ∷ digits) ≡ within_limit (decimal_value (byte - 48) digits)
number_of-first byte digits is are = let same : 10 * 0 + (byte - 48) ≡ byte - 48 = omega arith in rw (is, are) (ap (λ n. within_limit (decimal_value n digits)) same)

one_digit : (byte : ℕ) → is_ascii_digit byte ≡ true → byte - 48 < 2 ^ 64 → number_of (byte ∷ []) ≡ Some (byte - 48)
one_digit byte is small = number_of-first byte [] is refl ∙ rw (lt-ltb (byte - 48) (2 ^ 64) small) refl

-- more digits behind one that is no zero
more_digits : (byte next : ℕ) (more : List ℕ) → is_ascii_digit byte ≡ true → is_ascii_digit next ≡ true → (byte == 48) ≡ false → length_of (byte ∷ digits_of (next ∷ more)) ≡ within_limit (decimal_value (byte - 48) (digits_of (next ∷ more)))
more_digits byte next more is next_is other =
    rw (take_while-cons is_ascii_digit next more, next_is, other) (number_of-first byte (next ∷ digits_of more) is (rw (next_is, are-digits more) refl))

pub first_digit : (byte : ℕ) (rest : List ℕ) → 48 ≤ byte → byte ≤ 57 → number_behind (byte - 48) rest ≡ leading_number (byte ∷ rest)
unfolding leading_number
first_digit byte rest low high = rw (take_while-cons is_ascii_digit byte rest, is_digit byte low high) (behind rest)
  where
    is : is_ascii_digit byte ≡ true
    is = is_digit byte low high

    small : byte - 48 < 2 ^ 64
    small = omega (arith, high)

    behind : (rest : List ℕ) → number_behind (byte - 48) rest ≡ split rest (length_of (byte ∷ digits_of rest))
    behind [] = rw (one_digit byte is small) refl
    behind (next ∷ more) = by (is_ascii_digit next) refl
      where
        zero_or : is_ascii_digit next ≡ true → (b : Bool) → (byte == 48) ≡ b → number_behind (byte - 48) (next ∷ more) ≡ split (next ∷ more) (length_of (byte ∷ digits_of (next ∷ more)))
        zero_or digit true zero = let none : (byte - 48 == 0) ≡ true = grind (arith, zero) in rw (take_while-cons is_ascii_digit next more, digit, none, zero) refl
        zero_or digit false other = positive (next ∷ more) (byte - 48) (grind (arith, low, other)) small ∙ ap (split (next ∷ more)) (sym (more_digits byte next more is digit other))

        by : (b : Bool) → is_ascii_digit next ≡ b → number_behind (byte - 48) (next ∷ more) ≡ split (next ∷ more) (length_of (byte ∷ digits_of (next ∷ more)))
        by true digit = zero_or digit (byte == 48) refl
        by false other = rw (take_while-cons is_ascii_digit next more, other, one_digit byte is small) refl

-- ---- the first byte

pub nothing_first : (bytes : List ℕ) → length bytes ≡ 0 → None ≡ leading_number bytes
unfolding leading_number
nothing_first [] none = refl
nothing_first (byte ∷ bytes) none = absurd (omega (arith, none))

pub other_first : (bytes rest : List ℕ) (byte : ℕ) → bytes ≡ byte ∷ rest → is_ascii_digit byte ≡ false → None ≡ leading_number bytes
unfolding leading_number
other_first bytes rest byte first other = rw (first, take_while-cons is_ascii_digit byte rest, other) refl

pub digit_first : (bytes rest : List ℕ) (byte n : ℕ) → bytes ≡ byte ∷ rest → is_ascii_digit byte ≡ true → n ≡ byte - 48 → number_behind n rest ≡ leading_number bytes
digit_first bytes rest byte n first is same = rw (first, same) (first_digit byte rest (grind (arith, is)) (grind (arith, is)))

-- ---- what stands behind the number

number_by : (bytes : List ℕ) → number_of_front bytes ≡ and_read (leading_number bytes) (λ n text. cut_semicolon (Some n) text)
unfolding number_of_front leading_number and_read
number_by bytes = by (length_of (digits_of bytes))
  where
    by : (number : Option ℕ) → cut_semicolon number (drop (length (digits_of bytes)) bytes) ≡ and_read (split bytes number) (λ n text. cut_semicolon (Some n) text)
    by None = refl
    by (Some n) = refl

netstring_by : (bytes : List ℕ) → bytes_of_front bytes ≡ and_read (leading_number bytes) (λ n text. cut_word (Some n) text)
unfolding bytes_of_front leading_number and_read
netstring_by bytes = by (length_of (digits_of bytes))
  where
    by : (number : Option ℕ) → cut_word number (drop (length (digits_of bytes)) bytes) ≡ and_read (split bytes number) (λ n text. cut_word (Some n) text)
    by None = refl
    by (Some n) = refl

pub no_number : (bytes : List ℕ) → None ≡ leading_number bytes → number_of_front bytes ≡ None
no_number bytes none = number_by bytes ∙ read_none _ _ (sym none)

pub number_then : (bytes text : List ℕ) (n : ℕ) (found : Option (ℕ × List ℕ)) → Some (n, text) ≡ leading_number bytes → found ≡ cut_semicolon (Some n) text → number_of_front bytes ≡ found
number_then bytes text n found is next_is = number_by bytes ∙ read_then _ _ _ _ _ (sym is) (sym next_is)

pub no_netstring : (bytes : List ℕ) → None ≡ leading_number bytes → bytes_of_front bytes ≡ None
no_netstring bytes none = netstring_by bytes ∙ read_none _ _ (sym none)

pub netstring_then : (bytes text : List ℕ) (n : ℕ) (found : Option (List ℕ × List ℕ)) → Some (n, text) ≡ leading_number bytes → found ≡ cut_word (Some n) text → bytes_of_front bytes ≡ found
netstring_then bytes text n found is next_is = netstring_by bytes ∙ read_then _ _ _ _ _ (sym is) (sym next_is)
