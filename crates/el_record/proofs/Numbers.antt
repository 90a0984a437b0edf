-- A number at the front of bytes.
use Rattle.std.proofs.Common.{◌≡◌, ℕ, ◌<◌, ◌^◌, ◌==◌, Bool, true, false, true≢false, cond, if◌then◌else◌, ◌&&◌, List, [], ◌∷◌, ◌++◌, Option, Some, None, refl, sym, ap, ap₂, ◌∙◌, length, drop, arith}
use Rattle.std.specs.List.{take_while}
use Rattle.std.specs.Char.{is_ascii_digit}
use Rattle.std.specs.Fmt.{decimal}
use Rattle.std.proofs.lemmas.List.{drop_at}
use Rattle.std.proofs.lemmas.List.Sums.{take_while-cons}
use Rattle.std.proofs.lemmas.Option.{some_pair_parts}
use Rattle.std.proofs.lemmas.Fmt.{digits_decimal}
use Rattle.el_words.specs.Number.{are_digits}
use Rattle.el_transform.specs.Computed.{length_of}
use Rattle.el_transform.proofs.Lengths.{own, decimal-length_of, length_of-decimal}
use Rattle.el_record.specs.Fields.{number_before}
use Rattle.el_record.specs.Reading.{cut_semicolon, number_of_front}

abbrev digits_of : List ℕ → List ℕ
digits_of bytes = take_while is_ascii_digit bytes

digits_first : (bytes : List ℕ) → digits_of bytes ++ drop (length (digits_of bytes)) bytes ≡ bytes
digits_first [] = refl
digits_first (byte ∷ bytes) = rw (take_while-cons is_ascii_digit byte bytes) (by (is_ascii_digit byte) (digits_first bytes))
  where
    by : (b : Bool) → digits_of bytes ++ drop (length (digits_of bytes)) bytes ≡ bytes
        → cond b (byte ∷ digits_of bytes) [] ++ drop (length (cond b (byte ∷ digits_of bytes) [])) (byte ∷ bytes) ≡ byte ∷ bytes
    by true rest = ap (λ bytes. byte ∷ bytes) rest
    by false rest = refl

digits_of-semicolon : (digits bytes : List ℕ) → are_digits digits ≡ true → digits_of (digits ++ 59 ∷ bytes) ≡ digits
digits_of-semicolon [] bytes are = take_while-cons is_ascii_digit 59 bytes
digits_of-semicolon (digit ∷ digits) bytes are =
    take_while-cons is_ascii_digit digit (digits ++ 59 ∷ bytes) ∙ by (is_ascii_digit digit) (digits_of-semicolon digits bytes) are
  where
    by : (b : Bool) → (are_digits digits ≡ true → digits_of (digits ++ 59 ∷ bytes) ≡ digits) → (b && are_digits digits) ≡ true → cond b (digit ∷ digits_of (digits ++ 59 ∷ bytes)) [] ≡ digit ∷ digits
    by true later are = ap (λ digits. digit ∷ digits) (later are)
    by false later are = absurd (true≢false (sym are))

record Cut (number : Option ℕ) (bytes : List ℕ) (n : ℕ) (rest : List ℕ) : Type 0 where
  is : number ≡ Some n
  text : 59 ∷ rest ≡ bytes

cut : (number : Option ℕ) (bytes : List ℕ) (n : ℕ) (rest : List ℕ) → cut_semicolon number bytes ≡ Some (n, rest) → Cut number bytes n rest
cut None bytes n rest e = absurd (cc)
cut (Some m) [] n rest e = absurd (cc)
cut (Some m) (byte ∷ bytes) n rest e = by (byte == 59) refl e
  where
    by : (b : Bool) → (byte == 59) ≡ b → if◌then◌else◌ {A = Option (ℕ × List ℕ)} b (Some (m, bytes)) None ≡ Some (n, rest) → Cut (Some m) (byte ∷ bytes) n rest
    by true is e =
        let parts = some_pair_parts m n bytes rest e in
        let same : 59 ≡ byte = grind (arith, is) in
        record { is = ap Some parts.0; text = ap₂ (λ b r. b ∷ r) same (sym parts.1) }
    by false is e = absurd (cc)

pub number-written : (text : List ℕ) (n : ℕ) (rest : List ℕ) → number_of_front text ≡ Some (n, rest) → number_before n rest ≡ text
unfolding number_of_front
number-written text n rest e =
    let is = cut (length_of (digits_of text)) (drop (length (digits_of text)) text) n rest e in
    ap₂ (λ digits bytes. digits ++ bytes) (decimal-length_of (digits_of text) n is.is) is.text ∙ digits_first text

pub number-read : (n : ℕ) (rest : List ℕ) → n < 2 ^ 64 → number_of_front (number_before n rest) ≡ Some (n, rest)
unfolding number_of_front
number-read n rest small =
    ap (λ ds. cut_semicolon (length_of ds) (drop (length ds) (decimal n ++ 59 ∷ rest))) (digits_of-semicolon (decimal n) rest (digits_decimal own n small))
    ∙ ap₂ cut_semicolon (length_of-decimal n small) (drop_at (decimal n) (59 ∷ rest) (length (decimal n)) refl)
