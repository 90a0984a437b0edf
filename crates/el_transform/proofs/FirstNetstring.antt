-- A value begins with one netstring at most, which `netstring_of` finds.
use Rattle.std.proofs.Common.{◌≡◌, ℕ, ◌<◌, ◌≤◌, ◌+◌, ◌^◌, ◌==◌, Bool, true, false, true≢false, cond, if◌then◌else◌, ◌&&◌, List, [], ◌∷◌, ◌++◌, Option, Some, None, refl, sym, ap, ap₂, ◌∙◌, length, take, drop, arith, append_assoc, length-append, length-take, length-drop}
use Rattle.std.specs.List.{take_while}
use Rattle.std.specs.Char.{is_ascii_digit}
use Rattle.std.specs.Fmt.{decimal}
use Rattle.std.proofs.lemmas.List.{take-append-drop, take_at, drop_at}
use Rattle.std.proofs.lemmas.List.Sums.{take_while-cons}
use Rattle.std.proofs.lemmas.Option.{some_pair_parts}
use Rattle.std.proofs.lemmas.Fmt.{digits_decimal}
use Rattle.el_words.specs.Number.{are_digits}
use Rattle.el_transform.specs.Netstrings.{netstring_text}
use Rattle.el_transform.specs.Computed.{length_of, cut_comma, cut_word, netstring_of}
use Rattle.el_transform.proofs.Lengths.{own, decimal-length_of, length_of-decimal}

abbrev digits_of : List ℕ → List ℕ
digits_of bytes = take_while is_ascii_digit bytes

-- a value is its first digits and what stands behind them
digits_first : (bytes : List ℕ) → digits_of bytes ++ drop (length (digits_of bytes)) bytes ≡ bytes
digits_first [] = refl
digits_first (byte ∷ bytes) = rw (take_while-cons is_ascii_digit byte bytes) (by (is_ascii_digit byte) (digits_first bytes))
  where
    by : (b : Bool) → digits_of bytes ++ drop (length (digits_of bytes)) bytes ≡ bytes
        → cond b (byte ∷ digits_of bytes) [] ++ drop (length (cond b (byte ∷ digits_of bytes) [])) (byte ∷ bytes) ≡ byte ∷ bytes
    by true rest = ap (λ bytes. byte ∷ bytes) rest
    by false rest = refl

-- digits before a colon are all the digits
digits_of-colon : (digits bytes : List ℕ) → are_digits digits ≡ true → digits_of (digits ++ 58 ∷ bytes) ≡ digits
digits_of-colon [] bytes are = take_while-cons is_ascii_digit 58 bytes
digits_of-colon (digit ∷ digits) bytes are =
    take_while-cons is_ascii_digit digit (digits ++ 58 ∷ bytes) ∙ by (is_ascii_digit digit) (digits_of-colon digits bytes) are
  where
    by : (b : Bool) → (are_digits digits ≡ true → digits_of (digits ++ 58 ∷ bytes) ≡ digits) → (b && are_digits digits) ≡ true → cond b (digit ∷ digits_of (digits ++ 58 ∷ bytes)) [] ≡ digit ∷ digits
    by true later are = ap (λ digits. digit ∷ digits) (later are)
    by false later are = absurd (true≢false (sym are))

-- a word with its colon and its comma
record Cut (length_is : Option ℕ) (bytes word rest : List ℕ) : Type 0 where
  is : length_is ≡ Some (length word)
  text : 58 ∷ (word ++ 44 ∷ rest) ≡ bytes

length_of_front : (count byte : ℕ) (bytes rest : List ℕ) → byte ∷ rest ≡ drop count bytes → length (take count bytes) ≡ count
length_of_front count byte bytes rest e = omega (arith, ap length e, length-take count bytes, length-drop count bytes)

cut-comma : (count : ℕ) (bytes word rest : List ℕ) (front back : List ℕ) → front ≡ take count bytes → back ≡ drop count bytes → cut_comma front back ≡ Some (word, rest) → Cut (Some count) (58 ∷ bytes) word rest
cut-comma count bytes word rest front [] is_front is_back e = absurd (cc)
cut-comma count bytes word rest front (byte ∷ back) is_front is_back e = by (byte == 44) refl e
  where
    by : (b : Bool) → (byte == 44) ≡ b → if◌then◌else◌ {A = Option (List ℕ × List ℕ)} b (Some (front, back)) None ≡ Some (word, rest) → Cut (Some count) (58 ∷ bytes) word rest
    by true comma e =
        let parts = some_pair_parts front word back rest e in
        let is_comma : 44 ≡ byte = grind (arith, comma) in
        record {
          is = ap Some (sym (length_of_front count byte bytes back is_back) ∙ ap length (sym is_front ∙ parts.0));
          text = ap (λ bytes. 58 ∷ bytes) (ap₂ (λ w r. w ++ r) (sym parts.0 ∙ is_front) (ap₂ (λ b r. b ∷ r) is_comma (sym parts.1) ∙ is_back) ∙ take-append-drop count bytes);
        }
    by false other e = absurd (cc)

cut-word : (length_is : Option ℕ) (bytes word rest : List ℕ) → cut_word length_is bytes ≡ Some (word, rest) → Cut length_is bytes word rest
cut-word None bytes word rest e = absurd (cc)
cut-word (Some count) [] word rest e = absurd (cc)
cut-word (Some count) (byte ∷ bytes) word rest e = by (byte == 58) refl e
  where
    by : (b : Bool) → (byte == 58) ≡ b → (if b then cut_comma (take count bytes) (drop count bytes) else None) ≡ Some (word, rest) → Cut (Some count) (byte ∷ bytes) word rest
    by true colon e = let is : byte ≡ 58 = grind (arith, colon) in rw is (cut-comma count bytes word rest _ _ refl refl e)
    by false other e = absurd (cc)

text_of : (word rest : List ℕ) → netstring_text word ++ rest ≡ decimal (length word) ++ 58 ∷ (word ++ 44 ∷ rest)
text_of word rest =
    append_assoc (decimal (length word)) (58 ∷ (word ++ 44 ∷ [])) rest
    ∙ ap (λ bytes. decimal (length word) ++ 58 ∷ bytes) (append_assoc word (44 ∷ []) rest)

-- what is found is there
pub netstring_of-some : (bytes word rest : List ℕ) → netstring_of bytes ≡ Some (word, rest) → netstring_text word ++ rest ≡ bytes
netstring_of-some bytes word rest e =
    let cut = cut-word (length_of (digits_of bytes)) (drop (length (digits_of bytes)) bytes) word rest e in
    text_of word rest
    ∙ ap₂ (λ digits bytes. digits ++ bytes) (decimal-length_of (digits_of bytes) (length word) cut.is) cut.text
    ∙ digits_first bytes

-- what is there is found
pub netstring_of-text : (word rest : List ℕ) → length word < 2 ^ 64 → netstring_of (netstring_text word ++ rest) ≡ Some (word, rest)
netstring_of-text word rest small =
    let digits = decimal (length word) in
    let bytes = word ++ 44 ∷ rest in
    ap netstring_of (text_of word rest)
    ∙ ap (λ ds. cut_word (length_of ds) (drop (length ds) (digits ++ 58 ∷ bytes))) (digits_of-colon digits bytes (digits_decimal own (length word) small))
    ∙ ap₂ cut_word (length_of-decimal (length word) small) (drop_at digits (58 ∷ bytes) (length digits) refl)
    ∙ ap₂ cut_comma (take_at word (44 ∷ rest) (length word) refl) (drop_at word (44 ∷ rest) (length word) refl)

pub length-text : (word rest : List ℕ) → length word + length rest + 2 ≤ length (netstring_text word ++ rest)
length-text word rest = omega (arith, ap length (text_of word rest), length-append (decimal (length word)) (58 ∷ (word ++ 44 ∷ rest)), length-append word (44 ∷ rest))

-- a value has one first netstring
pub first_is_one : (word rest other more : List ℕ) → length (netstring_text word ++ rest) < 2 ^ 64 → netstring_text word ++ rest ≡ netstring_text other ++ more → (word ≡ other) × (rest ≡ more)
first_is_one word rest other more small same =
    some_pair_parts word other rest more
    (sym (netstring_of-text word rest (omega (arith, length-text word rest)))
    ∙ ap netstring_of same
    ∙ netstring_of-text other more (omega (arith, length-text other more, ap length same)))

take-digits : (bytes : List ℕ) → take (length (digits_of bytes)) bytes ≡ digits_of bytes
take-digits bytes = ap (λ front. take (length (digits_of bytes)) front) (sym (digits_first bytes)) ∙ take_at (digits_of bytes) _ (length (digits_of bytes)) refl

-- the first netstring, by the digits and what stands behind them
pub cut-digits : (bytes front back : List ℕ) (count : ℕ) → count ≡ length (digits_of bytes) → front ≡ take count bytes → back ≡ drop count bytes → cut_word (length_of front) back ≡ netstring_of bytes
cut-digits bytes front back count is is_front is_back =
    ap₂ (λ digits text. cut_word (length_of digits) text) (is_front ∙ ap (λ n. take n bytes) is ∙ take-digits bytes) (is_back ∙ ap (λ n. drop n bytes) is)

pub count_within : (bytes : List ℕ) (count : ℕ) → count ≡ length (digits_of bytes) → count ≤ length bytes
count_within bytes count is = omega (arith, ap length (take-digits bytes), length-take (length (digits_of bytes)) bytes)
