-- Every script has a reading or a fault; so what the scanner gives is what it has.
use Rattle.std.proofs.Common.{◌≡◌, ◌⊎◌, ℕ, ◌+◌, ◌<◌, ◌≤◌, Bool, true, false, List, [], ◌∷◌, ◌++◌, Ok, Err, refl, sym, ap, ◌∙◌, length, drop, suc, arith, subst, true≢false, append_assoc, append-nil, length-append, not, inl, inr}
use Rattle.std.specs.Prelude.{◌==◌, ◌&&◌, ◌||◌, nat_le, nat_lt}
use Rattle.std.specs.List.{list_all}
use Rattle.std.proofs.lemmas.Bool.{and_from}
use Rattle.std.proofs.Math.Bool.{or-true}
use Rattle.el_lex.specs.declared.token.Token.{Token}
use Rattle.el_lex.specs.declared.fault.LexKind.{LexKind}
use Rattle.el_lex.specs.declared.fault.LexKind.TheVariants.{Nul, EndAfterBackslash, BadNumber, ByteTooLarge, NulEscape, OpenQuote}
use Rattle.el_lex.specs.Bytes.{is_one_of, is_whitespace, is_digit, is_octal_digit, is_hexadecimal_digit, begins_with, is_over_or}
use Rattle.el_lex.specs.Pieces.{Inner, Bare, Named, Hexadecimal, Octal, Decimal, Piece, Plain, Escaped, Quoted, inner_text, inners_text, piece_text, pieces_text, is_longest_run, is_number_escape, escape_number, is_byte_value, fits_inner, fit_inners, fits_piece, fit_pieces, begins_comment}
use Rattle.el_lex.specs.Reading.{Item, Blank, Comment, Wordly, item_text, text, is_comment, fits_item, fit, newlines_in, tokens_from, Reads, ReadsSome}
use Rattle.el_lex.specs.Faults.{Cut, InComment, InWord, InQuotes, cut_text, fits_cut, EscapeNext, Cause, nul, escaped_nul_in_word, escaped_nul_in_quotes, end_in_word, end_in_quotes, bad_number, too_large, zero_escape as zero_cause, open_quote, text_before, FaultsAt, FaultsSome}
use Rattle.el_lex.specs.Scan.{AtGap, run, scan}
use Rattle.el_lex.proofs.Digits.{run-passes, run-within}
use Rattle.el_lex.proofs.Printed.{fit_inners-seam, reads-scanned}
use Rattle.el_lex.proofs.Stops.{fault-scanned, ok-same, err-same, never}

-- ---- escapes

pub run-splits : (test : ℕ → Bool) (most : ℕ) (bytes : List ℕ) → run test most bytes ++ drop (length (run test most bytes)) bytes ≡ bytes
run-splits test Prim.Native.Nat.zero bytes = refl
run-splits test (suc most) [] = refl
run-splits test (suc most) (byte ∷ bytes) = by (test byte) refl (run-splits test most bytes)
  where
    by : (b : Bool) → test byte ≡ b → run test most bytes ++ drop (length (run test most bytes)) bytes ≡ bytes
        → run test (suc most) (byte ∷ bytes) ++ drop (length (run test (suc most) (byte ∷ bytes))) (byte ∷ bytes) ≡ byte ∷ bytes
    by true is later = rw is (ap (λ (more : List ℕ). byte ∷ more) later)
    by false is later = rw is refl

run-ends : (test : ℕ → Bool) (most : ℕ) (bytes : List ℕ) → (length (run test most bytes) ≡ most) ⊎ (begins_with test (drop (length (run test most bytes)) bytes) ≡ false)
run-ends test Prim.Native.Nat.zero bytes = inl refl
run-ends test (suc most) [] = inr refl
run-ends test (suc most) (byte ∷ bytes) = by (test byte) refl (run-ends test most bytes)
  where
    by : (b : Bool) → test byte ≡ b → (length (run test most bytes) ≡ most) ⊎ (begins_with test (drop (length (run test most bytes)) bytes) ≡ false)
        → (length (run test (suc most) (byte ∷ bytes)) ≡ suc most) ⊎ (begins_with test (drop (length (run test (suc most) (byte ∷ bytes))) (byte ∷ bytes)) ≡ false)
    by true is (inl full) = inl (rw is (ap suc full))
    by true is (inr over) = inr (rw is over)
    by false is later = inr (rw is is)

run-longest : (test : ℕ → Bool) (most : ℕ) (bytes : List ℕ) → is_longest_run test most (run test most bytes) (drop (length (run test most bytes)) bytes) ≡ true
run-longest test most bytes =
    let digits = run test most bytes in
    let after = drop (length digits) bytes in
    let few = run-within test most bytes in
    and_from (list_all test digits) (nat_le (length digits) most && ((length digits == most) || not (begins_with test after))) (run-passes test most bytes)
    (and_from (nat_le (length digits) most) ((length digits == most) || not (begins_with test after)) (grind (arith, few)) (by (run-ends test most bytes)))
  where
    by : (length (run test most bytes) ≡ most) ⊎ (begins_with test (drop (length (run test most bytes)) bytes) ≡ false)
        → ((length (run test most bytes) == most) || not (begins_with test (drop (length (run test most bytes)) bytes))) ≡ true
    by (inl full) = let same : (length (run test most bytes) == most) ≡ true = grind (arith, full) in rw same refl
    by (inr over) = rw over (or-true (length (run test most bytes) == most))

-- a fault in quotes, whatever stands before it
record QuotesFault (rest : List ℕ) : Type 0 where
  kind : LexKind
  cause : (pieces : List Piece) (inners : List Inner) → Cause kind (InQuotes pieces inners) rest

record EscapeFits (whole : List ℕ) : Type 0 where
  inner : Inner
  after : List ℕ
  fits : fits_inner inner after ≡ true
  is_text : inner_text inner ++ after ≡ whole

-- a number escape is a byte, or a fault
number-found : (inner : Inner) (after whole : List ℕ) → inner_text inner ++ after ≡ whole → is_number_escape inner after ≡ true → (is_byte_value (escape_number inner) ≡ true → fits_inner inner after ≡ true)
    → EscapeFits whole ⊎ QuotesFault whole
number-found inner after whole is_text is fits = by (escape_number inner == 0) refl (nat_lt 255 (escape_number inner)) refl
  where
    next : (number : ℕ) → escape_number inner ≡ number → EscapeNext whole number
    next number same = record { escape = inner; after = after; is_rest = is_text; is_escape = is; is_number = same }

    by : (zero : Bool) → (escape_number inner == 0) ≡ zero → (large : Bool) → nat_lt 255 (escape_number inner) ≡ large → EscapeFits whole ⊎ QuotesFault whole
    by true is_zero large is_large = inr (record { kind = NulEscape; cause = λ pieces inners. zero_cause (next 0 (grind (arith, is_zero))) })
    by false is_zero true is_large = inr (record { kind = ByteTooLarge; cause = λ pieces inners. too_large (next (escape_number inner) refl) (grind (arith, is_large)) })
    by false is_zero false is_large = inl (record { inner = inner; after = after; fits = fits (grind (arith, is_zero, is_large)); is_text = is_text })

octal-found : (rest : List ℕ) → begins_with (λ byte. byte == 120) rest ≡ false → EscapeFits (92 ∷ 48 ∷ rest) ⊎ QuotesFault (92 ∷ 48 ∷ rest)
octal-found rest other =
    let digits = run is_octal_digit 3 rest in
    let after = drop (length digits) rest in
    let longest = is_longest_run is_octal_digit 3 digits after in
    let no_x = not ((length digits == 0) && begins_with (λ byte. byte == 120) after) in
    let is = and_from longest no_x (run-longest is_octal_digit 3 rest) (by digits (run-splits is_octal_digit 3 rest)) in
    number-found (Octal digits) after (92 ∷ 48 ∷ rest) (ap (λ (bytes : List ℕ). 92 ∷ 48 ∷ bytes) (run-splits is_octal_digit 3 rest)) is
    (λ value. and_from (is_number_escape (Octal digits) after) (is_byte_value (escape_number (Octal digits))) is value)
  where
    by : (digits : List ℕ) → digits ++ drop (length digits) rest ≡ rest → not ((length digits == 0) && begins_with (λ byte. byte == 120) (drop (length digits) rest)) ≡ true
    by [] same = rw other refl
    by (digit ∷ digits) same = let some : (length (digit ∷ digits) == 0) ≡ false = grind arith in rw some refl

hexadecimal-found : (rest : List ℕ) (digit : Bool) → begins_with is_hexadecimal_digit rest ≡ digit → EscapeFits (92 ∷ 48 ∷ 120 ∷ rest) ⊎ QuotesFault (92 ∷ 48 ∷ 120 ∷ rest)
hexadecimal-found rest false none = inr (record { kind = BadNumber; cause = λ pieces inners. bad_number (record { after = rest; is_rest = refl; no_digit = none }) })
hexadecimal-found rest true some =
    let digits = run is_hexadecimal_digit 2 rest in
    let after = drop (length digits) rest in
    let is = and_from (is_longest_run is_hexadecimal_digit 2 digits after) (not (length digits == 0)) (run-longest is_hexadecimal_digit 2 rest) (by rest some) in
    number-found (Hexadecimal digits) after (92 ∷ 48 ∷ 120 ∷ rest) (ap (λ (bytes : List ℕ). 92 ∷ 48 ∷ 120 ∷ bytes) (run-splits is_hexadecimal_digit 2 rest)) is
    (λ value. and_from (is_number_escape (Hexadecimal digits) after) (is_byte_value (escape_number (Hexadecimal digits))) is value)
  where
    by : (rest : List ℕ) → begins_with is_hexadecimal_digit rest ≡ true → not (length (run is_hexadecimal_digit 2 rest) == 0) ≡ true
    by [] some = let no : ⊥ = true≢false (sym some) in absurd no
    by (byte ∷ rest) some = rw some (no_zero (length (run is_hexadecimal_digit 1 rest)))
      where
        no_zero : (n : ℕ) → not (suc n == 0) ≡ true
        no_zero n = let some : (suc n == 0) ≡ false = grind arith in rw some refl

decimal-found : (digit : ℕ) (rest : List ℕ) → is_digit digit ≡ true → (digit == 48) ≡ false → EscapeFits (92 ∷ digit ∷ rest) ⊎ QuotesFault (92 ∷ digit ∷ rest)
decimal-found digit rest is_digit_is no_zero =
    let bytes = digit ∷ rest in
    let digits = run is_digit 3 bytes in
    let after = drop (length digits) bytes in
    let begins : begins_with (λ byte. not (byte == 48)) digits ≡ true = rw is_digit_is (rw no_zero refl) in
    let is = and_from (is_longest_run is_digit 3 digits after) (begins_with (λ byte. not (byte == 48)) digits) (run-longest is_digit 3 bytes) begins in
    number-found (Decimal digits) after (92 ∷ bytes) (ap (λ (more : List ℕ). 92 ∷ more) (run-splits is_digit 3 bytes)) is
    (λ value. and_from (is_number_escape (Decimal digits) after) (is_byte_value (escape_number (Decimal digits))) is value)

zero-found : (rest : List ℕ) → EscapeFits (92 ∷ 48 ∷ rest) ⊎ QuotesFault (92 ∷ 48 ∷ rest)
zero-found [] = octal-found [] refl
zero-found (byte ∷ rest) = by (byte == 120) refl
  where
    by : (b : Bool) → (byte == 120) ≡ b → EscapeFits (92 ∷ 48 ∷ byte ∷ rest) ⊎ QuotesFault (92 ∷ 48 ∷ byte ∷ rest)
    by true is =
        let same : 120 ≡ byte = grind (arith, is) in
        let P : ℕ → Type 0 = λ b. EscapeFits (92 ∷ 48 ∷ b ∷ rest) ⊎ QuotesFault (92 ∷ 48 ∷ b ∷ rest) in
        subst P same (hexadecimal-found rest (begins_with is_hexadecimal_digit rest) refl)
    by false is = octal-found (byte ∷ rest) is

escape-found : (bytes : List ℕ) → EscapeFits (92 ∷ bytes) ⊎ QuotesFault (92 ∷ bytes)
escape-found [] = inr (record { kind = EndAfterBackslash; cause = λ pieces inners. end_in_quotes })
escape-found (byte ∷ rest) = by (byte == 0) refl (byte == 48) refl (is_digit byte) refl
  where
    by : (nul_is : Bool) → (byte == 0) ≡ nul_is → (zero_is : Bool) → (byte == 48) ≡ zero_is → (digit_is : Bool) → is_digit byte ≡ digit_is → EscapeFits (92 ∷ byte ∷ rest) ⊎ QuotesFault (92 ∷ byte ∷ rest)
    by true is_nul zero_is is_zero digit_is is_digit_is =
        let same : 0 ≡ byte = grind (arith, is_nul) in
        inr (record { kind = Nul; cause = λ pieces inners. escaped_nul_in_quotes (rest, ap (λ b. 92 ∷ b ∷ rest) same) })
    by false is_nul true is_zero digit_is is_digit_is =
        let same : 48 ≡ byte = grind (arith, is_zero) in
        let P : ℕ → Type 0 = λ b. EscapeFits (92 ∷ b ∷ rest) ⊎ QuotesFault (92 ∷ b ∷ rest) in
        subst P same (zero-found rest)
    by false is_nul false is_zero true is_digit_is = decimal-found byte rest is_digit_is is_zero
    by false is_nul false is_zero false is_digit_is = inl (record { inner = Named byte; after = rest; fits = rw (is_nul, is_digit_is) refl; is_text = refl })

-- ---- quoted strings

inner-nonempty : (inner : Inner) → 0 < length (inner_text inner)
inner-nonempty (Bare byte) = omega arith
inner-nonempty (Named byte) = omega arith
inner-nonempty (Hexadecimal digits) = omega arith
inner-nonempty (Octal digits) = omega arith
inner-nonempty (Decimal digits) = omega arith

record Quotes (bytes : List ℕ) : Type 0 where
  inners : List Inner
  rest : List ℕ
  fits : fit_inners inners rest ≡ true
  is_text : inners_text inners ++ rest ≡ bytes
  ends : ((after : List ℕ) × (34 ∷ after ≡ rest)) ⊎ QuotesFault rest

-- one more in front
quotes-more : (inner : Inner) (after bytes : List ℕ) → fits_inner inner after ≡ true → inner_text inner ++ after ≡ bytes → Quotes after → Quotes bytes
quotes-more inner after bytes fits is_text more =
    let whole = inners_text more.inners ++ more.rest in
    record {
      inners = inner ∷ more.inners;
      rest = more.rest;
      fits = and_from (fits_inner inner whole) (fit_inners more.inners more.rest) (ap (fits_inner inner) more.is_text ∙ fits) more.fits;
      is_text = append_assoc (inner_text inner) (inners_text more.inners) more.rest ∙ ap (λ (b : List ℕ). inner_text inner ++ b) more.is_text ∙ is_text;
      ends = more.ends;
    }

shorter : (text after bytes : List ℕ) (n : ℕ) → text ++ after ≡ bytes → 0 < length text → length bytes ≤ suc n → length after ≤ n
shorter text after bytes n same some few = omega (arith, length-append text after, ap length same)

quotes-found : (n : ℕ) (bytes : List ℕ) → length bytes ≤ n → Quotes bytes
quotes-found n [] few = record { inners = []; rest = []; fits = refl; is_text = refl; ends = inr (record { kind = OpenQuote; cause = λ pieces inners. open_quote }) }
quotes-found Prim.Native.Nat.zero (byte ∷ bytes) few = absurd (omega (arith, few))
quotes-found (suc n) (byte ∷ bytes) few = by (quotes-found n) (byte == 34) refl (byte == 0) refl (byte == 92) refl
  where
    stops : ((after : List ℕ) × (34 ∷ after ≡ byte ∷ bytes)) ⊎ QuotesFault (byte ∷ bytes) → Quotes (byte ∷ bytes)
    stops ends = record { inners = []; rest = byte ∷ bytes; fits = refl; is_text = refl; ends = ends }

    escaped : ((more : List ℕ) → length more ≤ n → Quotes more) → EscapeFits (byte ∷ bytes) ⊎ QuotesFault (byte ∷ bytes) → Quotes (byte ∷ bytes)
    escaped later (inl read) = quotes-more read.inner read.after (byte ∷ bytes) read.fits read.is_text
        (later read.after (shorter (inner_text read.inner) read.after (byte ∷ bytes) n read.is_text (inner-nonempty read.inner) few))
    escaped later (inr fault) = stops (inr fault)

    by : ((more : List ℕ) → length more ≤ n → Quotes more) → (quote_is : Bool) → (byte == 34) ≡ quote_is → (nul_is : Bool) → (byte == 0) ≡ nul_is → (slash_is : Bool) → (byte == 92) ≡ slash_is → Quotes (byte ∷ bytes)
    by later true is_quote nul_is is_nul slash_is is_slash =
        let same : 34 ≡ byte = grind (arith, is_quote) in stops (inl (bytes, ap (λ b. b ∷ bytes) same))
    by later false is_quote true is_nul slash_is is_slash =
        let same : 0 ≡ byte = grind (arith, is_nul) in stops (inr (record { kind = Nul; cause = λ pieces inners. nul (bytes, ap (λ b. b ∷ bytes) same) }))
    by later false is_quote false is_nul true is_slash =
        let same : 92 ≡ byte = grind (arith, is_slash) in
        let P : ℕ → Type 0 = λ b. EscapeFits (b ∷ bytes) ⊎ QuotesFault (b ∷ bytes) in
        escaped later (subst P same (escape-found bytes))
    by later false is_quote false is_nul false is_slash =
        let plain : not (is_one_of (0 ∷ 34 ∷ 92 ∷ []) byte) ≡ true = grind (arith, is_quote, is_nul, is_slash) in
        quotes-more (Bare byte) bytes (byte ∷ bytes) plain refl (later bytes (omega (arith, few)))

-- ---- words

record WordFault (rest : List ℕ) : Type 0 where
  kind : LexKind
  cause : (pieces : List Piece) → Cause kind (InWord pieces) rest

-- a quoted string that a fault cuts off
record QuotesCut (rest : List ℕ) : Type 0 where
  inners : List Inner
  last : List ℕ
  fits : fit_inners inners last ≡ true
  is_text : 34 ∷ (inners_text inners ++ last) ≡ rest
  fault : QuotesFault last

data WordEnd : List ℕ → Type 0 where
  over : {rest : List ℕ} → is_over_or is_whitespace rest ≡ true → WordEnd rest
  stopped : {rest : List ℕ} → WordFault rest → WordEnd rest
  unclosed : {rest : List ℕ} → QuotesCut rest → WordEnd rest

record Word (bytes : List ℕ) : Type 0 where
  pieces : List Piece
  rest : List ℕ
  fits : list_all fits_piece pieces ≡ true
  is_text : pieces_text pieces ++ rest ≡ bytes
  ends : WordEnd rest

word-more : (piece : Piece) (after bytes : List ℕ) → fits_piece piece ≡ true → piece_text piece ++ after ≡ bytes → Word after → Word bytes
word-more piece after bytes fits is_text more = record {
  pieces = piece ∷ more.pieces;
  rest = more.rest;
  fits = and_from (fits_piece piece) (list_all fits_piece more.pieces) fits more.fits;
  is_text = append_assoc (piece_text piece) (pieces_text more.pieces) more.rest ∙ ap (λ (b : List ℕ). piece_text piece ++ b) more.is_text ∙ is_text;
  ends = more.ends;
}

word-stops : (bytes : List ℕ) → WordEnd bytes → Word bytes
word-stops bytes ends = record { pieces = []; rest = bytes; fits = refl; is_text = refl; ends = ends }

-- behind a backslash
escaped-found : (n : ℕ) (bytes : List ℕ) → length bytes ≤ n → ((more : List ℕ) → length more ≤ n → Word more) → Word (92 ∷ bytes)
escaped-found n [] few later = word-stops (92 ∷ []) (stopped (record { kind = EndAfterBackslash; cause = λ pieces. end_in_word }))
escaped-found n (byte ∷ bytes) few later = by (byte == 0) refl
  where
    by : (b : Bool) → (byte == 0) ≡ b → Word (92 ∷ byte ∷ bytes)
    by true is =
        let same : 0 ≡ byte = grind (arith, is) in
        word-stops (92 ∷ byte ∷ bytes) (stopped (record { kind = Nul; cause = λ pieces. escaped_nul_in_word (bytes, ap (λ b. 92 ∷ b ∷ bytes) same) }))
    by false is = word-more (Escaped byte) bytes (92 ∷ byte ∷ bytes) (rw is refl) refl (later bytes (omega (arith, few)))

-- behind an opening quote
quoted-found : (n : ℕ) (bytes : List ℕ) → length bytes ≤ n → ((more : List ℕ) → length more ≤ n → Word more) → Quotes bytes → Word (34 ∷ bytes)
quoted-found n bytes few later quotes = by quotes.ends
  where
    by : ((after : List ℕ) × (34 ∷ after ≡ quotes.rest)) ⊎ QuotesFault quotes.rest → Word (34 ∷ bytes)
    by (inl (after, is)) =
        let whole : (inners_text quotes.inners ++ 34 ∷ []) ++ after ≡ bytes =
        append_assoc (inners_text quotes.inners) (34 ∷ []) after ∙ ap (λ (b : List ℕ). inners_text quotes.inners ++ b) is ∙ quotes.is_text in
        word-more (Quoted quotes.inners) after (34 ∷ bytes)
        (fit_inners-seam quotes.inners after 34 ∙ ap (fit_inners quotes.inners) is ∙ quotes.fits)
        (ap (λ (b : List ℕ). 34 ∷ b) whole)
        (later after (omega (arith, length-append (inners_text quotes.inners ++ 34 ∷ []) after, ap length whole, few)))
    by (inr fault) = word-stops (34 ∷ bytes) (unclosed (record { inners = quotes.inners; last = quotes.rest; fits = quotes.fits; is_text = ap (λ (b : List ℕ). 34 ∷ b) quotes.is_text; fault = fault }))

word-found : (n : ℕ) (bytes : List ℕ) → length bytes ≤ n → Word bytes
word-found n [] few = word-stops [] (over refl)
word-found Prim.Native.Nat.zero (byte ∷ bytes) few = absurd (omega (arith, few))
word-found (suc n) (byte ∷ bytes) few = by (word-found n) (is_whitespace byte) refl (byte == 0) refl (byte == 34) refl (byte == 92) refl
  where
    by : ((more : List ℕ) → length more ≤ n → Word more) → (white_is : Bool) → is_whitespace byte ≡ white_is → (nul_is : Bool) → (byte == 0) ≡ nul_is
        → (quote_is : Bool) → (byte == 34) ≡ quote_is → (slash_is : Bool) → (byte == 92) ≡ slash_is → Word (byte ∷ bytes)
    by later true is_white nul_is is_nul quote_is is_quote slash_is is_slash = word-stops (byte ∷ bytes) (over is_white)
    by later false is_white true is_nul quote_is is_quote slash_is is_slash =
        let same : 0 ≡ byte = grind (arith, is_nul) in
        word-stops (byte ∷ bytes) (stopped (record { kind = Nul; cause = λ pieces. nul (bytes, ap (λ b. b ∷ bytes) same) }))
    by later false is_white false is_nul true is_quote slash_is is_slash =
        let same : 34 ≡ byte = grind (arith, is_quote) in
        let P : ℕ → Type 0 = λ b. Word (b ∷ bytes) in
        subst P same (quoted-found n bytes (omega (arith, few)) later (quotes-found n bytes (omega (arith, few))))
    by later false is_white false is_nul false is_quote true is_slash =
        let same : 92 ≡ byte = grind (arith, is_slash) in
        let P : ℕ → Type 0 = λ b. Word (b ∷ bytes) in
        subst P same (escaped-found n bytes (omega (arith, few)) later)
    by later false is_white false is_nul false is_quote false is_slash =
        let special : is_one_of (0 ∷ 34 ∷ 92 ∷ []) byte ≡ false = grind (arith, is_quote, is_nul, is_slash) in
        let plain : fits_piece (Plain byte) ≡ true = rw (special, is_white) refl in
        word-more (Plain byte) bytes (byte ∷ bytes) plain refl (later bytes (omega (arith, few)))

-- ---- comments

record CommentEnd (bytes : List ℕ) : Type 0 where
  inside : List ℕ
  rest : List ℕ
  fits : is_comment inside ≡ true
  is_text : inside ++ rest ≡ bytes
  ends : (is_over_or (λ byte. byte == 10) rest ≡ true) ⊎ ((after : List ℕ) × (0 ∷ after ≡ rest))

comment-found : (bytes : List ℕ) → CommentEnd bytes
comment-found [] = record { inside = []; rest = []; fits = refl; is_text = refl; ends = inl refl }
comment-found (byte ∷ bytes) = by (byte == 0) refl (byte == 10) refl (comment-found bytes)
  where
    by : (nul_is : Bool) → (byte == 0) ≡ nul_is → (line_is : Bool) → (byte == 10) ≡ line_is → CommentEnd bytes → CommentEnd (byte ∷ bytes)
    by true is_nul line_is is_line later =
        let same : 0 ≡ byte = grind (arith, is_nul) in
        record { inside = []; rest = byte ∷ bytes; fits = refl; is_text = refl; ends = inr (bytes, ap (λ b. b ∷ bytes) same) }
    by false is_nul true is_line later = record { inside = []; rest = byte ∷ bytes; fits = refl; is_text = refl; ends = inl is_line }
    by false is_nul false is_line later =
        let plain : not (is_one_of (0 ∷ 10 ∷ []) byte) ≡ true = grind (arith, is_nul, is_line) in
        record {
          inside = byte ∷ later.inside;
          rest = later.rest;
          fits = and_from (not (is_one_of (0 ∷ 10 ∷ []) byte)) (is_comment later.inside) plain later.fits;
          is_text = ap (λ (b : List ℕ). byte ∷ b) later.is_text;
          ends = later.ends;
        }

-- ---- scripts

record CutAt (rest : List ℕ) : Type 0 where
  kind : LexKind
  cut : Cut
  last : List ℕ
  fits : fits_cut cut last ≡ true
  is_text : cut_text cut ++ last ≡ rest
  cause : Cause kind cut last

record Script (bytes : List ℕ) : Type 0 where
  items : List Item
  rest : List ℕ
  fits : fit items rest ≡ true
  is_text : text items ++ rest ≡ bytes
  ends : (rest ≡ []) ⊎ CutAt rest

script-more : (item : Item) (after bytes : List ℕ) → fits_item item after ≡ true → item_text item ++ after ≡ bytes → Script after → Script bytes
script-more item after bytes fits is_text more =
    let whole = text more.items ++ more.rest in
    record {
      items = item ∷ more.items;
      rest = more.rest;
      fits = and_from (fits_item item whole) (fit more.items more.rest) (ap (fits_item item) more.is_text ∙ fits) more.fits;
      is_text = append_assoc (item_text item) (text more.items) more.rest ∙ ap (λ (b : List ℕ). item_text item ++ b) more.is_text ∙ is_text;
      ends = more.ends;
    }

script-cut : (bytes : List ℕ) → CutAt bytes → Script bytes
script-cut bytes cut = record { items = []; rest = bytes; fits = refl; is_text = refl; ends = inr cut }

no_comment : (pieces : List Piece) (rest bytes : List ℕ) (byte : ℕ) → pieces_text pieces ++ rest ≡ byte ∷ bytes → (byte == 35) ≡ false → begins_comment pieces ≡ false
no_comment [] rest bytes byte is_text other = refl
no_comment (Plain first ∷ pieces) rest bytes byte is_text other = let same : first ≡ byte = cc in ap (λ b. b == 35) same ∙ other
no_comment (Escaped first ∷ pieces) rest bytes byte is_text other = refl
no_comment (Quoted inners ∷ pieces) rest bytes byte is_text other = refl

word-nonempty : (piece : Piece) (pieces : List Piece) → 0 < length (pieces_text (piece ∷ pieces))
word-nonempty (Plain byte) pieces = omega arith
word-nonempty (Escaped byte) pieces = omega arith
word-nonempty (Quoted inners) pieces = omega arith

-- a word, or what is left of one that a fault cuts off
word-item : (n : ℕ) (byte : ℕ) (bytes : List ℕ) → length (byte ∷ bytes) ≤ suc n → ((more : List ℕ) → length more ≤ n → Script more) → is_whitespace byte ≡ false → (byte == 35) ≡ false
    → (pieces : List Piece) (rest : List ℕ) → list_all fits_piece pieces ≡ true → pieces_text pieces ++ rest ≡ byte ∷ bytes → WordEnd rest → Script (byte ∷ bytes)
word-item n byte bytes few later dark other [] rest fits is_text (over is) = absurd (true≢false (sym is ∙ ap (is_over_or is_whitespace) is_text ∙ dark))
word-item n byte bytes few later dark other (piece ∷ pieces) rest fits is_text (over is) =
    let all = piece ∷ pieces in
    let fit_all = and_from (list_all fits_piece all) (not (begins_comment all)) fits (ap not (no_comment all rest bytes byte is_text other)) in
    script-more (Wordly piece pieces) rest (byte ∷ bytes) (and_from (fit_pieces all) (is_over_or is_whitespace rest) fit_all is) is_text
    (later rest (shorter (pieces_text all) rest (byte ∷ bytes) n is_text (word-nonempty piece pieces) few))
word-item n byte bytes few later dark other pieces rest fits is_text (stopped fault) = script-cut (byte ∷ bytes) (record {
  kind = fault.kind;
  cut = InWord pieces;
  last = rest;
  fits = and_from (list_all fits_piece pieces) (not (begins_comment pieces)) fits (ap not (no_comment pieces rest bytes byte is_text other));
  is_text = is_text;
  cause = fault.cause pieces;
})
word-item n byte bytes few later dark other pieces rest fits is_text (unclosed cut) = script-cut (byte ∷ bytes) (record {
  kind = cut.fault.kind;
  cut = InQuotes pieces cut.inners;
  last = cut.last;
  fits = and_from (fit_pieces pieces) (fit_inners cut.inners cut.last)
      (and_from (list_all fits_piece pieces) (not (begins_comment pieces)) fits (ap not (no_comment pieces rest bytes byte is_text other))) cut.fits;
  is_text = append_assoc (pieces_text pieces) (34 ∷ inners_text cut.inners) cut.last ∙ ap (λ (b : List ℕ). pieces_text pieces ++ b) cut.is_text ∙ is_text;
  cause = cut.fault.cause pieces cut.inners;
})

-- a comment, behind its `#`
comment-item : (n : ℕ) (bytes : List ℕ) → length (35 ∷ bytes) ≤ suc n → ((more : List ℕ) → length more ≤ n → Script more) → CommentEnd bytes → Script (35 ∷ bytes)
comment-item n bytes few later comment = by comment.ends
  where
    whole : (35 ∷ comment.inside) ++ comment.rest ≡ 35 ∷ bytes
    whole = ap (λ (b : List ℕ). 35 ∷ b) comment.is_text

    by : (is_over_or (λ byte. byte == 10) comment.rest ≡ true) ⊎ ((after : List ℕ) × (0 ∷ after ≡ comment.rest)) → Script (35 ∷ bytes)
    by (inl is_over) =
        script-more (Comment comment.inside) comment.rest (35 ∷ bytes) (and_from (is_comment comment.inside) (is_over_or (λ byte. byte == 10) comment.rest) comment.fits is_over) whole
        (later comment.rest (shorter (35 ∷ comment.inside) comment.rest (35 ∷ bytes) n whole (omega arith) few))
    by (inr next) = script-cut (35 ∷ bytes) (record { kind = Nul; cut = InComment comment.inside; last = comment.rest; fits = comment.fits; is_text = whole; cause = nul next })

script-found : (n : ℕ) (bytes : List ℕ) → length bytes ≤ n → Script bytes
script-found n [] few = record { items = []; rest = []; fits = refl; is_text = refl; ends = inl refl }
script-found Prim.Native.Nat.zero (byte ∷ bytes) few = absurd (omega (arith, few))
script-found (suc n) (byte ∷ bytes) few = by (script-found n) (is_whitespace byte) refl (byte == 35) refl
  where
    by : ((more : List ℕ) → length more ≤ n → Script more) → (white_is : Bool) → is_whitespace byte ≡ white_is → (hash_is : Bool) → (byte == 35) ≡ hash_is → Script (byte ∷ bytes)
    by later true is_white hash_is is_hash = script-more (Blank byte) bytes (byte ∷ bytes) is_white refl (later bytes (omega (arith, few)))
    by later false is_white true is_hash =
        let same : 35 ≡ byte = grind (arith, is_hash) in
        let P : ℕ → Type 0 = λ b. Script (b ∷ bytes) in
        subst P same (comment-item n bytes (omega (arith, few)) later (comment-found bytes))
    by later false is_white false is_hash =
        let word = word-found (suc n) (byte ∷ bytes) few in
        word-item n byte bytes few later is_white is_hash word.pieces word.rest word.fits word.is_text word.ends

-- ---- so a script has a reading or a fault

pub found : (script : List ℕ) → ReadsSome script ⊎ FaultsSome script
found script = by (script-found (length script) script (omega arith))
  where
    by : Script script → ReadsSome script ⊎ FaultsSome script
    by is = ends is.ends
      where
        ends : (is.rest ≡ []) ⊎ CutAt is.rest → ReadsSome script ⊎ FaultsSome script
        ends (inl none) = inl (
          tokens_from 1 is.items,
          record {
            items = is.items;
            fits = ap (fit is.items) (sym none) ∙ is.fits;
            is_text = sym (append-nil (text is.items)) ∙ ap (λ (b : List ℕ). text is.items ++ b) (sym none) ∙ is.is_text;
            are_tokens = refl;
          },
        )
        ends (inr at) = inr (
          at.kind,
          (
            1 + newlines_in (text is.items ++ text_before at.kind at.cut),
            record {
              items = is.items;
              cut = at.cut;
              rest = at.last;
              fits = ap (fit is.items) at.is_text ∙ is.fits;
              cut_fits = at.fits;
              is_text = ap (λ (b : List ℕ). text is.items ++ b) at.is_text ∙ is.is_text;
              cause = at.cause;
              is_line = refl;
            },
          ),
        )

-- ---- and the scanner gives it

pub scanned-reads : (script : List ℕ) (tokens : List Token) → scan script 0 AtGap 1 ≡ Ok tokens → Reads script tokens
scanned-reads script tokens is = by (found script)
  where
    by : ReadsSome script ⊎ FaultsSome script → Reads script tokens
    by (inl (others, reads)) = subst (Reads script) (ok-same (scan script 0 AtGap 1) others tokens (reads-scanned script others reads) is) reads
    by (inr (kind, (line, fault))) = absurd (never (scan script 0 AtGap 1) tokens kind line is (fault-scanned script kind line fault))

pub scanned-fault : (script : List ℕ) (kind : LexKind) (line : ℕ) → scan script 0 AtGap 1 ≡ Err (kind, line) → FaultsAt script kind line
scanned-fault script kind line is = by (found script)
  where
    by : ReadsSome script ⊎ FaultsSome script → FaultsAt script kind line
    by (inl (tokens, reads)) = absurd (never (scan script 0 AtGap 1) tokens kind line (reads-scanned script tokens reads) is)
    by (inr (other, (there, fault))) =
        let same = err-same (scan script 0 AtGap 1) other kind there line (fault-scanned script other there fault) is in
        let P : LexKind → Type 0 = λ k. FaultsAt script k line in
        subst P same.0 (subst (FaultsAt script other) same.1 fault)
