-- What fits and is printed is scanned as the tokens and the line behind it.
use Rattle.std.proofs.Common.{◌≡◌, ◌≢◌, ◌⊎◌, ℕ, ◌-◌, ◌≤◌, Bool, true, false, List, [], ◌∷◌, ◌++◌, Some, None, Result, Ok, Err, refl, sym, ap, ◌∙◌, length, drop, suc, arith, true≢false, append_assoc, append-nil, not, cond, inl, inr, if◌then◌else◌}
use Rattle.std.specs.Prelude.{◌==◌, ◌&&◌, ◌||◌, nat_le, nat_lt}
use Rattle.std.specs.List.{list_all}
use Rattle.std.proofs.lemmas.Bool.{and_parts, not-true, or_cases}
use Rattle.std.proofs.lemmas.List.Sums.{sum_by-append}
use Rattle.std.proofs.Math.Seq.{drop-append_seam}
use Rattle.el_lex.specs.declared.token.Token.{Token}
use Rattle.el_lex.specs.declared.token.Token.TheVariants.{Word as WordToken, Open, Close}
use Rattle.el_lex.specs.declared.fault.LexKind.{LexKind}
use Rattle.el_lex.specs.declared.fault.LexKind.TheVariants.{ByteTooLarge, NulEscape}
use Rattle.el_lex.specs.Bytes.{is_one_of, is_whitespace, is_digit, is_octal_digit, is_hexadecimal_digit, begins_with, is_over_or}
use Rattle.el_lex.specs.Pieces.{Inner, Bare, Named, Hexadecimal, Octal, Decimal, Piece, Plain, Escaped, Quoted, inner_text, inners_text, piece_text, pieces_text, inner_value, inners_value, piece_value, pieces_value, is_longest_run, is_number_escape, escape_number, is_byte_value, fits_inner, fit_inners, fits_piece, fit_pieces, begins_comment}
use Rattle.el_lex.specs.Reading.{Item, Blank, Comment, Wordly, item_text, text, is_comment, fits_item, fit, token_of, tokens_from, Reads}
use Rattle.el_lex.specs.Scan.{AtGap, AtComment, AtWord, AtQuotes, run, checked, escape, escape_step, lone_brace, after_step, in_front, scan, line_after}
use Rattle.el_lex.proofs.Scans.{in_front-nil, in_front-append, scan-jump, scan-next, scan-end, scan-hash, scan-whitespace, scan-brace, scan-word, scan-comment, scan-comment_newline, scan-comment_end, scan-piece, scan-word_over, piece-quote, piece-plain, piece-escaped, scan-unquote, scan-bare}
use Rattle.el_lex.proofs.Digits.{no_newlines}
use Rattle.el_lex.proofs.Escapes.{escape-named}

-- ---- tests

pub nor_parts : (a b : Bool) → not (a || b) ≡ true → (not a ≡ true) × (b ≡ false)
nor_parts true b is = let no : ⊥ = cc in absurd no
nor_parts false b is = (refl, not-true b is)

-- a byte that fails a test isn't one that passes it
pub differs : (test : ℕ → Bool) (byte other : ℕ) → test byte ≡ true → test other ≡ false → byte ≢ other
differs test byte other is isnt same = true≢false (sym is ∙ ap test same ∙ isnt)

abbrev is_bare_byte : ℕ → Bool
is_bare_byte byte = not (is_one_of (0 ∷ 34 ∷ 92 ∷ []) byte)

-- ---- lines

pub line-append : (line : ℕ) (a b : List ℕ) → line_after (line_after line a) b ≡ line_after line (a ++ b)
line-append line a b = omega (arith, sum_by-append (λ byte. cond (byte == 10) 1 0) a b)

-- ---- escapes

pub record Run (test : ℕ → Bool) (most : ℕ) (digits after : List ℕ) : Type 0 where
  pub passes : list_all test digits ≡ true
  pub within : length digits ≤ most
  pub ends : (length digits ≡ most) ⊎ (begins_with test after ≡ false)

pub run_of : (test : ℕ → Bool) (most : ℕ) (digits after : List ℕ) → is_longest_run test most digits after ≡ true → Run test most digits after
run_of test most digits after is =
    let short = nat_le (length digits) most in
    let over = (length digits == most) || not (begins_with test after) in
    let parts = and_parts (list_all test digits) (short && over) is in
    let more = and_parts short over parts.1 in
    record {
      passes = parts.0;
      within = grind (arith, more.0);
      ends = by (or_cases (length digits == most) (not (begins_with test after)) more.1);
    }
  where
    by : ((length digits == most) ≡ true) ⊎ (not (begins_with test after) ≡ true) → (length digits ≡ most) ⊎ (begins_with test after ≡ false)
    by (inl e) = inl (grind (arith, e))
    by (inr e) = inr (not-true (begins_with test after) e)

pub run-printed : (test : ℕ → Bool) (most : ℕ) (digits after : List ℕ) → Run test most digits after → run test most (digits ++ after) ≡ digits
run-printed test Prim.Native.Nat.zero [] after is = refl
run-printed test Prim.Native.Nat.zero (digit ∷ digits) after is = absurd (omega (arith, is.within))
run-printed test (suc most) [] [] is = refl
run-printed test (suc most) [] (byte ∷ after) is = by is.ends
  where
    by : (0 ≡ suc most) ⊎ (test byte ≡ false) → run test (suc most) (byte ∷ after) ≡ []
    by (inl e) = absurd (omega (arith, e))
    by (inr e) = rw e refl
run-printed test (suc most) (digit ∷ digits) after is =
    let parts = and_parts (test digit) (list_all test digits) is.passes in
    rw parts.0 (ap (λ (more : List ℕ). digit ∷ more) (run-printed test most digits after (record {
      passes = parts.1;
      within = omega (arith, is.within);
      ends = fewer is.ends;
    })))
  where
    fewer : (length (digit ∷ digits) ≡ suc most) ⊎ (begins_with test after ≡ false) → (length digits ≡ most) ⊎ (begins_with test after ≡ false)
    fewer (inl e) = inl (omega (arith, e))
    fewer (inr e) = inr e

pub checked-fits : (inner : Inner) → is_byte_value (escape_number inner) ≡ true → checked inner ≡ Ok inner
checked-fits inner is = by (escape_number inner) is
  where
    by : (n : ℕ) → is_byte_value n ≡ true → (if n == 0 then Err NulEscape else (if nat_lt 255 n then Err ByteTooLarge else Ok inner)) ≡ Ok inner
    by n is = let some : (n == 0) ≡ false = grind (arith, is) in let small : nat_lt 255 n ≡ false = grind (arith, is) in rw (some, small) refl

begins-run : (test : ℕ → Bool) (digits after : List ℕ) → list_all test digits ≡ true → (length digits == 0) ≡ false → begins_with test (digits ++ after) ≡ true
begins-run test [] after all some = let no : ⊥ = cc in absurd no
begins-run test (digit ∷ digits) after all some = (and_parts (test digit) (list_all test digits) all).0

pub hexadecimal-printed : (digits after : List ℕ) → is_number_escape (Hexadecimal digits) after ≡ true → escape ((48 ∷ 120 ∷ digits) ++ after) ≡ checked (Hexadecimal digits)
unfolding escape
hexadecimal-printed digits after is =
    let parts = and_parts (is_longest_run is_hexadecimal_digit 2 digits after) (not (length digits == 0)) is in
    let longest = run_of is_hexadecimal_digit 2 digits after parts.0 in
    let begins = begins-run is_hexadecimal_digit digits after longest.passes (not-true (length digits == 0) parts.1) in
    rw (begins, run-printed is_hexadecimal_digit 2 digits after longest) refl

pub octal-printed : (digits after : List ℕ) → is_number_escape (Octal digits) after ≡ true → escape ((48 ∷ digits) ++ after) ≡ checked (Octal digits)
unfolding escape
octal-printed digits after is =
    let parts = and_parts (is_longest_run is_octal_digit 3 digits after) (not ((length digits == 0) && begins_with (λ byte. byte == 120) after)) is in
    let longest = run_of is_octal_digit 3 digits after parts.0 in
    rw (no_x digits longest.passes parts.1, run-printed is_octal_digit 3 digits after longest) refl
  where
    no_x : (digits : List ℕ) → list_all is_octal_digit digits ≡ true → not ((length digits == 0) && begins_with (λ byte. byte == 120) after) ≡ true → begins_with (λ byte. byte == 120) (digits ++ after) ≡ false
    no_x [] all other = not-true (begins_with (λ byte. byte == 120) after) other
    no_x (digit ∷ digits) all other = let digit_is = (and_parts (is_octal_digit digit) (list_all is_octal_digit digits) all).0 in let differs_is = differs is_octal_digit digit 120 digit_is refl in grind (arith, differs_is)

pub decimal-printed : (digits after : List ℕ) → is_number_escape (Decimal digits) after ≡ true → escape (digits ++ after) ≡ checked (Decimal digits)
unfolding escape
decimal-printed [] after is = let parts = and_parts (is_longest_run is_digit 3 [] after) false is in absurd (true≢false (sym parts.1))
decimal-printed (digit ∷ digits) after is =
    let parts = and_parts (is_longest_run is_digit 3 (digit ∷ digits) after) (not (digit == 48)) is in
    let longest = run_of is_digit 3 (digit ∷ digits) after parts.0 in
    let passes = (and_parts (is_digit digit) (list_all is_digit digits) longest.passes).0 in
    let nul_differs = differs is_digit digit 0 passes refl in
    let nul : (digit == 0) ≡ false = grind (arith, nul_differs) in
    let zero = not-true (digit == 48) parts.1 in
    let longer : escape ((digit ∷ digits) ++ after) ≡ checked (Decimal (run is_digit 3 ((digit ∷ digits) ++ after))) = rw (nul, zero, passes) refl in
    longer ∙ ap (λ (ds : List ℕ). checked (Decimal ds)) (run-printed is_digit 3 (digit ∷ digits) after longest)

-- ---- in quotes

escaped-printed : (inner : Inner) (rest after : List ℕ) (began opened line : ℕ) (value : List ℕ) → inner_text inner ≡ 92 ∷ rest → escape (rest ++ after) ≡ Ok inner
    → scan (inner_text inner ++ after) 0 (AtQuotes began value opened) line ≡ scan after 0 (AtQuotes began (value ++ inner_value inner) opened) (line_after line (inner_text inner))
escaped-printed inner rest after began opened line value is_text is =
    let mode = AtQuotes began (value ++ inner_value inner) opened in
    let below = line_after line (inner_text inner) in
    let jump = length (inner_text inner) - 1 in
    let same : jump ≡ length rest = ap (λ (t : List ℕ). length t - 1) is_text ∙ omega arith in
    ap (λ (t : List ℕ). scan (t ++ after) 0 (AtQuotes began value opened) line) is_text
    ∙ scan-next (92 ∷ (rest ++ after)) 92 (AtQuotes began value opened) line refl
    ∙ ap (λ answer. after_step (scan (rest ++ after)) (escape_step began value opened line answer)) is
    ∙ in_front-nil (scan (rest ++ after) jump mode below)
    ∙ scan-jump (rest ++ after) jump mode below
    ∙ ap (λ n. scan (drop n (rest ++ after)) 0 mode below) same
    ∙ ap (λ (bytes : List ℕ). scan bytes 0 mode below) (drop-append_seam rest after)

pub inner-printed : (inner : Inner) (after : List ℕ) (began opened line : ℕ) (value : List ℕ) → fits_inner inner after ≡ true
    → scan (inner_text inner ++ after) 0 (AtQuotes began value opened) line ≡ scan after 0 (AtQuotes began (value ++ inner_value inner) opened) (line_after line (inner_text inner))
inner-printed (Bare byte) after began opened line value fits =
    scan-bare (byte ∷ after) after byte line (line_after line (byte ∷ [])) began opened value refl refl refl
    (differs is_bare_byte byte 0 fits refl) (differs is_bare_byte byte 34 fits refl) (differs is_bare_byte byte 92 fits refl)
inner-printed (Named byte) after began opened line value fits =
    let parts = nor_parts (byte == 0) (is_digit byte) fits in
    escaped-printed (Named byte) (byte ∷ []) after began opened line value refl
    (escape-named (byte ∷ after) byte refl (differs (λ b. not (b == 0)) byte 0 parts.0 refl) parts.1)
inner-printed (Hexadecimal digits) after began opened line value fits =
    let parts = and_parts (is_number_escape (Hexadecimal digits) after) (is_byte_value (escape_number (Hexadecimal digits))) fits in
    escaped-printed (Hexadecimal digits) (48 ∷ 120 ∷ digits) after began opened line value refl (hexadecimal-printed digits after parts.0 ∙ checked-fits (Hexadecimal digits) parts.1)
inner-printed (Octal digits) after began opened line value fits =
    let parts = and_parts (is_number_escape (Octal digits) after) (is_byte_value (escape_number (Octal digits))) fits in
    escaped-printed (Octal digits) (48 ∷ digits) after began opened line value refl (octal-printed digits after parts.0 ∙ checked-fits (Octal digits) parts.1)
inner-printed (Decimal digits) after began opened line value fits =
    let parts = and_parts (is_number_escape (Decimal digits) after) (is_byte_value (escape_number (Decimal digits))) fits in
    escaped-printed (Decimal digits) digits after began opened line value refl (decimal-printed digits after parts.0 ∙ checked-fits (Decimal digits) parts.1)

pub inners-printed : (inners : List Inner) (after : List ℕ) (began opened line : ℕ) (value : List ℕ) → fit_inners inners after ≡ true
    → scan (inners_text inners ++ after) 0 (AtQuotes began value opened) line ≡ scan after 0 (AtQuotes began (value ++ inners_value inners) opened) (line_after line (inners_text inners))
inners-printed [] after began opened line value fits =
    ap (λ (bytes : List ℕ). scan after 0 (AtQuotes began bytes opened) line) (sym (append-nil value)) ∙ ap (scan after 0 (AtQuotes began (value ++ []) opened)) (omega arith)
inners-printed (inner ∷ inners) after began opened line value fits =
    let rest = inners_text inners ++ after in
    let parts = and_parts (fits_inner inner rest) (fit_inners inners after) fits in
    ap (λ (bytes : List ℕ). scan bytes 0 (AtQuotes began value opened) line) (append_assoc (inner_text inner) (inners_text inners) after)
    ∙ inner-printed inner rest began opened line value parts.0
    ∙ inners-printed inners after began opened (line_after line (inner_text inner)) (value ++ inner_value inner) parts.1
    ∙ ap (λ (bytes : List ℕ). scan after 0 (AtQuotes began bytes opened) (line_after (line_after line (inner_text inner)) (inners_text inners))) (append_assoc value (inner_value inner) (inners_value inners))
    ∙ ap (scan after 0 (AtQuotes began (value ++ inners_value (inner ∷ inners)) opened)) (line-append line (inner_text inner) (inners_text inners))

-- what stands behind a byte behind them is of no account to what is in quotes
seam : (inner : Inner) (text after : List ℕ) (byte : ℕ) → fits_inner inner (text ++ byte ∷ []) ≡ fits_inner inner (text ++ byte ∷ after)
seam (Bare b) text after byte = refl
seam (Named b) text after byte = refl
seam (Hexadecimal digits) [] after byte = refl
seam (Hexadecimal digits) (b ∷ text) after byte = refl
seam (Octal digits) [] after byte = refl
seam (Octal digits) (b ∷ text) after byte = refl
seam (Decimal digits) [] after byte = refl
seam (Decimal digits) (b ∷ text) after byte = refl

pub fit_inners-seam : (inners : List Inner) (after : List ℕ) (byte : ℕ) → fit_inners inners (byte ∷ []) ≡ fit_inners inners (byte ∷ after)
fit_inners-seam [] after byte = refl
fit_inners-seam (inner ∷ inners) after byte =
    ap (λ b. b && fit_inners inners (byte ∷ [])) (seam inner (inners_text inners) after byte)
    ∙ ap (λ b. fits_inner inner (inners_text inners ++ byte ∷ after) && b) (fit_inners-seam inners after byte)

-- ---- pieces

pub piece-printed : (piece : Piece) (after : List ℕ) (began line : ℕ) (value : List ℕ) → fits_piece piece ≡ true
    → scan (piece_text piece ++ after) 0 (AtWord began value) line ≡ scan after 0 (AtWord began (value ++ piece_value piece)) (line_after line (piece_text piece))
piece-printed (Plain byte) after began line value fits =
    let parts = nor_parts (is_one_of (0 ∷ 34 ∷ 92 ∷ []) byte) (is_whitespace byte) fits in
    let below = line_after line (byte ∷ []) in
    scan-piece (byte ∷ after) after byte line below began value refl refl refl parts.1
    ∙ piece-plain after byte below began value parts.1 (differs is_bare_byte byte 0 parts.0 refl) (differs is_bare_byte byte 34 parts.0 refl) (differs is_bare_byte byte 92 parts.0 refl)
piece-printed (Escaped byte) after began line value fits =
    let below = line_after line (92 ∷ []) in
    scan-piece (92 ∷ byte ∷ after) (byte ∷ after) 92 line below began value refl refl refl refl
    ∙ piece-escaped (byte ∷ after) after byte below (line_after below (byte ∷ [])) began value refl refl refl (differs (λ b. not (b == 0)) byte 0 fits refl)
    ∙ ap (scan after 0 (AtWord began (value ++ byte ∷ []))) (line-append line (92 ∷ []) (byte ∷ []))
piece-printed (Quoted inners) after began line value fits =
    let inside = inners_text inners in
    let opened = line_after line (34 ∷ []) in
    let closed = line_after opened inside in
    let more = value ++ inners_value inners in
    ap (λ (bytes : List ℕ). scan (34 ∷ bytes) 0 (AtWord began value) line) (append_assoc inside (34 ∷ []) after)
    ∙ scan-piece (34 ∷ (inside ++ 34 ∷ after)) (inside ++ 34 ∷ after) 34 line opened began value refl refl refl refl
    ∙ piece-quote (inside ++ 34 ∷ after) opened began value
    ∙ inners-printed inners (34 ∷ after) began opened opened value (sym (fit_inners-seam inners after 34) ∙ fits)
    ∙ scan-unquote (34 ∷ after) after closed (line_after closed (34 ∷ [])) began opened more refl refl refl
    ∙ ap (scan after 0 (AtWord began more)) (line-append opened inside (34 ∷ []) ∙ line-append line (34 ∷ []) (inside ++ 34 ∷ []))

pub pieces-printed : (pieces : List Piece) (after : List ℕ) (began line : ℕ) (value : List ℕ) → list_all fits_piece pieces ≡ true
    → scan (pieces_text pieces ++ after) 0 (AtWord began value) line ≡ scan after 0 (AtWord began (value ++ pieces_value pieces)) (line_after line (pieces_text pieces))
pieces-printed [] after began line value fits =
    ap (λ (bytes : List ℕ). scan after 0 (AtWord began bytes) line) (sym (append-nil value)) ∙ ap (scan after 0 (AtWord began (value ++ []))) (omega arith)
pieces-printed (piece ∷ pieces) after began line value fits =
    let parts = and_parts (fits_piece piece) (list_all fits_piece pieces) fits in
    let below = line_after line (piece_text piece) in
    ap (λ (bytes : List ℕ). scan bytes 0 (AtWord began value) line) (append_assoc (piece_text piece) (pieces_text pieces) after)
    ∙ piece-printed piece (pieces_text pieces ++ after) began line value parts.0
    ∙ pieces-printed pieces after began below (value ++ piece_value piece) parts.1
    ∙ ap (λ (bytes : List ℕ). scan after 0 (AtWord began bytes) (line_after below (pieces_text pieces))) (append_assoc value (piece_value piece) (pieces_value pieces))
    ∙ ap (scan after 0 (AtWord began (value ++ pieces_value (piece ∷ pieces)))) (line-append line (piece_text piece) (pieces_text pieces))

-- ---- words

-- where more of the word follows
pub not_lone-more : (line byte : ℕ) (after : List ℕ) → is_over_or is_whitespace after ≡ false → lone_brace line byte after ≡ None
not_lone-more line byte after more = rw more refl

pub not_lone : (line byte : ℕ) (after : List ℕ) → byte ≢ 123 → byte ≢ 125 → lone_brace line byte after ≡ None
not_lone line byte after no_open no_close =
    let open_is : (byte == 123) ≡ false = grind arith in
    let close_is : (byte == 125) ≡ false = grind arith in
    by open_is close_is (is_over_or is_whitespace after)
  where
    by : (byte == 123) ≡ false → (byte == 125) ≡ false → (over : Bool) → (if over then (if byte == 123 then Some (Open line) else (if byte == 125 then Some (Close line) else None)) else None) ≡ None
    by open_is close_is true = rw (open_is, close_is) refl
    by open_is close_is false = refl

pub word-goes_on : (piece : Piece) (after : List ℕ) → fits_piece piece ≡ true → is_over_or is_whitespace (piece_text piece ++ after) ≡ false
word-goes_on (Plain byte) after fits = (nor_parts (is_one_of (0 ∷ 34 ∷ 92 ∷ []) byte) (is_whitespace byte) fits).1
word-goes_on (Escaped byte) after fits = refl
word-goes_on (Quoted inners) after fits = refl

-- the text of a word begins a word, unless it is a brace
pub word-begins : (piece : Piece) (pieces : List Piece) (after : List ℕ) (line : ℕ) → fit_pieces (piece ∷ pieces) ≡ true
    → ((byte : ℕ) → piece ≡ Plain byte → lone_brace line byte (pieces_text pieces ++ after) ≡ None)
    → scan (pieces_text (piece ∷ pieces) ++ after) 0 AtGap line ≡ scan (pieces_text (piece ∷ pieces) ++ after) 0 (AtWord line []) line
word-begins (Plain byte) pieces after line fits no_brace =
    let parts = and_parts (list_all fits_piece (Plain byte ∷ pieces)) (not (byte == 35)) fits in
    let fits_first = (and_parts (fits_piece (Plain byte)) (list_all fits_piece pieces) parts.0).0 in
    let dark = (nor_parts (is_one_of (0 ∷ 34 ∷ 92 ∷ []) byte) (is_whitespace byte) fits_first).1 in
    scan-word (byte ∷ (pieces_text pieces ++ after)) byte line refl dark (not-true (byte == 35) parts.1) (no_brace byte refl)
word-begins (Escaped byte) pieces after line fits no_brace =
    let rest = byte ∷ (pieces_text pieces ++ after) in
    scan-word (92 ∷ rest) 92 line refl refl refl (not_lone line 92 rest (omega arith) (omega arith))
word-begins (Quoted inners) pieces after line fits no_brace =
    let rest = ((inners_text inners ++ 34 ∷ []) ++ pieces_text pieces) ++ after in
    scan-word (34 ∷ rest) 34 line refl refl refl (not_lone line 34 rest (omega arith) (omega arith))

word-ends : (piece : Piece) (pieces : List Piece) (after : List ℕ) (line : ℕ) → fit_pieces (piece ∷ pieces) ≡ true → is_over_or is_whitespace after ≡ true
    → ((byte : ℕ) → piece ≡ Plain byte → lone_brace line byte (pieces_text pieces ++ after) ≡ None)
    → scan (pieces_text (piece ∷ pieces) ++ after) 0 AtGap line ≡ in_front (WordToken line (pieces_value (piece ∷ pieces)) ∷ []) (scan after 0 AtGap (line_after line (pieces_text (piece ∷ pieces))))
word-ends piece pieces after line fits over no_brace =
    let parts = and_parts (list_all fits_piece (piece ∷ pieces)) (not (begins_comment (piece ∷ pieces))) fits in
    word-begins piece pieces after line fits no_brace
    ∙ pieces-printed (piece ∷ pieces) after line line [] parts.0
    ∙ scan-word_over after (line_after line (pieces_text (piece ∷ pieces))) line (pieces_value (piece ∷ pieces)) over

one_byte : (byte line : ℕ) (after : List ℕ) (open_is close_is : Bool) → (byte == 123) ≡ open_is → (byte == 125) ≡ close_is → fit_pieces (Plain byte ∷ []) ≡ true → is_over_or is_whitespace after ≡ true
    → scan (byte ∷ after) 0 AtGap line ≡ in_front (token_of line (Plain byte) [] ∷ []) (scan after 0 AtGap (line_after line (byte ∷ [])))
one_byte byte line after open_is close_is is_open is_close fits over = by open_is close_is is_open is_close
  where
    rest : Result (List Token) (LexKind × ℕ)
    rest = scan after 0 AtGap (line_after line (byte ∷ []))

    parts : (list_all fits_piece (Plain byte ∷ []) ≡ true) × (not (byte == 35) ≡ true)
    parts = and_parts (list_all fits_piece (Plain byte ∷ [])) (not (byte == 35)) fits

    dark : is_whitespace byte ≡ false
    dark = (nor_parts (is_one_of (0 ∷ 34 ∷ 92 ∷ []) byte) (is_whitespace byte) (and_parts (fits_piece (Plain byte)) true parts.0).0).1

    brace : (token : Token) → lone_brace line byte after ≡ Some token → token_of line (Plain byte) [] ≡ token → scan (byte ∷ after) 0 AtGap line ≡ in_front (token_of line (Plain byte) [] ∷ []) rest
    brace token is same = scan-brace (byte ∷ after) after byte line (line_after line (byte ∷ [])) token refl refl refl dark (not-true (byte == 35) parts.1) is
        ∙ ap (λ t. in_front (t ∷ []) rest) (sym same)

    by : (open_is close_is : Bool) → (byte == 123) ≡ open_is → (byte == 125) ≡ close_is → scan (byte ∷ after) 0 AtGap line ≡ in_front (token_of line (Plain byte) [] ∷ []) rest
    by true close_is is_open is_close = brace (Open line) (rw (over, is_open) refl) (rw is_open refl)
    by false true is_open is_close = brace (Close line) (rw (over, is_open, is_close) refl) (rw (is_open, is_close) refl)
    by false false is_open is_close =
        let same : token_of line (Plain byte) [] ≡ WordToken line (byte ∷ []) = rw (is_open, is_close) refl in
        let none : lone_brace line byte after ≡ None = rw (over, is_open, is_close) refl in
        word-ends (Plain byte) [] after line fits over (λ b plain. ap (λ x. lone_brace line x after) (sym (plain_byte byte b plain)) ∙ none)
        ∙ ap (λ t. in_front (t ∷ []) rest) (sym same)
      where
        plain_byte : (a b : ℕ) → Plain a ≡ Plain b → a ≡ b
        plain_byte a b same = cc

pub word-printed : (piece : Piece) (pieces : List Piece) (after : List ℕ) (line : ℕ) → fit_pieces (piece ∷ pieces) ≡ true → is_over_or is_whitespace after ≡ true
    → scan (pieces_text (piece ∷ pieces) ++ after) 0 AtGap line ≡ in_front (token_of line piece pieces ∷ []) (scan after 0 AtGap (line_after line (pieces_text (piece ∷ pieces))))
word-printed (Plain byte) [] after line fits over = one_byte byte line after (byte == 123) (byte == 125) refl refl fits over
word-printed (Plain byte) (piece ∷ pieces) after line fits over =
    let all = (and_parts (list_all fits_piece (Plain byte ∷ piece ∷ pieces)) (not (byte == 35)) fits).0 in
    let later = (and_parts (fits_piece (Plain byte)) (list_all fits_piece (piece ∷ pieces)) all).1 in
    let fits_next = (and_parts (fits_piece piece) (list_all fits_piece pieces) later).0 in
    let more = ap (is_over_or is_whitespace) (append_assoc (piece_text piece) (pieces_text pieces) after) ∙ word-goes_on piece (pieces_text pieces ++ after) fits_next in
    word-ends (Plain byte) (piece ∷ pieces) after line fits over (λ b plain. not_lone-more line b (pieces_text (piece ∷ pieces) ++ after) more)
word-printed (Escaped byte) pieces after line fits over = word-ends (Escaped byte) pieces after line fits over (λ b plain. let no : ⊥ = cc in absurd no)
word-printed (Quoted inners) pieces after line fits over = word-ends (Quoted inners) pieces after line fits over (λ b plain. let no : ⊥ = cc in absurd no)

-- ---- comments

abbrev is_comment_byte : ℕ → Bool
is_comment_byte byte = not (is_one_of (0 ∷ 10 ∷ []) byte)

pub comment-printed : (bytes after : List ℕ) (line : ℕ) → is_comment bytes ≡ true → scan (bytes ++ after) 0 AtComment line ≡ scan after 0 AtComment line
comment-printed [] after line fits = refl
comment-printed (byte ∷ bytes) after line fits =
    let parts = and_parts (is_comment_byte byte) (is_comment bytes) fits in
    let no_newline = differs is_comment_byte byte 10 parts.0 refl in
    let other : (byte == 10) ≡ false = grind (arith, no_newline) in
    scan-comment (byte ∷ (bytes ++ after)) (bytes ++ after) byte line line refl refl (rw other (omega arith)) (differs is_comment_byte byte 0 parts.0 refl) no_newline
    ∙ comment-printed bytes after line parts.1

pub comment-lines : (bytes : List ℕ) (line : ℕ) → is_comment bytes ≡ true → line_after line (35 ∷ bytes) ≡ line
comment-lines bytes line fits = omega (arith, no_newlines is_comment_byte bytes refl fits)

pub comment-begins : (bytes after : List ℕ) (line : ℕ) → is_comment bytes ≡ true → scan ((35 ∷ bytes) ++ after) 0 AtGap line ≡ scan after 0 AtComment line
comment-begins bytes after line fits =
    scan-hash (35 ∷ (bytes ++ after)) (bytes ++ after) line line refl refl (omega arith) ∙ comment-printed bytes after line fits

comment-over : (after : List ℕ) (line : ℕ) → is_over_or (λ byte. byte == 10) after ≡ true → scan after 0 AtComment line ≡ scan after 0 AtGap line
comment-over [] line over = scan-comment_end [] line refl
comment-over (byte ∷ after) line over = let same : byte ≡ 10 = grind (arith, over) in scan-comment_newline (byte ∷ after) line (ap Some same)

-- ---- items

pub item-printed : (item : Item) (after : List ℕ) (line : ℕ) → fits_item item after ≡ true
    → scan (item_text item ++ after) 0 AtGap line ≡ in_front (tokens_from line (item ∷ [])) (scan after 0 AtGap (line_after line (item_text item)))
item-printed (Blank byte) after line fits =
    scan-whitespace (byte ∷ after) after byte line (line_after line (byte ∷ [])) refl refl refl fits ∙ sym (in_front-nil (scan after 0 AtGap (line_after line (byte ∷ []))))
item-printed (Comment bytes) after line fits =
    let parts = and_parts (is_comment bytes) (is_over_or (λ byte. byte == 10) after) fits in
    comment-begins bytes after line parts.0 ∙ comment-over after line parts.1
    ∙ ap (scan after 0 AtGap) (sym (comment-lines bytes line parts.0)) ∙ sym (in_front-nil (scan after 0 AtGap (line_after line (35 ∷ bytes))))
item-printed (Wordly piece pieces) after line fits =
    let parts = and_parts (fit_pieces (piece ∷ pieces)) (is_over_or is_whitespace after) fits in
    word-printed piece pieces after line parts.0 parts.1

tokens-cons : (item : Item) (items : List Item) (after : List ℕ) (line : ℕ) → fits_item item after ≡ true
    → tokens_from line (item ∷ []) ++ tokens_from (line_after line (item_text item)) items ≡ tokens_from line (item ∷ items)
tokens-cons (Blank byte) items after line fits = refl
tokens-cons (Comment bytes) items after line fits =
    let parts = and_parts (is_comment bytes) (is_over_or (λ byte. byte == 10) after) fits in
    ap (λ n. tokens_from n items) (comment-lines bytes line parts.0)
tokens-cons (Wordly piece pieces) items after line fits = refl

pub items-printed : (items : List Item) (after : List ℕ) (line : ℕ) → fit items after ≡ true
    → scan (text items ++ after) 0 AtGap line ≡ in_front (tokens_from line items) (scan after 0 AtGap (line_after line (text items)))
items-printed [] after line fits = ap (scan after 0 AtGap) (omega arith) ∙ sym (in_front-nil (scan after 0 AtGap (line_after line [])))
items-printed (item ∷ items) after line fits =
    let rest = text items ++ after in
    let parts = and_parts (fits_item item rest) (fit items after) fits in
    let below = line_after line (item_text item) in
    let first = tokens_from line (item ∷ []) in
    ap (λ (bytes : List ℕ). scan bytes 0 AtGap line) (append_assoc (item_text item) (text items) after)
    ∙ item-printed item rest line parts.0
    ∙ ap (in_front first) (items-printed items after below parts.1)
    ∙ sym (in_front-append first (tokens_from below items) (scan after 0 AtGap (line_after below (text items))))
    ∙ ap (λ tokens. in_front tokens (scan after 0 AtGap (line_after below (text items)))) (tokens-cons item items rest line parts.0)
    ∙ ap (λ n. in_front (tokens_from line (item ∷ items)) (scan after 0 AtGap n)) (line-append line (item_text item) (text items))

-- a script that reads as tokens is scanned as them
pub reads-scanned : (script : List ℕ) (tokens : List Token) → Reads script tokens → scan script 0 AtGap 1 ≡ Ok tokens
reads-scanned script tokens reads =
    ap (λ (bytes : List ℕ). scan bytes 0 AtGap 1) (sym reads.is_text ∙ sym (append-nil (text reads.items)))
    ∙ items-printed reads.items [] 1 reads.fits
    ∙ ap (in_front (tokens_from 1 reads.items)) (scan-end [] AtGap (line_after 1 (text reads.items)) refl)
    ∙ ap Ok (append-nil (tokens_from 1 reads.items) ∙ reads.are_tokens)
