-- At a fault the scanner stops with it; so a script has one reading or one fault.
use Rattle.std.proofs.Common.{◌≡◌, ◌≢◌, ℕ, ◌<◌, true, false, List, [], ◌∷◌, ◌++◌, Result, Ok, Err, refl, sym, ap, ◌∙◌, arith, true≢false, append_assoc, not, subst}
use Rattle.std.specs.Prelude.{◌==◌, nat_lt}
use Rattle.std.specs.List.{list_all}
use Rattle.std.proofs.lemmas.Bool.{and_parts}
use Rattle.el_lex.specs.declared.token.Token.{Token}
use Rattle.el_lex.specs.declared.fault.LexKind.{LexKind}
use Rattle.el_lex.specs.declared.fault.LexKind.TheVariants.{Nul, EndAfterBackslash, BadNumber, ByteTooLarge, NulEscape, OpenQuote}
use Rattle.el_lex.specs.Bytes.{is_whitespace, is_hexadecimal_digit, begins_with, is_over_or}
use Rattle.el_lex.specs.Pieces.{Inner, Bare, Named, Hexadecimal, Octal, Decimal, Piece, inner_text, inners_text, piece_text, pieces_text, inners_value, pieces_value, is_number_escape, escape_number, fit_inners, fits_piece, fit_pieces, begins_comment}
use Rattle.el_lex.specs.Reading.{text, tokens_from, Reads}
use Rattle.el_lex.specs.Faults.{Cut, InComment, InWord, InQuotes, cut_text, fits_cut, EscapeNext, Cause, nul, escaped_nul_in_word, escaped_nul_in_quotes, end_in_word, end_in_quotes, bad_number, too_large, zero_escape as zero_cause, open_quote, text_before, FaultsAt}
use Rattle.el_lex.specs.Scan.{AtGap, AtWord, AtQuotes, checked, escape, in_front, scan, line_after}
use Rattle.el_lex.proofs.Scans.{scan-next, scan-word, scan-piece, scan-comment_nul, scan-quotes_end, piece-quote, escape-fault}
use Rattle.el_lex.proofs.Escapes.{escape-end, escape-nul}
use Rattle.el_lex.proofs.Printed.{line-append, hexadecimal-printed, octal-printed, decimal-printed, inners-printed, pieces-printed, not_lone, not_lone-more, word-goes_on, word-begins, comment-begins, comment-lines, items-printed, reads-scanned}

-- ---- up to the fault

-- a byte at which a word goes on or a fault stands: a quote, a backslash or a NUL
record Stands (byte : ℕ) : Type 0 where
  dark : is_whitespace byte ≡ false
  no_comment : (byte == 35) ≡ false
  no_open : byte ≢ 123
  no_close : byte ≢ 125

quote_stands : Stands 34
quote_stands = record { dark = refl; no_comment = refl; no_open = omega arith; no_close = omega arith }

backslash_stands : Stands 92
backslash_stands = record { dark = refl; no_comment = refl; no_open = omega arith; no_close = omega arith }

nul_stands : Stands 0
nul_stands = record { dark = refl; no_comment = refl; no_open = omega arith; no_close = omega arith }

more-follows : (pieces : List Piece) (byte : ℕ) (rest : List ℕ) → list_all fits_piece pieces ≡ true → is_whitespace byte ≡ false → is_over_or is_whitespace (pieces_text pieces ++ byte ∷ rest) ≡ false
more-follows [] byte rest fits dark = dark
more-follows (piece ∷ pieces) byte rest fits dark =
    ap (is_over_or is_whitespace) (append_assoc (piece_text piece) (pieces_text pieces) (byte ∷ rest))
    ∙ word-goes_on piece (pieces_text pieces ++ byte ∷ rest) (and_parts (fits_piece piece) (list_all fits_piece pieces) fits).0

-- a word with these pieces so far, which goes on
word-so_far : (pieces : List Piece) (byte : ℕ) (rest : List ℕ) (line : ℕ) → fit_pieces pieces ≡ true → Stands byte
    → scan (pieces_text pieces ++ byte ∷ rest) 0 AtGap line ≡ scan (byte ∷ rest) 0 (AtWord line (pieces_value pieces)) (line_after line (pieces_text pieces))
word-so_far [] byte rest line fits stands =
    scan-word (byte ∷ rest) byte line refl stands.dark stands.no_comment (not_lone line byte rest stands.no_open stands.no_close)
    ∙ ap (scan (byte ∷ rest) 0 (AtWord line [])) (omega arith)
word-so_far (piece ∷ pieces) byte rest line fits stands =
    let all = (and_parts (list_all fits_piece (piece ∷ pieces)) (not (begins_comment (piece ∷ pieces))) fits).0 in
    let later = (and_parts (fits_piece piece) (list_all fits_piece pieces) all).1 in
    word-begins piece pieces (byte ∷ rest) line fits (λ b plain. not_lone-more line b (pieces_text pieces ++ byte ∷ rest) (more-follows pieces byte rest later stands.dark))
    ∙ pieces-printed (piece ∷ pieces) (byte ∷ rest) line line [] all

-- a quoted string so far
quotes-so_far : (pieces : List Piece) (inners : List Inner) (rest : List ℕ) (line : ℕ) → fit_pieces pieces ≡ true → fit_inners inners rest ≡ true
    → scan ((pieces_text pieces ++ (34 ∷ inners_text inners)) ++ rest) 0 AtGap line
    ≡ scan rest 0 (AtQuotes line (pieces_value pieces ++ inners_value inners) (line_after line (pieces_text pieces))) (line_after line (pieces_text pieces ++ (34 ∷ inners_text inners)))
quotes-so_far pieces inners rest line fits inside_fits =
    let inside = inners_text inners ++ rest in
    let opened = line_after line (pieces_text pieces) in
    let value = pieces_value pieces in
    ap (λ (bytes : List ℕ). scan bytes 0 AtGap line) (append_assoc (pieces_text pieces) (34 ∷ inners_text inners) rest)
    ∙ word-so_far pieces 34 inside line fits quote_stands
    ∙ scan-piece (34 ∷ inside) inside 34 opened opened line value refl refl (omega arith) refl
    ∙ piece-quote inside opened line value
    ∙ inners-printed inners rest line opened opened value inside_fits
    ∙ ap (scan rest 0 (AtQuotes line (value ++ inners_value inners) opened)) (lines ∙ line-append line (pieces_text pieces) (34 ∷ inners_text inners))
  where
    lines : line_after (line_after line (pieces_text pieces)) (inners_text inners) ≡ line_after (line_after line (pieces_text pieces)) (34 ∷ inners_text inners)
    lines = omega arith

-- ---- the fault

abbrev Answer : Type 0
Answer = Result (List Token) (LexKind × ℕ)

quotes-stop : (rest : List ℕ) (kind : LexKind) (line began opened : ℕ) (value : List ℕ) → escape rest ≡ Err kind → scan (92 ∷ rest) 0 (AtQuotes began value opened) line ≡ Err (kind, line)
quotes-stop rest kind line began opened value is =
    scan-next (92 ∷ rest) 92 (AtQuotes began value opened) line refl ∙ escape-fault rest value kind line began opened is

-- behind the backslash of a number escape
record Behind (inner : Inner) (whole : List ℕ) : Type 0 where
  rest : List ℕ
  is_whole : whole ≡ 92 ∷ rest
  is_checked : escape rest ≡ checked inner

number-stands : (inner : Inner) (after : List ℕ) → is_number_escape inner after ≡ true → Behind inner (inner_text inner ++ after)
number-stands (Bare byte) after is = absurd (true≢false (sym is))
number-stands (Named byte) after is = absurd (true≢false (sym is))
number-stands (Hexadecimal digits) after is = record { rest = (48 ∷ 120 ∷ digits) ++ after; is_whole = refl; is_checked = hexadecimal-printed digits after is }
number-stands (Octal digits) after is = record { rest = (48 ∷ digits) ++ after; is_whole = refl; is_checked = octal-printed digits after is }
number-stands (Decimal digits) after is = record { rest = digits ++ after; is_whole = refl; is_checked = decimal-printed digits after is }

checked-large : (inner : Inner) (number : ℕ) → escape_number inner ≡ number → 255 < number → checked inner ≡ Err ByteTooLarge
checked-large inner number is large =
    let some : (number == 0) ≡ false = grind arith in
    let over : nat_lt 255 number ≡ true = grind arith in
    rw (is, some, over) refl

checked-zero : (inner : Inner) → escape_number inner ≡ 0 → checked inner ≡ Err NulEscape
checked-zero inner is = rw is refl

number-stop : (rest : List ℕ) (number : ℕ) (kind : LexKind) (line began opened : ℕ) (value : List ℕ) (next : EscapeNext rest number) → checked next.escape ≡ Err kind
    → scan rest 0 (AtQuotes began value opened) line ≡ Err (kind, line)
number-stop rest number kind line began opened value next is =
    let behind = number-stands next.escape next.after next.is_escape in
    ap (λ (bytes : List ℕ). scan bytes 0 (AtQuotes began value opened) line) (sym next.is_rest ∙ behind.is_whole)
    ∙ quotes-stop behind.rest kind line began opened value (behind.is_checked ∙ is)

bad-number : (after : List ℕ) → begins_with is_hexadecimal_digit after ≡ false → escape (48 ∷ 120 ∷ after) ≡ Err BadNumber
unfolding escape
bad-number after is = rw is refl

nul-stop : (cut : Cut) (after : List ℕ) (line : ℕ) → fits_cut cut (0 ∷ after) ≡ true → scan (cut_text cut ++ 0 ∷ after) 0 AtGap line ≡ Err (Nul, line_after line (cut_text cut))
nul-stop (InComment bytes) after line fits =
    comment-begins bytes (0 ∷ after) line fits ∙ scan-comment_nul (0 ∷ after) line refl ∙ ap (λ n. Err (Nul, n)) (sym (comment-lines bytes line fits))
nul-stop (InWord pieces) after line fits = word-so_far pieces 0 after line fits nul_stands ∙ scan-next (0 ∷ after) 0 (AtWord line (pieces_value pieces)) (line_after line (pieces_text pieces)) refl
nul-stop (InQuotes pieces inners) after line fits =
    let parts = and_parts (fit_pieces pieces) (fit_inners inners (0 ∷ after)) fits in
    quotes-so_far pieces inners (0 ∷ after) line parts.0 parts.1
    ∙ scan-next (0 ∷ after) 0 (AtQuotes line (pieces_value pieces ++ inners_value inners) (line_after line (pieces_text pieces))) (line_after line (cut_text (InQuotes pieces inners))) refl

-- what stands in quotes and stops the scanner there
in_quotes-stop : (pieces : List Piece) (inners : List Inner) (rest : List ℕ) (line : ℕ) (answer : Answer) → fits_cut (InQuotes pieces inners) rest ≡ true
    → ((began opened : ℕ) (value : List ℕ) → opened ≡ line_after line (pieces_text pieces) → scan rest 0 (AtQuotes began value opened) (line_after line (cut_text (InQuotes pieces inners))) ≡ answer)
    → scan (cut_text (InQuotes pieces inners) ++ rest) 0 AtGap line ≡ answer
in_quotes-stop pieces inners rest line answer fits stops =
    let parts = and_parts (fit_pieces pieces) (fit_inners inners rest) fits in
    quotes-so_far pieces inners rest line parts.0 parts.1 ∙ stops line (line_after line (pieces_text pieces)) (pieces_value pieces ++ inners_value inners) refl

pub cause-stops : (kind : LexKind) (cut : Cut) (rest : List ℕ) (line : ℕ) → fits_cut cut rest ≡ true → Cause kind cut rest
    → scan (cut_text cut ++ rest) 0 AtGap line ≡ Err (kind, line_after line (text_before kind cut))
cause-stops kind cut rest line fits (nul (after, is)) =
    let P : List ℕ → Type 0 = λ bytes. fits_cut cut bytes ≡ true in
    ap (λ (bytes : List ℕ). scan (cut_text cut ++ bytes) 0 AtGap line) (sym is) ∙ nul-stop cut after line (subst P (sym is) fits)
cause-stops kind cut rest line fits (escaped_nul_in_word {pieces} (after, is)) =
    let below = line_after line (pieces_text pieces) in
    ap (λ (bytes : List ℕ). scan (pieces_text pieces ++ bytes) 0 AtGap line) (sym is) ∙ word-so_far pieces 92 (0 ∷ after) line fits backslash_stands
    ∙ scan-next (92 ∷ 0 ∷ after) 92 (AtWord line (pieces_value pieces)) below refl
cause-stops kind cut rest line fits (escaped_nul_in_quotes {pieces} {inners} (after, is)) =
    in_quotes-stop pieces inners rest line _ fits (λ began opened value same.
    ap (λ (bytes : List ℕ). scan bytes 0 (AtQuotes began value opened) (line_after line (cut_text (InQuotes pieces inners)))) (sym is)
    ∙ quotes-stop (0 ∷ after) Nul _ began opened value (escape-nul (0 ∷ after) refl))
cause-stops kind cut rest line fits (end_in_word {pieces}) =
    word-so_far pieces 92 [] line fits backslash_stands ∙ scan-next (92 ∷ []) 92 (AtWord line (pieces_value pieces)) (line_after line (pieces_text pieces)) refl
cause-stops kind cut rest line fits (end_in_quotes {pieces} {inners}) =
    in_quotes-stop pieces inners (92 ∷ []) line _ fits (λ began opened value same. quotes-stop [] EndAfterBackslash _ began opened value (escape-end [] refl))
cause-stops kind cut rest line fits (bad_number {pieces} {inners} next) =
    in_quotes-stop pieces inners rest line _ fits (λ began opened value same.
    ap (λ (bytes : List ℕ). scan bytes 0 (AtQuotes began value opened) (line_after line (cut_text (InQuotes pieces inners)))) (sym next.is_rest)
    ∙ quotes-stop (48 ∷ 120 ∷ next.after) BadNumber _ began opened value (bad-number next.after next.no_digit))
cause-stops kind cut rest line fits (too_large {pieces} {inners} {number = number} next large) =
    in_quotes-stop pieces inners rest line _ fits (λ began opened value same.
    number-stop rest number ByteTooLarge _ began opened value next (checked-large next.escape number next.is_number large))
cause-stops kind cut rest line fits (zero_cause {pieces} {inners} next) =
    in_quotes-stop pieces inners rest line _ fits (λ began opened value same.
    number-stop rest 0 NulEscape _ began opened value next (checked-zero next.escape next.is_number))
cause-stops kind cut rest line fits (open_quote {pieces} {inners}) =
    in_quotes-stop pieces inners [] line _ fits (λ began opened value same. scan-quotes_end [] _ began opened value refl ∙ ap (λ n. Err (OpenQuote, n)) same)

-- a script with a fault is scanned up to it
pub fault-scanned : (script : List ℕ) (kind : LexKind) (line : ℕ) → FaultsAt script kind line → scan script 0 AtGap 1 ≡ Err (kind, line)
fault-scanned script kind line fault =
    let before = text fault.items in
    ap (λ (bytes : List ℕ). scan bytes 0 AtGap 1) (sym fault.is_text)
    ∙ items-printed fault.items (cut_text fault.cut ++ fault.rest) 1 fault.fits
    ∙ ap (in_front (tokens_from 1 fault.items)) (cause-stops kind fault.cut fault.rest (line_after 1 before) fault.cut_fits fault.cause)
    ∙ ap (λ n. Err (kind, n)) (line-append 1 before (text_before kind fault.cut) ∙ fault.is_line)

-- ---- so there is one at most

pub ok-same : (answer : Answer) (one other : List Token) → answer ≡ Ok one → answer ≡ Ok other → one ≡ other
ok-same answer one other is also = cc

same-fault : (answer : Answer) (one other : LexKind × ℕ) → answer ≡ Err one → answer ≡ Err other → one ≡ other
same-fault answer one other is also = cc

pub err-same : (answer : Answer) (one other : LexKind) (here there : ℕ) → answer ≡ Err (one, here) → answer ≡ Err (other, there) → (one ≡ other) × (here ≡ there)
err-same answer one other here there is also =
    let same = same-fault answer (one, here) (other, there) is also in
    (ap (λ (fault : LexKind × ℕ). fault.0) same, ap (λ (fault : LexKind × ℕ). fault.1) same)

pub never : (answer : Answer) (tokens : List Token) (kind : LexKind) (line : ℕ) → answer ≡ Ok tokens → answer ≡ Err (kind, line) → ⊥
never answer tokens kind line is also = cc

pub one-reading : (script : List ℕ) (one other : List Token) → Reads script one → Reads script other → one ≡ other
one-reading script one other is also = ok-same (scan script 0 AtGap 1) one other (reads-scanned script one is) (reads-scanned script other also)

pub one-fault : (script : List ℕ) (one other : LexKind) (here there : ℕ) → FaultsAt script one here → FaultsAt script other there → (one ≡ other) × (here ≡ there)
one-fault script one other here there is also = err-same (scan script 0 AtGap 1) one other here there (fault-scanned script one here is) (fault-scanned script other there also)

pub never-both : (script : List ℕ) (tokens : List Token) (kind : LexKind) (line : ℕ) → Reads script tokens → FaultsAt script kind line → ⊥
never-both script tokens kind line reads fault = never (scan script 0 AtGap 1) tokens kind line (reads-scanned script tokens reads) (fault-scanned script kind line fault)
