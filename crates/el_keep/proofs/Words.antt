-- Where the words of a text begin and end.
use Rattle.std.proofs.Common.{◌≡◌, ◌≢◌, ℕ, Bool, true, false, List, [], ◌∷◌, ◌++◌, refl, sym, ap, ◌∙◌, arith, append_assoc, append-nil, true≢false, length, drop, ◌+◌, ◌≤◌, length-append}
use Rattle.std.specs.Prelude.{◌==◌, ◌&&◌, ◌||◌, not, nat_le}
use Rattle.std.specs.List.{list_all}
use Rattle.std.proofs.lemmas.Bool.{and_parts}
use Rattle.el_lex.specs.Bytes.{is_one_of, is_whitespace, is_digit, is_octal_digit, is_hexadecimal_digit, is_over_or, begins_with}
use Rattle.el_lex.specs.Pieces.{Inner, Bare, Named, Hexadecimal, Octal, Decimal, Piece, Plain, Escaped, Quoted, inner_text, inners_text, pieces_text, fits_inner, fit_inners, fits_piece, fit_pieces, begins_comment, is_longest_run, is_byte_value, escape_number}
use Rattle.el_lex.specs.Reading.{Item, Blank, Comment, Wordly, text, fits_item, fit, is_comment}
use Rattle.el_lex.proofs.Printed.{nor_parts, differs}
use Rattle.el_keep.specs.declared.place.Place.TheVariants.{Gap as GapPlace, Comment as CommentPlace, Word as WordPlace, Quotes as QuotesPlace}
use Rattle.el_keep.specs.Parts.{word_place, run_from, gap_in, behind_gap, word_in, rest_in}
use Rattle.el_keep.specs.Kept.{past_word}

-- ---- bytes

pub unlike : (byte other : ℕ) → byte ≢ other → (byte == other) ≡ false
unlike byte other differ = grind arith

-- a byte that passes a test isn't one that fails it
pub other_byte : (test : ℕ → Bool) (byte other : ℕ) → test byte ≡ true → test other ≡ false → (byte == other) ≡ false
other_byte test byte other is isnt = unlike byte other (differs test byte other is isnt)

-- ---- in quotes

quotes-byte : (byte : ℕ) (tail : List ℕ) → (byte == 34) ≡ false → (byte == 92) ≡ false
    → run_from false QuotesPlace (byte ∷ tail) ≡ byte ∷ run_from false QuotesPlace tail
quotes-byte byte tail no_quote no_backslash = rw (no_quote, no_backslash) refl

quotes-digits : (test : ℕ → Bool) (digits tail : List ℕ) → test 34 ≡ false → test 92 ≡ false → list_all test digits ≡ true
    → run_from false QuotesPlace (digits ++ tail) ≡ digits ++ run_from false QuotesPlace tail
quotes-digits test [] tail no_quote no_backslash all = refl
quotes-digits test (digit ∷ digits) tail no_quote no_backslash all =
    let parts = and_parts (test digit) (list_all test digits) all in
    quotes-byte digit (digits ++ tail) (other_byte test digit 34 parts.0 no_quote) (other_byte test digit 92 parts.0 no_backslash)
    ∙ ap (λ (bytes : List ℕ). digit ∷ bytes) (quotes-digits test digits tail no_quote no_backslash parts.1)

-- the digits of a number escape, and what else is tested
digits-of : (test : ℕ → Bool) (digits after : List ℕ) (most : ℕ) (more value : Bool) → ((is_longest_run test most digits after && more) && value) ≡ true → (list_all test digits ≡ true) × (more ≡ true)
digits-of test digits after most more value fits =
    let escape = and_parts (is_longest_run test most digits after && more) value fits in
    let parts = and_parts (is_longest_run test most digits after) more escape.0 in
    let run = and_parts (list_all test digits) (nat_le (length digits) most && ((length digits == most) || not (begins_with test after))) parts.0 in
    (run.0, parts.1)

inner-run : (inner : Inner) (after tail : List ℕ) → fits_inner inner after ≡ true → run_from false QuotesPlace (inner_text inner ++ tail) ≡ inner_text inner ++ run_from false QuotesPlace tail
inner-run (Bare byte) after tail fits =
    quotes-byte byte tail (other_byte (λ b. not (is_one_of (0 ∷ 34 ∷ 92 ∷ []) b)) byte 34 fits refl) (other_byte (λ b. not (is_one_of (0 ∷ 34 ∷ 92 ∷ []) b)) byte 92 fits refl)
inner-run (Named byte) after tail fits = refl
inner-run (Hexadecimal digits) after tail fits =
    let parts = digits-of is_hexadecimal_digit digits after 2 (not (length digits == 0)) (is_byte_value (escape_number (Hexadecimal digits))) fits in
    ap (λ (bytes : List ℕ). 92 ∷ 48 ∷ 120 ∷ bytes) (quotes-digits is_hexadecimal_digit digits tail refl refl parts.0)
inner-run (Octal digits) after tail fits =
    let parts = digits-of is_octal_digit digits after 3 (not ((length digits == 0) && begins_with (λ byte. byte == 120) after)) (is_byte_value (escape_number (Octal digits))) fits in
    ap (λ (bytes : List ℕ). 92 ∷ 48 ∷ bytes) (quotes-digits is_octal_digit digits tail refl refl parts.0)
inner-run (Decimal []) after tail fits =
    let parts = digits-of is_digit [] after 3 (begins_with (λ byte. not (byte == 48)) []) (is_byte_value (escape_number (Decimal []))) fits in
    absurd (true≢false (sym parts.1))
inner-run (Decimal (digit ∷ digits)) after tail fits =
    let all = (digits-of is_digit (digit ∷ digits) after 3 (begins_with (λ byte. not (byte == 48)) (digit ∷ digits)) (is_byte_value (escape_number (Decimal (digit ∷ digits)))) fits).0 in
    let parts = and_parts (is_digit digit) (list_all is_digit digits) all in
    ap (λ (bytes : List ℕ). 92 ∷ digit ∷ bytes) (quotes-digits is_digit digits tail refl refl parts.1)

inners-run : (inners : List Inner) (after tail : List ℕ) → fit_inners inners after ≡ true → run_from false QuotesPlace (inners_text inners ++ tail) ≡ inners_text inners ++ run_from false QuotesPlace tail
inners-run [] after tail fits = refl
inners-run (inner ∷ inners) after tail fits =
    let parts = and_parts (fits_inner inner (inners_text inners ++ after)) (fit_inners inners after) fits in
    ap (λ (bytes : List ℕ). run_from false QuotesPlace bytes) (append_assoc (inner_text inner) (inners_text inners) tail)
    ∙ inner-run inner (inners_text inners ++ after) (inners_text inners ++ tail) parts.0
    ∙ ap (λ (bytes : List ℕ). inner_text inner ++ bytes) (inners-run inners after tail parts.1)
    ∙ sym (append_assoc (inner_text inner) (inners_text inners) (run_from false QuotesPlace tail))

-- ---- in a word

-- a plain byte stays in its word
plain-place : (byte : ℕ) → fits_piece (Plain byte) ≡ true → word_place byte ≡ WordPlace
plain-place byte fits =
    let parts = nor_parts (is_one_of (0 ∷ 34 ∷ 92 ∷ []) byte) (is_whitespace byte) fits in
    let no_quote = other_byte (λ b. fits_piece (Plain b)) byte 34 fits refl in
    let no_backslash = other_byte (λ b. fits_piece (Plain b)) byte 92 fits refl in
    rw (parts.1, no_quote, no_backslash) refl

-- a word is over before whitespace and at the end
word-end : (after : List ℕ) → is_over_or is_whitespace after ≡ true → run_from false WordPlace after ≡ []
word-end [] over = refl
word-end (byte ∷ after) over = rw over refl

pieces-run : (pieces : List Piece) (after : List ℕ) → list_all fits_piece pieces ≡ true → is_over_or is_whitespace after ≡ true → run_from false WordPlace (pieces_text pieces ++ after) ≡ pieces_text pieces
pieces-run [] after all over = word-end after over
pieces-run (Plain byte ∷ pieces) after all over =
    let parts = and_parts (fits_piece (Plain byte)) (list_all fits_piece pieces) all in
    rw (plain-place byte parts.0) (ap (λ (bytes : List ℕ). byte ∷ bytes) (pieces-run pieces after parts.1 over))
pieces-run (Escaped byte ∷ pieces) after all over =
    let parts = and_parts (fits_piece (Escaped byte)) (list_all fits_piece pieces) all in
    ap (λ (bytes : List ℕ). 92 ∷ byte ∷ bytes) (pieces-run pieces after parts.1 over)
pieces-run (Quoted inners ∷ pieces) after all over =
    let parts = and_parts (fits_piece (Quoted inners)) (list_all fits_piece pieces) all in
    let inside = inners_text inners in
    let rest = pieces_text pieces in
    let regroup : ((inside ++ 34 ∷ []) ++ rest) ++ after ≡ inside ++ (34 ∷ (rest ++ after)) = append_assoc (inside ++ 34 ∷ []) rest after ∙ append_assoc inside (34 ∷ []) (rest ++ after) in
    ap (λ (bytes : List ℕ). 34 ∷ run_from false QuotesPlace bytes) regroup
    ∙ ap (λ (bytes : List ℕ). 34 ∷ bytes) (inners-run inners (34 ∷ []) (34 ∷ (rest ++ after)) parts.0
    ∙ ap (λ (bytes : List ℕ). inside ++ (34 ∷ bytes)) (pieces-run pieces after parts.1 over)
    ∙ sym (append_assoc inside (34 ∷ []) rest))

-- a word begins where a gap is over
first-byte : (between : Bool) (piece : Piece) (pieces : List Piece) (after : List ℕ) → fit_pieces (piece ∷ pieces) ≡ true
    → run_from between GapPlace (pieces_text (piece ∷ pieces) ++ after) ≡ run_from between WordPlace (pieces_text (piece ∷ pieces) ++ after)
first-byte between (Plain byte) pieces after fits =
    let parts = and_parts (list_all fits_piece (Plain byte ∷ pieces)) (not (byte == 35)) fits in
    let no_comment = other_byte (λ b. not (b == 35)) byte 35 parts.1 refl in
    rw no_comment refl
first-byte between (Escaped byte) pieces after fits = refl
first-byte between (Quoted inners) pieces after fits = refl

pub word-run : (piece : Piece) (pieces : List Piece) (after : List ℕ) → fit_pieces (piece ∷ pieces) ≡ true → is_over_or is_whitespace after ≡ true
    → run_from false GapPlace (pieces_text (piece ∷ pieces) ++ after) ≡ pieces_text (piece ∷ pieces)
word-run piece pieces after fits over =
    first-byte false piece pieces after fits ∙ pieces-run (piece ∷ pieces) after (and_parts (list_all fits_piece (piece ∷ pieces)) (not (begins_comment (piece ∷ pieces))) fits).0 over

-- no gap is before a word
no_gap-place : (piece : Piece) (pieces : List Piece) (after : List ℕ) → list_all fits_piece (piece ∷ pieces) ≡ true → run_from true WordPlace (pieces_text (piece ∷ pieces) ++ after) ≡ []
no_gap-place (Plain byte) pieces after all = rw (plain-place byte (and_parts (fits_piece (Plain byte)) (list_all fits_piece pieces) all).0) refl
no_gap-place (Escaped byte) pieces after all = refl
no_gap-place (Quoted inners) pieces after all = refl

pub no_gap-run : (piece : Piece) (pieces : List Piece) (after : List ℕ) → fit_pieces (piece ∷ pieces) ≡ true → run_from true GapPlace (pieces_text (piece ∷ pieces) ++ after) ≡ []
no_gap-run piece pieces after fits =
    first-byte true piece pieces after fits ∙ no_gap-place piece pieces after (and_parts (list_all fits_piece (piece ∷ pieces)) (not (begins_comment (piece ∷ pieces))) fits).0

-- ---- items

-- the first item of a text, and the others
pub fit-parts : (item : Item) (items : List Item) → fit (item ∷ items) [] ≡ true → (fits_item item (text items) ≡ true) × (fit items [] ≡ true)
fit-parts item items fits =
    let parts = and_parts (fits_item item (text items ++ [])) (fit items []) fits in
    (ap (fits_item item) (sym (append-nil (text items))) ∙ parts.0, parts.1)

-- the bytes before the first word
abbrev pub gap_text : List Item → List ℕ
gap_text [] = []
gap_text (Blank byte ∷ items) = byte ∷ gap_text items
gap_text (Comment bytes ∷ items) = (35 ∷ bytes) ++ gap_text items
gap_text (Wordly piece pieces ∷ items) = []

-- the first word and what is behind it
abbrev pub from_word : List Item → List Item
from_word [] = []
from_word (Blank byte ∷ items) = from_word items
from_word (Comment bytes ∷ items) = from_word items
from_word (Wordly piece pieces ∷ items) = Wordly piece pieces ∷ items

-- the first word as it is written, or nothing
abbrev pub first_word : List Item → List ℕ
first_word [] = []
first_word (Blank byte ∷ items) = first_word items
first_word (Comment bytes ∷ items) = first_word items
first_word (Wordly piece pieces ∷ items) = pieces_text (piece ∷ pieces)

pub text-parted : (items : List Item) → text items ≡ gap_text items ++ text (from_word items)
text-parted [] = refl
text-parted (Blank byte ∷ items) = ap (λ (bytes : List ℕ). byte ∷ bytes) (text-parted items)
text-parted (Comment bytes ∷ items) =
    ap (λ (more : List ℕ). (35 ∷ bytes) ++ more) (text-parted items) ∙ sym (append_assoc (35 ∷ bytes) (gap_text items) (text (from_word items)))
text-parted (Wordly piece pieces ∷ items) = refl

pub from_word-fits : (items : List Item) → fit items [] ≡ true → fit (from_word items) [] ≡ true
from_word-fits [] fits = refl
from_word-fits (Blank byte ∷ items) fits = from_word-fits items (fit-parts (Blank byte) items fits).1
from_word-fits (Comment bytes ∷ items) fits = from_word-fits items (fit-parts (Comment bytes) items fits).1
from_word-fits (Wordly piece pieces ∷ items) fits = fits

pub past_word-fits : (items : List Item) → fit items [] ≡ true → fit (past_word items) [] ≡ true
past_word-fits [] fits = refl
past_word-fits (Blank byte ∷ items) fits = past_word-fits items (fit-parts (Blank byte) items fits).1
past_word-fits (Comment bytes ∷ items) fits = past_word-fits items (fit-parts (Comment bytes) items fits).1
past_word-fits (Wordly piece pieces ∷ items) fits = (fit-parts (Wordly piece pieces) items fits).1

-- ---- gaps

-- whitespace is no `#`
pub no_hash : (byte : ℕ) → is_whitespace byte ≡ true → (byte == 35) ≡ false
no_hash byte white = other_byte is_whitespace byte 35 white refl

pub comment-byte : (byte : ℕ) (bytes : List ℕ) → is_comment (byte ∷ bytes) ≡ true → ((byte == 10) ≡ false) × (is_comment bytes ≡ true)
comment-byte byte bytes is =
    let parts = and_parts (not (is_one_of (0 ∷ 10 ∷ []) byte)) (is_comment bytes) is in
    (other_byte (λ b. not (is_one_of (0 ∷ 10 ∷ []) b)) byte 10 parts.0 refl, parts.1)

comment-run : (bytes tail : List ℕ) → is_comment bytes ≡ true → run_from true CommentPlace (bytes ++ tail) ≡ bytes ++ run_from true CommentPlace tail
comment-run [] tail is = refl
comment-run (byte ∷ bytes) tail is =
    let parts = comment-byte byte bytes is in
    rw parts.0 (ap (λ (more : List ℕ). byte ∷ more) (comment-run bytes tail parts.1))

comment-end : (tail : List ℕ) → is_over_or (λ byte. byte == 10) tail ≡ true → run_from true CommentPlace tail ≡ run_from true GapPlace tail
comment-end [] over = refl
comment-end (byte ∷ tail) over = let same : 10 ≡ byte = grind (arith, over) in rw (sym same) refl

pub gap-run : (items : List Item) → fit items [] ≡ true → gap_in (text items) ≡ gap_text items
gap-run [] fits = refl
gap-run (Blank byte ∷ items) fits =
    let parts = fit-parts (Blank byte) items fits in
    let white : is_whitespace byte ≡ true = parts.0 in
    rw (no_hash byte white, white) (ap (λ (more : List ℕ). byte ∷ more) (gap-run items parts.1))
gap-run (Comment bytes ∷ items) fits =
    let parts = fit-parts (Comment bytes) items fits in
    let is = and_parts (is_comment bytes) (is_over_or (λ byte. byte == 10) (text items)) parts.0 in
    ap (λ (more : List ℕ). 35 ∷ more) (comment-run bytes (text items) is.0 ∙ ap (λ (more : List ℕ). bytes ++ more) (comment-end (text items) is.1 ∙ gap-run items parts.1))
gap-run (Wordly piece pieces ∷ items) fits =
    let parts = fit-parts (Wordly piece pieces) items fits in
    no_gap-run piece pieces (text items) (and_parts (fit_pieces (piece ∷ pieces)) (is_over_or is_whitespace (text items)) parts.0).0

-- ---- the first part of a text

pub drop-front : (front back : List ℕ) → drop (length front) (front ++ back) ≡ back
drop-front [] back = refl
drop-front (byte ∷ front) back = drop-front front back

pub behind-run : (items : List Item) → fit items [] ≡ true → behind_gap (text items) ≡ text (from_word items)
behind-run items fits =
    ap (λ (gap : List ℕ). drop (length gap) (text items)) (gap-run items fits) ∙ ap (drop (length (gap_text items))) (text-parted items) ∙ drop-front (gap_text items) (text (from_word items))

word-here : (items : List Item) → fit (from_word items) [] ≡ true → run_from false GapPlace (text (from_word items)) ≡ first_word items
word-here [] fits = refl
word-here (Blank byte ∷ items) fits = word-here items fits
word-here (Comment bytes ∷ items) fits = word-here items fits
word-here (Wordly piece pieces ∷ items) fits =
    let parts = fit-parts (Wordly piece pieces) items fits in
    let is = and_parts (fit_pieces (piece ∷ pieces)) (is_over_or is_whitespace (text items)) parts.0 in
    word-run piece pieces (text items) is.0 is.1

pub word-is : (items : List Item) → fit items [] ≡ true → word_in (text items) ≡ first_word items
word-is items fits = ap (run_from false GapPlace) (behind-run items fits) ∙ word-here items (from_word-fits items fits)

word-parted : (items : List Item) → text (from_word items) ≡ first_word items ++ text (past_word items)
word-parted [] = refl
word-parted (Blank byte ∷ items) = word-parted items
word-parted (Comment bytes ∷ items) = word-parted items
word-parted (Wordly piece pieces ∷ items) = refl

pub rest-is : (items : List Item) → fit items [] ≡ true → rest_in (text items) ≡ text (past_word items)
rest-is items fits =
    ap (λ (word : List ℕ). drop (length word) (behind_gap (text items))) (word-is items fits)
    ∙ ap (drop (length (first_word items))) (behind-run items fits ∙ word-parted items)
    ∙ drop-front (first_word items) (text (past_word items))

-- where no word is read, none is there
pub no-word : (items : List Item) → first_word items ≡ [] → from_word items ≡ []
no-word [] none = refl
no-word (Blank byte ∷ items) none = no-word items none
no-word (Comment bytes ∷ items) none = no-word items none
no-word (Wordly (Plain byte) pieces ∷ items) none = let no : ⊥ = cc in absurd no
no-word (Wordly (Escaped byte) pieces ∷ items) none = let no : ⊥ = cc in absurd no
no-word (Wordly (Quoted inners) pieces ∷ items) none = let no : ⊥ = cc in absurd no

-- a word and what is behind it are no longer than the text
pub parts-length : (items : List Item) → length (first_word items) + length (text (past_word items)) ≤ length (text items)
parts-length [] = omega arith
parts-length (Blank byte ∷ items) = let rest = parts-length items in omega (arith, rest)
parts-length (Comment bytes ∷ items) = let rest = parts-length items in let whole = length-append (35 ∷ bytes) (text items) in omega (arith, rest, whole)
parts-length (Wordly piece pieces ∷ items) = let whole = length-append (pieces_text (piece ∷ pieces)) (text items) in omega (arith, whole)
