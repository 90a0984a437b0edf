-- The first fault of a script: all before it fits, and its cause stands at the next byte.
use Rattle.std.specs.Prelude.{◌≡◌, ℕ, ◌+◌, ◌<◌, ◌≤◌, Bool, true, false, ◌&&◌, List, [], ◌∷◌, ◌++◌, length}
use Rattle.el_lex.specs.declared.lexer.TheConstants.{MAX_SCRIPT}
use Rattle.el_lex.specs.declared.fault.LexFault.{LexFault}
use Rattle.el_lex.specs.declared.fault.LexKind.{LexKind}
use Rattle.el_lex.specs.declared.fault.LexKind.TheVariants.{TooLong, Nul, EndAfterBackslash, BadNumber, ByteTooLarge, NulEscape, OpenQuote, NoMemory}
use Rattle.el_lex.specs.Bytes.{is_hexadecimal_digit, begins_with}
use Rattle.el_lex.specs.Pieces.{Inner, Piece, inner_text, inners_text, pieces_text, fit_inners, fit_pieces, is_number_escape, escape_number}
use Rattle.el_lex.specs.Reading.{Item, text, fit, is_comment, newlines_in}

-- what a fault cuts off: a comment; a word with its pieces so far, perhaps none; or a word in whose quotes something stands
pub data Cut : Type 0 where
  InComment : List ℕ → Cut
  InWord : List Piece → Cut
  InQuotes : List Piece → List Inner → Cut

-- how it is written
abbrev pub cut_text : Cut → List ℕ
cut_text (InComment bytes) = 35 ∷ bytes
cut_text (InWord pieces) = pieces_text pieces
cut_text (InQuotes pieces inners) = pieces_text pieces ++ (34 ∷ inners_text inners)

-- it fits before the text behind it
abbrev pub fits_cut : Cut → (rest : List ℕ) → Bool
fits_cut (InComment bytes) rest = is_comment bytes
fits_cut (InWord pieces) rest = fit_pieces pieces
fits_cut (InQuotes pieces inners) rest = fit_pieces pieces && fit_inners inners rest

-- a number escape stands next, with this number
pub record EscapeNext (rest : List ℕ) (number : ℕ) : Type 0 where
  pub escape : Inner
  pub after : List ℕ
  pub is_rest : inner_text escape ++ after ≡ rest
  pub is_escape : is_number_escape escape after ≡ true
  pub is_number : escape_number escape ≡ number

-- `\0x` stands next, and no hexadecimal digit behind it
pub record NoDigitNext (rest : List ℕ) : Type 0 where
  pub after : List ℕ
  pub is_rest : 92 ∷ 48 ∷ 120 ∷ after ≡ rest
  pub no_digit : begins_with is_hexadecimal_digit after ≡ false

-- a NUL stands next
abbrev pub NulNext : List ℕ → Type 0
NulNext rest = (after : List ℕ) × (0 ∷ after ≡ rest)

-- a backslash stands next, and a NUL behind it
abbrev pub EscapedNulNext : List ℕ → Type 0
EscapedNulNext rest = (after : List ℕ) × (92 ∷ 0 ∷ after ≡ rest)

-- the fault is caused by what stands next: after a backslash in words and quotes, and by numbers in quotes alone
pub data Cause : LexKind → Cut → (rest : List ℕ) → Type 0 where
  nul : {cut : Cut} {rest : List ℕ} → NulNext rest → Cause Nul cut rest
  escaped_nul_in_word : {pieces : List Piece} {rest : List ℕ} → EscapedNulNext rest → Cause Nul (InWord pieces) rest
  escaped_nul_in_quotes : {pieces : List Piece} {inners : List Inner} {rest : List ℕ} → EscapedNulNext rest → Cause Nul (InQuotes pieces inners) rest
  end_in_word : {pieces : List Piece} → Cause EndAfterBackslash (InWord pieces) (92 ∷ [])
  end_in_quotes : {pieces : List Piece} {inners : List Inner} → Cause EndAfterBackslash (InQuotes pieces inners) (92 ∷ [])
  bad_number : {pieces : List Piece} {inners : List Inner} {rest : List ℕ} → NoDigitNext rest → Cause BadNumber (InQuotes pieces inners) rest
  too_large : {pieces : List Piece} {inners : List Inner} {rest : List ℕ} {number : ℕ} → EscapeNext rest number → 255 < number → Cause ByteTooLarge (InQuotes pieces inners) rest
  zero_escape : {pieces : List Piece} {inners : List Inner} {rest : List ℕ} → EscapeNext rest 0 → Cause NulEscape (InQuotes pieces inners) rest
  open_quote : {pieces : List Piece} {inners : List Inner} → Cause OpenQuote (InQuotes pieces inners) []

-- the text before the place of a fault: an open quote is named by its own place
abbrev pub text_before : LexKind → Cut → List ℕ
text_before OpenQuote (InQuotes pieces inners) = pieces_text pieces
text_before kind cut = cut_text cut

-- the first fault of a script that isn't too long
pub record FaultsAt (script : List ℕ) (kind : LexKind) (line : ℕ) : Type 0 where
  pub items : List Item
  pub cut : Cut
  pub rest : List ℕ
  pub fits : fit items (cut_text cut ++ rest) ≡ true
  pub cut_fits : fits_cut cut rest ≡ true
  pub is_text : text items ++ (cut_text cut ++ rest) ≡ script
  pub cause : Cause kind cut rest
  pub is_line : 1 + newlines_in (text items ++ text_before kind cut) ≡ line

-- the script has a first fault
abbrev pub FaultsSome : List ℕ → Type 0
FaultsSome script = (kind : LexKind) × ((line : ℕ) × FaultsAt script kind line)

-- the first fault; too long a script is tested first, and want of memory is free
abbrev pub IsFirstFault : List ℕ → LexKind → ℕ → Type 0
IsFirstFault script TooLong line = (MAX_SCRIPT < length script) × (line ≡ 1)
IsFirstFault script NoMemory line = line ≡ 0
IsFirstFault script kind line = (length script ≤ MAX_SCRIPT) × FaultsAt script kind line

-- the same of a fault with its line
abbrev pub IsFirstLexFault : List ℕ → LexFault → Type 0
IsFirstLexFault script fault = IsFirstFault script fault.kind fault.line
