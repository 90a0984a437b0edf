-- Which tokens a script reads as.
use Rattle.std.specs.Prelude.{◌≡◌, ℕ, ◌+◌, ◌≤◌, Bool, true, ◌&&◌, not, ◌==◌, List, [], ◌∷◌, ◌++◌, length, count_by, if◌then◌else◌}
use Rattle.std.specs.List.{list_all, flat_map}
use Rattle.el_lex.specs.declared.lexer.TheConstants.{MAX_SCRIPT}
use Rattle.el_lex.specs.declared.token.Token.{Token}
use Rattle.el_lex.specs.declared.token.Token.TheVariants.{Word as WordToken, Open, Close}
use Rattle.el_lex.specs.Bytes.{is_one_of, is_whitespace, is_over_or}
use Rattle.el_lex.specs.Pieces.{Piece, Plain, pieces_text, pieces_value, fit_pieces}

-- a whitespace byte, a comment without its `#`, or a word of one or more pieces
pub data Item : Type 0 where
  Blank : ℕ → Item
  Comment : List ℕ → Item
  Wordly : Piece → List Piece → Item

-- how an item is written
abbrev pub item_text : Item → List ℕ
item_text (Blank byte) = byte ∷ []
item_text (Comment bytes) = 35 ∷ bytes
item_text (Wordly piece pieces) = pieces_text (piece ∷ pieces)

-- how items are written
abbrev pub text : List Item → List ℕ
text items = flat_map item_text items

-- a comment holds no NUL and no newline
abbrev pub is_comment : List ℕ → Bool
is_comment bytes = list_all (λ byte. not (is_one_of (0 ∷ 10 ∷ []) byte)) bytes

-- a comment ends before a newline or at the end, and a word before whitespace or at the end
abbrev pub fits_item : Item → (after : List ℕ) → Bool
fits_item (Blank byte) after = is_whitespace byte
fits_item (Comment bytes) after = is_comment bytes && is_over_or (λ byte. byte == 10) after
fits_item (Wordly piece pieces) after = fit_pieces (piece ∷ pieces) && is_over_or is_whitespace after

-- items before the text behind them
abbrev pub fit : List Item → (after : List ℕ) → Bool
fit [] after = true
fit (item ∷ items) after = fits_item item (text items ++ after) && fit items after

-- ---- tokens

-- how many newlines there are
abbrev pub newlines_in : List ℕ → ℕ
newlines_in bytes = count_by (λ byte. byte == 10) bytes

-- the one plain byte `{` (123) or `}` (125), or else a word
abbrev pub token_of : (line : ℕ) → Piece → List Piece → Token
token_of line (Plain byte) [] = if byte == 123 then Open line else (if byte == 125 then Close line else WordToken line (byte ∷ []))
token_of line piece pieces = WordToken line (pieces_value (piece ∷ pieces))

-- the tokens of items of which the first stands on this line
abbrev pub tokens_from : (line : ℕ) → List Item → List Token
tokens_from line [] = []
tokens_from line (Blank byte ∷ items) = tokens_from (line + newlines_in (byte ∷ [])) items
tokens_from line (Comment bytes ∷ items) = tokens_from line items
tokens_from line (Wordly piece pieces ∷ items) = token_of line piece pieces ∷ tokens_from (line + newlines_in (pieces_text (piece ∷ pieces))) items

-- the script is gaps and words in turn, and these are its tokens
pub record Reads (script : List ℕ) (tokens : List Token) : Type 0 where
  pub items : List Item
  pub fits : fit items [] ≡ true
  pub is_text : text items ≡ script
  pub are_tokens : tokens_from 1 items ≡ tokens

-- the script reads as some tokens
abbrev pub ReadsSome : List ℕ → Type 0
ReadsSome script = (tokens : List Token) × Reads script tokens

-- the script reads as these tokens and isn't too long
pub record Lexes (script : List ℕ) (tokens : List Token) : Type 0 where
  pub short : length script ≤ MAX_SCRIPT
  pub reads : Reads script tokens
