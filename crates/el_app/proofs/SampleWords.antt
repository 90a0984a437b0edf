-- Words with a blank behind each, as a script reads them.
use Rattle.el_script.proofs.Vocabulary.{list_all, and_from, Token, Word as WordToken, is_whitespace, Piece, pieces_text, pieces_value, fits_piece, Item, Blank, Wordly, text, fit, newlines_in, token_of, tokens_from, Reads, TokenShape, Text, Open, Close, shapes_of}
use Rattle.std.proofs.Common.{◌≡◌, ℕ, ◌+◌, Bool, true, false, not, ◌==◌, List, [], ◌∷◌, ◌++◌, map, if◌then◌else◌, refl, ap, ◌∙◌}
use Rattle.std.proofs.lemmas.List.Folds.{list_all-map}
use Rattle.el_lex.specs.declared.token.Token.TheVariants.{Open as OpenToken, Close as CloseToken}
use Rattle.el_lex.specs.Pieces.{Plain}
use Rattle.el_blocks.specs.Tokens.{shape_of}

-- a word by its first byte and the others, and the blank behind it
pub record Spaced : Type 0 where
  pub first : ℕ
  pub others : List ℕ
  pub blank : ℕ

-- how they are written
abbrev pub spaced_text : List Spaced → List ℕ
spaced_text [] = []
spaced_text (one ∷ more) = one.first ∷ (one.others ++ (one.blank ∷ spaced_text more))

-- bytes that stand for themselves
abbrev pub are_plain : List ℕ → Bool
are_plain bytes = list_all (λ byte. fits_piece (Plain byte)) bytes

-- the words are of such bytes, begin no comment, and have whitespace behind them
pub data AreGood : List Spaced → Type 0 where
  none_good : AreGood []
  good : {one : Spaced} {more : List Spaced} → fits_piece (Plain one.first) ≡ true → are_plain one.others ≡ true → (one.first == 35) ≡ false → is_whitespace one.blank ≡ true → AreGood more → AreGood (one ∷ more)

-- a brace alone, or a word
abbrev pub word_shape : (first : ℕ) → (others : List ℕ) → TokenShape
word_shape first [] = if first == 123 then Open else (if first == 125 then Close else Text (first ∷ []))
word_shape first (byte ∷ others) = Text (first ∷ byte ∷ others)

abbrev pub spaced_shapes : List Spaced → List TokenShape
spaced_shapes words = map (λ (one : Spaced). word_shape one.first one.others) words

-- ---- as they are read

abbrev plains : List ℕ → List Piece
plains bytes = map Plain bytes

abbrev items_of : List Spaced → List Item
items_of [] = []
items_of (one ∷ more) = Wordly (Plain one.first) (plains one.others) ∷ Blank one.blank ∷ items_of more

plains-text : (bytes : List ℕ) → pieces_text (plains bytes) ≡ bytes
plains-text [] = refl
plains-text (byte ∷ bytes) = ap (λ bytes. byte ∷ bytes) (plains-text bytes)

plains-value : (bytes : List ℕ) → pieces_value (plains bytes) ≡ bytes
plains-value [] = refl
plains-value (byte ∷ bytes) = ap (λ bytes. byte ∷ bytes) (plains-value bytes)

plains-fit : (bytes : List ℕ) → are_plain bytes ≡ true → list_all fits_piece (plains bytes) ≡ true
plains-fit bytes are = list_all-map fits_piece Plain bytes ∙ are

items-text : (words : List Spaced) → text (items_of words) ≡ spaced_text words
items-text [] = refl
items-text (one ∷ more) =
    ap (λ bytes. one.first ∷ (bytes ++ (one.blank ∷ text (items_of more)))) (plains-text one.others)
    ∙ ap (λ bytes. one.first ∷ (one.others ++ (one.blank ∷ bytes))) (items-text more)

items-fit : (words : List Spaced) → AreGood words → fit (items_of words) [] ≡ true
items-fit [] none_good = refl
items-fit (one ∷ more) (good plain are word gap rest) =
    and_from _ _ (and_from _ _ (and_from _ _ (and_from _ _ plain (plains-fit one.others are)) (ap not word)) gap) (and_from _ _ gap (items-fit more rest))

token-shape : (line first : ℕ) (others : List ℕ) → shape_of (token_of line (Plain first) (plains others)) ≡ word_shape first others
token-shape line first [] = by (first == 123) (first == 125)
  where
    by : (opens closes : Bool) → shape_of (if opens then OpenToken line else (if closes then CloseToken line else WordToken line (first ∷ []))) ≡ (if opens then Open else (if closes then Close else Text (first ∷ [])))
    by true closes = refl
    by false true = refl
    by false false = refl
token-shape line first (byte ∷ others) = ap (λ bytes. Text (first ∷ byte ∷ bytes)) (plains-value others)

items-shapes : (line : ℕ) (words : List Spaced) → shapes_of (tokens_from line (items_of words)) ≡ spaced_shapes words
items-shapes line [] = refl
items-shapes line (one ∷ more) =
    let next : ℕ = line + newlines_in (pieces_text (Plain one.first ∷ plains one.others)) + newlines_in (one.blank ∷ []) in
    ap (λ shape. shape ∷ shapes_of (tokens_from next (items_of more))) (token-shape line one.first one.others)
    ∙ ap (λ shapes. word_shape one.first one.others ∷ shapes) (items-shapes next more)

-- the tokens
pub spaced-tokens : List Spaced → List Token
spaced-tokens words = tokens_from 1 (items_of words)

pub spaced-reads : (words : List Spaced) → AreGood words → Reads (spaced_text words) (spaced-tokens words)
unfolding spaced-tokens
spaced-reads words are = record { items = items_of words; fits = items-fit words are; is_text = items-text words; are_tokens = refl }

pub spaced-shapes : (words : List Spaced) → shapes_of (spaced-tokens words) ≡ spaced_shapes words
unfolding spaced-tokens
spaced-shapes words = items-shapes 1 words
