-- Words and groups as tokens without lines.
use Rattle.std.specs.Prelude.{◌≡◌, ℕ, suc, ◌≤◌, max, List, [], ◌∷◌, ◌++◌, map}
use Rattle.el_words.specs.Args.{Args, nothing, word, group, spelled}
use Rattle.el_lex.specs.declared.token.Token.{Token}
use Rattle.el_lex.specs.declared.token.Token.TheVariants.{Word as WordToken, Open as OpenToken, Close as CloseToken}

-- a token without its line
pub data TokenShape : Type 0 where
  Text : List ℕ → TokenShape
  Open Close : TokenShape

-- a token but for its line
abbrev pub shape_of : Token → TokenShape
shape_of (WordToken line text) = Text text
shape_of (OpenToken line) = Open
shape_of (CloseToken line) = Close

-- the tokens but for their lines
abbrev pub shapes_of : List Token → List TokenShape
shapes_of tokens = map shape_of tokens

-- a group is its items between Open and Close
abbrev pub shapes_in : Args → List TokenShape
shapes_in nothing = []
shapes_in (word text rest) = Text text ∷ shapes_in rest
shapes_in (group inside rest) = Open ∷ (shapes_in inside ++ (Close ∷ shapes_in rest))

-- how many blocks stand in one another
abbrev pub levels : Args → ℕ
levels nothing = 0
levels (word text rest) = levels rest
levels (group inside rest) = max (suc (levels inside)) (levels rest)

-- the tokens are those of words and groups within 255 levels, and these are their spelling
pub record Spells (tokens : List Token) (words : List (List ℕ)) : Type 0 where
  pub args : Args
  pub are_tokens : shapes_in args ≡ shapes_of tokens
  pub within : levels args ≤ 255
  pub are_words : spelled 0 args ≡ words
