-- What is said of a layout that is read back.
use Rattle.el_script.specs.Vocabulary.{HasNul, Args, nothing, word, group, Token, Lexes, TokenShape, shapes_of, Tree, written}
use Rattle.std.specs.Prelude.{◌≡◌, ℕ, List}

-- none of the words holds a NUL
abbrev pub HaveNoNul : Args → Type 0
HaveNoNul nothing = Unit {0}
HaveNoNul (word text rest) = (HasNul text → ⊥) × HaveNoNul rest
HaveNoNul (group inside rest) = HaveNoNul inside × HaveNoNul rest

-- no word of the tree holds a NUL, as no word of a script does
abbrev pub HasNoNul : Tree → Type 0
HasNoNul tree = HaveNoNul (written tree)

-- the script isn't too long and reads as tokens that are these but for their lines
pub record LexesAs (script : List ℕ) (shapes : List TokenShape) : Type 0 where
  pub tokens : List Token
  pub lexes : Lexes script tokens
  pub are_shapes : shapes_of tokens ≡ shapes
