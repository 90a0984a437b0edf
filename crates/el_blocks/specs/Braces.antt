-- The first brace fault of a token list: what stands before it has none.
use Rattle.std.specs.Prelude.{◌≡◌, ℕ, suc, ◌+◌, ◌≤◌, List, [], ◌∷◌, ◌++◌, length}
use Rattle.el_words.specs.Args.{Args}
use Rattle.el_lex.specs.declared.token.Token.{Token}
use Rattle.el_lex.specs.declared.token.Token.TheVariants.{Open as OpenToken, Close as CloseToken}
use Rattle.el_blocks.specs.declared.fault.SpellFault.{SpellFault}
use Rattle.el_blocks.specs.declared.fault.SpellFault.TheVariants.{StrayClose, TooDeep, Unclosed, NoMemory}
use Rattle.el_blocks.specs.Tokens.{TokenShape, Open, shapes_of, shapes_in, levels}

-- Open blocks, outermost first: each begins with an Open, and then has its finished items.
abbrev pub shapes_behind : List Args → List TokenShape
shapes_behind [] = []
shapes_behind (items ∷ blocks) = Open ∷ (shapes_in items ++ shapes_behind blocks)

-- the finished items of a level, and the blocks that are open behind them
abbrev pub open_shapes : Args → List Args → List TokenShape
open_shapes items blocks = shapes_in items ++ shapes_behind blocks

-- the items of levels that stand in one another, counted from this one, are within 255 levels
abbrev pub AreWithin : ℕ → List Args → Type 0
AreWithin level [] = level ≤ 256
AreWithin level (items ∷ blocks) = (level + levels items ≤ 255) × AreWithin (suc level) blocks

-- a Close with no open block
pub record IsStrayClose (tokens : List Token) (line : ℕ) : Type 0 where
  pub before : List Token
  pub after : List Token
  pub items : Args
  pub are_tokens : before ++ CloseToken line ∷ after ≡ tokens
  pub closed : shapes_in items ≡ shapes_of before
  pub within : levels items ≤ 255

-- an Open behind 255 open blocks
pub record IsTooDeep (tokens : List Token) (line : ℕ) : Type 0 where
  pub before : List Token
  pub after : List Token
  pub items : Args
  pub blocks : List Args
  pub are_tokens : before ++ OpenToken line ∷ after ≡ tokens
  pub are_open : open_shapes items blocks ≡ shapes_of before
  pub deepest : length blocks ≡ 255
  pub within : AreWithin 0 (items ∷ blocks)

-- at the end blocks are open, of which the first begins on this line
pub record IsUnclosed (tokens : List Token) (line : ℕ) : Type 0 where
  pub before : List Token
  pub after : List Token
  pub items : Args
  pub inside : Args
  pub blocks : List Args
  pub are_tokens : before ++ OpenToken line ∷ after ≡ tokens
  pub closed : shapes_in items ≡ shapes_of before
  pub are_open : open_shapes inside blocks ≡ shapes_of after
  pub within : AreWithin 0 (items ∷ inside ∷ blocks)

-- the first brace fault; want of memory is free
abbrev pub IsBraceFault : List Token → SpellFault → Type 0
IsBraceFault tokens (StrayClose line) = IsStrayClose tokens line
IsBraceFault tokens (TooDeep line) = IsTooDeep tokens line
IsBraceFault tokens (Unclosed line) = IsUnclosed tokens line
IsBraceFault tokens NoMemory = Unit {0}
