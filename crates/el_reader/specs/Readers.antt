-- What reads tokens one by one, whatever it makes of them, and the one that makes trees of them. Only the code's contracts need it.
use Rattle.el_script.specs.Vocabulary.{Token, Word as WordToken, PlacedFault, TestScope, fault_of, line_of, FaultRead, answer, Answer, TreeRead, At, Before, Tree}
use Rattle.std.specs.Prelude.{◌≡◌, ◌<◌, ◌-◌, ℕ, suc, List, [], ◌∷◌, ◌++◌, Option, None, Some, Result, Ok, Err}
use Rattle.el_lex.specs.declared.token.Token.TheVariants.{Open as OpenToken, Close as CloseToken}
use Rattle.el_reader.specs.declared.reader.Misread.{Misread}
use Rattle.el_reader.specs.declared.reader.Reader.{Reader as ReaderStruct}
use Rattle.el_reader.specs.Made.{built, builder_told}
use Rattle.el_reader.specs.Inspections as inspections
use Rattle.el_reader.specs.Inspections.{HasRead}

-- ---- whatever it makes of them

-- a Close closes a level
abbrev pub MayCome : Token → (depth : ℕ) → Type 0
MayCome (CloseToken line) depth = 0 < depth
MayCome _ depth = Unit {0}

-- how many levels are open behind a token; a Close where none is open changes nothing
abbrev pub depth_behind : Token → (depth : ℕ) → ℕ
depth_behind (OpenToken line) depth = suc depth
depth_behind (CloseToken line) depth = depth - 1
depth_behind (WordToken line text) depth = depth

-- some tokens were read, in some scope of the script
pub record HasReadSome {Reader : Type 0} (has_read : TestScope → Reader → List Token → Type 0) (reader : Reader) : Type 0 where
  pub first : TestScope
  pub before : List Token
  pub has : has_read first reader before

-- this is wrong with the token behind those that were read, or it was read too
abbrev pub IsTaken : {Reader : Type 0} → (has_read : TestScope → Reader → List Token → Type 0) → (depth : Reader → ℕ) → (old new : Reader) → Token → Option PlacedFault → Type 0
IsTaken has_read depth old new token None = ((first : TestScope) (before : List Token) → has_read first old before → has_read first new (before ++ token ∷ [])) × (depth new ≡ depth_behind token (depth old))
IsTaken has_read depth old new token (Some found) =
    (first : TestScope) (before after : List Token) → has_read first old before → answer first (before ++ token ∷ after) ≡ FaultRead (fault_of found) (line_of before (token ∷ after) found)

-- ---- trees

-- how many levels are open in that of the script
abbrev pub open_levels : ReaderStruct → ℕ
open_levels reader = inspections.open_levels reader.inspection

-- these tokens were read, none of them is wrong, and what is made is made of them
pub record HoldsTokens (first : TestScope) (reader : ReaderStruct) (before : List Token) : Type 0 where
  pub has : HasRead first reader.inspection before
  pub builds : builder_told reader.builder ≡ built has.to

-- the line of a fault: that of the next token, or of the last one
abbrev pub fault_line : PlacedFault → (line last_line : ℕ) → ℕ
fault_line (At fault) line last_line = line
fault_line (Before fault) line last_line = last_line

-- the code's answer, as that of the definitions
abbrev pub answer_told : Result Tree Misread → Answer
answer_told (Ok tree) = TreeRead tree
answer_told (Err misread) = FaultRead misread.fault misread.line
