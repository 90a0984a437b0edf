-- The first fault of a list of tokens.
use Rattle.std.specs.Prelude.{◌≡◌, ℕ, List, [], ◌∷◌, ◌++◌, None, Some}
use Rattle.el_lex.specs.declared.token.Token.{Token}
use Rattle.el_lex.specs.declared.token.Token.TheVariants.{Word as WordToken, Open as OpenToken, Close as CloseToken}
use Rattle.el_blocks.specs.Tokens.{shapes_of}
use Rattle.el_tree.specs.declared.fault.Fault.{Fault}
use Rattle.el_tree.specs.declared.fault.PlacedFault.{PlacedFault}
use Rattle.el_tree.specs.declared.fault.PlacedFault.TheVariants.{At, Before}
use Rattle.el_tree.specs.Marks.{Member}
use Rattle.el_tree.specs.Beginnings.{Beginning, TestScope, printed, IsBeginning}
use Rattle.el_tree.specs.Faults.{Next, Over, Text, Group, fault_of, fault_after}

-- what the tokens behind a beginning begin with
abbrev pub next_of : (after : List Token) → Next
next_of [] = Over
next_of (WordToken line text ∷ after) = Text text
next_of (OpenToken line ∷ after) = Group
next_of (CloseToken line ∷ after) = Over

-- ---- lines

-- the line on which a token stands
abbrev pub token_line : Token → ℕ
token_line (WordToken line text) = line
token_line (OpenToken line) = line
token_line (CloseToken line) = line

-- the line of the first token; 0 where there is none
abbrev pub first_line : List Token → ℕ
first_line [] = 0
first_line (token ∷ tokens) = token_line token

-- the line of the last token; 0 where there is none
abbrev pub last_line : List Token → ℕ
last_line [] = 0
last_line (token ∷ []) = token_line token
last_line (token ∷ tokens) = last_line tokens

-- the line of the next token, or of the last one before it
abbrev pub line_of : (before after : List Token) → PlacedFault → ℕ
line_of before after (At fault) = first_line after
line_of before after (Before fault) = last_line before

-- ---- the first fault

-- the tokens begin with those of a beginning, and this is wrong with what follows
pub record IsFaultIn (scope : TestScope) (tokens : List Token) (fault : Fault) (line : ℕ) : Type 0 where
  pub before : List Token
  pub after : List Token
  pub beginning : Beginning
  pub found : PlacedFault
  pub are_tokens : before ++ after ≡ tokens
  pub begins : IsBeginning scope beginning
  pub is_read : printed beginning ≡ shapes_of before
  pub is_found : fault_after scope beginning (next_of after) ≡ Some found
  pub is_fault : fault_of found ≡ fault
  pub is_line : line_of before after found ≡ line

-- the first fault of a tree, whose fixed places aren't tested
abbrev pub IsTreeFault : List Token → Fault → (line : ℕ) → Type 0
IsTreeFault = IsFaultIn None

-- the first fault of a tree that is tested under these members
abbrev pub IsFaultUnder : List Member → List Token → Fault → (line : ℕ) → Type 0
IsFaultUnder members = IsFaultIn (Some members)
