-- How worked rows are stated.
use Rattle.std.specs.Prelude.{ℕ, Bool, true, false, List, [], ◌∷◌, Result, Ok, Err}
use Rattle.el_lex.specs.declared.token.Token.{Token}
use Rattle.el_lex.specs.declared.fault.LexKind.{LexKind}
use Rattle.el_lex.specs.Scan.{lexed}
use Rattle.el_tree.specs.Marks.{Mark, Member}
use Rattle.el_tree.specs.Beginnings.{TestScope}
use Rattle.el_tree.specs.Steps.{Answer, TreeRead, FaultRead, Unmatched, answer}

-- a member that marks this key alone
abbrev pub marking : (key : List ℕ) → Mark → Member
marking key mark = record { marked = (key, mark) ∷ []; positional = false }

-- the answer to what lexing gives; where it gives a fault there are no tokens to match
abbrev pub answer_of_lexed : TestScope → Result (List Token) (LexKind × ℕ) → Answer
answer_of_lexed scope (Err fault) = Unmatched
answer_of_lexed scope (Ok tokens) = answer scope tokens

-- the tree or the first fault of a script that reads as tokens
unfoldable pub answered : TestScope → (script : List ℕ) → Answer
answered scope script = answer_of_lexed scope (lexed script)

-- the answer is a tree
abbrev pub is_accepted : Answer → Bool
is_accepted (TreeRead tree) = true
is_accepted (FaultRead fault line) = false
is_accepted Unmatched = false
