-- What parsing answers.
use Rattle.el_script.specs.Vocabulary.{Args, Token, shapes_of, levels, Fault, Tree, tokens_of, IsWellFormed, Answer, TreeRead, FaultRead}
use Rattle.std.specs.Prelude.{◌≡◌, ◌≤◌, ℕ, List, Option, None, Some, Result, Ok, Err}
use Rattle.el_blocks.specs.Tokens.{shapes_in}
use Rattle.el_tree.specs.declared.fault.Fault.TheVariants as tree
use Rattle.el_tree.specs.FirstFault.{IsTreeFault}
use Rattle.el_reader.specs.declared.tree_fault.TreeKind.{TreeKind}
use Rattle.el_reader.specs.declared.tree_fault.TreeKind.TheVariants as kind
use Rattle.el_reader.specs.declared.tree_fault.TreeFault.{TreeFault}

-- the braces match within 255 levels
pub record AreMatched (tokens : List Token) : Type 0 where
  pub args : Args
  pub are_tokens : shapes_in args ≡ shapes_of tokens
  pub within : levels args ≤ 255

-- the tree is well formed, and the tokens are its own
pub record Parses (tokens : List Token) (tree : Tree) : Type 0 where
  pub well_formed : IsWellFormed tree
  pub are_tokens : tokens_of tree ≡ shapes_of tokens

-- the fault of a kind; want of memory is none of the tokens'
abbrev pub fault_of_kind : TreeKind → Option Fault
fault_of_kind kind.BlockMissing = Some tree.BlockMissing
fault_of_kind kind.BlockNotLiteral = Some tree.BlockNotLiteral
fault_of_kind kind.OptionNotLiteral = Some tree.OptionNotLiteral
fault_of_kind kind.NameNotLiteral = Some tree.NameNotLiteral
fault_of_kind kind.BadOption = Some tree.BadOption
fault_of_kind kind.BadNumber = Some tree.BadNumber
fault_of_kind kind.BadDirective = Some tree.BadDirective
fault_of_kind kind.ArgumentMissing = Some tree.ArgumentMissing
fault_of_kind kind.ManyWordsInOnePlace = Some tree.ManyWordsInOnePlace
fault_of_kind kind.OptionFromValue = Some tree.OptionFromValue
fault_of_kind kind.NoMemory = None

-- this is the first fault, or there was no memory
abbrev pub IsFaultOrMemory : List Token → Option Fault → (line : ℕ) → Type 0
IsFaultOrMemory tokens None line = line ≡ 0
IsFaultOrMemory tokens (Some fault) line = IsTreeFault tokens fault line

-- the code's fault is the first one of the tokens, or there was no memory
abbrev pub IsParseFault : List Token → TreeFault → Type 0
IsParseFault tokens fault = IsFaultOrMemory tokens (fault_of_kind fault.kind) fault.line

-- ---- by what is computed

-- the computed answer is this fault; want of memory is on line 0, and says nothing of the answer
abbrev pub IsFaultOf : Answer → Option Fault → (line : ℕ) → Type 0
IsFaultOf answer None line = line ≡ 0
IsFaultOf answer (Some fault) line = answer ≡ FaultRead fault line

-- the computed answer is this one, or there was no memory
abbrev pub IsAnswer : Answer → Result Tree TreeFault → Type 0
IsAnswer answer (Ok tree) = answer ≡ TreeRead tree
IsAnswer answer (Err fault) = IsFaultOf answer (fault_of_kind fault.kind) fault.line
