-- What checking answers, and what is computed of a script. `Scripts` and `Faults` say what it means.
use Rattle.el_script.specs.Vocabulary.{LexKind, Token, lexed, SpellFault, spelling_of, Tree, TestScope, Answer, TreeRead, FaultRead, answer}
use Rattle.std.specs.Prelude.{◌≡◌, ℕ, List, Option, None, Some, Result, Ok, Err}
use Rattle.el_tree.specs.Steps.{Unmatched}
use Rattle.el_check.specs.declared.params.Params.{Params}
use Rattle.el_check.specs.declared.kind.CheckKind.{CheckKind}
use Rattle.el_check.specs.declared.kind.CheckKind.TheVariants.{NoMemory}
use Rattle.el_check.specs.declared.kind.CheckFault.{CheckFault}
use Rattle.el_check.specs.Scripts.{first_marks}
use Rattle.el_check.specs.Faults.{lex_kind, brace_kind, tree_kind, IsScriptFault}

-- this is the first fault, or there was no memory
abbrev pub IsFaultOrMemory : Params → (script : List ℕ) → CheckKind → (line : ℕ) → Type 0
IsFaultOrMemory params script NoMemory line = line ≡ 0
IsFaultOrMemory params script kind line = IsScriptFault params script kind line

-- the code's fault is the first one of the script, or there was no memory
abbrev pub IsCheckFault : Params → (script : List ℕ) → CheckFault → Type 0
IsCheckFault params script fault = IsFaultOrMemory params script fault.kind fault.line

-- ---- by what is computed

-- a tree, or a fault and its line
abbrev pub Checked : Type 0
Checked = Result Tree (CheckKind × ℕ)

-- want of memory is computed of no script
abbrev pub at_line : (line : ℕ) → Option CheckKind → CheckKind × ℕ
at_line line None = (NoMemory, 0)
at_line line (Some kind) = (kind, line)

-- a fault that was found; none stands for want of memory, on line 0
abbrev pub or_memory : Option (CheckKind × ℕ) → CheckKind × ℕ
or_memory None = (NoMemory, 0)
or_memory (Some fault) = fault

-- of tokens whose braces match
abbrev pub tree_checked : Answer → Checked
tree_checked (TreeRead tree) = Ok tree
tree_checked (FaultRead fault line) = Err (tree_kind fault, line)
tree_checked Unmatched = Err (NoMemory, 0)

-- of tokens, by their spelling: their first brace fault, or else what their tree gives
abbrev pub braces_checked : TestScope → List Token → Result (List (List ℕ)) SpellFault → Checked
braces_checked scope tokens (Ok words) = tree_checked (answer scope tokens)
braces_checked scope tokens (Err fault) = Err (or_memory (brace_kind fault))

-- of a script, by its lexing: its first fault there, or else what its tokens give
abbrev pub lexing_checked : TestScope → Result (List Token) (LexKind × ℕ) → Checked
lexing_checked scope (Ok tokens) = braces_checked scope tokens (spelling_of tokens)
lexing_checked scope (Err fault) = Err (at_line fault.1 (lex_kind fault.0))

-- the tree of a script, or its first fault; fixed places are tested by the members of a scope where there is one
unfoldable pub checked_in : TestScope → (script : List ℕ) → Checked
checked_in scope script = lexing_checked scope (lexed script)

-- under the first marks
abbrev pub checked : Params → (script : List ℕ) → Checked
checked params script = checked_in (Some (first_marks params)) script

-- the computed answer is this fault; want of memory is on line 0, and says nothing of the answer
abbrev pub IsFaultOf : Checked → CheckKind → (line : ℕ) → Type 0
IsFaultOf answer NoMemory line = line ≡ 0
IsFaultOf answer kind line = answer ≡ Err (kind, line)

-- the computed answer is this one, or there was no memory
abbrev pub IsAnswer : Checked → Result Tree CheckFault → Type 0
IsAnswer answer (Ok tree) = answer ≡ Ok tree
IsAnswer answer (Err fault) = IsFaultOf answer fault.kind fault.line
