-- What holds of the scope that a script begins in, and of the values that are put in an accepted script.
use Rattle.el_script.specs.Vocabulary.{Scope, Tree, MeetsAll}
use Rattle.std.specs.Prelude.{ℕ, ◌<◌, ◌^◌, List, length}
use Rattle.el_tree.specs.ValueLaws.{KeepsStructure}
use Rattle.el_check.specs.declared.params.Params.{Params}
use Rattle.el_check.specs.declared.params.Params.TheVariants.{Frame, Leave, Subst}
use Rattle.el_check.specs.Scripts.{first_marks, first_scope, shifted_scope, IsAcceptedScript}

-- the least number of positionals has 64 bits
abbrev pub HasSmallLeast : Params → Type 0
HasSmallLeast Frame = Unit {0}
HasSmallLeast Leave = Unit {0}
HasSmallLeast (Subst least) = least < 2 ^ 64

-- The first scope meets the first marks, of whatever positionals; of arguments there are fewer than 2 ^ 64.
abbrev pub FirstScopeMeets : Type 0
FirstScopeMeets = (params : Params) (zero : List ℕ) (args : List (List ℕ)) → HasSmallLeast params → length args < 2 ^ 64 → MeetsAll (first_scope params zero args) (first_marks params)

-- So does the one where `@` leaves out the first arguments: the marks are those of the same positionals without it.
abbrev pub ShiftedScopeMeets : Type 0
ShiftedScopeMeets = (zero : List ℕ) (args : List (List ℕ)) (least : ℕ) → least < 2 ^ 64 → length args < 2 ^ 64 → MeetsAll (shifted_scope least zero args) (first_marks (Subst least))

-- No value changes the structure of an accepted script: under every scope that meets its first marks the values leave its tree's programs,
-- option words and names, and one word at each place that has one.
abbrev pub ValuesKeepScripts : Type 0
ValuesKeepScripts = (params : Params) (script : List ℕ) (tree : Tree) (scope : Scope) → IsAcceptedScript params script tree → MeetsAll scope (first_marks params) → KeepsStructure scope tree

-- so do the arguments with which it is called
abbrev pub ArgumentsKeepScripts : Type 0
ArgumentsKeepScripts = (params : Params) (script : List ℕ) (tree : Tree) (zero : List ℕ) (args : List (List ℕ)) → HasSmallLeast params → length args < 2 ^ 64 → IsAcceptedScript params script tree → KeepsStructure (first_scope params zero args) tree

-- and where `@` leaves out the first of them
abbrev pub ShiftedArgumentsKeepScripts : Type 0
ShiftedArgumentsKeepScripts = (least : ℕ) (script : List ℕ) (tree : Tree) (zero : List ℕ) (args : List (List ℕ)) → least < 2 ^ 64 → length args < 2 ^ 64 → IsAcceptedScript (Subst least) script tree → KeepsStructure (shifted_scope least zero args) tree
