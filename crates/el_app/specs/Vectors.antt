-- The top call on a tree's words.
use Rattle.el_room.specs.Vocabulary.{Prog, Vars, Scope, Found, made, ends_as}
use Rattle.el_script.specs.Vocabulary.{Tree, Member, MeetsAll, IsAccepted}
use Rattle.std.specs.Prelude.{◌≡◌, ℕ, ◌<◌, ◌^◌, List, Some}
use Rattle.el_machine.specs.Flat.{first_program}
use Rattle.el_check.specs.Operands.{tree_words}
use Rattle.el_meaning.specs.Meaning.{whole_meaning}
use Rattle.el_app.specs.First.{first_state}
use Rattle.el_app.specs.Calls.{ending_of, execline_call}

-- The words of an accepted tree, in a scope that meets its marks: where a program stands first, the top call on them makes what the tree
-- means there, in a process at its start.
abbrev pub VectorsMeanTheirTrees : Type 0
VectorsMeanTheirTrees = (tree : Tree) (members : List Member) (scope : Scope) (program : Prog) (env : Vars) (dir : List ℕ) (units : ℕ) (found : List Found)
    → IsAccepted members tree → MeetsAll scope members → units < 2 ^ 64 → first_program (tree_words scope tree) ≡ Some program
    → made (execline_call (tree_words scope tree) env dir) units found ≡ made (ends_as ending_of (whole_meaning tree scope (first_state env dir))) units found
