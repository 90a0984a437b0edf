-- What a member means whose words are those of a tree.
use Rattle.std.specs.Prelude.{◌≡◌, ◌<◌, ◌^◌, List, Some}
use Rattle.el_words.specs.declared.prog.Prog.{Prog}
use Rattle.el_subst.specs.Scopes.{Scope}
use Rattle.el_world.specs.Calls.{found_in}
use Rattle.el_world.specs.Plans.{made, ends_as}
use Rattle.el_world.specs.Runs.{AreEventsOf}
use Rattle.el_machine.specs.Flat.{first_program}
use Rattle.el_tree.specs.Trees.{Tree}
use Rattle.el_tree.specs.Marks.{Member as Mark, MeetsAll}
use Rattle.el_tree.specs.Accepted.{IsAccepted}
use Rattle.el_check.specs.Operands.{tree_words}
use Rattle.el_meaning.specs.Meaning.{whole_meaning}
use Rattle.el_app.specs.First.{first_state}
use Rattle.el_app.specs.Calls.{ending_of, outcome_of}
use Rattle.el_family.specs.Processes.{Process, Run}
use Rattle.el_family.specs.Courses.{IsRunOf}

-- A process whose words are those of an accepted tree, in a scope that meets its marks, and begin with a program: its events and its end
-- are those of the tree's whole meaning in that scope, from its own variables, descriptors and directory, on the answers found in them.
abbrev pub MembersMeanTheirTrees : Type 0
MembersMeanTheirTrees = (process : Process) (run : Run) (tree : Tree) (marks : List Mark) (scope : Scope) (program : Prog)
    → IsRunOf process run → process.words ≡ tree_words scope tree → IsAccepted marks tree → MeetsAll scope marks → run.budget < 2 ^ 64 → first_program process.words ≡ Some program
    → AreEventsOf run.events (made (ends_as ending_of (whole_meaning tree scope (first_state process.env process.dir))) run.budget (found_in run.events)) (outcome_of run.finish)
