-- elcheck's modes are ordered.
use Rattle.el_script.specs.Vocabulary.{Tree, Member, IsAccepted}
use Rattle.std.specs.Prelude.{◌≡◌, ℕ, List, ◌++◌}
use Rattle.el_check.specs.declared.params.Params.{Params}
use Rattle.el_check.specs.declared.params.Params.TheVariants.{Frame, Leave, Subst}
use Rattle.el_check.specs.Scripts.{IsAcceptedScript}
use Rattle.el_check.specs.Checks.{checked}

-- what is accepted under some marks is accepted under the inner ones alone
abbrev pub FewerMarksAcceptMore : Type 0
FewerMarksAcceptMore = (outer inner : List Member) (tree : Tree) → IsAccepted (outer ++ inner) tree → IsAccepted inner tree

-- what is accepted with its positionals put in is accepted in each mode, with the same tree
abbrev pub SubstIsStrictest : Type 0
SubstIsStrictest = (least : ℕ) (params : Params) (script : List ℕ) (tree : Tree) → IsAcceptedScript (Subst least) script tree → IsAcceptedScript params script tree

-- however many of them there must be, the answer is the same
abbrev pub LeastSaysNothing : Type 0
LeastSaysNothing = (least other : ℕ) (script : List ℕ) → checked (Subst least) script ≡ checked (Subst other) script

-- with a frame for them the answer is that of words which are left
abbrev pub FrameIsAsLeave : Type 0
FrameIsAsLeave = (script : List ℕ) → checked Frame script ≡ checked Leave script
