-- What holds of the meaning of accepted trees.
use Rattle.el_room.specs.Vocabulary.{Scope, Handle, Found, made, State, Read}
use Rattle.el_script.specs.Vocabulary.{Tree, Member, MeetsAll, IsAccepted}
use Rattle.std.specs.Prelude.{◌≡◌, ℕ, ◌<◌, ◌^◌, List}
use Rattle.el_proc.specs.Inputs.{gathered}
use Rattle.el_loops.specs.declared.turn.Turn.{Turn}
use Rattle.el_loops.specs.Loopwhilex.{repeating}
use Rattle.el_loops.specs.Turns.{Looping}
use Rattle.el_loops.specs.Values.{turns_behind}
use Rattle.el_machine.specs.Flat.{flat_within, flat_run}
use Rattle.el_check.specs.Operands.{tree_words}
use Rattle.el_meaning.specs.Meaning.{whole_meaning}

-- The run of an accepted tree's words makes what the tree means, in every scope that meets the marks, with whatever units and answers:
-- the events, the end with its state, the units left and the answers left.
abbrev pub RunIsMeaning : Type 0
RunIsMeaning = (tree : Tree) (members : List Member) (scope : Scope) (state : State) (units : ℕ) (found : List Found)
    → IsAccepted members tree → MeetsAll scope members → units < 2 ^ 64 → made (flat_run (tree_words scope tree) state) units found ≡ made (whole_meaning tree scope state) units found

-- the bound on programs says nothing where it is above the units
abbrev pub BoundSaysNothing : Type 0
BoundSaysNothing = (one other units : ℕ) (words : List (List ℕ)) (state : State) (found : List Found) → units < one → units < other → made (flat_within one words state) units found ≡ made (flat_within other words state) units found

-- nor does that on the reads of an input
abbrev pub ReadsSayNothing : Type 0
ReadsSayNothing = (one other units : ℕ) (state : State) (handle : Handle) (before : List ℕ) (found : List Found) → units < one → units < other → made (gathered one state handle before) units found ≡ made (gathered other state handle before) units found

-- nor that on the turns of loopwhilex
abbrev pub TurnsSayNothing : Type 0
TurnsSayNothing = (one other units : ℕ) (read : Read) (state : State) (found : List Found) → units < one → units < other → made (repeating one read state) units found ≡ made (repeating other read state) units found

-- nor that on the reads of a loop's input
abbrev pub LoopReadsSayNothing : Type 0
LoopReadsSayNothing = (one other units : ℕ) (looping : Looping) (handle : Handle) (before : List ℕ) (turns : List Turn) (found : List Found) → units < one → units < other → made (turns_behind one looping handle before turns) units found ≡ made (turns_behind other looping handle before turns) units found
