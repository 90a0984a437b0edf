-- The turns of a loop, as its tree has them.
use Rattle.el_script.specs.Vocabulary.{Prog, Scope, Tree, Node, Places, letters_of, Member, MeetsAll, member_of, IsAccepted, is_loop}
use Rattle.el_room.specs.Vocabulary.{Found, made, State, Read}
use Rattle.std.specs.Prelude.{◌≡◌, ℕ, ◌<◌, ◌^◌, true, List, [], ◌∷◌, ◌++◌, if◌then◌else◌}
use Rattle.el_pipes.specs.Putting.{puts_values, value_pairs}
use Rattle.el_loops.specs.Turns.{turn_words}
use Rattle.el_machine.specs.Flat.{flat_run}
use Rattle.el_tree.specs.Marks.{adds_member, members_behind}
use Rattle.el_check.specs.Operands.{tree_words}
use Rattle.el_meaning.specs.Operands.{read_in}
use Rattle.el_meaning.specs.Meaning.{whole_meaning}

-- the scope of a turn: the loop's own, under `E` with the value put last; loopwhilex, whose turns have no value, has no `E`
abbrev pub turn_scope : Scope → Read → (value : List ℕ) → Scope
turn_scope scope read value = if puts_values read then scope ++ value_pairs read value ∷ [] else scope

-- the words of a turn are those of the loop's body in the turn's scope
abbrev pub TurnWordsAreBody : Type 0
TurnWordsAreBody = (program : Prog) (options : List (List ℕ)) (places : Places) (body : Tree) (scope : Scope) (value : List ℕ)
    → let read = read_in scope program options places body in turn_words read value ≡ tree_words (turn_scope scope read value) body

-- where the loop's scope meets the marks, the turn's meets those in force for the body
abbrev pub TurnMeetsMarks : Type 0
TurnMeetsMarks = (program : Prog) (options : List (List ℕ)) (places : Places) (body : Tree) (members : List Member) (scope : Scope) (value : List ℕ)
    → is_loop program ≡ true → IsAccepted members (Node program options places body) → MeetsAll scope members
    → MeetsAll (turn_scope scope (read_in scope program options places body) value) (members_behind (adds_member program (letters_of program options)) members (member_of program (letters_of program options) places))

-- The run of a turn's words makes what the body means in the turn's scope, from any state, with whatever units and answers: where the loop
-- stands in an accepted tree, in every scope that meets the marks.
abbrev pub TurnIsMeaning : Type 0
TurnIsMeaning = (program : Prog) (options : List (List ℕ)) (places : Places) (body : Tree) (members : List Member) (scope : Scope) (value : List ℕ) (state : State) (units : ℕ) (found : List Found)
    → is_loop program ≡ true → IsAccepted members (Node program options places body) → MeetsAll scope members → units < 2 ^ 64
    → let read = read_in scope program options places body in made (flat_run (turn_words read value) state) units found ≡ made (whole_meaning body (turn_scope scope read value) state) units found
