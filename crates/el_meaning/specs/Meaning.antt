-- What a tree means in a scope.
use Rattle.el_room.specs.Vocabulary.{Prog, spelled, Pairs, Scope, gives, ends, takes, and_then, State, Status, Spent, Task, Left, Nth, Way, onward, under, into}
use Rattle.el_script.specs.Vocabulary.{scope_value, Tree, End, Command, Node, Places, unplaced, one_place, text_place, block_place, values_place, names_place, directives_place}
use Rattle.std.specs.Prelude.{ℕ, zero, suc, List, [], ◌∷◌, ◌++◌, Option, None, Some}
use Rattle.el_front.specs.Reads.{index_of}
use Rattle.el_machine.specs.Commands.{last_command}
use Rattle.el_machine.specs.Effects.{effect}
use Rattle.el_machine.specs.Flat.{first_program, flat_run}
use Rattle.el_meaning.specs.Operands.{read_in}

-- The words of a command: without any all is done, and they are the last command, unless the first of them names a program. Then
-- they are handed on.
abbrev pub command_by : Option Prog → (words : List (List ℕ)) → State → Task Left
command_by None [] state = ends (Status 0 state)
command_by None (word ∷ words) state = last_command (word ∷ words) state
command_by (Some program) words state = gives (record { words = words; state = state })

-- a command, by the program that its first word names, if any
abbrev pub commanded : (words : List (List ℕ)) → State → Task Left
commanded words state = command_by (first_program words) words state

-- what comes behind a program: its rest under one more substitution, which is empty where no values are put in, or one of its blocks
abbrev pub going_on : (rest : Pairs → State → Task Left) → (block : Nth → State → Task Left) → Way → Task Left
going_on rest block (onward state) = rest [] state
going_on rest block (under pairs state) = rest pairs state
going_on rest block (into nth state) = block nth state

-- The meaning of a tree in a scope: it ends the process, or hands words on. A program takes a unit and has its effect; its rest goes
-- on in the scope with the program's pairs put last, and a block in the scope as it was. The tree never changes, and words are
-- looked up where they are used.
abbrev mutual
  -- what a tree means in this scope and state; a chain that ends without a command is status 0
  pub meaning : Tree → Scope → State → Task Left
  meaning End scope state = ends (Status 0 state)
  meaning (Command args) scope state = commanded (scope_value scope (spelled 0 args)) state
  meaning (Node program options places rest) scope state =
      takes (Spent state)
      (and_then (effect program (read_in scope program options places rest) state)
      (going_on (λ pairs state. meaning rest (scope ++ pairs ∷ []) state) (λ nth state. block_meaning places (index_of nth) scope state)))

  -- that of the block with this number among the places; only program blocks are gone on with
  pub block_meaning : Places → (number : ℕ) → Scope → State → Task Left
  block_meaning unplaced number scope state = ends (Status 0 state)
  block_meaning (one_place (text_place text) places) number scope state = block_meaning places number scope state
  block_meaning (one_place (directives_place directives) places) number scope state = block_meaning places number scope state
  block_meaning (one_place (block_place block) places) zero scope state = meaning block scope state
  block_meaning (one_place (values_place values) places) zero scope state = ends (Status 0 state)
  block_meaning (one_place (names_place names) places) zero scope state = ends (Status 0 state)
  block_meaning (one_place _ places) (suc number) scope state = block_meaning places number scope state

-- the whole meaning: words that were handed on are run
unfoldable pub whole_meaning : Tree → Scope → State → Task ⊥
whole_meaning tree scope state = and_then (meaning tree scope state) (λ left. flat_run left.words left.state)
