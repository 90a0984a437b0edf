-- What only the code of loops, and the proof that it does what it should, speak of.
use Rattle.el_room.specs.Vocabulary.{name_text, Vars, Handle, Finish, is_held, are_usable, Done, State, Seen, Trouble, handles_in, is_at_some, closing, state_of, Refuses, Proc, First, Read, has, read_of, the_text}
use Rattle.std.specs.Prelude.{◌≡◌, ℕ, true, false, List, [], ◌∷◌, Option, None, Some, IfSome, IsTrue, codes, if◌then◌else◌}
use Rattle.std.specs.FinSet as set
use Rattle.std.specs.FinMap as map
use Rattle.el_transform.specs.Splitter.{Splitting, starting}
use Rattle.el_world.specs.Handles.{is_usable_end}
use Rattle.el_pipes.specs.Putting.{puts_values, names_well}
use Rattle.el_loops.specs.declared.turning.Loop.{Loop}
use Rattle.el_loops.specs.Turns.{Looping, turn_env}
use Rattle.el_loops.specs.Values.{delimiters_of}

-- the loop of a process in this state, where its turns have these words
abbrev pub looping_of : Loop → State → Looping
looping_of each state = record { program = each.program; read = record (read_of each.front.now) { rest = each.rest.now }; streams = each.streams; reader = each.reader; state = state }

-- what turns find and what is read is usable, and the reader is held, and at no number
pub record CanTurn (held : List Handle) (fds : List (Option Handle)) (each : Loop) : Type 0 where
  pub usable : are_usable held fds ≡ true
  pub streams : are_usable held each.streams ≡ true
  pub input : is_usable_end held each.input ≡ true
  pub is_open : IfSome each.reader (λ handle. is_held held handle ≡ true)
  pub apart : IfSome each.reader (λ handle. is_at_some fds handle ≡ false)

-- the variables with which a loop begins its turns: the process's, under `E` without the loop's own
abbrev pub env_for_turns : Read → Vars → Vars
env_for_turns read env = if puts_values read then map.remove env (the_text First read) else env

-- the loop's variable is set in these; under `E` no variable is
abbrev pub vars_set : Read → Vars → (value : List ℕ) → Vars
vars_set read vars value = if puts_values read then vars else map.insert vars (the_text First read) value

-- with the loop's variable set, these are the variables of a turn; under `E` they are so
pub record AreForTurns (vars : Vars) (looping : Looping) : Type 0 where
  pub same : (value : List ℕ) → vars_set looping.read vars value ≡ turn_env looping value

-- a loop of a process can make turns with these variables
pub record MayTurn (held : List Handle) (each : Loop) (proc : Proc) (vars : Vars) : Type 0 where
  pub good : IsTrue (names_well (read_of each.front.now))
  pub can : CanTurn held proc.fds each
  pub are : AreForTurns vars (looping_of each (state_of proc))

-- between two states of a world the reader was closed and the message written, and the process is to end so
pub record BreaksOff (old new : Seen) (looping : Looping) (trouble : Trouble) (finish : Finish) : Type 0 where
  pub mid : Seen
  pub closed : Done old mid (closing (handles_in looping.reader)) (Some tt)
  pub refused : Refuses mid new looping.state.fds (name_text looping.program) trouble finish

-- the splitting of a loop's input, before the first byte
abbrev pub unread : Read → Splitting
unread read = starting (has (codes "C") read) (set.from_list (delimiters_of read))

-- the list of a value that may be there
abbrev pub listed : Option (List ℕ) → List (List ℕ)
listed None = []
listed (Some value) = value ∷ []
