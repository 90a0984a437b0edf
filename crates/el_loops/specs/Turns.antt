-- The turns of a loop: each is a child of the loop's rest, whose variable has a value, or in which a value is put in.
use Rattle.el_room.specs.Vocabulary.{name_text, Prog, Vars, words_value, Ended, Fault, Handle, Pid, wait_act, gives, ends, takes, and_then, and_go_on, State, Status, Spent, Task, Started, Trouble, Missing, BadName, Failed, first_word, code_of, starting, running_pid, unstarted_code, handles_in, closing, refused, First, Read, has, value_of, the_text, Way}
use Rattle.std.specs.Prelude.{ℕ, false, Bool, not, List, [], ◌∷◌, ◌++◌, Option, None, Some, unwrap_or, Result, Ok, Err, codes, if◌then◌else◌}
use Rattle.std.specs.FinMap as map
use Rattle.el_pipes.specs.Putting.{puts_values, names_well, value_pairs}
use Rattle.el_loops.specs.declared.turn.Turn.{Turn}
use Rattle.el_loops.specs.declared.turn.Turn.TheVariants.{Over, Pending}
use Rattle.el_loops.specs.Codes.{lists}

-- ---- the loop

-- What stays the same in the turns of a loop: its program, what it has read, what a turn finds at its numbers 0 to 2, the reader
-- that the loop holds at no number, and the state of the process.
pub record Looping : Type 0 where
  pub program : Prog
  pub read : Read
  pub streams : List (Option Handle)
  pub reader : Option Handle
  pub state : State

-- under `p` the turns aren't waited for before the next one
abbrev pub is_parallel : Read → Bool
is_parallel read = has (codes "p") read

-- by the lists of `x` and `o`, of which one is in force at most
abbrev pub is_ending_by : (x o : Option (List ℕ)) → (code : ℕ) → Bool
is_ending_by (Some text) o code = lists text code
is_ending_by None (Some text) code = not (lists text code)
is_ending_by None None code = false

-- a code ends the loop: under `x` one that is listed, and under `o` one that isn't
abbrev pub is_ending : Read → (code : ℕ) → Bool
is_ending read code = is_ending_by (value_of (codes "x") read) (value_of (codes "o") read) code

-- without words there is nothing to do in a turn
abbrev pub needing_words : Prog → (words : List (List ℕ)) → State → Task (Unit {0})
needing_words program [] state = refused state (name_text program) Missing
needing_words program (word ∷ words) state = gives tt

-- a loop over values needs words for its turns, and then a good name for what has its values
unfoldable pub begun : Prog → Read → State → Task (Unit {0})
begun program read state =
    and_then (needing_words program read.rest state) (λ _. if names_well read then gives tt else refused state (name_text program) BadName)

-- ---- one turn

-- the loop ends before its input does: the reader is closed before the message
unfoldable pub breaking_off : {A : Type 0} → Looping → Trouble → Task A
breaking_off looping trouble = and_go_on (closing (handles_in looping.reader)) (λ _. refused looping.state (name_text looping.program) trouble)

-- the words of a turn are those of the rest; under `E` the value is put in
abbrev pub turn_words : Read → (value : List ℕ) → List (List ℕ)
turn_words read value = if puts_values read then words_value (value_pairs read value) read.rest else read.rest

-- the variables of a turn are the process's: with the loop's own set to the value, or under `E` without it
abbrev pub turn_env : Looping → (value : List ℕ) → Vars
turn_env looping value =
    if puts_values looping.read then map.remove looping.state.env (the_text First looping.read)
    else map.insert looping.state.env (the_text First looping.read) value

-- A turn that was started, by the process in which it runs. One that doesn't run is over with its code, behind its message.
abbrev pub turn_by : Looping → (words : List (List ℕ)) → Started → (running : Option Pid) → Task Turn
turn_by looping words started (Some pid) = gives (Pending pid)
turn_by looping words started None = and_go_on (unstarted_code looping.state.fds (first_word words) started) (λ code. gives (Over code))

-- a failed start ends the process
abbrev pub after_start : Looping → (words : List (List ℕ)) → Result Started Fault → Task Turn
after_start looping words (Ok started) = turn_by looping words started (running_pid started)
after_start looping words (Err fault) = breaking_off looping Failed

-- the start of a turn of these words with these variables
unfoldable pub started : Looping → (words : List (List ℕ)) → Vars → Task Turn
started looping words vars = and_go_on (starting words vars looping.state.dir looping.streams) (after_start looping words)

-- the code of a turn's end; a failed wait ends the process
abbrev pub after_wait : Looping → Result Ended Fault → Task ℕ
after_wait looping (Ok ended) = gives (code_of ended)
after_wait looping (Err fault) = breaking_off looping Failed

-- the code of a turn, which is waited for where it may still run
unfoldable pub turn_code : Looping → Turn → Task ℕ
turn_code looping (Over code) = gives code
turn_code looping (Pending pid) = and_go_on (wait_act pid) (after_wait looping)

-- the reader is closed, and the process ends with the code
unfoldable pub ending : {A : Type 0} → Looping → (code : ℕ) → Task A
ending looping code = and_go_on (closing (handles_in looping.reader)) (λ _. ends (Status code looping.state))

-- a turn that was waited for and ends the loop is the last one
abbrev pub after_code : Looping → (made : List Turn) → (code : ℕ) → Task (List Turn)
after_code looping made code = if is_ending looping.read code then ending looping code else gives made

-- a turn that was started is waited for, or under `p` joins those that are waited for behind the last one
unfoldable pub after_started : Looping → (made : List Turn) → Turn → Task (List Turn)
after_started looping made turn =
    if is_parallel looping.read then gives (made ++ turn ∷ []) else and_then (turn_code looping turn) (after_code looping made)

-- one turn takes a unit
unfoldable pub turn : Looping → (made : List Turn) → (value : List ℕ) → Task (List Turn)
turn looping made value =
    takes (Spent looping.state) (and_then (started looping (turn_words looping.read value) (turn_env looping value)) (after_started looping made))

-- ---- all turns

-- a turn for each value
unfoldable pub turns : Looping → (made : List Turn) → (values : List (List ℕ)) → Task (List Turn)
turns looping made [] = gives made
turns looping made (value ∷ values) = and_then (turn looping made value) (λ made. turns looping made values)

-- a code, unless an earlier one ends the loop already
abbrev pub or_first : Read → (found : Option ℕ) → (code : ℕ) → Option ℕ
or_first read (Some first) code = Some first
or_first read None code = if is_ending read code then Some code else None

-- the first code that ends the loop, behind what was found before; in order of start each turn is waited for
unfoldable pub first_ending : Looping → (found : Option ℕ) → List Turn → Task (Option ℕ)
first_ending looping found [] = gives found
first_ending looping found (turn ∷ made) = and_then (turn_code looping turn) (λ code. first_ending looping (or_first looping.read found code) made)

-- behind the last turn the process ends with that code, or with 0 where there is none
unfoldable pub loop_end : Looping → List Turn → Task Way
loop_end looping made = and_then (first_ending looping None made) (λ found. ends (Status (unwrap_or found 0) looping.state))
