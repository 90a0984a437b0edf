-- backtick [-i|-I|-D default] [-n|-N] [-E] var { a } prog..
use Rattle.el_room.specs.Vocabulary.{name_text, Backtick, Vars, Ended, Exited, Fault, Pid, PipeEnds, wait_act, close_act, gives, and_then, and_go_on, State, Task, Status, Started, BadName, NotSet, NulInput, Failed, first_word, code_of, running_pid, unstarted_code, whole_input, has_nul, input_word, refused, First, has, value_of, the_text, block_at, Effect, Way, on, under}
use Rattle.std.specs.Prelude.{ℕ, Bool, not, ◌||◌, ◌==◌, List, [], ◌∷◌, Option, None, Some, unwrap_or, Result, Ok, Err, codes, if◌then◌else◌}
use Rattle.std.specs.FinMap as map
use Rattle.el_world.specs.Plans as plan
use Rattle.el_front.specs.Reads as front
use Rattle.el_pipes.specs.declared.output.Output.{Output}
use Rattle.el_pipes.specs.declared.side.Side.TheVariants.{Output as OutputSide}
use Rattle.el_pipes.specs.Pipes.{piped, started_at, closing_ends}
use Rattle.el_pipes.specs.Putting.{puts_values, names_well, value_pairs}

-- ---- what the block writes, and how it ends

-- how the block ended; a failed wait ends the process
abbrev pub after_wait : State → Result Ended Fault → Task Ended
after_wait state (Ok ended) = gives ended
after_wait state (Err fault) = refused state (name_text Backtick) Failed

-- the block is waited for
unfoldable pub waited_for : State → Pid → Task Ended
waited_for state pid = and_go_on (wait_act pid) (after_wait state)

-- behind the reads the block is waited for; where one failed the process ends without that
abbrev pub after_reads : State → Pid → Option (List ℕ) → Task Output
after_reads state pid None = refused state (name_text Backtick) Failed
after_reads state pid (Some text) = and_then (waited_for state pid) (λ ended. gives (record { text = text; ended = ended }))

-- the writer is closed, all is read, the reader is closed, also where a read failed, and then the block is waited for
unfoldable pub read_from : State → PipeEnds → Pid → Task Output
read_from state ends pid =
    and_go_on (close_act ends.writer) (λ _.
    and_then (whole_input state ends.reader) (λ text.
    and_go_on (close_act ends.reader) (λ _. after_reads state pid text)))

-- nothing was written, and the end is this status
abbrev pub no_output : (code : ℕ) → Output
no_output code = record { text = []; ended = Exited code }

-- What a block writes that was started, by the process in which it runs. One that doesn't run writes nothing, and counts as ended with its
-- code, behind its message.
abbrev pub output_by : State → (block : List (List ℕ)) → PipeEnds → Started → (running : Option Pid) → Task Output
output_by state block ends started (Some pid) = read_from state ends pid
output_by state block ends started None =
    and_go_on (closing_ends ends) (λ _. and_go_on (unstarted_code state.fds (first_word block) started) (λ code. gives (no_output code)))

-- the block is started and writes to a new pipe
unfoldable pub written_by : State → (block : List (List ℕ)) → Task Output
written_by state block =
    and_then (piped Backtick state) (λ ends.
    and_then (started_at Backtick state block OutputSide ends) (λ started. output_by state block ends started (running_pid started)))

-- without words no call is made
unfoldable pub output_of : State → (block : List (List ℕ)) → Task Output
output_of state [] = gives (no_output 0)
output_of state (word ∷ words) = written_by state (word ∷ words)

-- ---- the value

-- the block's end isn't status 0, or its output holds a NUL
abbrev pub is_trouble : Output → Bool
is_trouble output = not (code_of output.ended == 0) || has_nul output.text

-- the output up to the first NUL, without one newline at its end unless `N` is in force
abbrev pub word_of : front.Read → Output → List ℕ
word_of read output = input_word (has (codes "N") read) output.text

-- the default, or the same where there is none
abbrev pub default_of : front.Read → Output → List ℕ
default_of read output = unwrap_or (value_of (codes "D") read) (word_of read output)

-- the end with the block's code; where that is 0, a NUL is what is refused
abbrev pub ending_by : State → Ended → Task (Option (List ℕ))
ending_by state ended = if code_of ended == 0 then refused state (name_text Backtick) NulInput else plan.ends (Status (code_of ended) state)

-- with trouble the process ends under `i`, there is no value under `I`, and under `D` it is the default
abbrev pub in_trouble : front.Read → State → Output → Task (Option (List ℕ))
in_trouble read state output =
    if has (codes "i") read then ending_by state output.ended
    else (if has (codes "I") read then gives None
    else gives (Some (default_of read output)))

-- without trouble the value is the output's word
unfoldable pub value_from : front.Read → State → Output → Task (Option (List ℕ))
value_from read state output = if is_trouble output then in_trouble read state output else gives (Some (word_of read output))

-- ---- what is done with it

-- the variable has the value, and isn't set where there is none
abbrev pub env_with : front.Read → Vars → Option (List ℕ) → Vars
env_with read env None = map.remove env (the_text First read)
env_with read env (Some value) = map.insert env (the_text First read) value

-- the same of a process
abbrev pub set_to : front.Read → State → Option (List ℕ) → State
set_to read state value = record state { env = env_with read state.env value }

-- under `E` the variable isn't set, and the value is put in the rest; where there is none that is refused
abbrev pub put_in : front.Read → State → Option (List ℕ) → Task Way
put_in read state None = refused (set_to read state None) (name_text Backtick) NotSet
put_in read state (Some value) = gives (under (value_pairs read value) (set_to read state None))

-- how the process goes on with a value, or with none
unfoldable pub going_on : front.Read → State → Option (List ℕ) → Task Way
going_on read state value = if puts_values read then put_in read state value else on (set_to read state value)

-- the name is tested before any call
unfoldable pub backtick : Effect
backtick read state =
    if names_well read
    then and_then (output_of state (block_at First read)) (λ output. and_then (value_from read state output) (going_on read state))
    else refused state (name_text Backtick) BadName
