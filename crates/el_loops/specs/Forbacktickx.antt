-- forbacktickx [-p] [-E] [-o codes | -x codes] [-C] [-d delimiters] var { gen } prog..
use Rattle.el_room.specs.Vocabulary.{name_text, Forbacktickx, Ended, Fault, Handle, Pid, PipeEnds, wait_act, close_act, gives, and_then, and_go_on, State, Task, Started, Failed, first_word, running_pid, unstarted_code, streams_of, refused, First, Read, block_at, Effect}
use Rattle.std.specs.Prelude.{ℕ, List, [], ◌∷◌, Option, None, Some, Result, Ok, Err}
use Rattle.el_pipes.specs.declared.side.Side.TheVariants.{Output}
use Rattle.el_pipes.specs.Pipes.{piped, started_at, closing_ends}
use Rattle.el_loops.specs.declared.turn.Turn.{Turn}
use Rattle.el_loops.specs.Turns.{Looping, begun, loop_end}
use Rattle.el_loops.specs.Values.{turns_over}

-- the turns find what the process has at its numbers 0 to 2, while the loop holds the reader
abbrev pub forbacktickx_loop : Read → (reader : Option Handle) → State → Looping
forbacktickx_loop read reader state = record { program = Forbacktickx; read = read; streams = streams_of state; reader = reader; state = state }

-- the generator's end has no effect; a failed wait ends the process
abbrev pub after_wait : State → Result Ended Fault → Task (Unit {0})
after_wait state (Ok ended) = gives tt
after_wait state (Err fault) = refused state (name_text Forbacktickx) Failed

-- the generator is waited for; its end has no effect
unfoldable pub waited_for : State → (generator : Pid) → Task (Unit {0})
waited_for state generator = and_go_on (wait_act generator) (after_wait state)

-- what the generator writes is read; behind the last turn the reader is closed, and then the generator is waited for
unfoldable pub over_reader : Read → State → (reader : Handle) → (generator : Pid) → Task (List Turn)
over_reader read state reader generator =
    and_then (turns_over (forbacktickx_loop read (Some reader) state) reader) (λ made. and_go_on (close_act reader) (λ _. and_then (waited_for state generator) (λ _. gives made)))

-- The turns for what a generator writes that was started, by the process in which it runs. One that doesn't run gives no values, and is
-- told of.
abbrev pub over_started : Read → State → (block : List (List ℕ)) → PipeEnds → Started → (running : Option Pid) → Task (List Turn)
over_started read state block ends started (Some generator) = and_go_on (close_act ends.writer) (λ _. over_reader read state ends.reader generator)
over_started read state block ends started None =
    and_go_on (closing_ends ends) (λ _. and_go_on (unstarted_code state.fds (first_word block) started) (λ _. gives []))

-- the block is started as the generator, and writes to a new pipe
unfoldable pub over_pipe : Read → State → (block : List (List ℕ)) → Task (List Turn)
over_pipe read state block =
    and_then (piped Forbacktickx state) (λ ends.
    and_then (started_at Forbacktickx state block Output ends) (λ started. over_started read state block ends started (running_pid started)))

-- without words no call is made, and there are no values
unfoldable pub over_block : Read → State → (block : List (List ℕ)) → Task (List Turn)
over_block read state [] = gives []
over_block read state (word ∷ words) = over_pipe read state (word ∷ words)

-- a turn for each value that the block writes
unfoldable pub forbacktickx : Effect
forbacktickx read state =
    and_then (begun Forbacktickx read state) (λ _. and_then (over_block read state (block_at First read)) (loop_end (forbacktickx_loop read None state)))
