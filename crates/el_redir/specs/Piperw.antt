-- piperw r w prog..
use Rattle.el_room.specs.Vocabulary.{name_text, Piperw, Fault, PipeEnds, pipe_act, and_then, and_go_on, State, Task, Usage, Failed, refused, Effect, Way, on}
use Rattle.std.specs.Prelude.{◌==◌, Some, Result, Ok, Err, slice_set, if◌then◌else◌}
use Rattle.el_redir.specs.declared.numbers.Numbers.{Numbers}
use Rattle.el_redir.specs.Numbers.{numbers_read}
use Rattle.el_redir.specs.Putting.{changed}

-- two changes: the first number takes the reader, and then the second the writer
abbrev pub after_pipe : Numbers → State → Result PipeEnds Fault → Task Way
after_pipe numbers state (Ok ends) =
    changed state (slice_set state.fds numbers.one (Some ends.reader)) (λ state. changed state (slice_set state.fds numbers.other (Some ends.writer)) on)
after_pipe numbers state (Err fault) = refused state (name_text Piperw) Failed

-- the numbers must differ
abbrev pub make_pipe : State → Numbers → Task Way
make_pipe state numbers = if numbers.one == numbers.other then refused state (name_text Piperw) Usage else and_go_on pipe_act (after_pipe numbers state)

-- the first number takes the reader of a new pipe, and the second its writer
unfoldable pub piperw : Effect
piperw read state = and_then (numbers_read Piperw read state) (make_pipe state)
