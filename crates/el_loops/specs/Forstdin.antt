-- forstdin [-p] [-E] [-o codes | -x codes] [-C] [-d delimiters] var prog..
use Rattle.el_room.specs.Vocabulary.{name_text, Forstdin, Handle, and_then, State, Task, NotOpen, held_at, streams_of, refused, Read, Effect, Way}
use Rattle.std.specs.Prelude.{Option, None, Some, slice_set}
use Rattle.el_loops.specs.Turns.{Looping, begun, loop_end}
use Rattle.el_loops.specs.Values.{turns_over}

-- the turns find nothing at number 0
abbrev pub forstdin_loop : Read → State → Looping
forstdin_loop read state = record { program = Forstdin; read = read; streams = slice_set (streams_of state) 0 None; reader = None; state = state }

-- the turns over the input; where number 0 holds nothing the process ends
abbrev pub over_input : Looping → Option Handle → Task Way
over_input looping None = refused looping.state (name_text Forstdin) NotOpen
over_input looping (Some handle) = and_then (turns_over looping handle) (loop_end looping)

-- the turns over what number 0 holds, and the end of the loop
unfoldable pub over_number : Read → State → Task Way
over_number read state = over_input (forstdin_loop read state) (held_at state 0)

-- a turn for each value of number 0
unfoldable pub forstdin : Effect
forstdin read state = and_then (begun Forstdin read state) (λ _. over_number read state)
