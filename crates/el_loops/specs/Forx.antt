-- forx [-p] [-E] [-o codes | -x codes] var { values } prog..
use Rattle.el_room.specs.Vocabulary.{Forx, and_then, State, streams_of, First, Read, block_at, Effect}
use Rattle.std.specs.Prelude.{[], None}
use Rattle.el_loops.specs.Turns.{Looping, begun, turns, loop_end}

-- the turns find what the process has at its numbers 0 to 2
abbrev pub forx_loop : Read → State → Looping
forx_loop read state = record { program = Forx; read = read; streams = streams_of state; reader = None; state = state }

-- a turn for each word of the block, in order
unfoldable pub forx : Effect
forx read state = and_then (begun Forx read state) (λ _. and_then (turns (forx_loop read state) [] (block_at First read)) (loop_end (forx_loop read state)))
