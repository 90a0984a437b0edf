-- pipeline [-r|-w] { a } prog..
use Rattle.el_room.specs.Vocabulary.{Pipeline, Pid, PipeEnds, close_act, gives, and_then, and_go_on, State, Task, first_word, running_pid, unstarted_code, lost_handles, closing, noted, First, has, block_at, Effect, Way, on}
use Rattle.std.specs.Prelude.{ℕ, List, Option, Some, codes, slice_set, if◌then◌else◌}
use Rattle.el_front.specs.Reads as front
use Rattle.el_pipes.specs.declared.side.Side.{Side}
use Rattle.el_pipes.specs.declared.side.Side.TheVariants.{Input, Output}
use Rattle.el_pipes.specs.Pipes.{number_at, end_at, other_side, piped, started_at}

-- the block writes and the process reads, or under `w` the other way round
abbrev pub block_side : front.Read → Side
block_side read = if has (codes "w") read then Input else Output

-- The process that the block runs in; none where it doesn't run, which is told of. The block's end is closed before anything else is
-- done.
unfoldable pub starting_kid : State → (block : List (List ℕ)) → Side → PipeEnds → Task (Option Pid)
starting_kid state block side ends =
    and_then (started_at Pipeline state block side ends) (λ started.
    and_go_on (close_act (end_at side ends)) (λ _.
    and_go_on (unstarted_code state.fds (first_word block) started) (λ _. gives (running_pid started))))

-- the process's number takes its end of the pipe; what it held is closed, if the world gave it and no number holds it any more
abbrev pub taking : State → Side → PipeEnds → Task Way
taking state side ends =
    let fds = slice_set state.fds (number_at side) (Some (end_at side ends)) in
    and_go_on (closing (lost_handles state.fds fds)) (λ _. on (record state { fds = fds }))

-- the block is started and joins the kids, `!` tells its number, and the process goes on at the other end
unfoldable pub pipeline : Effect
pipeline read state =
    and_then (piped Pipeline state) (λ ends.
    and_then (starting_kid state (block_at First read) (block_side read) ends) (λ kid.
    taking (noted kid state) (other_side (block_side read)) ends))
