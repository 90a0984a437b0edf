-- Pipes between a process and one that it starts.
use Rattle.el_room.specs.Vocabulary.{name_text, Prog, Fault, Handle, PipeEnds, pipe_act, is_held, gives, and_go_on, State, Task, Started, Failed, starting, is_at_some, streams_of, closing, refused}
use Rattle.std.specs.Prelude.{◌≡◌, ℕ, true, false, List, [], ◌∷◌, Option, Some, Result, Ok, Err, slice_set}
use Rattle.el_world.specs.Acts.{Act}
use Rattle.el_proc.specs.Descriptors.{is_same}
use Rattle.el_pipes.specs.declared.side.Side.{Side}
use Rattle.el_pipes.specs.declared.side.Side.TheVariants.{Input, Output}

-- ---- sides

-- the number at which a process has an end of this side
abbrev pub number_at : Side → ℕ
number_at Input = 0
number_at Output = 1

-- the end of a pipe on this side
abbrev pub end_at : Side → PipeEnds → Handle
end_at Input ends = ends.reader
end_at Output ends = ends.writer

-- the side of who is at the other end
abbrev pub other_side : Side → Side
other_side Input = Output
other_side Output = Input

-- ---- what is done with a pipe

-- the ends that were given; where the call failed the process ends
abbrev pub after_pipe : Prog → State → Result PipeEnds Fault → Task PipeEnds
after_pipe program state (Ok ends) = gives ends
after_pipe program state (Err fault) = refused state (name_text program) Failed

-- the ends of a new pipe; where there is none the process ends
unfoldable pub piped : Prog → State → Task PipeEnds
piped program state = and_go_on pipe_act (after_pipe program state)

-- what a started process finds at its numbers 0 to 2: its side of the pipe, and the others as the process has them
abbrev pub streams_with : State → Side → PipeEnds → List (Option Handle)
streams_with state side ends = slice_set (streams_of state) (number_at side) (Some (end_at side ends))

-- a block is started on a side of the pipe
abbrev pub starting_at : State → (block : List (List ℕ)) → Side → PipeEnds → Act (Result Started Fault)
starting_at state block side ends = starting block state.env state.dir (streams_with state side ends)

-- a pipe is given up: its writer is closed before its reader
abbrev pub closing_ends : PipeEnds → Act (Unit {0})
closing_ends ends = closing (ends.writer ∷ ends.reader ∷ [])

-- the same where the start of the block failed, which ends the process
abbrev pub giving_up : {A : Type 0} → Prog → State → PipeEnds → Task A
giving_up program state ends = and_go_on (closing_ends ends) (λ _. refused state (name_text program) Failed)

-- what came of the start; one that failed ends the process
abbrev pub unless_failed : Prog → State → PipeEnds → Result Started Fault → Task Started
unless_failed program state ends (Ok started) = gives started
unless_failed program state ends (Err fault) = giving_up program state ends

-- a block is started on a side of the pipe; where that fails the process ends
unfoldable pub started_at : Prog → State → (block : List (List ℕ)) → Side → PipeEnds → Task Started
started_at program state block side ends = and_go_on (starting_at state block side ends) (unless_failed program state ends)

-- ---- handles that no number holds

-- the world holds the handle, and no number does
pub record IsLoose (held : List Handle) (fds : List (Option Handle)) (handle : Handle) : Type 0 where
  pub is_open : is_held held handle ≡ true
  pub apart : is_at_some fds handle ≡ false

-- so it is with both ends of a pipe, which differ
pub record AreLoose (held : List Handle) (fds : List (Option Handle)) (ends : PipeEnds) : Type 0 where
  pub reader : IsLoose held fds ends.reader
  pub writer : IsLoose held fds ends.writer
  pub differ : is_same ends.reader ends.writer ≡ false
