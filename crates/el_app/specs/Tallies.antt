-- What is told of a sample's run.
use Rattle.el_room.specs.Vocabulary.{decimal, Event, Start, Wait, Pipe, Close, Outcome, ended, End, Status}
use Rattle.std.specs.Prelude.{ℕ, Bool, true, false, List, ◌++◌, Option, None, Some, count_by, option_map, codes}
use Rattle.el_app.specs.declared.tallies.Tally.{Tally}
use Rattle.el_app.specs.Played.{Played}

-- a command was to be started, whether or not it could be
abbrev pub is_start : Event → Bool
is_start (Start words env dir streams answer) = true
is_start event = false

-- a process was waited for
abbrev pub is_wait : Event → Bool
is_wait (Wait pid answer) = true
is_wait event = false

-- a pipe was asked for
abbrev pub is_pipe : Event → Bool
is_pipe (Pipe answer) = true
is_pipe event = false

-- a handle was closed
abbrev pub is_close : Event → Bool
is_close (Close handle) = true
is_close event = false

-- how many events there are of each of the four kinds
abbrev pub tally_of : List Event → Tally
tally_of events = record { starts = count_by is_start events; waits = count_by is_wait events; pipes = count_by is_pipe events; closes = count_by is_close events }

-- the units, the events of each kind and the status, on a line
unfoldable pub tally_line : (units : ℕ) → Tally → (code : ℕ) → List ℕ
tally_line units tally code =
    codes "units " ++ decimal units ++ codes " starts " ++ decimal tally.starts ++ codes " waits " ++ decimal tally.waits ++ codes " pipes " ++ decimal tally.pipes
    ++ codes " closes " ++ decimal tally.closes ++ codes " status " ++ decimal code ++ codes "\n"

-- the status with which a process ended
abbrev pub code_of : Outcome End ⊥ → Option ℕ
code_of (ended (Status code state)) = Some code
code_of outcome = None

-- the line of a run that ended with a status
abbrev pub line_of : Played End ⊥ → Option (List ℕ)
line_of run = option_map (tally_line run.units (tally_of run.events)) (code_of run.outcome)
