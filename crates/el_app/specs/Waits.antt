-- Processes that are waited for.
use Rattle.el_room.specs.Vocabulary.{list_any, Vars, Event, Start, Wait, Ended, Fault, Pid, Seen, Outcome, RanWith, State, End}
use Rattle.std.specs.Prelude.{◌≡◌, ℕ, suc, ◌<◌, Bool, true, false, not, ◌&&◌, ◌==◌, List, [], ◌∷◌, ◌++◌, Option, Result, Ok, if◌then◌else◌}
use Rattle.el_machine.specs.Flat.{flat_run}
use Rattle.el_app.specs.Calls.{Ending, execline_call}

-- ---- processes in calls

-- the process that answered a start
abbrev pub started_by : Event → List Pid
started_by (Start words env dir streams (Ok pid)) = pid ∷ []
started_by event = []

-- the process that was waited for
abbrev pub waited_by : Event → List Pid
waited_by (Wait pid answer) = pid ∷ []
waited_by event = []

-- the processes that answered starts, in order
abbrev pub started_in : List Event → List Pid
started_in [] = []
started_in (event ∷ events) = started_by event ++ started_in events

-- those that were waited for
abbrev pub waited_in : List Event → List Pid
waited_in [] = []
waited_in (event ∷ events) = waited_by event ++ waited_in events

-- how many of them have this number
abbrev pub times : List Pid → (number : ℕ) → ℕ
times [] number = 0
times (pid ∷ pids) number = if pid.number == number then suc (times pids number) else times pids number

-- one of them has it
abbrev pub is_among : List Pid → (number : ℕ) → Bool
is_among pids number = list_any (λ pid. pid.number == number) pids

-- no two of them have the same number
abbrev pub are_distinct : List Pid → Bool
are_distinct [] = true
are_distinct (pid ∷ pids) = not (is_among pids pid.number) && are_distinct pids

-- ---- the law

-- at each wait its process was started more often than it was waited for
abbrev pub WaitsAreDue : List Event → Type 0
WaitsAreDue events = (before behind : List Event) (pid : Pid) (answer : Result Ended Fault) → events ≡ before ++ Wait pid answer ∷ behind → times (waited_in before) pid.number < times (started_in before) pid.number

-- where no two starts were answered by the same process: a process is waited for once, and its start stands before
abbrev pub WaitsAreFirst : List Event → Type 0
WaitsAreFirst events = are_distinct (started_in events) ≡ true → (before behind : List Event) (pid : Pid) (answer : Result Ended Fault) → events ≡ before ++ Wait pid answer ∷ behind
    → (is_among (started_in before) pid.number ≡ true) × (is_among (waited_in before) pid.number ≡ false)

-- A run, of a process that has no children at its start, waits so.
abbrev pub RunsWaitForTheirOwn : Type 0
RunsWaitForTheirOwn = (old new : Seen) (words : List (List ℕ)) (state : State) (units : ℕ) (outcome : Option (Outcome End ⊥)) (run : RanWith old new (flat_run words state) units outcome) → state.kids ≡ [] → WaitsAreDue run.ran.events × WaitsAreFirst run.ran.events

-- And so does the top call, whatever it is asked for.
abbrev pub CallsWaitForTheirOwn : Type 0
CallsWaitForTheirOwn = (old new : Seen) (words : List (List ℕ)) (env : Vars) (dir : List ℕ) (units : ℕ) (outcome : Option (Outcome Ending ⊥)) (run : RanWith old new (execline_call words env dir) units outcome) → WaitsAreDue run.ran.events × WaitsAreFirst run.ran.events
