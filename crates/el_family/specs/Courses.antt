-- How a process runs over a world that answers from a list.
use Rattle.std.specs.Prelude.{◌≡◌, ℕ, suc, Bool, true, false, List, [], ◌∷◌, map}
use Rattle.el_world.specs.declared.answer.Answer.{Answer}
use Rattle.el_world.specs.declared.event.Event.{Event}
use Rattle.el_world.specs.declared.finish.Finish.{Finish}
use Rattle.el_world.specs.declared.finish.Finish.TheVariants.{Status, Spent, NoMemory}
use Rattle.el_world.specs.Calls.{event_of, call_of, found_in}
use Rattle.el_world.specs.Lawful.{are_lawful}
use Rattle.el_world.specs.Plans.{Plan, gives, ends, takes, calls, made}
use Rattle.el_world.specs.Runs.{AreEventsOf}
use Rattle.el_world.specs.Scripted.{Script, begun, reply_to, after_call, after_calls}
use Rattle.el_app.specs.Calls.{Ending, status, spent, execline_call, outcome_of}
use Rattle.el_family.specs.Processes.{Process, Run}

-- an end, as a process finishes
abbrev pub finish_of : Ending → Finish
finish_of (status code) = Status code
finish_of spent = Spent

-- the course of a plan: its events, and how it ends
pub record Course : Type 0 where
  pub events : List Event
  pub finish : Finish

-- one event before the rest
abbrev pub behind_event : Event → Course → Course
behind_event event rest = record rest { events = event ∷ rest.events }

-- each call is answered as the world answers it, from its list and then plainly; where a unit is due and none is left, it ends
abbrev pub course_of : Plan Ending ⊥ → (units : ℕ) → Script → Course
course_of (gives never) units world = absurd never
course_of (ends end) units world = record { events = []; finish = finish_of end }
course_of (takes end plan) Prim.Native.Nat.zero world = record { events = []; finish = finish_of end }
course_of (takes end plan) (suc units) world = course_of plan units world
course_of (calls call after) units world = behind_event (event_of call (reply_to world call)) (course_of (after (reply_to world call)) units (after_call world call))

-- a run with this budget that took this course
abbrev pub with_budget : (budget : ℕ) → Course → Run
with_budget budget course = record { budget = budget; events = course.events; finish = course.finish }

-- how a process runs by the top call on what it was handed, over a new world with these answers
unfoldable pub run_with : Process → List Answer → (budget : ℕ) → Run
run_with process answers budget = with_budget budget (course_of (execline_call process.words process.env process.dir) budget (begun answers))

-- ---- what is true of each run

-- the run came to an end
abbrev pub has_ended : Finish → Bool
has_ended (Status code) = true
has_ended Spent = true
has_ended NoMemory = false

-- The events and the end are those of the top call on what the process was handed, with the budget of the run, on the answers found in
-- the events, of which none is left over.
pub record IsRunOf (process : Process) (run : Run) : Type 0 where
  pub lawful : are_lawful run.events ≡ true
  pub ended : has_ended run.finish ≡ true
  pub meant : AreEventsOf run.events (made (execline_call process.words process.env process.dir) run.budget (found_in run.events)) (outcome_of run.finish)

-- each answer is the one that a new world with this list gives: by the same calls it comes to have these events
abbrev pub AreAnsweredFrom : List Answer → List Event → Type 0
AreAnsweredFrom answers events = (after_calls (begun answers) (map call_of events)).log ≡ events
