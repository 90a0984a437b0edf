-- How code that may end its process is tied to a plan.
use Rattle.std.specs.Prelude.{◌≡◌, ℕ, Option, None, Some, Result, Ok, Err}
use Rattle.el_world.specs.declared.finish.Finish.{Finish}
use Rattle.el_world.specs.declared.finish.Finish.TheVariants.{Status, Spent, NoMemory}
use Rattle.el_world.specs.World.{Seen}
use Rattle.el_world.specs.Plans.{Outcome, given, ended}
use Rattle.el_world.specs.States as end
use Rattle.el_world.specs.States.{State, End, Task}
use Rattle.el_world.specs.Runs.{Ran}

-- how a plan comes out where the code finished so in this state; want of memory is no outcome
abbrev pub finished : {A : Type 0} → Finish → State → Option (Outcome End A)
finished (Status code) at = Some (ended (end.Status code at))
finished Spent at = Some (ended (end.Spent at))
finished NoMemory at = None

-- and where the code has this result, which the plan gives so
unfoldable pub came_out : {A B : Type 0} → Result A Finish → (A → B) → State → Option (Outcome End B)
came_out (Ok value) gives state = Some (given (gives value))
came_out (Err finish) gives state = finished finish state

-- Between two states of a world the code followed a plan with so many units and left so many. Its result is this, which the plan
-- gives so; an error is the end of the process in this state, or want of memory. Where the budget is spent, nothing is left.
pub record Follows {A B : Type 0} (old new : Seen) (run : Task B) (units : ℕ) (result : Result A Finish) (gives : A → B) (state : State) (left : ℕ) : Type 0 where
  pub ran : Ran old new run units (came_out result gives state) left
  pub spent : result ≡ Err Spent → left ≡ 0
