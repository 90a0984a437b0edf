-- How a refusal ends a process.
use Rattle.std.proofs.Common.{ℕ, List, Err}
use Rattle.el_world.specs.World.{Seen}
use Rattle.el_world.specs.Plans.{ends, and_then}
use Rattle.el_world.specs.States.{State, Task}
use Rattle.el_world.specs.States as end
use Rattle.el_world.specs.Follows.{came_out, Follows}
use Rattle.el_world.specs.declared.finish.Finish.{Finish}
use Rattle.el_world.specs.declared.finish.Finish.TheVariants.{Status, Spent, NoMemory}
use Rattle.el_world.proofs.Runs.{go_on, go_short, ran_to_end}
use Rattle.el_world.proofs.Follows.{act_assoc}
use Rattle.el_proc.specs.Troubles.{complaint, refused, trouble_status, Refuses}
use Rattle.el_proc.specs.declared.trouble.Trouble.{Trouble}

module _ {A B : Type 0} {world : Seen} {u : ℕ} {f : A → B} {state : State} where
  -- the message and the end
  pub follows_refused : {new : Seen} {name : List ℕ} {trouble : Trouble} {finish : Finish} → Refuses world new state.fds name trouble finish → Follows world new (refused state name trouble) u (Err finish) f state u
  unfolding came_out refused
  follows_refused {finish = Status code} h = record { ran = rw h.ending (go_on _ h.done (ran_to_end _)); spent = λ e. absurd (cc) }
  follows_refused {finish = Spent} h = absurd h.ending
  follows_refused {finish = NoMemory} h = record { ran = go_short _ h.done; spent = λ e. absurd (cc) }

-- the same in front of what would follow
module _ {A B C : Type 0} {world : Seen} {u : ℕ} {f : A → B} {state : State} where
  pub refused_then : {new : Seen} {name : List ℕ} {trouble : Trouble} {finish : Finish} (k : C → Task B) → Refuses world new state.fds name trouble finish → Follows world new (and_then (refused state name trouble) k) u (Err finish) f state u
  unfolding came_out refused and_then
  refused_then {name = name} {trouble = trouble} {finish = Status code} k h =
      act_assoc (complaint state.fds name trouble) (λ _. ends (end.Status (trouble_status trouble) state)) k (record { ran = rw h.ending (go_on _ h.done (ran_to_end _)); spent = λ e. absurd (cc) })
  refused_then {finish = Spent} k h = absurd h.ending
  refused_then {name = name} {trouble = trouble} {finish = NoMemory} k h =
      act_assoc (complaint state.fds name trouble) (λ _. ends (end.Status (trouble_status trouble) state)) k (record { ran = go_short _ h.done; spent = λ e. absurd (cc) })

pub ruleset refusals = (follows_refused, refused_then)
