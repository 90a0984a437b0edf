-- The processes of a family.
use Rattle.std.specs.Prelude.{ℕ, List, Option, None, map, option_map}
use Rattle.el_env.specs.Vars.{Vars}
use Rattle.el_world.specs.declared.event.Event.{Event}
use Rattle.el_world.specs.declared.finish.Finish.{Finish}
use Rattle.el_world.specs.Log.{events_of}
use Rattle.el_family.specs.declared.member.Member.{Member}
use Rattle.el_family.specs.declared.member.Origin.{Origin}
use Rattle.el_family.specs.declared.member.Ran.{Ran}

-- how a process ran: with this budget it made these calls, and finished so
pub record Run : Type 0 where
  pub budget : ℕ
  pub events : List Event
  pub finish : Finish

-- a process: what it was handed, the start that it comes from, if one did, and how it ran, if it has
pub record Process : Type 0 where
  pub words : List (List ℕ)
  pub env : Vars
  pub dir : List ℕ
  pub origin : Option Origin
  pub ran : Option Run

-- one that hasn't run
abbrev pub new_process : (words : List (List ℕ)) → Vars → (dir : List ℕ) → Option Origin → Process
new_process words env dir origin = record { words = words; env = env; dir = dir; origin = origin; ran = None }

-- how a member ran, as contracts see it
abbrev pub run_of : Ran → Run
run_of ran = record { budget = ran.budget; events = events_of ran.log; finish = ran.finish }

-- a member, as contracts see it
abbrev pub process_of : Member → Process
process_of member = record { words = member.words; env = member.env; dir = member.dir; origin = member.origin; ran = option_map run_of member.ran }

-- and many
abbrev pub processes_of : List Member → List Process
processes_of members = map process_of members
