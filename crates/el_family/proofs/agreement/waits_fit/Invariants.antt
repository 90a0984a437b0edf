use Rattle.std.proofs.Common.{◌≡◌, drop}
use Rattle.std.specs.List.{list_all}
use Rattle.el_world.specs.Log.{events_of}
use Rattle.el_family.specs.Agreement.{fits}
use Rattle.el_family.proofs.agreement.waits_fit.Given as goal

-- all so far fit
abbrev pub invariant-loop-place : goal.invariant-loop-place
invariant-loop-place l = list_all (fits l.pid l.code) (drop l.place (events_of l.log)) ≡ list_all (fits l.pid l.code) (events_of l.log)
