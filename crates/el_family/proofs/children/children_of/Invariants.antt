use Rattle.std.proofs.Common.{◌≡◌, ◌++◌, drop}
use Rattle.el_world.specs.Log.{events_of}
use Rattle.el_family.specs.Processes.{processes_of}
use Rattle.el_family.specs.Families.{children_from, children_of}
use Rattle.el_family.proofs.children.children_of.Given as goal

-- the children so far, and those that are to come
abbrev pub invariant-loop-place : goal.invariant-loop-place
invariant-loop-place l = processes_of l.children.items ++ children_from l.member l.place (drop l.place (events_of l.log)) ≡ children_of l.member (events_of l.log)
