use Rattle.std.proofs.Common.{ap, sym, arith, ◌++◌, List, drop}
use Rattle.el_world.specs.Log.{events_of}
use Rattle.el_family.specs.declared.member.Member.{Member}
use Rattle.el_family.specs.Processes.{processes_of}
use Rattle.el_family.specs.Families.{children_from}
use Rattle.el_family.proofs.Grown.{one_more_child, all_children}
use Rattle.el_family.proofs.children.children_of.Goals as goal

pub returns : goal.returns
returns c = all_children c.args.member c.loop-place.place (events_of c.args.log.now) (processes_of c.loop-place.children.items) _ (omega (arith, c.len-place-end.ensures)) (omega (arith, c.len-place-end.ensures, c.loop-place.auto.place-end)) c.loop-place.invariant

pub loop-place-init : goal.loop-place-init
loop-place-init c = ap (λ (children : List Member). processes_of children ++ children_from c.args.member 0 (drop 0 (events_of c.args.log.now))) c.new-children.ensures.items

pub loop-place-preserved : goal.loop-place-preserved
loop-place-preserved c =
    one_more_child c.args.member c.loop-place.place (events_of c.args.log.now) c.in-Some.event.now (processes_of c.loop-place.children.items) _ _ (sym c.in-Some.ensures) c.in_ok-put_child.ensures c.loop-place.invariant
