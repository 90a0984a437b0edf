use Rattle.std.proofs.Common.{◌∙◌, Err, ap, sym}
use Rattle.el_world.specs.declared.event.Fault.TheVariants.{Failed}
use Rattle.el_world.specs.declared.event.Event.TheVariants.{Write}
use Rattle.el_world.specs.Fuse.{Fused}
use Rattle.el_world.proofs.Calls.{added-write}
use Rattle.el_world.proofs.Fused.{failing, blown-call, blown-cause, blown-keeps, blows, still_in_place, passed-log, passed-cause, passed-keeps, passes}
use Rattle.el_world.proofs.fuse.FuseWorld.write.Goals as goal

pub write-requires : goal.write-requires
write-requires g c = rw (ap (λ (f : Fused _). f.world) (c.self-2.view_is ∙ c.count.ensures.count)) c.requires

pub returns-then-count-clause-log : goal.returns-then-count-clause-log
returns-then-count-clause-log g c =
    let failed = failing g.W.World.seen c.args.self.now c.count.new.self c.fail.new.self c.failed_write-event.result c.fail.result c.count.result c.count.ensures.due c.if-count.true c.count.ensures.count c.fail.ensures.world c.fail.ensures.told c.fail.ensures.untold in
    blown-call g.W.World.seen (Write c.args.handle c.args.bytes.now) failed c.failed_write-event.ensures

pub returns-then-count-clause-cause : goal.returns-then-count-clause-cause
returns-then-count-clause-cause g c =
    let failed = failing g.W.World.seen c.args.self.now c.count.new.self c.fail.new.self c.failed_write-event.result c.fail.result c.count.result c.count.ensures.due c.if-count.true c.count.ensures.count c.fail.ensures.world c.fail.ensures.told c.fail.ensures.untold in
    blown-cause g.W.World.seen _ _ failed

pub returns-then-count-clause-handles : goal.returns-then-count-clause-handles
returns-then-count-clause-handles g c =
    let failed = failing g.W.World.seen c.args.self.now c.count.new.self c.fail.new.self c.failed_write-event.result c.fail.result c.count.result c.count.ensures.due c.if-count.true c.count.ensures.count c.fail.ensures.world c.fail.ensures.told c.fail.ensures.untold in
    blown-keeps g.W.World.seen failed

pub returns-then-count-clause-exact : goal.returns-then-count-clause-exact
returns-then-count-clause-exact g c =
    let failed = failing g.W.World.seen c.args.self.now c.count.new.self c.fail.new.self c.failed_write-event.result c.fail.result c.count.result c.count.ensures.due c.if-count.true c.count.ensures.count c.fail.ensures.world c.fail.ensures.told c.fail.ensures.untold in
    blows g.W.World.seen _ (Write c.args.handle c.args.bytes.now (Err Failed)) _ _ _ _ (λ e. e) (λ e. e) failed c.failed_write-event.ensures

pub invariant_of-self : goal.invariant_of-self
invariant_of-self g c = still_in_place g.W.World.seen _ c.self-2.inside.world c.write.new.self _ c.write.ensures.log c.self-2.invariant

pub returns-clause-log : goal.returns-clause-log
returns-clause-log g c = passed-log g.W.World.seen c.args.self.now _ c.self-2.inside.world c.write.new.self _ (ap (λ (f : Fused _). f.wire) (c.self-2.view_is ∙ c.count.ensures.count)) (ap (λ (f : Fused _). f.world) (c.self-2.view_is ∙ c.count.ensures.count)) c.self-2.invariant c.write.ensures.log

pub returns-clause-cause : goal.returns-clause-cause
returns-clause-cause g c = passed-cause g.W.World.seen c.args.self.now _ c.self-2.inside.world _ _ _ (ap (λ (f : Fused _). f.wire) (c.self-2.view_is ∙ c.count.ensures.count)) (ap (λ (f : Fused _). f.world) (c.self-2.view_is ∙ c.count.ensures.count)) c.write.ensures.cause

pub returns-clause-handles : goal.returns-clause-handles
returns-clause-handles g c = passed-keeps g.W.World.seen c.args.self.now _ c.self-2.inside.world c.write.new.self (ap (λ (f : Fused _). f.world) (c.self-2.view_is ∙ c.count.ensures.count)) c.write.ensures.handles

pub returns-clause-exact : goal.returns-clause-exact
returns-clause-exact g c =
    passes g.W.World.seen c.args.self.now _ c.self-2.inside.world c.write.new.self _ _ _ _ _ (ap (λ (f : Fused _). f.wire) (c.self-2.view_is ∙ c.count.ensures.count)) (ap (λ (f : Fused _). f.world) (c.self-2.view_is ∙ c.count.ensures.count)) (sym c.count.ensures.due ∙ c.if-count.false)
    (added-write _ _ _ c.write.ensures.log c.write.ensures.cause c.write.ensures.handles (rw (ap (λ (f : Fused _). f.world) (c.self-2.view_is ∙ c.count.ensures.count)) c.requires))
