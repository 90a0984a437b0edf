use Rattle.std.proofs.Common.{◌∙◌, Err, ap, sym}
use Rattle.el_world.specs.declared.event.StartFault.TheVariants.{Failed}
use Rattle.el_world.specs.declared.event.Event.TheVariants.{Start}
use Rattle.el_world.specs.Fuse.{Fused}
use Rattle.el_world.proofs.Calls.{added-start}
use Rattle.el_world.proofs.Fused.{failing, blown-start, blown-cause, blown-keeps, blows, still_in_place, passed-log, passed-cause, passed-keeps, passes}
use Rattle.el_world.proofs.fuse.FuseWorld.start.Goals as goal

pub start-requires-clause-ends : goal.start-requires-clause-ends
start-requires-clause-ends g c = rw (ap (λ (f : Fused _). f.world) (c.self.view_is ∙ c.count.ensures.count)) c.requires.ends

pub returns-then-count-clause-log : goal.returns-then-count-clause-log
returns-then-count-clause-log g c =
    let failed = failing g.W.World.seen c.args.self.now c.count.new.self c.fail.new.self c.failed_start-event.result c.fail.result c.count.result c.count.ensures.due c.if-count.true c.count.ensures.count c.fail.ensures.world c.fail.ensures.told c.fail.ensures.untold in
    blown-start g.W.World.seen _ (Start c.args.words.now c.args.env.now c.args.dir.now c.args.ends.now) c.start_fault.ensures.failed c.start_fault.ensures.no_memory failed c.failed_start-event.ensures

pub returns-then-count-clause-cause : goal.returns-then-count-clause-cause
returns-then-count-clause-cause g c =
    let failed = failing g.W.World.seen c.args.self.now c.count.new.self c.fail.new.self c.failed_start-event.result c.fail.result c.count.result c.count.ensures.due c.if-count.true c.count.ensures.count c.fail.ensures.world c.fail.ensures.told c.fail.ensures.untold in
    blown-cause g.W.World.seen _ _ failed

pub returns-then-count-clause-handles : goal.returns-then-count-clause-handles
returns-then-count-clause-handles g c =
    let failed = failing g.W.World.seen c.args.self.now c.count.new.self c.fail.new.self c.failed_start-event.result c.fail.result c.count.result c.count.ensures.due c.if-count.true c.count.ensures.count c.fail.ensures.world c.fail.ensures.told c.fail.ensures.untold in
    blown-keeps g.W.World.seen failed

pub returns-then-count-clause-exact : goal.returns-then-count-clause-exact
returns-then-count-clause-exact g c =
    let failed = failing g.W.World.seen c.args.self.now c.count.new.self c.fail.new.self c.failed_start-event.result c.fail.result c.count.result c.count.ensures.due c.if-count.true c.count.ensures.count c.fail.ensures.world c.fail.ensures.told c.fail.ensures.untold in
    blows g.W.World.seen _ (Start c.args.words.now c.args.env.now c.args.dir.now c.args.ends.now (Err Failed)) _ _ _ _ c.start_fault.ensures.failed c.start_fault.ensures.no_memory failed c.failed_start-event.ensures

pub invariant_of-self : goal.invariant_of-self
invariant_of-self g c = still_in_place g.W.World.seen _ c.self.inside.world c.start.new.self _ c.start.ensures.log c.self.invariant

pub returns-clause-log : goal.returns-clause-log
returns-clause-log g c = passed-log g.W.World.seen c.args.self.now _ c.self.inside.world c.start.new.self _ (ap (λ (f : Fused _). f.wire) (c.self.view_is ∙ c.count.ensures.count)) (ap (λ (f : Fused _). f.world) (c.self.view_is ∙ c.count.ensures.count)) c.self.invariant c.start.ensures.log

pub returns-clause-cause : goal.returns-clause-cause
returns-clause-cause g c = passed-cause g.W.World.seen c.args.self.now _ c.self.inside.world _ _ _ (ap (λ (f : Fused _). f.wire) (c.self.view_is ∙ c.count.ensures.count)) (ap (λ (f : Fused _). f.world) (c.self.view_is ∙ c.count.ensures.count)) c.start.ensures.cause

pub returns-clause-handles : goal.returns-clause-handles
returns-clause-handles g c = passed-keeps g.W.World.seen c.args.self.now _ c.self.inside.world c.start.new.self (ap (λ (f : Fused _). f.world) (c.self.view_is ∙ c.count.ensures.count)) c.start.ensures.handles

pub returns-clause-exact : goal.returns-clause-exact
returns-clause-exact g c =
    passes g.W.World.seen c.args.self.now _ c.self.inside.world c.start.new.self _ _ _ _ _ (ap (λ (f : Fused _). f.wire) (c.self.view_is ∙ c.count.ensures.count)) (ap (λ (f : Fused _). f.world) (c.self.view_is ∙ c.count.ensures.count)) (sym c.count.ensures.due ∙ c.if-count.false)
    (added-start _ _ _ _ _ c.start.ensures.log c.start.ensures.cause c.start.ensures.handles (rw (ap (λ (f : Fused _). f.world) (c.self.view_is ∙ c.count.ensures.count)) c.requires.ends))
