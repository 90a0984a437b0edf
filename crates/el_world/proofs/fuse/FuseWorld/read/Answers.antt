use Rattle.std.proofs.Common.{◌∙◌, Ok, Err, None, ap, sym, refl}
use Rattle.el_world.specs.declared.event.Fault.TheVariants.{Failed}
use Rattle.el_world.specs.declared.event.Event.TheVariants.{Read}
use Rattle.el_world.specs.Fuse.{Fused}
use Rattle.el_world.proofs.Calls.{none_is_lost, added-read}
use Rattle.el_world.proofs.Fused.{failing, blown-call, blown-cause, blown-keeps, blows, still_in_place, passed-or_lost, passed-cause, passed-keeps, passes}
use Rattle.el_world.proofs.fuse.FuseWorld.read.Goals as goal

pub read-requires : goal.read-requires
read-requires g c = rw (ap (λ (f : Fused _). f.world) (c.self.view_is ∙ c.count.ensures.count)) c.requires

pub returns-then-count-clause-log : goal.returns-then-count-clause-log
returns-then-count-clause-log g c =
    let failed = failing g.W.World.seen c.args.self.now c.count.new.self c.fail.new.self (Ok (Read c.args.handle (Err Failed))) c.fail.result c.count.result c.count.ensures.due c.if-count.true c.count.ensures.count c.fail.ensures.world c.fail.ensures.told c.fail.ensures.untold in
    none_is_lost (Read c.args.handle) _ (blown-call g.W.World.seen (Read c.args.handle) failed refl)

pub returns-then-count-clause-cause : goal.returns-then-count-clause-cause
returns-then-count-clause-cause g c =
    let failed = failing g.W.World.seen c.args.self.now c.count.new.self c.fail.new.self (Ok (Read c.args.handle (Err Failed))) c.fail.result c.count.result c.count.ensures.due c.if-count.true c.count.ensures.count c.fail.ensures.world c.fail.ensures.told c.fail.ensures.untold in
    blown-cause g.W.World.seen _ _ failed

pub returns-then-count-clause-handles : goal.returns-then-count-clause-handles
returns-then-count-clause-handles g c =
    let failed = failing g.W.World.seen c.args.self.now c.count.new.self c.fail.new.self (Ok (Read c.args.handle (Err Failed))) c.fail.result c.count.result c.count.ensures.due c.if-count.true c.count.ensures.count c.fail.ensures.world c.fail.ensures.told c.fail.ensures.untold in
    blown-keeps g.W.World.seen failed

pub returns-then-count-clause-exact : goal.returns-then-count-clause-exact
returns-then-count-clause-exact g c =
    let failed = failing g.W.World.seen c.args.self.now c.count.new.self c.fail.new.self (Ok (Read c.args.handle (Err Failed))) c.fail.result c.count.result c.count.ensures.due c.if-count.true c.count.ensures.count c.fail.ensures.world c.fail.ensures.told c.fail.ensures.untold in
    (None, blows g.W.World.seen _ (Read c.args.handle (Err Failed)) _ _ _ _ (λ e. e) (λ e. e) failed refl)

pub invariant_of-self : goal.invariant_of-self
invariant_of-self g c = still_in_place g.W.World.seen _ c.self.inside.world c.read.new.self _ c.read.ensures.log.told c.self.invariant

pub returns-clause-log : goal.returns-clause-log
returns-clause-log g c = passed-or_lost g.W.World.seen c.args.self.now _ c.self.inside.world c.read.new.self _ _ (ap (λ (f : Fused _). f.wire) (c.self.view_is ∙ c.count.ensures.count)) (ap (λ (f : Fused _). f.world) (c.self.view_is ∙ c.count.ensures.count)) c.self.invariant c.read.ensures.log

pub returns-clause-cause : goal.returns-clause-cause
returns-clause-cause g c = passed-cause g.W.World.seen c.args.self.now _ c.self.inside.world _ _ _ (ap (λ (f : Fused _). f.wire) (c.self.view_is ∙ c.count.ensures.count)) (ap (λ (f : Fused _). f.world) (c.self.view_is ∙ c.count.ensures.count)) c.read.ensures.cause

pub returns-clause-handles : goal.returns-clause-handles
returns-clause-handles g c = passed-keeps g.W.World.seen c.args.self.now _ c.self.inside.world c.read.new.self (ap (λ (f : Fused _). f.world) (c.self.view_is ∙ c.count.ensures.count)) c.read.ensures.handles

pub returns-clause-exact : goal.returns-clause-exact
returns-clause-exact g c = (
  c.read.ensures.log.lost,
  passes g.W.World.seen c.args.self.now _ c.self.inside.world c.read.new.self _ _ _ _ _ (ap (λ (f : Fused _). f.wire) (c.self.view_is ∙ c.count.ensures.count)) (ap (λ (f : Fused _). f.world) (c.self.view_is ∙ c.count.ensures.count)) (sym c.count.ensures.due ∙ c.if-count.false)
      (added-read _ _ c.read.ensures.log c.read.ensures.cause c.read.ensures.handles c.read.ensures.piece (rw (ap (λ (f : Fused _). f.world) (c.self.view_is ∙ c.count.ensures.count)) c.requires)),
)
