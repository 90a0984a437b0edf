use Rattle.std.proofs.Common.{◌≤◌, [], ◌∷◌, ap, subst, ◌∙◌}
use Rattle.el_world.specs.declared.event.Event.TheVariants.{Close}
use Rattle.el_world.specs.World.{extended}
use Rattle.el_world.specs.Scripted.{counted}
use Rattle.el_world.specs.Runs.{Added}
use Rattle.el_world.specs.Fuse.{Fused, has_come, log_through, wire_of}
use Rattle.el_world.proofs.Calls.{added-close}
use Rattle.el_world.proofs.Fused.{extends, still_in_place, counted-later}
use Rattle.el_world.proofs.fuse.FuseWorld.close.Goals as goal

pub close-requires : goal.close-requires
close-requires g c = rw (ap (λ (f : Fused _). f.world) c.self.view_is) c.requires

pub invariant_of-self : goal.invariant_of-self
invariant_of-self g c = still_in_place g.W.World.seen _ c.self.inside.world c.close.new.self _ c.close.ensures.log c.self.invariant

pub returns-clause-log : goal.returns-clause-log
returns-clause-log g c =
    extends g.W.World.seen _ c.self.inside.world c.close.new.self _ c.self.invariant c.close.ensures.log
    ∙ ap (λ (f : Fused _). extended (log_through g.W.World.seen f.wire f.world) (Close c.args.handle ∷ [])) c.self.view_is

pub returns-clause-later : goal.returns-clause-later
returns-clause-later g c =
    let at = λ (f : Fused _). counted (has_come f.wire) (g.W.World.seen f.world).faults ≤ counted (has_come (wire_of c.self.inside.wire)) (g.W.World.seen c.close.new.self).faults in
    subst at c.self.view_is (counted-later _ _ _ c.close.ensures.later)

pub returns-clause-passed : goal.returns-clause-passed
returns-clause-passed g c =
    let at = λ (f : Fused _). Added (g.W.World.seen f.world) (g.W.World.seen c.close.new.self) (Close c.args.handle ∷ []) in
    subst at c.self.view_is (added-close _ c.close.ensures.log c.close.ensures.later c.close.ensures.held c.close.ensures.next c.close.ensures.origin (rw (ap (λ (f : Fused _). f.world) c.self.view_is) c.requires))
