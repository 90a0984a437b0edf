use Rattle.std.proofs.Common.{ap, arith, true, ◌≡◌}
use Rattle.el_world.specs.Handles.{is_held}
use Rattle.el_world.proofs.Calls.{added-close}
use Rattle.el_world.proofs.Held.{length-without}
use Rattle.el_record.specs.Recorded.{Recorded}
use Rattle.el_record.proofs.Recording.{log_told, passed_on, kept_less}
use Rattle.el_record.proofs.recorder.RecorderWorld.close.Goals as goal

pub close-requires : goal.close-requires
close-requires g c = rw (ap (λ (r : Recorded _). r.world) c.self.view_is) c.requires

pub put_close-requires : goal.put_close-requires
put_close-requires g c =
    let is : is_held (g.W.World.seen c.self.inside.world).held c.args.handle ≡ true = rw (ap (λ (r : Recorded _). r.world) c.self.view_is) c.requires in
    omega (arith, c.self.invariant.counted, length-without _ c.args.handle is)

pub invariant_of-self : goal.invariant_of-self
invariant_of-self g c =
    let is : is_held (g.W.World.seen c.self.inside.world).held c.args.handle ≡ true = rw (ap (λ (r : Recorded _). r.world) c.self.view_is) c.requires in
    let added = added-close c.args.handle c.close.ensures.log c.close.ensures.later c.close.ensures.held c.close.ensures.next c.close.ensures.origin (rw (ap (λ (r : Recorded _). r.world) c.self.view_is) c.requires) in
    kept_less g.W.World.seen c.self.inside.world c.self.inside.before.value c.self.inside.tape.events c.self.inside.whole c.close.new.self _ c.args.handle _ _ c.self.invariant is c.put_close.ensures.events added c.handle_fits.ensures c.close.ensures.held c.put_close.ensures.closes

pub returns-clause-passed : goal.returns-clause-passed
returns-clause-passed g c =
    let added = added-close c.args.handle c.close.ensures.log c.close.ensures.later c.close.ensures.held c.close.ensures.next c.close.ensures.origin (rw (ap (λ (r : Recorded _). r.world) c.self.view_is) c.requires) in
    passed_on g.W.World.seen c.self.inside.world c.self.inside.before.value c.self.inside.tape.events c.self.inside.whole c.args.self.now c.close.new.self c.put_close.new.self.events _ c.self.view_is c.put_close.ensures.events added

pub returns-clause-log : goal.returns-clause-log
returns-clause-log g c =
    let added = added-close c.args.handle c.close.ensures.log c.close.ensures.later c.close.ensures.held c.close.ensures.next c.close.ensures.origin (rw (ap (λ (r : Recorded _). r.world) c.self.view_is) c.requires) in
    log_told g.W.World.seen (passed_on g.W.World.seen c.self.inside.world c.self.inside.before.value c.self.inside.tape.events c.self.inside.whole c.args.self.now c.close.new.self c.put_close.new.self.events _ c.self.view_is c.put_close.ensures.events added)
