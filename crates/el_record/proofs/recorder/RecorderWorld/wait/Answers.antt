use Rattle.el_world.specs.declared.event.Event.TheVariants.{Wait}
use Rattle.el_world.proofs.Calls.{added-wait}
use Rattle.el_record.proofs.Recording.{told_fits, tellable, put_behind, none_due, not_passed, keeps_same, log_told, same_log, passed_on, keeps_on, kept_still, kept_keeping}
use Rattle.el_record.proofs.recorder.RecorderWorld.wait.Goals as goal

pub invariant_of-self : goal.invariant_of-self
invariant_of-self g c = kept_still g.W.World.seen c.self.inside.world c.self.inside.before.value c.self.inside.tape.events c.self.inside.whole _ _ _ c.self.invariant c.make_room.ensures.events c.make_room.ensures.closes

pub returns-in_err-make_room-clause-passed : goal.returns-in_err-make_room-clause-passed
returns-in_err-make_room-clause-passed g c = not_passed g.W.World.seen (Wait c.args.pid c.from_residual.result) c.from_residual.result c.from_residual.ensures.1 (same_log g.W.World.seen c.self.inside.world c.self.inside.before.value c.self.inside.tape.events c.self.inside.whole c.args.self.now c.make_room.new.tape.events c.self.view_is c.make_room.ensures.events)

pub returns-in_err-make_room-clause-log : goal.returns-in_err-make_room-clause-log
returns-in_err-make_room-clause-log g c = log_told g.W.World.seen (not_passed g.W.World.seen (Wait c.args.pid c.from_residual.result) c.from_residual.result c.from_residual.ensures.1 (same_log g.W.World.seen c.self.inside.world c.self.inside.before.value c.self.inside.tape.events c.self.inside.whole c.args.self.now c.make_room.new.tape.events c.self.view_is c.make_room.ensures.events))

pub returns-in_err-make_room-clause-handles : goal.returns-in_err-make_room-clause-handles
returns-in_err-make_room-clause-handles g c = keeps_same g.W.World.seen (same_log g.W.World.seen c.self.inside.world c.self.inside.before.value c.self.inside.tape.events c.self.inside.whole c.args.self.now c.make_room.new.tape.events c.self.view_is c.make_room.ensures.events)

pub invariant_of-self-2 : goal.invariant_of-self-2
invariant_of-self-2 g c =
    let added = added-wait c.args.pid c.wait-answer.result c.wait-answer.ensures.log c.wait-answer.ensures.cause c.wait-answer.ensures.handles c.wait-answer.ensures.signal in
    kept_keeping g.W.World.seen c.self.inside.world c.self.inside.before.value c.self.inside.tape.events c.self.inside.whole c.wait-answer.new.self _ _ _ _ _ c.self.invariant c.in_ok-make_room.ensures.whole
    (put_behind _ _ _ c.has_event.result c.wait-answer.result (Wait c.args.pid c.wait-answer.result) c.make_room.ensures.events c.has_event.ensures c.tell.ensures.events) added (told_fits c.has_event.result c.wait-answer.result (Wait c.args.pid c.wait-answer.result) c.has_event.ensures c.tell.ensures.fits) c.wait-answer.ensures.handles.held c.make_room.ensures.closes (none_due c.has_event.result _ _ c.tell.ensures.closes)

pub returns-clause-passed : goal.returns-clause-passed
returns-clause-passed g c =
    let added = added-wait c.args.pid c.wait-answer.result c.wait-answer.ensures.log c.wait-answer.ensures.cause c.wait-answer.ensures.handles c.wait-answer.ensures.signal in
    passed_on g.W.World.seen c.self.inside.world c.self.inside.before.value c.self.inside.tape.events c.self.inside.whole c.args.self.now c.wait-answer.new.self c.tell.new.tape.events _ c.self.view_is
    (put_behind _ _ _ c.has_event.result c.wait-answer.result (Wait c.args.pid c.wait-answer.result) c.make_room.ensures.events c.has_event.ensures c.tell.ensures.events) added

pub returns-clause-log : goal.returns-clause-log
returns-clause-log g c =
    let added = added-wait c.args.pid c.wait-answer.result c.wait-answer.ensures.log c.wait-answer.ensures.cause c.wait-answer.ensures.handles c.wait-answer.ensures.signal in
    log_told g.W.World.seen (passed_on g.W.World.seen c.self.inside.world c.self.inside.before.value c.self.inside.tape.events c.self.inside.whole c.args.self.now c.wait-answer.new.self c.tell.new.tape.events _ c.self.view_is
    (put_behind _ _ _ c.has_event.result c.wait-answer.result (Wait c.args.pid c.wait-answer.result) c.make_room.ensures.events c.has_event.ensures c.tell.ensures.events) added)

pub returns-clause-handles : goal.returns-clause-handles
returns-clause-handles g c = keeps_on g.W.World.seen c.self.inside.world c.self.inside.before.value c.self.inside.tape.events c.self.inside.whole c.args.self.now c.wait-answer.new.self c.tell.new.tape.events c.self.view_is c.wait-answer.ensures.handles

pub tell-requires-clause-tellable : goal.tell-requires-clause-tellable
tell-requires-clause-tellable g c =
    let added = added-wait c.args.pid c.wait-answer.result c.wait-answer.ensures.log c.wait-answer.ensures.cause c.wait-answer.ensures.handles c.wait-answer.ensures.signal in
    tellable c.has_event.result c.wait-answer.result (Wait c.args.pid c.wait-answer.result) c.has_event.ensures added.lawful tt
