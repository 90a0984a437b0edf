use Rattle.std.proofs.Common.{ap, refl}
use Rattle.el_world.specs.declared.event.Event.TheVariants.{Enter}
use Rattle.el_world.proofs.Calls.{added-enter}
use Rattle.el_record.specs.Recorded.{Recorded}
use Rattle.el_record.proofs.Recording.{told_fits, handed_tellable, put_behind, none_due, copied_cause, not_handed, keeps_same, handed_told, same_log, keeps_on, handed_on, kept_still, kept_handed}
use Rattle.el_record.proofs.recorder.RecorderWorld.enter.Goals as goal

pub returns-in_err-kept_dir-clause-handed : goal.returns-in_err-kept_dir-clause-handed
returns-in_err-kept_dir-clause-handed g c = not_handed g.W.World.seen {old = c.args.self.now} {new = c.args.self.now} (Enter c.args.dir.now c.args.path.now) c.from_residual.result c.from_residual.ensures.1 refl

pub returns-in_err-kept_dir-clause-log : goal.returns-in_err-kept_dir-clause-log
returns-in_err-kept_dir-clause-log g c = handed_told g.W.World.seen {old = c.args.self.now} {new = c.args.self.now} (not_handed g.W.World.seen {old = c.args.self.now} {new = c.args.self.now} (Enter c.args.dir.now c.args.path.now) c.from_residual.result c.from_residual.ensures.1 refl)

pub returns-in_err-kept_dir-clause-handles : goal.returns-in_err-kept_dir-clause-handles
returns-in_err-kept_dir-clause-handles g c = keeps_same g.W.World.seen {old = c.args.self.now} {new = c.args.self.now} refl

pub returns-in_err-kept_path-clause-handed : goal.returns-in_err-kept_path-clause-handed
returns-in_err-kept_path-clause-handed g c = not_handed g.W.World.seen {old = c.args.self.now} {new = c.args.self.now} (Enter c.args.dir.now c.args.path.now) c.from_residual-in_err-kept_path.result c.from_residual-in_err-kept_path.ensures.1 refl

pub returns-in_err-kept_path-clause-log : goal.returns-in_err-kept_path-clause-log
returns-in_err-kept_path-clause-log g c = handed_told g.W.World.seen {old = c.args.self.now} {new = c.args.self.now} (not_handed g.W.World.seen {old = c.args.self.now} {new = c.args.self.now} (Enter c.args.dir.now c.args.path.now) c.from_residual-in_err-kept_path.result c.from_residual-in_err-kept_path.ensures.1 refl)

pub returns-in_err-kept_path-clause-handles : goal.returns-in_err-kept_path-clause-handles
returns-in_err-kept_path-clause-handles g c = keeps_same g.W.World.seen {old = c.args.self.now} {new = c.args.self.now} refl

pub invariant_of-self : goal.invariant_of-self
invariant_of-self g c = kept_still g.W.World.seen c.self.inside.world c.self.inside.before.value c.self.inside.tape.events c.self.inside.whole _ _ _ c.self.invariant c.make_room.ensures.events c.make_room.ensures.closes

pub returns-in_err-make_room-clause-handed : goal.returns-in_err-make_room-clause-handed
returns-in_err-make_room-clause-handed g c = not_handed g.W.World.seen (Enter c.args.dir.now c.args.path.now) c.from_residual-in_err-make_room.result c.from_residual-in_err-make_room.ensures.1 (same_log g.W.World.seen c.self.inside.world c.self.inside.before.value c.self.inside.tape.events c.self.inside.whole c.args.self.now c.make_room.new.tape.events c.self.view_is c.make_room.ensures.events)

pub returns-in_err-make_room-clause-log : goal.returns-in_err-make_room-clause-log
returns-in_err-make_room-clause-log g c = handed_told g.W.World.seen (not_handed g.W.World.seen (Enter c.args.dir.now c.args.path.now) c.from_residual-in_err-make_room.result c.from_residual-in_err-make_room.ensures.1 (same_log g.W.World.seen c.self.inside.world c.self.inside.before.value c.self.inside.tape.events c.self.inside.whole c.args.self.now c.make_room.new.tape.events c.self.view_is c.make_room.ensures.events))

pub returns-in_err-make_room-clause-handles : goal.returns-in_err-make_room-clause-handles
returns-in_err-make_room-clause-handles g c = keeps_same g.W.World.seen (same_log g.W.World.seen c.self.inside.world c.self.inside.before.value c.self.inside.tape.events c.self.inside.whole c.args.self.now c.make_room.new.tape.events c.self.view_is c.make_room.ensures.events)

pub invariant_of-self-2 : goal.invariant_of-self-2
invariant_of-self-2 g c =
    let added = added-enter c.args.dir.now c.args.path.now c.enter-answer.result c.enter-answer.ensures.log c.enter-answer.ensures.cause c.enter-answer.ensures.handles in
    kept_handed g.W.World.seen c.self.inside.world c.self.inside.before.value c.self.inside.tape.events c.self.inside.whole c.enter-answer.new.self _ c.has_event-told.result (Enter c.args.dir.now c.args.path.now) c.enter-answer.result c.enter-answer.ensures.log.lost _ _ _ c.self.invariant c.in_ok-make_room.ensures.whole (λ value. refl) c.has_event-told.ensures
    (put_behind _ _ _ c.has_event-told.result c.enter-answer.result (Enter c.args.dir.now c.args.path.now c.enter-answer.result) c.make_room.ensures.events c.has_event-told.ensures (rw (c.in_ok-kept_dir.ensures, c.in_ok-kept_path.ensures) at c.tell.ensures.events)) added (told_fits c.has_event-told.result c.enter-answer.result (Enter c.args.dir.now c.args.path.now c.enter-answer.result) c.has_event-told.ensures (rw (c.in_ok-kept_dir.ensures, c.in_ok-kept_path.ensures) at c.tell.ensures.fits)) c.enter-answer.ensures.handles.held c.make_room.ensures.closes (none_due c.has_event-told.result _ _ c.tell.ensures.closes)

pub returns-clause-handed : goal.returns-clause-handed
returns-clause-handed g c =
    let added = added-enter c.args.dir.now c.args.path.now c.enter-answer.result c.enter-answer.ensures.log c.enter-answer.ensures.cause c.enter-answer.ensures.handles in
    handed_on g.W.World.seen c.self.inside.world c.self.inside.before.value c.self.inside.tape.events c.self.inside.whole c.args.self.now c.enter-answer.new.self c.tell.new.tape.events c.has_event-told.result (Enter c.args.dir.now c.args.path.now) c.enter-answer.result c.copy_of_dir-copy.result c.enter-answer.ensures.log.lost c.self.view_is c.has_event-told.ensures
    (put_behind _ _ _ c.has_event-told.result c.enter-answer.result (Enter c.args.dir.now c.args.path.now c.enter-answer.result) c.make_room.ensures.events c.has_event-told.ensures (rw (c.in_ok-kept_dir.ensures, c.in_ok-kept_path.ensures) at c.tell.ensures.events)) added c.copy_of_dir-copy.ensures

pub returns-clause-log : goal.returns-clause-log
returns-clause-log g c =
    let added = added-enter c.args.dir.now c.args.path.now c.enter-answer.result c.enter-answer.ensures.log c.enter-answer.ensures.cause c.enter-answer.ensures.handles in
    handed_told g.W.World.seen (handed_on g.W.World.seen c.self.inside.world c.self.inside.before.value c.self.inside.tape.events c.self.inside.whole c.args.self.now c.enter-answer.new.self c.tell.new.tape.events c.has_event-told.result (Enter c.args.dir.now c.args.path.now) c.enter-answer.result c.copy_of_dir-copy.result c.enter-answer.ensures.log.lost c.self.view_is c.has_event-told.ensures
    (put_behind _ _ _ c.has_event-told.result c.enter-answer.result (Enter c.args.dir.now c.args.path.now c.enter-answer.result) c.make_room.ensures.events c.has_event-told.ensures (rw (c.in_ok-kept_dir.ensures, c.in_ok-kept_path.ensures) at c.tell.ensures.events)) added c.copy_of_dir-copy.ensures)

pub returns-clause-cause : goal.returns-clause-cause
returns-clause-cause g c = copied_cause _ _ c.enter-answer.result c.copy_of_dir-copy.result c.copy_of_dir-copy.ensures (rw (ap (λ (r : Recorded _). r.world) c.self.view_is) at c.enter-answer.ensures.cause)

pub returns-clause-handles : goal.returns-clause-handles
returns-clause-handles g c = keeps_on g.W.World.seen c.self.inside.world c.self.inside.before.value c.self.inside.tape.events c.self.inside.whole c.args.self.now c.enter-answer.new.self c.tell.new.tape.events c.self.view_is c.enter-answer.ensures.handles

pub tell-requires-clause-tellable : goal.tell-requires-clause-tellable
tell-requires-clause-tellable g c =
    let added = added-enter c.args.dir.now c.args.path.now c.enter-answer.result c.enter-answer.ensures.log c.enter-answer.ensures.cause c.enter-answer.ensures.handles in
    rw (c.in_ok-kept_dir.ensures, c.in_ok-kept_path.ensures) (handed_tellable c.has_event-told.result (Enter c.args.dir.now c.args.path.now) c.enter-answer.result c.enter-answer.ensures.log.lost c.has_event-told.ensures added.lawful tt)
