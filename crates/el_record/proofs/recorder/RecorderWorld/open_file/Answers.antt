use Rattle.std.proofs.Common.{refl}
use Rattle.el_world.specs.Handles.{opened_handles}
use Rattle.el_world.specs.declared.event.Event.TheVariants.{Opened}
use Rattle.el_world.proofs.Calls.{added-open}
use Rattle.el_record.proofs.Recording.{told_fits, tellable, put_behind, opened_due, not_passed, none_opened_same, log_told, same_log, passed_on, gave_on, kept_still, kept_more}
use Rattle.el_record.proofs.recorder.RecorderWorld.open_file.Goals as goal

pub returns-in_err-kept_dir-clause-passed : goal.returns-in_err-kept_dir-clause-passed
returns-in_err-kept_dir-clause-passed g c = not_passed g.W.World.seen (Opened c.args.dir.now c.args.path.now c.args.mode c.from_residual.result) c.from_residual.result c.from_residual.ensures.1 refl

pub returns-in_err-kept_dir-clause-log : goal.returns-in_err-kept_dir-clause-log
returns-in_err-kept_dir-clause-log g c = log_told g.W.World.seen {old = c.args.self.now} {new = c.args.self.now} (not_passed g.W.World.seen (Opened c.args.dir.now c.args.path.now c.args.mode c.from_residual.result) c.from_residual.result c.from_residual.ensures.1 refl)

pub returns-in_err-kept_dir-clause-handles : goal.returns-in_err-kept_dir-clause-handles
returns-in_err-kept_dir-clause-handles g c = none_opened_same g.W.World.seen {old = c.args.self.now} {new = c.args.self.now} c.from_residual.result c.from_residual.ensures.1 refl

pub returns-in_err-kept_path-clause-passed : goal.returns-in_err-kept_path-clause-passed
returns-in_err-kept_path-clause-passed g c = not_passed g.W.World.seen (Opened c.args.dir.now c.args.path.now c.args.mode c.from_residual-in_err-kept_path.result) c.from_residual-in_err-kept_path.result c.from_residual-in_err-kept_path.ensures.1 refl

pub returns-in_err-kept_path-clause-log : goal.returns-in_err-kept_path-clause-log
returns-in_err-kept_path-clause-log g c = log_told g.W.World.seen {old = c.args.self.now} {new = c.args.self.now} (not_passed g.W.World.seen (Opened c.args.dir.now c.args.path.now c.args.mode c.from_residual-in_err-kept_path.result) c.from_residual-in_err-kept_path.result c.from_residual-in_err-kept_path.ensures.1 refl)

pub returns-in_err-kept_path-clause-handles : goal.returns-in_err-kept_path-clause-handles
returns-in_err-kept_path-clause-handles g c = none_opened_same g.W.World.seen {old = c.args.self.now} {new = c.args.self.now} c.from_residual-in_err-kept_path.result c.from_residual-in_err-kept_path.ensures.1 refl

pub invariant_of-self : goal.invariant_of-self
invariant_of-self g c = kept_still g.W.World.seen c.self.inside.world c.self.inside.before.value c.self.inside.tape.events c.self.inside.whole _ _ _ c.self.invariant c.make_room.ensures.events c.make_room.ensures.closes

pub returns-in_err-make_room-clause-passed : goal.returns-in_err-make_room-clause-passed
returns-in_err-make_room-clause-passed g c = not_passed g.W.World.seen (Opened c.args.dir.now c.args.path.now c.args.mode c.from_residual-in_err-make_room.result) c.from_residual-in_err-make_room.result c.from_residual-in_err-make_room.ensures.1 (same_log g.W.World.seen c.self.inside.world c.self.inside.before.value c.self.inside.tape.events c.self.inside.whole c.args.self.now c.make_room.new.tape.events c.self.view_is c.make_room.ensures.events)

pub returns-in_err-make_room-clause-log : goal.returns-in_err-make_room-clause-log
returns-in_err-make_room-clause-log g c = log_told g.W.World.seen (not_passed g.W.World.seen (Opened c.args.dir.now c.args.path.now c.args.mode c.from_residual-in_err-make_room.result) c.from_residual-in_err-make_room.result c.from_residual-in_err-make_room.ensures.1 (same_log g.W.World.seen c.self.inside.world c.self.inside.before.value c.self.inside.tape.events c.self.inside.whole c.args.self.now c.make_room.new.tape.events c.self.view_is c.make_room.ensures.events))

pub returns-in_err-make_room-clause-handles : goal.returns-in_err-make_room-clause-handles
returns-in_err-make_room-clause-handles g c = none_opened_same g.W.World.seen c.from_residual-in_err-make_room.result c.from_residual-in_err-make_room.ensures.1 (same_log g.W.World.seen c.self.inside.world c.self.inside.before.value c.self.inside.tape.events c.self.inside.whole c.args.self.now c.make_room.new.tape.events c.self.view_is c.make_room.ensures.events)

pub invariant_of-self-2 : goal.invariant_of-self-2
invariant_of-self-2 g c =
    let added = added-open c.args.dir.now c.args.path.now c.args.mode c.open_file-answer.result c.open_file-answer.ensures.log c.open_file-answer.ensures.cause c.open_file-answer.ensures.handles in
    kept_more g.W.World.seen c.self.inside.world c.self.inside.before.value c.self.inside.tape.events c.self.inside.whole c.open_file-answer.new.self _ _ (opened_handles c.open_file-answer.result) _ _ _ c.self.invariant c.in_ok-make_room.ensures.whole
    (put_behind _ _ _ c.has_event.result c.open_file-answer.result (Opened c.args.dir.now c.args.path.now c.args.mode c.open_file-answer.result) c.make_room.ensures.events c.has_event.ensures (rw (c.in_ok-kept_dir.ensures, c.in_ok-kept_path.ensures) at c.tell.ensures.events)) added (told_fits c.has_event.result c.open_file-answer.result (Opened c.args.dir.now c.args.path.now c.args.mode c.open_file-answer.result) c.has_event.ensures (rw (c.in_ok-kept_dir.ensures, c.in_ok-kept_path.ensures) at c.tell.ensures.fits)) c.open_file-answer.ensures.handles.held c.make_room.ensures.closes (opened_due c.open_file-answer.result c.has_event.result c.opened_count.result _ _ c.has_event.ensures c.opened_count.ensures.count c.tell.ensures.closes)

pub returns-clause-passed : goal.returns-clause-passed
returns-clause-passed g c =
    let added = added-open c.args.dir.now c.args.path.now c.args.mode c.open_file-answer.result c.open_file-answer.ensures.log c.open_file-answer.ensures.cause c.open_file-answer.ensures.handles in
    passed_on g.W.World.seen c.self.inside.world c.self.inside.before.value c.self.inside.tape.events c.self.inside.whole c.args.self.now c.open_file-answer.new.self c.tell.new.tape.events _ c.self.view_is
    (put_behind _ _ _ c.has_event.result c.open_file-answer.result (Opened c.args.dir.now c.args.path.now c.args.mode c.open_file-answer.result) c.make_room.ensures.events c.has_event.ensures (rw (c.in_ok-kept_dir.ensures, c.in_ok-kept_path.ensures) at c.tell.ensures.events)) added

pub returns-clause-log : goal.returns-clause-log
returns-clause-log g c =
    let added = added-open c.args.dir.now c.args.path.now c.args.mode c.open_file-answer.result c.open_file-answer.ensures.log c.open_file-answer.ensures.cause c.open_file-answer.ensures.handles in
    log_told g.W.World.seen (passed_on g.W.World.seen c.self.inside.world c.self.inside.before.value c.self.inside.tape.events c.self.inside.whole c.args.self.now c.open_file-answer.new.self c.tell.new.tape.events _ c.self.view_is
    (put_behind _ _ _ c.has_event.result c.open_file-answer.result (Opened c.args.dir.now c.args.path.now c.args.mode c.open_file-answer.result) c.make_room.ensures.events c.has_event.ensures (rw (c.in_ok-kept_dir.ensures, c.in_ok-kept_path.ensures) at c.tell.ensures.events)) added)

pub returns-clause-handles : goal.returns-clause-handles
returns-clause-handles g c = gave_on g.W.World.seen c.self.inside.world c.self.inside.before.value c.self.inside.tape.events c.self.inside.whole c.args.self.now c.open_file-answer.new.self c.tell.new.tape.events _ c.self.view_is c.open_file-answer.ensures.handles

pub tell-requires-clause-tellable : goal.tell-requires-clause-tellable
tell-requires-clause-tellable g c =
    let added = added-open c.args.dir.now c.args.path.now c.args.mode c.open_file-answer.result c.open_file-answer.ensures.log c.open_file-answer.ensures.cause c.open_file-answer.ensures.handles in
    rw (c.in_ok-kept_dir.ensures, c.in_ok-kept_path.ensures) (tellable c.has_event.result c.open_file-answer.result (Opened c.args.dir.now c.args.path.now c.args.mode c.open_file-answer.result) c.has_event.ensures added.lawful tt)
