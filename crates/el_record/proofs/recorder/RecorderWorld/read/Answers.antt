use Rattle.std.proofs.Common.{ap, refl}
use Rattle.el_world.specs.declared.event.Event.TheVariants.{Read}
use Rattle.el_world.proofs.Calls.{added-read}
use Rattle.el_record.specs.Recorded.{Recorded}
use Rattle.el_record.proofs.Recording.{told_fits, handed_tellable, put_behind, none_due, copied_cause, copied_ok, not_handed, keeps_same, handed_told, same_log, keeps_on, handed_on, kept_still, kept_handed}
use Rattle.el_record.proofs.recorder.RecorderWorld.read.Goals as goal

pub invariant_of-self : goal.invariant_of-self
invariant_of-self g c = kept_still g.W.World.seen c.self.inside.world c.self.inside.before.value c.self.inside.tape.events c.self.inside.whole _ _ _ c.self.invariant c.make_room.ensures.events c.make_room.ensures.closes

pub returns-in_err-make_room-clause-handed : goal.returns-in_err-make_room-clause-handed
returns-in_err-make_room-clause-handed g c = not_handed g.W.World.seen (Read c.args.handle) c.from_residual.result c.from_residual.ensures.1 (same_log g.W.World.seen c.self.inside.world c.self.inside.before.value c.self.inside.tape.events c.self.inside.whole c.args.self.now c.make_room.new.tape.events c.self.view_is c.make_room.ensures.events)

pub returns-in_err-make_room-clause-log : goal.returns-in_err-make_room-clause-log
returns-in_err-make_room-clause-log g c = handed_told g.W.World.seen (not_handed g.W.World.seen (Read c.args.handle) c.from_residual.result c.from_residual.ensures.1 (same_log g.W.World.seen c.self.inside.world c.self.inside.before.value c.self.inside.tape.events c.self.inside.whole c.args.self.now c.make_room.new.tape.events c.self.view_is c.make_room.ensures.events))

pub returns-in_err-make_room-clause-handles : goal.returns-in_err-make_room-clause-handles
returns-in_err-make_room-clause-handles g c = keeps_same g.W.World.seen (same_log g.W.World.seen c.self.inside.world c.self.inside.before.value c.self.inside.tape.events c.self.inside.whole c.args.self.now c.make_room.new.tape.events c.self.view_is c.make_room.ensures.events)

pub invariant_of-self-2 : goal.invariant_of-self-2
invariant_of-self-2 g c =
    let added = added-read c.args.handle c.read-answer.result c.read-answer.ensures.log c.read-answer.ensures.cause c.read-answer.ensures.handles c.read-answer.ensures.piece (rw (ap (λ (r : Recorded _). r.world) c.self.view_is) c.requires) in
    kept_handed g.W.World.seen c.self.inside.world c.self.inside.before.value c.self.inside.tape.events c.self.inside.whole c.read-answer.new.self _ c.has_event-told.result (Read c.args.handle) c.read-answer.result c.read-answer.ensures.log.lost _ _ _ c.self.invariant c.in_ok-make_room.ensures.whole (λ value. refl) c.has_event-told.ensures
    (put_behind _ _ _ c.has_event-told.result c.read-answer.result (Read c.args.handle c.read-answer.result) c.make_room.ensures.events c.has_event-told.ensures c.tell.ensures.events) added (told_fits c.has_event-told.result c.read-answer.result (Read c.args.handle c.read-answer.result) c.has_event-told.ensures c.tell.ensures.fits) c.read-answer.ensures.handles.held c.make_room.ensures.closes (none_due c.has_event-told.result _ _ c.tell.ensures.closes)

pub returns-clause-handed : goal.returns-clause-handed
returns-clause-handed g c =
    let added = added-read c.args.handle c.read-answer.result c.read-answer.ensures.log c.read-answer.ensures.cause c.read-answer.ensures.handles c.read-answer.ensures.piece (rw (ap (λ (r : Recorded _). r.world) c.self.view_is) c.requires) in
    handed_on g.W.World.seen c.self.inside.world c.self.inside.before.value c.self.inside.tape.events c.self.inside.whole c.args.self.now c.read-answer.new.self c.tell.new.tape.events c.has_event-told.result (Read c.args.handle) c.read-answer.result c.copy_of_piece-copy.result c.read-answer.ensures.log.lost c.self.view_is c.has_event-told.ensures
    (put_behind _ _ _ c.has_event-told.result c.read-answer.result (Read c.args.handle c.read-answer.result) c.make_room.ensures.events c.has_event-told.ensures c.tell.ensures.events) added c.copy_of_piece-copy.ensures

pub returns-clause-log : goal.returns-clause-log
returns-clause-log g c =
    let added = added-read c.args.handle c.read-answer.result c.read-answer.ensures.log c.read-answer.ensures.cause c.read-answer.ensures.handles c.read-answer.ensures.piece (rw (ap (λ (r : Recorded _). r.world) c.self.view_is) c.requires) in
    handed_told g.W.World.seen (handed_on g.W.World.seen c.self.inside.world c.self.inside.before.value c.self.inside.tape.events c.self.inside.whole c.args.self.now c.read-answer.new.self c.tell.new.tape.events c.has_event-told.result (Read c.args.handle) c.read-answer.result c.copy_of_piece-copy.result c.read-answer.ensures.log.lost c.self.view_is c.has_event-told.ensures
    (put_behind _ _ _ c.has_event-told.result c.read-answer.result (Read c.args.handle c.read-answer.result) c.make_room.ensures.events c.has_event-told.ensures c.tell.ensures.events) added c.copy_of_piece-copy.ensures)

pub returns-clause-cause : goal.returns-clause-cause
returns-clause-cause g c = copied_cause _ _ c.read-answer.result c.copy_of_piece-copy.result c.copy_of_piece-copy.ensures (rw (ap (λ (r : Recorded _). r.world) c.self.view_is) at c.read-answer.ensures.cause)

pub returns-clause-handles : goal.returns-clause-handles
returns-clause-handles g c = keeps_on g.W.World.seen c.self.inside.world c.self.inside.before.value c.self.inside.tape.events c.self.inside.whole c.args.self.now c.read-answer.new.self c.tell.new.tape.events c.self.view_is c.read-answer.ensures.handles

pub returns-clause-piece : goal.returns-clause-piece
returns-clause-piece g c = copied_ok _ c.read-answer.result c.copy_of_piece-copy.result c.copy_of_piece-copy.ensures c.read-answer.ensures.piece

pub read-answer-requires : goal.read-answer-requires
read-answer-requires g c = rw (ap (λ (r : Recorded _). r.world) c.self.view_is) c.requires

pub tell-requires-clause-tellable : goal.tell-requires-clause-tellable
tell-requires-clause-tellable g c =
    let added = added-read c.args.handle c.read-answer.result c.read-answer.ensures.log c.read-answer.ensures.cause c.read-answer.ensures.handles c.read-answer.ensures.piece (rw (ap (λ (r : Recorded _). r.world) c.self.view_is) c.requires) in
    handed_tellable c.has_event-told.result (Read c.args.handle) c.read-answer.result c.read-answer.ensures.log.lost c.has_event-told.ensures added.lawful tt
