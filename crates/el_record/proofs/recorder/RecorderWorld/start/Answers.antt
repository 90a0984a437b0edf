use Rattle.std.proofs.Common.{ap, refl}
use Rattle.el_world.specs.declared.event.Event.TheVariants.{Start}
use Rattle.el_world.proofs.Calls.{added-start}
use Rattle.el_record.specs.Recorded.{Recorded}
use Rattle.el_record.proofs.Recording.{start_told_fits, start_tellable, put_start_behind, none_due, start_not_passed, keeps_same, log_told, same_log, passed_on, keeps_on, kept_still, kept_keeping}
use Rattle.el_record.proofs.recorder.RecorderWorld.start.Goals as goal

pub returns-in_err-kept_words-clause-passed : goal.returns-in_err-kept_words-clause-passed
returns-in_err-kept_words-clause-passed g c = start_not_passed g.W.World.seen (Start c.args.words.now c.args.env.now c.args.dir.now c.args.ends.now c.from_residual.result) c.from_residual.result c.from_residual.ensures.1 refl

pub returns-in_err-kept_words-clause-log : goal.returns-in_err-kept_words-clause-log
returns-in_err-kept_words-clause-log g c = log_told g.W.World.seen {old = c.args.self.now} {new = c.args.self.now} (start_not_passed g.W.World.seen (Start c.args.words.now c.args.env.now c.args.dir.now c.args.ends.now c.from_residual.result) c.from_residual.result c.from_residual.ensures.1 refl)

pub returns-in_err-kept_words-clause-handles : goal.returns-in_err-kept_words-clause-handles
returns-in_err-kept_words-clause-handles g c = keeps_same g.W.World.seen {old = c.args.self.now} {new = c.args.self.now} refl

pub returns-in_err-kept_env-clause-passed : goal.returns-in_err-kept_env-clause-passed
returns-in_err-kept_env-clause-passed g c = start_not_passed g.W.World.seen (Start c.args.words.now c.args.env.now c.args.dir.now c.args.ends.now c.from_residual-in_err-kept_env.result) c.from_residual-in_err-kept_env.result c.from_residual-in_err-kept_env.ensures.1 refl

pub returns-in_err-kept_env-clause-log : goal.returns-in_err-kept_env-clause-log
returns-in_err-kept_env-clause-log g c = log_told g.W.World.seen {old = c.args.self.now} {new = c.args.self.now} (start_not_passed g.W.World.seen (Start c.args.words.now c.args.env.now c.args.dir.now c.args.ends.now c.from_residual-in_err-kept_env.result) c.from_residual-in_err-kept_env.result c.from_residual-in_err-kept_env.ensures.1 refl)

pub returns-in_err-kept_env-clause-handles : goal.returns-in_err-kept_env-clause-handles
returns-in_err-kept_env-clause-handles g c = keeps_same g.W.World.seen {old = c.args.self.now} {new = c.args.self.now} refl

pub returns-in_err-kept_dir-clause-passed : goal.returns-in_err-kept_dir-clause-passed
returns-in_err-kept_dir-clause-passed g c = start_not_passed g.W.World.seen (Start c.args.words.now c.args.env.now c.args.dir.now c.args.ends.now c.from_residual-in_err-kept_dir.result) c.from_residual-in_err-kept_dir.result c.from_residual-in_err-kept_dir.ensures.1 refl

pub returns-in_err-kept_dir-clause-log : goal.returns-in_err-kept_dir-clause-log
returns-in_err-kept_dir-clause-log g c = log_told g.W.World.seen {old = c.args.self.now} {new = c.args.self.now} (start_not_passed g.W.World.seen (Start c.args.words.now c.args.env.now c.args.dir.now c.args.ends.now c.from_residual-in_err-kept_dir.result) c.from_residual-in_err-kept_dir.result c.from_residual-in_err-kept_dir.ensures.1 refl)

pub returns-in_err-kept_dir-clause-handles : goal.returns-in_err-kept_dir-clause-handles
returns-in_err-kept_dir-clause-handles g c = keeps_same g.W.World.seen {old = c.args.self.now} {new = c.args.self.now} refl

pub invariant_of-self : goal.invariant_of-self
invariant_of-self g c = kept_still g.W.World.seen c.self.inside.world c.self.inside.before.value c.self.inside.tape.events c.self.inside.whole _ _ _ c.self.invariant c.make_room.ensures.events c.make_room.ensures.closes

pub returns-in_err-make_room-clause-passed : goal.returns-in_err-make_room-clause-passed
returns-in_err-make_room-clause-passed g c = start_not_passed g.W.World.seen (Start c.args.words.now c.args.env.now c.args.dir.now c.args.ends.now c.from_residual-in_err-make_room.result) c.from_residual-in_err-make_room.result c.from_residual-in_err-make_room.ensures.1 (same_log g.W.World.seen c.self.inside.world c.self.inside.before.value c.self.inside.tape.events c.self.inside.whole c.args.self.now c.make_room.new.tape.events c.self.view_is c.make_room.ensures.events)

pub returns-in_err-make_room-clause-log : goal.returns-in_err-make_room-clause-log
returns-in_err-make_room-clause-log g c = log_told g.W.World.seen (start_not_passed g.W.World.seen (Start c.args.words.now c.args.env.now c.args.dir.now c.args.ends.now c.from_residual-in_err-make_room.result) c.from_residual-in_err-make_room.result c.from_residual-in_err-make_room.ensures.1 (same_log g.W.World.seen c.self.inside.world c.self.inside.before.value c.self.inside.tape.events c.self.inside.whole c.args.self.now c.make_room.new.tape.events c.self.view_is c.make_room.ensures.events))

pub returns-in_err-make_room-clause-handles : goal.returns-in_err-make_room-clause-handles
returns-in_err-make_room-clause-handles g c = keeps_same g.W.World.seen (same_log g.W.World.seen c.self.inside.world c.self.inside.before.value c.self.inside.tape.events c.self.inside.whole c.args.self.now c.make_room.new.tape.events c.self.view_is c.make_room.ensures.events)

pub invariant_of-self-2 : goal.invariant_of-self-2
invariant_of-self-2 g c =
    let added = added-start c.args.words.now c.args.env.now c.args.dir.now c.args.ends.now c.start-answer.result c.start-answer.ensures.log c.start-answer.ensures.cause c.start-answer.ensures.handles (rw (ap (λ (r : Recorded _). r.world) c.self.view_is) c.requires.ends) in
    kept_keeping g.W.World.seen c.self.inside.world c.self.inside.before.value c.self.inside.tape.events c.self.inside.whole c.start-answer.new.self _ _ _ _ _ c.self.invariant c.in_ok-make_room.ensures.whole
    (put_start_behind _ _ _ c.has_start_event.result c.start-answer.result (Start c.args.words.now c.args.env.now c.args.dir.now c.args.ends.now c.start-answer.result) c.make_room.ensures.events c.has_start_event.ensures (rw (c.in_ok-kept_words.ensures, c.in_ok-kept_env.ensures.same, c.in_ok-kept_dir.ensures) at c.tell.ensures.events)) added (start_told_fits c.has_start_event.result c.start-answer.result (Start c.args.words.now c.args.env.now c.args.dir.now c.args.ends.now c.start-answer.result) c.has_start_event.ensures (rw (c.in_ok-kept_words.ensures, c.in_ok-kept_env.ensures.same, c.in_ok-kept_dir.ensures) at c.tell.ensures.fits)) c.start-answer.ensures.handles.held c.make_room.ensures.closes (none_due c.has_start_event.result _ _ c.tell.ensures.closes)

pub returns-clause-passed : goal.returns-clause-passed
returns-clause-passed g c =
    let added = added-start c.args.words.now c.args.env.now c.args.dir.now c.args.ends.now c.start-answer.result c.start-answer.ensures.log c.start-answer.ensures.cause c.start-answer.ensures.handles (rw (ap (λ (r : Recorded _). r.world) c.self.view_is) c.requires.ends) in
    passed_on g.W.World.seen c.self.inside.world c.self.inside.before.value c.self.inside.tape.events c.self.inside.whole c.args.self.now c.start-answer.new.self c.tell.new.tape.events _ c.self.view_is
    (put_start_behind _ _ _ c.has_start_event.result c.start-answer.result (Start c.args.words.now c.args.env.now c.args.dir.now c.args.ends.now c.start-answer.result) c.make_room.ensures.events c.has_start_event.ensures (rw (c.in_ok-kept_words.ensures, c.in_ok-kept_env.ensures.same, c.in_ok-kept_dir.ensures) at c.tell.ensures.events)) added

pub returns-clause-log : goal.returns-clause-log
returns-clause-log g c =
    let added = added-start c.args.words.now c.args.env.now c.args.dir.now c.args.ends.now c.start-answer.result c.start-answer.ensures.log c.start-answer.ensures.cause c.start-answer.ensures.handles (rw (ap (λ (r : Recorded _). r.world) c.self.view_is) c.requires.ends) in
    log_told g.W.World.seen (passed_on g.W.World.seen c.self.inside.world c.self.inside.before.value c.self.inside.tape.events c.self.inside.whole c.args.self.now c.start-answer.new.self c.tell.new.tape.events _ c.self.view_is
    (put_start_behind _ _ _ c.has_start_event.result c.start-answer.result (Start c.args.words.now c.args.env.now c.args.dir.now c.args.ends.now c.start-answer.result) c.make_room.ensures.events c.has_start_event.ensures (rw (c.in_ok-kept_words.ensures, c.in_ok-kept_env.ensures.same, c.in_ok-kept_dir.ensures) at c.tell.ensures.events)) added)

pub returns-clause-handles : goal.returns-clause-handles
returns-clause-handles g c = keeps_on g.W.World.seen c.self.inside.world c.self.inside.before.value c.self.inside.tape.events c.self.inside.whole c.args.self.now c.start-answer.new.self c.tell.new.tape.events c.self.view_is c.start-answer.ensures.handles

pub start-answer-requires-clause-ends : goal.start-answer-requires-clause-ends
start-answer-requires-clause-ends g c = rw (ap (λ (r : Recorded _). r.world) c.self.view_is) c.requires.ends

pub tell-requires-clause-tellable : goal.tell-requires-clause-tellable
tell-requires-clause-tellable g c =
    let added = added-start c.args.words.now c.args.env.now c.args.dir.now c.args.ends.now c.start-answer.result c.start-answer.ensures.log c.start-answer.ensures.cause c.start-answer.ensures.handles (rw (ap (λ (r : Recorded _). r.world) c.self.view_is) c.requires.ends) in
    rw (c.in_ok-kept_words.ensures, c.in_ok-kept_env.ensures.same, c.in_ok-kept_dir.ensures) (start_tellable c.has_start_event.result c.start-answer.result (Start c.args.words.now c.args.env.now c.args.dir.now c.args.ends.now c.start-answer.result) c.has_start_event.ensures added.lawful (c.requires.words, c.in_ok-kept_env.ensures.fits))
