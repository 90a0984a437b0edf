use Rattle.std.proofs.Common.{ap, refl, sym, ◌∙◌}
use Rattle.el_world.specs.declared.event.Event.TheVariants.{Enter}
use Rattle.el_world.proofs.Calls.{none_is_lost}
use Rattle.el_world.proofs.Told.{no_call, one_call, counts}
use Rattle.el_world.specs.Scripted.{Script, enter_reply}
use Rattle.el_world.proofs.scripted.ScriptedWorld.enter.Goals as goal

pub returns-in_err-answer-clause-log : goal.returns-in_err-answer-clause-log
returns-in_err-answer-clause-log c = none_is_lost (Enter c.args.dir.now c.args.path.now) _ (no_call _ _ _ _ c.from_residual.ensures.1 refl)

pub returns-in_err-copy-clause-log : goal.returns-in_err-copy-clause-log
returns-in_err-copy-clause-log c = none_is_lost (Enter c.args.dir.now c.args.path.now) _ (no_call _ _ _ _ c.from_residual-in_err-copy.ensures.1 refl)

pub returns-in_err-copy-2-clause-log : goal.returns-in_err-copy-2-clause-log
returns-in_err-copy-2-clause-log c = none_is_lost (Enter c.args.dir.now c.args.path.now) _ (no_call _ _ _ _ c.from_residual-in_err-copy-2.ensures.1 refl)

pub returns-in_err-enter_reply-clause-log : goal.returns-in_err-enter_reply-clause-log
returns-in_err-enter_reply-clause-log c = none_is_lost (Enter c.args.dir.now c.args.path.now) _ (no_call _ _ _ _ c.from_residual-in_err-enter_reply.ensures.1 refl)

pub returns-in_err-note-clause-log : goal.returns-in_err-note-clause-log
returns-in_err-note-clause-log c = none_is_lost (Enter c.args.dir.now c.args.path.now) _ (no_call _ _ _ _ c.from_residual-in_err-note.ensures.1 (ap (λ (s : Script). s.log) c.in_err-note.ensures.err))

pub returns-clause-log : goal.returns-clause-log
returns-clause-log c =
    let same = c.in_ok-enter_reply.ensures.reply ∙ ap (λ a. enter_reply a c.args.path.now) (c.due-2.ensures ∙ sym c.due.ensures) ∙ sym c.in_ok-answer.ensures.reply in
    none_is_lost (Enter c.args.dir.now c.args.path.now) _ (one_call _ _ _ _ c.in_ok-answer.ensures.answered (ap (λ (s : Script). s.log) (rw (c.in_ok-copy.ensures, c.in_ok-copy-2.ensures, same) at c.in_ok-note.ensures.ok)))

pub returns-clause-cause : goal.returns-clause-cause
returns-clause-cause c = counts _ _ c.is_failed.result (ap (λ (s : Script). s.faults) c.in_ok-note.ensures.ok) c.is_failed.ensures.failed
