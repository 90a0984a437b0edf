use Rattle.std.proofs.Common.{ap, refl, sym, ◌∙◌}
use Rattle.el_world.specs.declared.event.Event.TheVariants.{Read}
use Rattle.el_world.proofs.Calls.{none_is_lost}
use Rattle.el_world.proofs.Told.{no_call, one_call, counts}
use Rattle.el_world.specs.Scripted.{Script, read_reply}
use Rattle.el_world.proofs.scripted.ScriptedWorld.read.Goals as goal

pub returns-in_err-answer-clause-log : goal.returns-in_err-answer-clause-log
returns-in_err-answer-clause-log c = none_is_lost (Read c.args.handle) _ (no_call _ _ _ _ c.from_residual.ensures.1 refl)

pub returns-in_err-read_reply-clause-log : goal.returns-in_err-read_reply-clause-log
returns-in_err-read_reply-clause-log c = none_is_lost (Read c.args.handle) _ (no_call _ _ _ _ c.from_residual-in_err-read_reply.ensures.1 refl)

pub returns-in_err-note-clause-log : goal.returns-in_err-note-clause-log
returns-in_err-note-clause-log c = none_is_lost (Read c.args.handle) _ (no_call _ _ _ _ c.from_residual-in_err-note.ensures.1 (ap (λ (s : Script). s.log) c.in_err-note.ensures.err))

pub returns-clause-log : goal.returns-clause-log
returns-clause-log c =
    let same = c.in_ok-read_reply.ensures.reply ∙ ap read_reply (c.due-2.ensures ∙ sym c.due.ensures) ∙ sym c.in_ok-answer.ensures.reply in
    none_is_lost (Read c.args.handle) _ (one_call _ _ _ _ c.in_ok-answer.ensures.answered (ap (λ (s : Script). s.log) (rw same at c.in_ok-note.ensures.ok)))

pub returns-clause-cause : goal.returns-clause-cause
returns-clause-cause c = counts _ _ c.is_failed.result (ap (λ (s : Script). s.faults) c.in_ok-note.ensures.ok) c.is_failed.ensures.failed
