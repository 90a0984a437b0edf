use Rattle.std.proofs.Common.{ap, refl}
use Rattle.el_world.proofs.Told.{no_call, one_call, counts}
use Rattle.el_world.specs.Scripted.{Script}
use Rattle.el_world.proofs.scripted.ScriptedWorld.write.Goals as goal

pub returns-in_err-from_slice-clause-log : goal.returns-in_err-from_slice-clause-log
returns-in_err-from_slice-clause-log c = no_call _ _ _ _ c.from_residual.ensures.1 refl

pub returns-in_err-note-clause-log : goal.returns-in_err-note-clause-log
returns-in_err-note-clause-log c = no_call _ _ _ _ c.from_residual-in_err-note.ensures.1 (ap (λ (s : Script). s.log) c.in_err-note.ensures.err)

pub returns-clause-log : goal.returns-clause-log
returns-clause-log c = one_call _ _ _ _ c.write_reply-answer.ensures.answered (ap (λ (s : Script). s.log) (rw (c.in_ok-from_slice.ensures) at c.in_ok-note.ensures.ok))

pub returns-clause-cause : goal.returns-clause-cause
returns-clause-cause c = counts _ _ c.is_failed.result (ap (λ (s : Script). s.faults) c.in_ok-note.ensures.ok) c.is_failed.ensures.failed
