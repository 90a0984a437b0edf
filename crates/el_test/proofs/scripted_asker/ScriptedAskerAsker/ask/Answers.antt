use Rattle.std.proofs.Common.{ap, refl}
use Rattle.el_test.specs.ScriptedAsker.{AskScript}
use Rattle.el_test.proofs.Scripted.{no_ask, one_ask}
use Rattle.el_test.proofs.scripted_asker.ScriptedAskerAsker.ask.Goals as goal

pub returns-in_err-copy-clause-log : goal.returns-in_err-copy-clause-log
returns-in_err-copy-clause-log c = no_ask _ _ _ _ _ _ c.from_residual.ensures.1 refl

pub returns-in_err-copy-2-clause-log : goal.returns-in_err-copy-2-clause-log
returns-in_err-copy-2-clause-log c = no_ask _ _ _ _ _ _ c.from_residual-in_err-copy-2.ensures.1 refl

pub returns-in_err-note-clause-log : goal.returns-in_err-note-clause-log
returns-in_err-note-clause-log c = no_ask _ _ _ _ _ _ c.from_residual-in_err-note.ensures.1 (ap (λ (s : AskScript). s.log) c.in_err-note.ensures.err)

pub returns-clause-log : goal.returns-clause-log
returns-clause-log c = one_ask _ _ _ _ _ _ c.reply_of-answer.ensures.answered (ap (λ (s : AskScript). s.log) (rw (c.in_ok-copy.ensures, c.in_ok-copy-2.ensures) at c.in_ok-note.ensures.ok))
