use Rattle.std.proofs.Common.{ap, subst}
use Rattle.el_world.proofs.Told.{no_call, one_call}
use Rattle.el_world.proofs.Inside.{gave-piped}
use Rattle.el_world.specs.Scripted.{Script, IsSound}
use Rattle.el_world.proofs.scripted.ScriptedWorld.pipe.Goals as goal

pub returns-in_err-give-in-Ok-clause-log : goal.returns-in_err-give-in-Ok-clause-log
returns-in_err-give-in-Ok-clause-log c = no_call _ _ _ _ c.from_residual.ensures.1 (ap (λ (s : Script). s.log) c.in_err-give-in-Ok.ensures.err)

pub returns-in_err-note-in-Err-clause-log : goal.returns-in_err-note-in-Err-clause-log
returns-in_err-note-in-Err-clause-log c = no_call _ _ _ _ c.from_residual-in_err-note-in-Err.ensures.1 (ap (λ (s : Script). s.log) c.in_err-note-in-Err.ensures.err)

pub returns-in_ok-give-in-Ok-clause-log : goal.returns-in_ok-give-in-Ok-clause-log
returns-in_ok-give-in-Ok-clause-log c = one_call _ _ _ _ c.in-Ok.ensures.answered (ap (λ (s : Script). s.log) (rw c.in-Ok.is at c.in_ok-give-in-Ok.ensures.ok))

pub returns-in_ok-give-in-Ok-clause-handles : goal.returns-in_ok-give-in-Ok-clause-handles
returns-in_ok-give-in-Ok-clause-handles c =
    let state = c.in_ok-give-in-Ok.ensures.ok in
    gave-piped c.args.self.now c.give.new.self c.in-Ok.ends c.self.inside.next_handle (ap (λ (s : Script). s.next_handle) c.self.view_is) c.in-Ok.ensures.reader.0 c.in-Ok.ensures.writer
    (subst (λ (s : Script). IsSound s c.self.inside.taken c.self.inside.tape.closes) c.self.view_is c.self.invariant)
    (ap (λ (s : Script). s.held) state) (ap (λ (s : Script). s.next_handle) state) (ap (λ (s : Script). s.origin) state)

pub returns-in_ok-note-in-Err-clause-log : goal.returns-in_ok-note-in-Err-clause-log
returns-in_ok-note-in-Err-clause-log c = one_call _ _ _ _ c.pipe_reply-answer.ensures.answered (ap (λ (s : Script). s.log) c.in_ok-note-in-Err.ensures.ok)
