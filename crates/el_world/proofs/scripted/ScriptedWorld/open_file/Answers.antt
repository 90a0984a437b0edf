use Rattle.std.proofs.Common.{ap, refl, subst}
use Rattle.el_world.proofs.Told.{no_call, one_call}
use Rattle.el_world.proofs.Inside.{gave-opened}
use Rattle.el_world.specs.Scripted.{Script, IsSound}
use Rattle.el_world.proofs.scripted.ScriptedWorld.open_file.Goals as goal

pub returns-in_err-copy-clause-log : goal.returns-in_err-copy-clause-log
returns-in_err-copy-clause-log c = no_call _ _ _ _ c.from_residual.ensures.1 refl

pub returns-in_err-copy-2-clause-log : goal.returns-in_err-copy-2-clause-log
returns-in_err-copy-2-clause-log c = no_call _ _ _ _ c.from_residual-in_err-copy-2.ensures.1 refl

pub returns-in_err-give_one-clause-log : goal.returns-in_err-give_one-clause-log
returns-in_err-give_one-clause-log c = no_call _ _ _ _ c.from_residual-in_err-give_one.ensures.1 (ap (λ (s : Script). s.log) c.in_err-give_one.ensures.err)

pub returns-clause-log : goal.returns-clause-log
returns-clause-log c = one_call _ _ _ _ c.open_reply-answer.ensures.answered (ap (λ (s : Script). s.log) (rw (c.in_ok-copy.ensures, c.in_ok-copy-2.ensures) at c.in_ok-give_one.ensures.ok))

pub returns-clause-handles : goal.returns-clause-handles
returns-clause-handles c =
    let state = c.in_ok-give_one.ensures.ok in
    gave-opened c.args.self.now c.give_one.new.self c.open_reply-answer.result c.self.inside.next_handle (ap (λ (s : Script). s.next_handle) c.self.view_is) c.open_reply-answer.ensures.next
    (subst (λ (s : Script). IsSound s c.self.inside.taken c.self.inside.tape.closes) c.self.view_is c.self.invariant)
    (ap (λ (s : Script). s.held) state) (ap (λ (s : Script). s.next_handle) state) (ap (λ (s : Script). s.origin) state)
