use Rattle.std.proofs.Common.{ap, refl, ◌∙◌}
use Rattle.el_world.proofs.Told.{no_start, one_start, counts}
use Rattle.el_world.proofs.Inside.{holding-none}
use Rattle.el_world.specs.declared.event.Event.TheVariants.{Start}
use Rattle.el_world.specs.Calls.{start}
use Rattle.el_world.specs.Scripted.{Script, start_reply, next_after, noted, numbered, left_by}
use Rattle.el_world.proofs.scripted.ScriptedWorld.start.Goals as goal

pub give-requires-clause-reply : goal.give-requires-clause-reply
give-requires-clause-reply c =
    let reply = c.start_reply-answer.ensures.reply ∙ (λ i. start_reply (c.due.ensures i) ((c.self.view_is i).next_pid)) in
    let next = c.next_after-next_pid.ensures ∙ ap (λ (s : Script). next_after c.start_reply-answer.result s.next_pid) c.self.view_is in
    let event = Start c.in_ok-copy.field-0 c.in_ok-copy-2.field-0 c.in_ok-copy-3.field-0 c.args.ends.now c.start_reply-answer.result in
    holding-none (numbered (noted c.args.self.now event c.is_start_failed.result) c.next_after-next_pid.result) c.next_after-next_pid.result c.self.inside.next_handle refl (ap (λ (s : Script). s.next_handle) c.self.view_is)
    ∙ (λ i. numbered (noted c.args.self.now event (c.is_start_failed.ensures.test i)) (next i))
    ∙ ap (left_by c.args.self.now (start c.in_ok-copy.field-0 c.in_ok-copy-2.field-0 c.in_ok-copy-3.field-0 c.args.ends.now)) reply

pub returns-in_err-copy-clause-log : goal.returns-in_err-copy-clause-log
returns-in_err-copy-clause-log c = no_start _ _ _ _ c.from_residual.ensures.1 refl

pub returns-in_err-copy-2-clause-log : goal.returns-in_err-copy-2-clause-log
returns-in_err-copy-2-clause-log c = no_start _ _ _ _ c.from_residual-in_err-copy-2.ensures.1 refl

pub returns-in_err-copy-3-clause-log : goal.returns-in_err-copy-3-clause-log
returns-in_err-copy-3-clause-log c = no_start _ _ _ _ c.from_residual-in_err-copy-3.ensures.1 refl

pub returns-in_err-give-clause-log : goal.returns-in_err-give-clause-log
returns-in_err-give-clause-log c = no_start _ _ _ _ c.from_residual-in_err-give.ensures.1 (ap (λ (s : Script). s.log) c.in_err-give.ensures.err)

pub returns-clause-log : goal.returns-clause-log
returns-clause-log c = one_start _ _ _ _ c.start_reply-answer.ensures.answered (ap (λ (s : Script). s.log) (rw (c.in_ok-copy.ensures, c.in_ok-copy-2.ensures, c.in_ok-copy-3.ensures) at c.in_ok-give.ensures.ok))

pub returns-clause-cause : goal.returns-clause-cause
returns-clause-cause c = counts _ _ c.is_start_failed.result (ap (λ (s : Script). s.faults) c.in_ok-give.ensures.ok) c.is_start_failed.ensures.failed

pub returns-clause-exact : goal.returns-clause-exact
returns-clause-exact c some =
    let next = c.next_after-next_pid.ensures ∙ ap (λ (s : Script). next_after c.start_reply-answer.result s.next_pid) c.self.view_is in
    let event = Start c.args.words.now c.args.env.now c.args.dir.now c.args.ends.now c.start_reply-answer.result in
    record {
      reply = c.start_reply-answer.ensures.reply ∙ (λ i. start_reply (c.due.ensures i) ((c.self.view_is i).next_pid));
      state =
          rw (c.in_ok-copy.ensures, c.in_ok-copy-2.ensures, c.in_ok-copy-3.ensures) at c.in_ok-give.ensures.ok
          ∙ holding-none (numbered (noted c.args.self.now event c.is_start_failed.result) c.next_after-next_pid.result) c.next_after-next_pid.result c.self.inside.next_handle refl (ap (λ (s : Script). s.next_handle) c.self.view_is)
          ∙ (λ i. numbered (noted c.args.self.now event (c.is_start_failed.ensures.test i)) (next i));
    }
