use Rattle.std.proofs.Common.{◌≡◌, ◌∙◌, refl, sym, ap, subst, ◌+◌, ◌-◌, ◌^◌, [], ◌∷◌, ◌++◌, min, Result, IfOk, arith}
use Rattle.el_world.specs.Scripted.{counted}
use Rattle.el_world.proofs.Inside.{counted-min}
use Rattle.el_world.proofs.Told.{counts}
use Rattle.el_glob.specs.declared.listed.Listed.{Listed}
use Rattle.el_glob.specs.declared.listed.ListFault.{ListFault}
use Rattle.el_glob.specs.Names.{IsListing}
use Rattle.el_glob.specs.ScriptedLister.{ListScript, due, reply, after_list}
use Rattle.el_glob.proofs.Told.{no_list, one_list, replied, reply-listing, failed-fault, one_taken}
use Rattle.el_glob.proofs.scripted_lister.ScriptedListerLister.list.Goals as goal

pub returns-in_err-answer-clause-log : goal.returns-in_err-answer-clause-log
returns-in_err-answer-clause-log c = no_list _ _ _ _ _ c.from_residual.ensures.1 refl

pub returns-in_err-copy-clause-log : goal.returns-in_err-copy-clause-log
returns-in_err-copy-clause-log c = no_list _ _ _ _ _ c.from_residual-in_err-copy.ensures.1 refl

pub returns-in_err-copy-2-clause-log : goal.returns-in_err-copy-2-clause-log
returns-in_err-copy-2-clause-log c = no_list _ _ _ _ _ c.from_residual-in_err-copy-2.ensures.1 refl

pub returns-in_err-reply-clause-log : goal.returns-in_err-reply-clause-log
returns-in_err-reply-clause-log c = no_list _ _ _ _ _ c.from_residual-in_err-reply.ensures.1 refl

pub returns-in_err-push-clause-log : goal.returns-in_err-push-clause-log
returns-in_err-push-clause-log c = no_list _ _ _ _ _ c.from_residual-in_err-push.ensures.1 (c.in_err-push.ensures.err ∙ ap (λ (s : ListScript). s.log) c.self.view_is)

pub invariant_of-self-2 : goal.invariant_of-self-2
invariant_of-self-2 c = omega (arith, c.min-self-inside.ensures, c.len.ensures)

pub returns-clause-log : goal.returns-clause-log
returns-clause-log c =
    let same : c.in_ok-reply.field-0 ≡ c.in_ok-answer.answer = c.in_ok-reply.ensures ∙ ap reply (c.due-2.ensures ∙ sym c.due.ensures) ∙ sym c.in_ok-answer.ensures in
    let log = c.in_ok-push.ensures.ok ∙ (λ i. c.self.inside.log ++ record { dir = c.in_ok-copy.ensures i; path = c.in_ok-copy-2.ensures i; answer = same i } ∷ []) in
    one_list _ _ _ _ _ (λ is. replied (due c.args.self.now.answers) (sym (c.in_ok-answer.ensures ∙ ap reply c.due.ensures) ∙ is))
    (log ∙ ap (λ (s : ListScript). s.log ++ record { dir = c.args.dir.now; path = c.args.path.now; answer = c.in_ok-answer.answer } ∷ []) c.self.view_is)

pub returns-clause-cause : goal.returns-clause-cause
returns-clause-cause c =
    let faults = c.saturating_add-self-inside.ensures ∙ ap (λ n. min (c.self.inside.faults + n) (2 ^ 64 - 1)) c.from.ensures ∙ counted-min c.is_fault.result c.self.inside.faults (omega (arith, c.self.ranges)) in
    counts _ _ c.is_fault.result (faults ∙ ap (λ (s : ListScript). counted c.is_fault.result s.faults) c.self.view_is) (λ failed. c.is_fault.ensures ∙ failed-fault _ failed)

pub returns-clause-names : goal.returns-clause-names
returns-clause-names c = subst (λ (answer : Result Listed ListFault). IfOk answer IsListing) (sym (c.in_ok-answer.ensures ∙ ap reply c.due.ensures)) (reply-listing (due c.args.self.now.answers))

pub returns-clause-exact : goal.returns-clause-exact
returns-clause-exact c = λ some.
    let same : c.in_ok-reply.field-0 ≡ c.in_ok-answer.answer = c.in_ok-reply.ensures ∙ ap reply (c.due-2.ensures ∙ sym c.due.ensures) ∙ sym c.in_ok-answer.ensures in
    let log = c.in_ok-push.ensures.ok ∙ (λ i. c.self.inside.log ++ record { dir = c.in_ok-copy.ensures i; path = c.in_ok-copy-2.ensures i; answer = same i } ∷ []) in
    let answers = one_taken c.self.inside.taken c.min-self-inside.result c.self.inside.answers c.self.invariant (omega (arith, c.len.ensures, c.len.type_inv))
    (c.min-self-inside.ensures ∙ ap (λ n. min n c.len.result) c.saturating_add.ensures ∙ ap (λ n. min (min (c.self.inside.taken + 1) (2 ^ 64 - 1)) n) c.len.ensures) in
    let faults = c.saturating_add-self-inside.ensures ∙ ap (λ n. min (c.self.inside.faults + n) (2 ^ 64 - 1)) c.from.ensures ∙ counted-min c.is_fault.result c.self.inside.faults (omega (arith, c.self.ranges))
    ∙ ap (λ failed. counted failed c.self.inside.faults) c.is_fault.ensures in
    record {
      reply = c.in_ok-answer.ensures ∙ ap reply c.due.ensures;
      state = (λ i. record { log = log i; answers = answers i; faults = faults i }) ∙ ap (λ (s : ListScript). after_list s c.args.dir.now c.args.path.now c.in_ok-answer.answer) c.self.view_is;
    }
