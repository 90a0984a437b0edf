use Rattle.std.proofs.Common.{◌+◌, ◌-◌, ◌^◌, min, ap, ◌∙◌, arith}
use Rattle.el_test.specs.ScriptedAsker.{AskScript, noted}
use Rattle.el_test.proofs.Scripted.{one_taken, counted-min}
use Rattle.el_test.proofs.scripted_asker.ScriptedAsker.note.Goals as goal

pub returns-clause-ok : goal.returns-clause-ok
returns-clause-ok c =
    let answers = one_taken c.self.inside.taken c.min-self-inside.result c.self.inside.answers c.self.invariant (omega (arith, c.len.ensures, c.len.type_inv))
    (c.min-self-inside.ensures ∙ ap (λ n. min n c.len.result) c.saturating_add.ensures ∙ ap (λ n. min (min (c.self.inside.taken + 1) (2 ^ 64 - 1)) n) c.len.ensures) in
    let faults = c.saturating_add-self-inside.ensures ∙ ap (λ n. min (c.self.inside.faults + n) (2 ^ 64 - 1)) c.from.ensures ∙ counted-min c.args.failed c.self.inside.faults (omega (arith, c.self.ranges)) in
    (λ i. record { log = c.in_ok-push.ensures.ok i; answers = answers i; faults = faults i }) ∙ ap (λ (s : AskScript). noted s c.args.event c.args.failed) c.self.view_is
