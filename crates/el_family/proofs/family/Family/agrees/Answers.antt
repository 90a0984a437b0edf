use Rattle.std.proofs.Common.{sym, ◌∙◌}
use Rattle.el_family.specs.Processes.{Process, process_of}
use Rattle.el_family.specs.Agreement.{child_agrees}
use Rattle.el_family.proofs.Walks.{all_on, not_all}
use Rattle.el_family.proofs.family.Family.agrees.Goals as goal

pub returns-then-not-child_agrees : goal.returns-then-not-child_agrees
returns-then-not-child_agrees c =
    not_all (λ (child : Process). child_agrees c.args.self.now child.origin child.ran) c.args.self.now c.loop-number.number (process_of c.in-Some.child.now) (sym c.in-Some.ensures)
    (sym c.child_agrees.ensures ∙ c.if-not-child_agrees.true) c.loop-number.invariant

pub loop-number-preserved : goal.loop-number-preserved
loop-number-preserved c =
    all_on (λ (child : Process). child_agrees c.args.self.now child.origin child.ran) c.args.self.now c.loop-number.number (process_of c.in-Some.child.now) (sym c.in-Some.ensures)
    (sym c.child_agrees.ensures ∙ c.if-not-child_agrees.false) c.loop-number.invariant
