use Rattle.std.proofs.Common.{sym, ◌∙◌, true≢false}
use Rattle.el_world.specs.Log.{events_of}
use Rattle.el_trace.proofs.Verdicts.{is_run, is_none}
use Rattle.el_trace.proofs.checking.compared.Goals as goal

pub returns-then-is_same : goal.returns-then-is_same
returns-then-is_same c = λ task units run.
    let is = c.is_same.ensures.0 c.if-is_same.true in
    is_run task units (events_of c.args.trace.now.log) (events_of c.args.own.now) c.args.finish run c.in-Some.end (sym c.in-Some.ensures) c.in_ok-at.at c.in_ok-at.ensures c.args.trace.now.end c.requires is.0 is.1 is.2

pub returns-else-is_same : goal.returns-else-is_same
returns-else-is_same c = λ task units run.
    is_none task units (events_of c.args.trace.now.log) (events_of c.args.own.now) c.args.finish run c.in-Some.end (sym c.in-Some.ensures) c.in_ok-at.at c.in_ok-at.ensures c.args.trace.now.end c.requires
    (λ all. true≢false (sym (c.is_same.ensures.1 all) ∙ c.if-is_same.false))
