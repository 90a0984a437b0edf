use Rattle.std.proofs.Common.{arith}
use Rattle.el_world.specs.Log.{events_of}
use Rattle.el_trace.proofs.Verdicts.{judged_so}
use Rattle.el_trace.proofs.checking.check_run.Goals as goal

pub returns-clause-ok : goal.returns-clause-ok
returns-clause-ok c =
    judged_so c.args.params c.args.script.now c.args.start.now.zero c.args.start.now.args c.args.env.now c.args.dir.now c.args.budget (events_of c.args.trace.now.log) c.args.trace.now.end c.in_ok-judged.field-0 c.in_ok-check.field-0 c.in_ok-words.words
    c.in_ok-check.ensures.ok (c.in_ok-words.ensures.words c.in_ok-check.field-0 c.in_ok-check.ensures.ok) c.in_ok-words.ensures.meets (omega (arith, c.ranges.budget)) c.in_ok-judged.ensures
