use Rattle.std.proofs.Common.{sym, arith}
use Rattle.el_family.specs.Processes.{process_of}
use Rattle.el_family.specs.Reports.{lines_from}
use Rattle.el_family.proofs.Walks.{line_put, all_lines}
use Rattle.el_family.proofs.telling.lines_of.Goals as goal

pub loop-number-preserved : goal.loop-number-preserved
loop-number-preserved c =
    line_put (lines_from 0 c.args.family.now) c.loop-number.lines c.put_member.new.lines c.args.family.now c.loop-number.number (process_of c.in-Some.member.now) (sym c.in-Some.ensures) c.loop-number.invariant c.in_ok-put_member.ensures

pub returns : goal.returns
returns c =
    all_lines (lines_from 0 c.args.family.now) c.loop-number.lines c.args.family.now c.loop-number.number (omega (arith, c.len-number-end.ensures)) (omega (arith, c.len-number-end.ensures, c.loop-number.auto.number-end))
    c.loop-number.invariant
