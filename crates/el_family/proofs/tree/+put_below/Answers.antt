use Rattle.std.proofs.Common.{◌++◌, List, ℕ, drop, sym, ap, ◌∙◌, arith}
use Rattle.el_family.specs.Processes.{process_of}
use Rattle.el_family.specs.Trees.{lines_below}
use Rattle.el_family.proofs.TreeLines.{more_lines, child_put, other_passed, all_below}
use Rattle.el_family.proofs.tree.+put_below.Goals.{then-is_from+in_ok-put_line+in_ok-put_below, else-is_from}
use Rattle.el_family.proofs.tree.+put_below.Goals as goal

pub loop-number-preserved : goal.loop-number-preserved
loop-number-preserved t c =
    let family = c.args.family.now in
    let all = c.args.lines.now ++ lines_below c.args.parent c.args.depth c.args.from (drop c.args.from family) in
    elim c.if-is_from.branch [
      | then-is_from+in_ok-put_line+in_ok-put_below w ↦
          child_put family c.args.parent c.args.depth c.loop-number.number c.loop-number.lines w.put_line.new.lines c.if-is_from.lines all (process_of c.in-Some.member.now) (sym c.in-Some.ensures)
          (sym c.is_from.ensures ∙ w.if-is_from.true) c.loop-number.invariant w.in_ok-put_line.ensures (w.lines-is ∙ w.in_ok-put_below.ensures)
      | else-is_from w ↦
          ap (λ (lines : List ℕ). lines ++ more_lines family c.args.parent c.args.depth c.loop-number.number) w.lines-is
          ∙ other_passed family c.args.parent c.args.depth c.loop-number.number c.loop-number.lines all (process_of c.in-Some.member.now) (sym c.in-Some.ensures)
          (sym c.is_from.ensures ∙ w.if-is_from.false) c.loop-number.invariant
    ]

pub returns : goal.returns
returns t c =
    let family = c.args.family.now in
    let all = c.args.lines.now ++ lines_below c.args.parent c.args.depth c.args.from (drop c.args.from family) in
    all_below family c.args.parent c.args.depth c.loop-number.number c.loop-number.lines all (omega (arith, c.len-number-end.ensures)) c.loop-number.invariant
