use Rattle.std.specs.Slice.Iter.{iter_rest}
use Rattle.el_layout.proofs.Printing.{never-none, first-parted}
use Rattle.el_layout.proofs.printer.print_command.Goals as goal

pub returns-in_default : goal.returns-in_default
returns-in_default c = absurd (never-none c.args.args.now (iter_rest c.iter-items.result) c.iter-items.ensures.rest c.iter-items.ensures.there c.in_default.ensures.steps.0)

pub loop-item-init : goal.loop-item-init
loop-item-init c =
    rw (c.into_iter-item-iterator.ensures.into_iter_gives, ← c.in_ok-print_indent.ensures)
    (first-parted c.print_indent.new.out c.print_item.new.out c.args.args.now (iter_rest c.iter-items.result) (iter_rest c.next.new.self) c.in-Some.first.now
    c.iter-items.ensures.rest c.in-Some.ensures.steps c.in_ok-print_item.ensures)
