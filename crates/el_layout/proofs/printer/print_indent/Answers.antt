use Rattle.std.proofs.Common.{◌++◌, ◌∙◌, List, ℕ, ap, sym, append_assoc, codes}
use Rattle.el_layout.specs.Layout.{indent}
use Rattle.el_layout.proofs.Printing.{indent-more}
use Rattle.el_layout.proofs.printer.print_indent.Goals as goal

pub loop-preserved : goal.loop-preserved
loop-preserved c =
    c.in_ok-append.ensures.ok ∙ ap (λ (bytes : List ℕ). bytes ++ codes "  ") c.loop.invariant
    ∙ append_assoc c.args.out.now (indent c.loop.counter) (codes "  ")
    ∙ ap (λ (bytes : List ℕ). c.args.out.now ++ bytes) (sym (indent-more c.loop.counter))
