use Rattle.std.proofs.Common.{◌++◌, ◌∙◌, List, ℕ, ap, sym, append_assoc, codes}
use Rattle.el_family.specs.Trees.{indent}
use Rattle.el_family.proofs.TreeLines.{indent-more}
use Rattle.el_family.proofs.tree.put_indent.Goals as goal

pub loop-preserved : goal.loop-preserved
loop-preserved c =
    c.in_ok-append.ensures.ok ∙ ap (λ (bytes : List ℕ). bytes ++ codes "  ") c.loop.invariant
    ∙ append_assoc c.args.lines.now (indent c.loop.counter) (codes "  ")
    ∙ ap (λ (bytes : List ℕ). c.args.lines.now ++ bytes) (sym (indent-more c.loop.counter))
