use Rattle.std.proofs.Common.{◌≡◌, ◌-◌, ◌++◌, drop, length}
use Rattle.el_family.specs.Trees.{lines_below}
use Rattle.el_family.proofs.tree.+put_below.Given as goal

abbrev pub decreases-put_below : goal.decreases-put_below
decreases-put_below l = length l.family.now - l.from

-- the lines so far, and those that are to come
abbrev pub invariant-loop-number : goal.invariant-loop-number
invariant-loop-number l =
    l.lines ++ lines_below l.parent l.depth l.number (drop l.number l.family) ≡ l.fn.lines ++ lines_below l.parent l.depth l.from (drop l.from l.family)
