use Rattle.std.proofs.Common.{◌≡◌, length}
use Rattle.el_getopt.specs.Optstring.{is_optstring}
use Rattle.el_getopt.proofs.optstring.is_optstring.Given as goal

abbrev pub invariant-loop-left : goal.invariant-loop-left
invariant-loop-left l = is_optstring l.left ≡ is_optstring l.text

abbrev pub decreases-loop-left : goal.decreases-loop-left
decreases-loop-left l = length l.left
