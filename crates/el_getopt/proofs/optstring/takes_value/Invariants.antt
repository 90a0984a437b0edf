use Rattle.std.proofs.Common.{◌≡◌, length}
use Rattle.el_options.specs.Reading.{takes}
use Rattle.el_getopt.specs.Optstring.{letters_in}
use Rattle.el_getopt.proofs.optstring.takes_value.Given as goal

abbrev pub invariant-loop-left : goal.invariant-loop-left
invariant-loop-left l = takes (letters_in l.left) l.letter ≡ takes (letters_in l.optstring) l.letter

abbrev pub decreases-loop-left : goal.decreases-loop-left
decreases-loop-left l = length l.left
