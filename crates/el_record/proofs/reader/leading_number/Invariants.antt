use Rattle.std.proofs.Common.{◌≡◌, length}
use Rattle.el_record.specs.Read.{leading_number}
use Rattle.el_record.proofs.Leading.{number_behind}
use Rattle.el_record.proofs.reader.leading_number.Given as goal

-- what is read behind the number so far is what is read of all
abbrev pub invariant-loop-left : goal.invariant-loop-left
invariant-loop-left l = number_behind l.number l.left ≡ leading_number l.fn.bytes

abbrev pub decreases-loop-left : goal.decreases-loop-left
decreases-loop-left l = length l.left
