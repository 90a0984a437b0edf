use Rattle.std.proofs.Common.{◌≡◌, ◌++◌}
use Rattle.std.specs.List.{filter}
use Rattle.el_lint.specs.Allowances.{is_blank}
use Rattle.el_lint.specs.Lines.{pieces_behind, size_behind}
use Rattle.el_lint.specs.FirstLines.{is_word, words_in}
use Rattle.el_lint.proofs.first_line.words_in.Given as goal

-- the words so far, and those of the pieces that are left
abbrev pub invariant-loop-left : goal.invariant-loop-left
invariant-loop-left l = l.words ++ filter is_word (pieces_behind is_blank l.left) ≡ words_in l.initial.text

abbrev pub decreases-loop-left : goal.decreases-loop-left
decreases-loop-left l = size_behind l.left
