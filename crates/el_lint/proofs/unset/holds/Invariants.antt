use Rattle.std.proofs.Common.{◌≡◌}
use Rattle.el_lint.specs.Known.{is_among}
use Rattle.el_lint.proofs.unset.holds.Given as goal

-- none so far is the word
abbrev pub invariant-loop-other : goal.invariant-loop-other
invariant-loop-other l = is_among l.words l.word ≡ is_among l.other-iterator l.word
