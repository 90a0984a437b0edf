use Rattle.std.proofs.Common.{length}
use Rattle.el_words.specs.Word.{HasNul}
use Rattle.el_subst.proofs.Sizes.{Counts}
use Rattle.el_subst.proofs.application.size_of_values.Given as goal

abbrev pub invariant-loop-found : goal.invariant-loop-found
invariant-loop-found l = (HasNul l.rest → ⊥) × Counts l.lookup l.word l.rest l.size

abbrev pub decreases-loop-found : goal.decreases-loop-found
decreases-loop-found l = length l.rest
