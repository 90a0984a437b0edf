use Rattle.std.proofs.Common.{◌≡◌, ◌++◌, length}
use Rattle.el_words.specs.Word.{HasNul}
use Rattle.el_subst.specs.Values.{products, word_value}
use Rattle.el_subst.specs.Pieces.{choices_of, part_choices}
use Rattle.el_subst.proofs.application.pieces_of.Given as goal

abbrev pub invariant-loop-found : goal.invariant-loop-found
invariant-loop-found l = (HasNul l.rest → ⊥) × (products (choices_of l.pieces.items ++ part_choices l.lookup l.rest) ≡ word_value l.lookup l.fn.word)

abbrev pub decreases-loop-found : goal.decreases-loop-found
decreases-loop-found l = length l.rest
