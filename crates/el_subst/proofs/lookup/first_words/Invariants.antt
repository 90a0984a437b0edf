use Rattle.std.proofs.Common.{◌≡◌, drop}
use Rattle.el_subst.specs.Values.{words_of}
use Rattle.el_subst.proofs.lookup.first_words.Given as goal

-- no pair before has the key
abbrev pub invariant-loop-pair : goal.invariant-loop-pair
invariant-loop-pair l = words_of l.pairs l.key ≡ words_of (drop l.pair-index l.pairs) l.key
