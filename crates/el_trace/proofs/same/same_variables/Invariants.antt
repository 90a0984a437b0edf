use Rattle.el_room.proofs.Vocabulary.{pointwise, pair_of}
use Rattle.std.proofs.Common.{◌≡◌, drop, length, map as mapped}
use Rattle.el_trace.specs.Same.{same_pair}
use Rattle.el_trace.proofs.same.same_variables.Given as goal

-- what is left is the same exactly where all is
abbrev pub invariant-loop-place : goal.invariant-loop-place
invariant-loop-place l = (length l.ones ≡ length l.others) × (pointwise same_pair (mapped pair_of (drop l.place l.ones)) (mapped pair_of (drop l.place l.others)) ≡ pointwise same_pair (mapped pair_of l.ones) (mapped pair_of l.others))
