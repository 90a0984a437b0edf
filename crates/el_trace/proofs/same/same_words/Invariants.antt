use Rattle.el_room.proofs.Vocabulary.{pointwise, bytes_eq}
use Rattle.std.proofs.Common.{◌≡◌, drop, length}
use Rattle.el_trace.proofs.same.same_words.Given as goal

-- what is left is the same exactly where all is
abbrev pub invariant-loop-place : goal.invariant-loop-place
invariant-loop-place l = (length l.one ≡ length l.other) × (pointwise bytes_eq (drop l.place l.one) (drop l.place l.other) ≡ pointwise bytes_eq l.one l.other)
