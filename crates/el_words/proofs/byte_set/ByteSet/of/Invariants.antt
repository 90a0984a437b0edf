use Rattle.std.proofs.Common.{◌≡◌, take, length}
use Rattle.el_words.proofs.Flags.{Flags}
use Rattle.el_words.proofs.byte_set.ByteSet.of.Given as goal

abbrev pub invariant-loop-byte : goal.invariant-loop-byte
invariant-loop-byte l = (length l.members ≡ 256) × Flags l.members (take l.byte-index l.bytes)
