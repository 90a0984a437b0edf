use Rattle.std.proofs.Common.{◌≡◌, ◌++◌, length}
use Rattle.el_transform.specs.Netstrings.{netstrings_text}
use Rattle.el_transform.proofs.netstrings.read_netstrings.Given as goal

abbrev pub invariant-loop-rest : goal.invariant-loop-rest
invariant-loop-rest l = netstrings_text l.words ++ l.rest ≡ l.bytes

abbrev pub decreases-loop-rest : goal.decreases-loop-rest
decreases-loop-rest l = length l.rest
