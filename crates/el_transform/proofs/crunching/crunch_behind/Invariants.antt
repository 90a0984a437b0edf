use Rattle.std.proofs.Common.{◌≡◌, ◌++◌, drop}
use Rattle.el_transform.specs.Crunching.{is_delimiter}
use Rattle.el_transform.specs.Computed.{crunched_after}
use Rattle.el_transform.proofs.crunching.crunch_behind.Given as goal

abbrev pub invariant-loop-byte : goal.invariant-loop-byte
invariant-loop-byte l =
    crunched_after (is_delimiter l.delims) l.is_behind_delimiter l.bytes ≡ l.kept.items ++ crunched_after (is_delimiter l.delims) l.is_after_delimiter (drop l.byte-index l.bytes)
