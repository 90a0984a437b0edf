use Rattle.std.proofs.Common.{◌≡◌, ◌+◌, length, drop}
use Rattle.el_keep.specs.declared.place.Place.TheVariants.{Gap}
use Rattle.el_keep.specs.Parts.{run_from}
use Rattle.el_keep.proofs.part.run_len.Given as goal

-- what is counted, and what is to be counted
abbrev pub invariant-loop-byte : goal.invariant-loop-byte
invariant-loop-byte l = record {
  counted : l.count + length (run_from l.between l.place (drop l.byte-index l.bytes)) ≡ length (run_from l.between Gap l.bytes);
  each : l.count ≡ l.byte-index;
}
