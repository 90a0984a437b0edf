use Rattle.std.proofs.Common.{◌-◌, None, length}
use Rattle.el_options.specs.Reader.{IsAt}
use Rattle.el_options.proofs.read.read_options.Given as goal

abbrev pub invariant-loop : goal.invariant-loop
invariant-loop g l = IsAt l.table.opts l.words None l.reader.slots l.reader.count l.reader.used

abbrev pub decreases-loop : goal.decreases-loop
decreases-loop g l = length l.words - l.reader.used
