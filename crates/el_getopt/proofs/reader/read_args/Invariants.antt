use Rattle.std.proofs.Common.{◌-◌, None, length}
use Rattle.el_getopt.specs.Reader.{IsAt}
use Rattle.el_getopt.proofs.reader.read_args.Given as goal

abbrev pub invariant-loop-reader : goal.invariant-loop-reader
invariant-loop-reader l = IsAt l.optstring l.args None l.reader.found.items l.reader.used

abbrev pub decreases-loop-reader : goal.decreases-loop-reader
decreases-loop-reader l = length l.args - l.reader.used
