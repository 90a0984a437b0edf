use Rattle.std.proofs.Common.{◌≡◌}
use Rattle.el_getopt.specs.Reader.{IsInside}
use Rattle.el_getopt.proofs.reader.Reader.cluster.Given as goal

abbrev pub invariant-loop-from : goal.invariant-loop-from
invariant-loop-from l = record {
  inside : IsInside l.optstring l.args l.word l.from l.self.found.items;
  used : l.self.used ≡ l.fn.self.used;
}
