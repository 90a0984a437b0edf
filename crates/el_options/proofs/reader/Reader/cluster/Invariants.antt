use Rattle.std.proofs.Common.{◌≡◌}
use Rattle.el_options.specs.Reader.{IsInside}
use Rattle.el_options.proofs.reader.Reader.cluster.Given as goal

abbrev pub invariant-loop-from : goal.invariant-loop-from
invariant-loop-from g l = record {
  inside : IsInside l.table.opts l.words l.word l.from l.self.slots l.self.count;
  used : l.self.used ≡ l.fn.self.used;
}
