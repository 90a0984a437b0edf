use Rattle.std.proofs.Common.{◌≡◌}
use Rattle.std.specs.List.{flat_map, range_with_len}
use Rattle.el_app.specs.Sample.{sample_line}
use Rattle.el_app.proofs.samples.sample.Given as goal

abbrev pub invariant-loop-before : goal.invariant-loop-before
invariant-loop-before l = l.text ≡ flat_map sample_line (range_with_len 1 l.before)
