use Rattle.std.proofs.Common.{ap}
use Rattle.el_world.specs.Scripted.{Script, seen_of}
use Rattle.el_app.proofs.programs.sample.run_line.Goals as goal

pub line_in-requires : goal.line_in-requires
line_in-requires c = ap (λ (script : Script). (seen_of script).log) c.in_ok-world.ensures
