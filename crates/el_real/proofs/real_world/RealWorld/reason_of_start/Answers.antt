use Rattle.std.proofs.Common.{codes, string_bytes}
use Rattle.std.specs.FinMap as map
use Rattle.el_real.specs.Commands.{program_of}
use Rattle.el_real.proofs.Unfound.{kept-unfound}
use Rattle.el_real.proofs.real_world.RealWorld.reason_of_start.Goals as goal

pub returns-in-NotFound : goal.returns-in-NotFound
returns-in-NotFound g c =
    rw c.in-Refused.is
    (kept-unfound (map.get c.args.env.now (codes "PATH")) c.args.dir.now (program_of (string_bytes c.args.self.now.parent.binary.file) c.args.words.now) c.in-Refused.lack c.unfound_line.result
    c.in-NotFound.ensures
    (rw (c.get.ensures.value, c.as_bytes-dir.ensures.same, c.program_of-program.ensures, c.as_str.ensures.value) at c.unfound_line.ensures))
