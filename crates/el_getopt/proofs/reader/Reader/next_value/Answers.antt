use Rattle.std.proofs.Common.{◌<◌, length, arith}
use Rattle.el_getopt.proofs.Steps.{value-taken}
use Rattle.el_getopt.proofs.reader.Reader.next_value.Goals as goal

pub returns-clause-ok : goal.returns-clause-ok
returns-clause-ok c =
    let inside : c.args.self.now.used < length c.args.args.now = omega (arith, c.requires.at.is_within) in
    let next = value-taken _ _ _ _ _ c.requires.at inside c.requires.named in
    rw (c.in_ok-note.ensures.found, c.in_ok-note.ensures.used) next
