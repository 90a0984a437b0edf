use Rattle.std.proofs.Common.{◌<◌, length, arith}
use Rattle.el_options.proofs.Steps.{value-taken}
use Rattle.el_options.proofs.reader.Reader.next_value.Goals as goal

pub returns-clause-ok : goal.returns-clause-ok
returns-clause-ok g c =
    let inside : c.args.self.now.used < length c.args.words.now = omega (arith, c.requires.at.is_within) in
    let next = value-taken _ _ _ _ _ _ c.requires.at c.requires.good c.requires.place inside in
    rw (c.note.ensures.slots, c.note.ensures.count, c.note.ensures.used) next
