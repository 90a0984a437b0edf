use Rattle.std.proofs.Common.{◌<◌, ◌≡◌, Some, None, set, length, sym, ap, ◌∙◌, arith, length-set}
use Rattle.el_proc.specs.Descriptors.{handles_in, held_in}
use Rattle.el_proc.proofs.Lost.{lost_moved}
use Rattle.el_proc.proofs.descriptors.Fds.move_handle.Goals as goal

pub returns-clause-lost : goal.returns-clause-lost
returns-clause-lost c =
    let slots = c.self.inside.slots in
    let is : held_in slots c.args.from ≡ Some c.args.handle = ap (λ fds. held_in fds c.args.from) c.self.view_is ∙ c.requires.held in
    let below : c.args.to < length (set slots c.args.from None) = omega (arith, c.self.invariant, length-set slots c.args.from None, c.requires.to) in
    rw (← c.self.view_is) (lost_moved slots c.args.to c.args.from c.args.handle below is ∙ ap handles_in (sym c.lost_from.ensures))
