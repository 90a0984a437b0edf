use Rattle.std.proofs.Common.{sym, ap, ◌∙◌}
use Rattle.el_proc.specs.Descriptors.{handles_in}
use Rattle.el_proc.proofs.Lost.{lost_set}
use Rattle.el_proc.proofs.descriptors.Fds.set.Goals as goal

pub returns-clause-lost : goal.returns-clause-lost
returns-clause-lost c = rw (← c.self.view_is) (lost_set c.self.inside.slots c.args.number c.args.held ∙ ap handles_in (sym c.lost_from.ensures))
