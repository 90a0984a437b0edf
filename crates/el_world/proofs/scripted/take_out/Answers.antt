use Rattle.std.proofs.Common.{◌==◌, not, rules}
use Rattle.std.proofs.lemmas.Fn.{filter_same}
use Rattle.el_world.specs.declared.event.Handle.{Handle}
use Rattle.el_world.proofs.Held.{length-without}
use Rattle.el_world.proofs.scripted.take_out.Goals as goal

pub returns-clause-items : goal.returns-clause-items
returns-clause-items c = filter_same _ (λ (other : Handle). not (other.number == c.args.handle.number)) _ (λ x b f k. search rules) _ _ c.retain.ensures.filtered

pub returns-clause-fewer : goal.returns-clause-fewer
returns-clause-fewer c = rw (returns-clause-items c) (length-without c.args.held.now.items c.args.handle c.requires)
