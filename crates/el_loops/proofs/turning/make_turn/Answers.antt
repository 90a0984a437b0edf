use Rattle.el_loops.proofs.Breaks.{may_still}
use Rattle.el_loops.proofs.turning.make_turn.Goals as goal

pub returns-clause-more : goal.returns-clause-more
returns-clause-more g c = may_still c.settle.result _ c.take_unit.new.proc c.args.value.now c.requires.may c.settle.ensures.more c.take_unit.ensures.state c.in_ok-set_variable.ensures
