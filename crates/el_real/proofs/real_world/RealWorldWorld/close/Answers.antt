use Rattle.el_real.proofs.Holding.{below-left, given-left}
use Rattle.el_real.proofs.real_world.RealWorldWorld.close.Goals as goal

pub invariant_of-self : goal.invariant_of-self
invariant_of-self g c = record {
  own_below = c.args.self.now.own_below;
  all_below = below-left c.args.self.now.held.items c.take_out.new.held.items c.args.handle c.args.self.now.next c.take_out.ensures.handles c.args.self.now.all_below;
  all_given = given-left c.args.self.now.held.items c.take_out.new.held.items c.args.handle c.take_out.ensures.handles c.args.self.now.all_given;
}
