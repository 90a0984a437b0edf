use Rattle.std.proofs.Common.{◌++◌, ◌∷◌, [], ◌∙◌, ap, refl, arith}
use Rattle.el_real.specs.declared.stream.Held.{Held}
use Rattle.el_real.proofs.Holding.{below-one, given-one, gave-one}
use Rattle.el_real.proofs.Streams.{stands-put}
use Rattle.el_real.proofs.real_world.RealWorld.hold.Goals as goal

pub invariant_of-self-2 : goal.invariant_of-self-2
invariant_of-self-2 g c =
    let one : Held = record { handle = record { number = c.args.self.now.next }; stream = c.args.stream } in
    let items = c.put.ensures.items ∙ ap (λ held. held ++ one ∷ []) c.reserve.ensures.items in
    record {
      own_below = omega (arith, c.args.self.now.own_below, c.in_ok-after.ensures.after);
      all_below = rw items (below-one c.args.self.now.held.items c.args.self.now.next c.in_ok-after.after one (omega (arith, c.in_ok-after.ensures.after)) (omega (arith, c.in_ok-after.ensures.after)) c.args.self.now.all_below);
      all_given = rw items (given-one c.args.self.now.held.items one (omega (arith, c.args.self.now.own_below)) c.args.self.now.all_given);
    }

pub returns-clause-handles : goal.returns-clause-handles
returns-clause-handles g c =
    let one : Held = record { handle = record { number = c.args.self.now.next }; stream = c.args.stream } in
    let items = c.put.ensures.items ∙ ap (λ held. held ++ one ∷ []) c.reserve.ensures.items in
    gave-one c.args.self.now.faults _ c.args.self.now.held.items _ c.args.self.now.next _ one items refl c.in_ok-after.ensures.after c.args.self.now.own_below c.args.self.now.all_below

pub returns-clause-stream : goal.returns-clause-stream
returns-clause-stream g c =
    let one : Held = record { handle = record { number = c.args.self.now.next }; stream = c.args.stream } in
    let items = c.put.ensures.items ∙ ap (λ held. held ++ one ∷ []) c.reserve.ensures.items in
    rw items (stands-put c.args.self.now.held.items one c.args.self.now.next (omega arith) c.args.self.now.all_below)
