use Rattle.std.proofs.Common.{◌+◌, ◌++◌, ◌∷◌, [], ◌∙◌, ap, refl, arith}
use Rattle.el_real.specs.declared.stream.Held.{Held}
use Rattle.el_real.proofs.Holding.{below-one, given-one, gave-two}
use Rattle.el_real.proofs.Streams.{stand-put}
use Rattle.el_real.proofs.real_world.RealWorld.hold_pipe.Goals as goal

pub invariant_of-self-2 : goal.invariant_of-self-2
invariant_of-self-2 g c =
    let next = c.args.self.now.next in
    let reader : Held = record { handle = record { number = next }; stream = c.args.reader } in
    let writer : Held = record { handle = record { number = next + 1 }; stream = c.args.writer } in
    let items = c.put-2.ensures.items ∙ ap (λ held. held ++ writer ∷ []) (c.put.ensures.items ∙ ap (λ held. held ++ reader ∷ []) c.reserve.ensures.items) in
    record {
      own_below = omega (arith, c.args.self.now.own_below, c.in_ok-after.ensures.after);
      all_below = rw items (below-one (c.args.self.now.held.items ++ reader ∷ []) (next + 1) c.in_ok-after.after writer (omega (arith, c.in_ok-after.ensures.after)) (omega (arith, c.in_ok-after.ensures.after))
          (below-one c.args.self.now.held.items next (next + 1) reader (omega arith) (omega arith) c.args.self.now.all_below));
      all_given = rw items (given-one (c.args.self.now.held.items ++ reader ∷ []) writer (omega (arith, c.args.self.now.own_below)) (given-one c.args.self.now.held.items reader (omega (arith, c.args.self.now.own_below)) c.args.self.now.all_given));
    }

pub returns-clause-handles : goal.returns-clause-handles
returns-clause-handles g c =
    let next = c.args.self.now.next in
    let reader : Held = record { handle = record { number = next }; stream = c.args.reader } in
    let writer : Held = record { handle = record { number = next + 1 }; stream = c.args.writer } in
    let items = c.put-2.ensures.items ∙ ap (λ held. held ++ writer ∷ []) (c.put.ensures.items ∙ ap (λ held. held ++ reader ∷ []) c.reserve.ensures.items) in
    gave-two c.args.self.now.faults _ c.args.self.now.held.items _ next _ reader writer items refl refl c.in_ok-after.ensures.after c.args.self.now.own_below c.args.self.now.all_below

pub returns-clause-streams : goal.returns-clause-streams
returns-clause-streams g c =
    let next = c.args.self.now.next in
    let reader : Held = record { handle = record { number = next }; stream = c.args.reader } in
    let writer : Held = record { handle = record { number = next + 1 }; stream = c.args.writer } in
    let items = c.put-2.ensures.items ∙ ap (λ held. held ++ writer ∷ []) (c.put.ensures.items ∙ ap (λ held. held ++ reader ∷ []) c.reserve.ensures.items) in
    stand-put c.args.self.now.held.items _ _ c.args.reader c.args.writer next items refl refl c.args.self.now.all_below
    (below-one c.args.self.now.held.items next (next + 1) reader (omega arith) (omega arith) c.args.self.now.all_below)
