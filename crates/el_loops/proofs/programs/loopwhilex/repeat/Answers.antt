use Rattle.el_room.proofs.Vocabulary.{name_text, Loopwhilex, child, state_of, read_of}
use Rattle.std.proofs.Common.{refl, sym, ◌∙◌, arith}
use Rattle.el_loops.proofs.Breaks.{plan_as}
use Rattle.el_loops.proofs.RepeatsOn.{begun, out_of_units, turn_stopped, turn_ends, turn_passed}
use Rattle.el_loops.proofs.programs.loopwhilex.repeat.Goals as goal

pub turns-init : goal.turns-init
turns-init g c = record { on = begun (g.W.World.seen c.args.world.now) (read_of c.args.front.now) (state_of c.args.proc.now) c.args.proc.now.budget (omega arith); state = refl; usable = c.requires.usable }

pub returns-then-not-take_unit-clause-run : goal.returns-then-not-take_unit-clause-run
returns-then-not-take_unit-clause-run g c =
    let same = c.take_unit.ensures.state ∙ c.turns.invariant.state in
    let none = c.if-not-take_unit.ensures.spent refl in
    rw (same, c.take_unit.ensures.budget) (out_of_units c.turns.invariant.on none)

pub returns-in_err-ended-clause-run : goal.returns-in_err-ended-clause-run
returns-in_err-ended-clause-run g c =
    let same = c.take_unit.ensures.state ∙ c.turns.invariant.state in
    let some = c.if-not-take_unit.ensures.taken refl in
    rw (same, c.take_unit.ensures.budget) (turn_stopped c.turns.invariant.on some (plan_as (λ s. child s (name_text Loopwhilex) (read_of c.args.front.now).rest) same refl (rw (c.take_unit.ensures.budget, c.requires.rest) at c.in_err-ended.ensures.run)) c.from_residual.ensures.1)

pub returns-then-not-goes_on_behind-clause-run : goal.returns-then-not-goes_on_behind-clause-run
returns-then-not-goes_on_behind-clause-run g c =
    let same = c.take_unit.ensures.state ∙ c.turns.invariant.state in
    let some = c.if-not-take_unit.ensures.taken refl in
    let is = rw c.code_of-code.ensures at c.goes_on_behind.ensures in
    let last = sym is ∙ c.if-not-goes_on_behind.true in
    rw (same, c.take_unit.ensures.budget, c.code_of-code.ensures) (turn_ends c.turns.invariant.on some (plan_as (λ s. child s (name_text Loopwhilex) (read_of c.args.front.now).rest) same refl (rw (c.take_unit.ensures.budget, c.requires.rest) at c.in_ok-ended.ensures.run)) last)

pub turns-preserved : goal.turns-preserved
turns-preserved g c =
    let same = c.take_unit.ensures.state ∙ c.turns.invariant.state in
    let some = c.if-not-take_unit.ensures.taken refl in
    let is = rw c.code_of-code.ensures at c.goes_on_behind.ensures in
    let passed = sym is ∙ c.if-not-goes_on_behind.false in
    record {
      on = rw c.take_unit.ensures.budget (turn_passed c.turns.invariant.on some (plan_as (λ s. child s (name_text Loopwhilex) (read_of c.args.front.now).rest) same refl (rw (c.take_unit.ensures.budget, c.requires.rest) at c.in_ok-ended.ensures.run)) passed refl);
      state = same;
      usable = c.in_ok-ended.ensures.usable;
    }
