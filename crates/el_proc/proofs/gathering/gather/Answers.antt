use Rattle.std.proofs.Common.{◌≡◌, ◌<◌, ◌++◌, refl, ap, ◌∙◌, arith}
use Rattle.std.proofs.lemmas.Result.{err_from_is_err_and}
use Rattle.el_proc.specs.Processes.{state_of}
use Rattle.el_proc.proofs.GathersOn.{begun, out_of_units, read_short, read_fails, read_ends, piece_lost, read_on}
use Rattle.el_proc.proofs.Causes.{no_cause, read_failed}
use Rattle.el_proc.proofs.gathering.gather.Goals as goal

pub pieces-init : goal.pieces-init
pieces-init g c = record {
  on = rw c.new-text.ensures (begun (g.W.World.seen c.args.world.now) (state_of c.args.proc.now) c.args.handle c.args.proc.now.budget (omega arith));
  state = refl;
  words = refl;
  held = refl;
  later = omega arith;
}

pub returns-then-not-take_unit-clause-run : goal.returns-then-not-take_unit-clause-run
returns-then-not-take_unit-clause-run g c =
    let same = c.take_unit.ensures.state ∙ c.pieces.invariant.state in
    let none : c.pieces.proc.budget ≡ 0 = grind arith in
    rw (same, c.take_unit.ensures.budget) (out_of_units c.pieces.invariant.on none)

pub returns-in_err-piece-clause-run : goal.returns-in_err-piece-clause-run
returns-in_err-piece-clause-run g c =
    let same = c.take_unit.ensures.state ∙ c.pieces.invariant.state in
    let some : 0 < c.pieces.proc.budget = grind arith in
    let e = err_from_is_err_and c.from_residual.result c.from_residual.ensures.1 in
    rw (same, c.take_unit.ensures.budget, e.1, e.2) (read_short c.pieces.invariant.on some c.in_err-piece.ensures.run)

pub returns-in-Ok-clause-run : goal.returns-in-Ok-clause-run
returns-in-Ok-clause-run g c =
    let same = c.take_unit.ensures.state ∙ c.pieces.invariant.state in
    let some : 0 < c.pieces.proc.budget = grind arith in
    rw (same, c.take_unit.ensures.budget) (read_ends c.pieces.invariant.on some c.in-Ok.piece (omega arith) (rw c.in-Ok.is at c.in_ok-piece.ensures.run))

pub returns-in_err-append-in-Ok-2-clause-run : goal.returns-in_err-append-in-Ok-2-clause-run
returns-in_err-append-in-Ok-2-clause-run g c =
    let same = c.take_unit.ensures.state ∙ c.pieces.invariant.state in
    let some : 0 < c.pieces.proc.budget = grind arith in
    let e = err_from_is_err_and c.from_residual-in_err-append-in-Ok-2.result c.from_residual-in_err-append-in-Ok-2.ensures.1 in
    rw (same, c.take_unit.ensures.budget, e.1, e.2) (piece_lost c.pieces.invariant.on some c.in-Ok-2.piece (rw c.in-Ok-2.is at c.in_ok-piece.ensures.run))

pub pieces-preserved : goal.pieces-preserved
pieces-preserved g c =
    let some : 0 < c.pieces.proc.budget = grind arith in
    let on = read_on c.pieces.invariant.on some c.in-Ok-2.piece (λ none. absurd (grind arith)) (rw c.in-Ok-2.is at c.in_ok-piece.ensures.run) in
    let piece : c.in-Ok.piece ≡ c.in-Ok-2.piece = cc in
    let bytes = c.in_ok-append-in-Ok-2.ensures.ok ∙ ap (λ piece. c.pieces.text ++ piece) (c.as_bytes.ensures ∙ piece) in
    record {
      on = rw (bytes, c.take_unit.ensures.budget) on;
      state = c.take_unit.ensures.state ∙ c.pieces.invariant.state;
      words = c.take_unit.ensures.words ∙ c.pieces.invariant.words;
      held = c.in_ok-piece.ensures.held ∙ c.pieces.invariant.held;
      later = omega (arith, c.pieces.invariant.later, c.in_ok-piece.ensures.run.added.later);
    }

pub returns-in-Err-clause-run : goal.returns-in-Err-clause-run
returns-in-Err-clause-run g c =
    let same = c.take_unit.ensures.state ∙ c.pieces.invariant.state in
    let some : 0 < c.pieces.proc.budget = grind arith in
    rw (same, c.take_unit.ensures.budget) (read_fails c.pieces.invariant.on some _ (rw c.in-Err.is at c.in_ok-piece.ensures.run))

-- ---- the cause

pub returns-then-not-take_unit-clause-cause : goal.returns-then-not-take_unit-clause-cause
returns-then-not-take_unit-clause-cause g c = no_cause c.pieces.invariant.later (λ is. let no : ⊥ = cc in no)

pub returns-in_err-piece-clause-cause : goal.returns-in_err-piece-clause-cause
returns-in_err-piece-clause-cause g c =
    let e = err_from_is_err_and c.from_residual.result c.from_residual.ensures.1 in
    rw (e.1, e.2) (no_cause (omega (arith, c.pieces.invariant.later, c.in_err-piece.ensures.run.added.later)) (λ is. let no : ⊥ = cc in no))

pub returns-in-Ok-clause-cause : goal.returns-in-Ok-clause-cause
returns-in-Ok-clause-cause g c = no_cause (omega (arith, c.pieces.invariant.later, c.in_ok-piece.ensures.run.added.later)) (λ is. let no : ⊥ = cc in no)

pub returns-in_err-append-in-Ok-2-clause-cause : goal.returns-in_err-append-in-Ok-2-clause-cause
returns-in_err-append-in-Ok-2-clause-cause g c =
    let e = err_from_is_err_and c.from_residual-in_err-append-in-Ok-2.result c.from_residual-in_err-append-in-Ok-2.ensures.1 in
    rw (e.1, e.2) (no_cause (omega (arith, c.pieces.invariant.later, c.in_ok-piece.ensures.run.added.later)) (λ is. let no : ⊥ = cc in no))

pub returns-in-Err-clause-cause : goal.returns-in-Err-clause-cause
returns-in-Err-clause-cause g c =
    let rose = read_failed c.args.handle _ (rw c.in-Err.is at c.in_ok-piece.ensures.run) in
    record { later = omega (arith, c.pieces.invariant.later, c.in_ok-piece.ensures.run.added.later); risen = λ is. omega (arith, c.pieces.invariant.later, rose) }
