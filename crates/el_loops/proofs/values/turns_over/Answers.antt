use Rattle.el_room.proofs.Vocabulary.{follows_units, has_nul, before_nul, state_of, values_of, last_value}
use Rattle.std.proofs.Common.{◌≡◌, ◌≤◌, refl, ◌∙◌, arith}
use Rattle.el_loops.specs.Turns.{turns}
use Rattle.el_loops.specs.Values.{used}
use Rattle.el_loops.specs.Loops.{looping_of, listed}
use Rattle.el_loops.proofs.Breaks.{may_as, plan_as}
use Rattle.el_loops.proofs.ReadsOn.{none_read, out_of_units, read_short, read_fails, read_ends, piece_ends, piece_used}
use Rattle.el_loops.proofs.values.turns_over.Goals as goal

pub pieces-init : goal.pieces-init
pieces-init g c = record {
  on = none_read (g.W.World.seen c.args.world.now) (looping_of c.args.each.now (state_of c.args.proc.now)) c.args.handle c.args.proc.now.budget c.new-splitter.result c.args.all.now.made.items (omega arith)
      (rw (c.has.ensures, c.delimiters.ensures.set) at c.new-splitter.ensures) c.requires.first;
  may = c.requires.may;
  state = refl;
}

pub returns-then-not-take_unit-clause-run : goal.returns-then-not-take_unit-clause-run
returns-then-not-take_unit-clause-run g c =
    let same = c.take_unit.ensures.state ∙ c.pieces.invariant.state in
    let none = c.if-not-take_unit.ensures.spent refl in
    rw (same, c.take_unit.ensures.budget) (out_of_units c.pieces.invariant.on _ none)

pub returns-in_err-piece-clause-run : goal.returns-in_err-piece-clause-run
returns-in_err-piece-clause-run g c =
    let same = c.take_unit.ensures.state ∙ c.pieces.invariant.state in
    let some = c.if-not-take_unit.ensures.taken refl in
    rw (same, c.take_unit.ensures.budget) (read_short c.pieces.invariant.on some _ c.in_err-piece.ensures.run c.from_residual.ensures.1)

pub use_last-requires : goal.use_last-requires
use_last-requires g c = may_as c.take_unit.new.proc c.pieces.invariant.may c.in_ok-piece.ensures.held c.take_unit.ensures.state

pub returns-in-Ok-clause-run : goal.returns-in-Ok-clause-run
returns-in-Ok-clause-run g c =
    let same = c.take_unit.ensures.state ∙ c.pieces.invariant.state in
    let some = c.if-not-take_unit.ensures.taken refl in
    let last = rw (c.finish.ensures, c.take_unit.ensures.budget) at c.use_last.ensures.run in
    rw (c.use_last.ensures.state ∙ same)
    (read_ends c.pieces.invariant.on some c.in-Ok.piece (omega arith) (rw c.in-Ok.is at c.in_ok-piece.ensures.run)
    (plan_as (λ s. turns (looping_of c.args.each.now s) c.pieces.all.made.items (listed (last_value c.pieces.splitter.unfinished))) same c.use_last.ensures.state last))

pub use_piece-requires : goal.use_piece-requires
use_piece-requires g c = may_as c.take_unit.new.proc c.pieces.invariant.may c.in_ok-piece.ensures.held c.take_unit.ensures.state

pub returns-in_err-use_piece-in-Ok-2-clause-run : goal.returns-in_err-use_piece-in-Ok-2-clause-run
returns-in_err-use_piece-in-Ok-2-clause-run g c =
    let same = c.take_unit.ensures.state ∙ c.pieces.invariant.state in
    let some = c.if-not-take_unit.ensures.taken refl in
    let piece : c.in-Ok.piece ≡ c.in-Ok-2.piece = cc in
    let bytes = c.as_bytes.ensures ∙ piece in
    let used_so = rw (bytes, c.take_unit.ensures.budget) at c.in_err-use_piece-in-Ok-2.ensures.run in
    rw (c.in_err-use_piece-in-Ok-2.ensures.state ∙ same)
    (piece_ends c.pieces.invariant.on some c.in-Ok-2.piece (λ none. absurd (grind arith)) (rw c.in-Ok-2.is at c.in_ok-piece.ensures.run)
    (plan_as (λ s. used (looping_of c.args.each.now s) c.pieces.all.made.items (values_of c.pieces.splitter (before_nul c.in-Ok-2.piece)) (has_nul c.in-Ok-2.piece)) same c.in_err-use_piece-in-Ok-2.ensures.state used_so)
    c.from_residual-in_err-use_piece-in-Ok-2.ensures.1)

pub pieces-smaller : goal.pieces-smaller
pieces-smaller g c =
    let some = c.if-not-take_unit.ensures.taken refl in
    let less : c.use_piece.new.proc.budget ≤ c.take_unit.new.proc.budget = follows_units c.in_ok-use_piece-in-Ok-2.ensures.run (λ e. let no : ⊥ = cc in no) in
    omega (arith, less, c.take_unit.ensures.budget, some)

pub pieces-preserved : goal.pieces-preserved
pieces-preserved g c =
    let same = c.take_unit.ensures.state ∙ c.pieces.invariant.state in
    let some = c.if-not-take_unit.ensures.taken refl in
    let piece : c.in-Ok.piece ≡ c.in-Ok-2.piece = cc in
    let bytes = c.as_bytes.ensures ∙ piece in
    let used_so = rw (bytes, c.take_unit.ensures.budget) at c.in_ok-use_piece-in-Ok-2.ensures.run in
    record {
      on = piece_used c.pieces.invariant.on some c.in-Ok-2.piece (λ none. absurd (grind arith)) (rw c.in-Ok-2.is at c.in_ok-piece.ensures.run)
          (plan_as (λ s. used (looping_of c.args.each.now s) c.pieces.all.made.items (values_of c.pieces.splitter (before_nul c.in-Ok-2.piece)) (has_nul c.in-Ok-2.piece)) same c.in_ok-use_piece-in-Ok-2.ensures.state used_so)
          (rw bytes at c.in_ok-use_piece-in-Ok-2.ensures.no_nul) (rw bytes at c.in_ok-use_piece-in-Ok-2.ensures.fed);
      may = c.in_ok-use_piece-in-Ok-2.ensures.more;
      state = c.in_ok-use_piece-in-Ok-2.ensures.state ∙ same;
    }

pub returns-in-Err-clause-run : goal.returns-in-Err-clause-run
returns-in-Err-clause-run g c =
    let same = c.take_unit.ensures.state ∙ c.pieces.invariant.state in
    let some = c.if-not-take_unit.ensures.taken refl in
    rw (same, c.take_unit.ensures.budget) (read_fails c.pieces.invariant.on some _ _ (rw c.in-Err.is at c.in_ok-piece.ensures.run) (rw same at c.break_off.ensures.run))
