use Rattle.std.proofs.Common.{◌≡◌, ◌++◌, refl, ap, ◌∙◌, arith}
use Rattle.el_proc.specs.Processes.{state_of}
use Rattle.el_app.proofs.FileReads.{begun, past_limit, out_of_units, read_short, read_fails, read_ends, piece_lost, read_on}
use Rattle.el_app.proofs.file.read_pieces.Goals as goal

pub pieces-init : goal.pieces-init
pieces-init g c =
    let world = g.W.World.seen c.args.world.now in
    (rw c.new-script.ensures (begun world (state_of c.args.proc.now) c.args.handle c.args.proc.now.budget), refl, refl)

pub returns-then-proc-eq0-clause-run : goal.returns-then-proc-eq0-clause-run
returns-then-proc-eq0-clause-run g c = out_of_units c.pieces.invariant.0 (omega arith) c.if-proc-eq0.true

pub returns-in_err-piece-clause-run : goal.returns-in_err-piece-clause-run
returns-in_err-piece-clause-run g c = read_short c.pieces.invariant.0 (omega arith) (omega arith) c.in_err-piece.ensures.run c.from_residual.ensures.1

pub returns-in-Ok-clause-run : goal.returns-in-Ok-clause-run
returns-in-Ok-clause-run g c = read_ends c.pieces.invariant.0 (omega arith) (omega arith) c.in-Ok.piece (omega arith) (rw c.in-Ok.is at c.in_ok-piece.ensures.run)

pub returns-in_err-append-in-Ok-2-clause-run : goal.returns-in_err-append-in-Ok-2-clause-run
returns-in_err-append-in-Ok-2-clause-run g c =
    piece_lost c.pieces.invariant.0 (omega arith) (omega arith) c.in-Ok-2.piece (rw c.in-Ok-2.is at c.in_ok-piece.ensures.run) c.from_residual-in_err-append-in-Ok-2.ensures.1

pub pieces-preserved : goal.pieces-preserved
pieces-preserved g c =
    let on = read_on c.pieces.invariant.0 (omega arith) (omega arith) c.in-Ok-2.piece (λ none. absurd (grind arith)) (rw c.in-Ok-2.is at c.in_ok-piece.ensures.run) in
    let same : c.in-Ok.piece ≡ c.in-Ok-2.piece = cc in
    let bytes = c.in_ok-append-in-Ok-2.ensures.ok ∙ ap (λ piece. c.pieces.script ++ piece) (c.as_bytes.ensures ∙ same) in (
      rw bytes on,
      c.pieces.invariant.1,
      c.in_ok-piece.ensures.held ∙ c.pieces.invariant.2,
    )

pub returns-in-Err-clause-run : goal.returns-in-Err-clause-run
returns-in-Err-clause-run g c = read_fails c.pieces.invariant.0 (omega arith) (omega arith) _ (rw c.in-Err.is at c.in_ok-piece.ensures.run)

pub returns-clause-run : goal.returns-clause-run
returns-clause-run g c = past_limit c.pieces.invariant.0 (omega arith)
