use Rattle.el_room.proofs.Vocabulary.{memory_short, follows_done, follows_refused}
use Rattle.std.proofs.Common.{◌≡◌, None, refl, sym, ◌∙◌, arith}
use Rattle.el_vars.proofs.programs.envfile.set_read.Goals as goal

pub returns-in_default-clause-run : goal.returns-in_default-clause-run
returns-in_default-clause-run g c =
    let none : c.args.text ≡ None = grind arith in
    rw none (follows_refused c.refused.ensures.run)

pub returns-then-not-are_good_lines-clause-run : goal.returns-then-not-are_good_lines-clause-run
returns-then-not-are_good_lines-clause-run g c =
    let bad = rw c.as_bytes.ensures at (sym c.are_good_lines.ensures ∙ c.if-not-are_good_lines.true) in
    rw (c.in-Some.is, bad) (follows_refused c.refused-then-not-are_good_lines.ensures.run)

pub returns-in_err-set_lines-clause-run : goal.returns-in_err-set_lines-clause-run
returns-in_err-set_lines-clause-run g c = memory_short c.from_residual.ensures.1

pub returns-clause-run : goal.returns-clause-run
returns-clause-run g c =
    let good = rw c.as_bytes.ensures at (sym c.are_good_lines.ensures ∙ c.if-not-are_good_lines.false) in
    rw (c.in-Some.is, good, c.in_ok-set_lines.ensures, c.as_bytes-2.ensures) (follows_done refl)
