use Rattle.std.proofs.Common.{refl, sym, ◌∙◌}
use Rattle.el_world.proofs.Follows.{memory_short, follows_done}
use Rattle.el_pipes.proofs.programs.backtick.in_trouble.Goals as goal

pub returns-then-has-clause-run : goal.returns-then-has-clause-run
returns-then-has-clause-run g c = rw (sym c.has.ensures ∙ c.if-has.true) c.end_by.ensures.run

pub returns-then-has-2-clause-run : goal.returns-then-has-2-clause-run
returns-then-has-2-clause-run g c = rw (sym c.has.ensures ∙ c.if-has.false, sym c.has-2.ensures ∙ c.if-has-2.true) (follows_done refl)

pub returns-in_err-default_of-clause-run : goal.returns-in_err-default_of-clause-run
returns-in_err-default_of-clause-run g c = memory_short c.from_residual.ensures.1

pub returns-clause-run : goal.returns-clause-run
returns-clause-run g c = rw (sym c.has.ensures ∙ c.if-has.false, sym c.has-2.ensures ∙ c.if-has-2.false, c.in_ok-default_of.ensures) (follows_done refl)
