use Rattle.el_room.proofs.Vocabulary.{plan_then, plan_stopped, follows_done, follows_refused}
use Rattle.std.proofs.Common.{refl, sym, ◌∙◌}
use Rattle.el_loops.specs.Turns.{begun}
use Rattle.el_loops.proofs.turning.begin.Goals as goal

pub returns-in_err-need_words-clause-run : goal.returns-in_err-need_words-clause-run
unfolding begun
returns-in_err-need_words-clause-run g c = plan_stopped _ c.in_err-need_words.ensures.run c.from_residual.ensures.1

pub returns-then-not-names_well-clause-run : goal.returns-then-not-names_well-clause-run
unfolding begun
returns-then-not-names_well-clause-run g c =
    let bad = sym c.names_well.ensures ∙ c.if-not-names_well.true in
    plan_then _ c.in_ok-need_words.ensures.run (rw bad (follows_refused c.refused.ensures.run))

pub returns-clause-run : goal.returns-clause-run
unfolding begun
returns-clause-run g c =
    let good = sym c.names_well.ensures ∙ c.if-not-names_well.false in
    plan_then _ c.in_ok-need_words.ensures.run (rw good (follows_done refl))
