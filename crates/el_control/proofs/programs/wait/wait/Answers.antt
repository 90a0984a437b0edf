use Rattle.el_room.proofs.Vocabulary.{memory_short, plan_then, plan_stopped, plan_assoc, gives_then, follows_done, refused_then, acting, acted}
use Rattle.std.proofs.Common.{refl, sym, ◌∙◌}
use Rattle.el_control.specs.Wait.{wait}
use Rattle.el_control.proofs.programs.wait.wait.Goals as goal

pub returns-then-not-are_numbers : goal.returns-then-not-are_numbers
unfolding acting wait
returns-then-not-are_numbers g c =
    let bad = rw c.in_ok-words.ensures at (sym c.are_numbers.ensures ∙ c.if-not-are_numbers.true) in
    acted (rw bad (refused_then _ c.refused.ensures.run)) c.refused.ensures.usable

pub returns-in_err-numbers : goal.returns-in_err-numbers
returns-in_err-numbers g c = acted (memory_short c.from_residual-in_err-numbers.ensures.1) c.requires

pub returns-in_err-wait_for_all : goal.returns-in_err-wait_for_all
unfolding acting wait
returns-in_err-wait_for_all g c =
    let good = rw c.in_ok-words.ensures at (sym c.are_numbers.ensures ∙ c.if-not-are_numbers.false) in
    let waited = rw (c.deref.ensures.value, c.in_ok-numbers.ensures, c.in_ok-words.ensures) at c.in_err-wait_for_all.ensures.run in
    acted (rw good (plan_assoc _ _ _ (plan_stopped _ waited c.from_residual-in_err-wait_for_all.ensures.1))) c.in_err-wait_for_all.ensures.usable

pub returns : goal.returns
unfolding acting wait
returns g c =
    let good = rw c.in_ok-words.ensures at (sym c.are_numbers.ensures ∙ c.if-not-are_numbers.false) in
    let waited = rw (c.deref.ensures.value, c.in_ok-numbers.ensures, c.in_ok-words.ensures) at c.in_ok-wait_for_all.ensures.run in
    acted (rw c.into_rest.ensures (rw good (plan_assoc _ _ _ (plan_then _ waited (gives_then _ _ (follows_done refl)))))) c.in_ok-wait_for_all.ensures.usable
