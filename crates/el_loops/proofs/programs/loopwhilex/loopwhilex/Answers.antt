use Rattle.el_room.proofs.Vocabulary.{plan_then, plan_stopped, plan_assoc, follows_done, acting, acted}
use Rattle.std.proofs.Common.{refl}
use Rattle.el_loops.specs.Loopwhilex.{loopwhilex}
use Rattle.el_loops.proofs.programs.loopwhilex.loopwhilex.Goals as goal

pub returns-in_err-need_words : goal.returns-in_err-need_words
unfolding acting loopwhilex
returns-in_err-need_words g c =
    let begun = rw c.in_ok-rest.ensures at c.in_err-need_words.ensures.run in
    acted (plan_assoc _ _ _ (plan_stopped _ begun c.from_residual-in_err-need_words.ensures.1)) c.in_err-need_words.ensures.usable

pub returns-in_err-repeat : goal.returns-in_err-repeat
unfolding acting loopwhilex
returns-in_err-repeat g c =
    let begun = rw c.in_ok-rest.ensures at c.in_ok-need_words.ensures.run in
    acted (plan_assoc _ _ _ (plan_then _ begun (plan_stopped _ c.in_err-repeat.ensures.run c.from_residual-in_err-repeat.ensures.1))) c.in_err-repeat.ensures.usable

pub returns : goal.returns
unfolding acting loopwhilex
returns g c =
    let begun = rw c.in_ok-rest.ensures at c.in_ok-need_words.ensures.run in
    acted (rw c.in_ok-rest.ensures (plan_assoc _ _ _ (plan_then _ begun (plan_then _ c.in_ok-repeat.ensures.run (follows_done refl))))) c.in_ok-repeat.ensures.usable
