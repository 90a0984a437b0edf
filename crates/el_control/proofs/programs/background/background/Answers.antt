use Rattle.el_room.proofs.Vocabulary.{plan_then, plan_stopped, plan_assoc, gives_then, memory_short, follows_done, acting, acted}
use Rattle.std.proofs.Common.{refl}
use Rattle.el_control.specs.Background.{background}
use Rattle.el_control.proofs.programs.background.background.Goals as goal

pub returns-in_err-kid : goal.returns-in_err-kid
unfolding acting background
returns-in_err-kid g c =
    let kid = rw c.in_ok-words.ensures at c.in_err-kid.ensures.run in
    acted (plan_assoc _ _ _ (plan_stopped _ kid c.from_residual-in_err-kid.ensures.1)) c.in_err-kid.ensures.usable

pub returns-in_err-note_kid : goal.returns-in_err-note_kid
unfolding acting background
returns-in_err-note_kid g c =
    let kid = rw c.in_ok-words.ensures at c.in_ok-kid.ensures.run in
    acted (plan_assoc _ _ _ (plan_then _ kid (memory_short c.from_residual-in_err-note_kid.ensures.1))) c.in_ok-kid.ensures.usable

pub returns : goal.returns
unfolding acting background
returns g c =
    let kid = rw c.in_ok-words.ensures at c.in_ok-kid.ensures.run in
    acted
    (rw (c.into_rest.ensures, c.in_ok-note_kid.ensures.env, c.in_ok-note_kid.ensures.kids) (plan_assoc _ _ _ (plan_then _ kid (gives_then _ _ (follows_done refl)))))
    c.in_ok-kid.ensures.usable
