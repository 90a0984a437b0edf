use Rattle.el_room.proofs.Vocabulary.{plan_then, plan_stopped, plan_assoc, act_then, act_assoc, gives_then, memory_short, follows_done, acting, acted}
use Rattle.std.proofs.Common.{refl}
use Rattle.el_pipes.specs.Pipeline.{pipeline}
use Rattle.el_pipes.proofs.programs.pipeline.pipeline.Goals as goal

pub returns-in_err-ends : goal.returns-in_err-ends
unfolding acting pipeline
returns-in_err-ends g c = acted (plan_assoc _ _ _ (plan_stopped _ c.in_err-ends.ensures.run c.from_residual-in_err-ends.ensures.1)) c.in_err-ends.ensures.usable

pub returns-in_err-kid : goal.returns-in_err-kid
unfolding acting pipeline
returns-in_err-kid g c =
    let kid = rw (c.block_side-side.ensures, c.in_ok-block.ensures) at c.in_err-kid.ensures.run in
    acted
    (plan_assoc _ _ _ (plan_then _ c.in_ok-ends.ensures.run (plan_assoc _ _ _ (plan_stopped _ kid c.from_residual-in_err-kid.ensures.1))))
    c.in_err-kid.ensures.usable

pub returns : goal.returns
unfolding acting pipeline
returns g c =
    let kid = rw (c.block_side-side.ensures, c.in_ok-block.ensures) at c.in_ok-kid.ensures.run in
    let end = rw (c.other.ensures, c.block_side-side.ensures) at c.take_end.ensures.run in
    let fds = rw (c.other.ensures, c.block_side-side.ensures) at c.take_end.ensures.fds in
    acted
    (rw (c.into_rest.ensures, fds, c.in_ok-note_kid.ensures.env, c.in_ok-note_kid.ensures.kids)
    (plan_assoc _ _ _ (plan_then _ c.in_ok-ends.ensures.run (plan_assoc _ _ _ (plan_then _ kid
    (act_assoc _ _ _ (act_then _ end (gives_then _ _ (follows_done refl)))))))))
    c.take_end.ensures.usable

pub returns-in_err-note_kid : goal.returns-in_err-note_kid
unfolding acting pipeline
returns-in_err-note_kid g c =
    let kid = rw (c.block_side-side.ensures, c.in_ok-block.ensures) at c.in_ok-kid.ensures.run in
    acted
    (plan_assoc _ _ _ (plan_then _ c.in_ok-ends.ensures.run (plan_assoc _ _ _ (plan_then _ kid (memory_short c.from_residual-in_err-note_kid.ensures.1)))))
    c.in_ok-kid.ensures.usable

pub take_end-requires-clause-loose : goal.take_end-requires-clause-loose
take_end-requires-clause-loose g c = rw c.other.ensures c.in_ok-kid.ensures.other
