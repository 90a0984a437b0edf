use Rattle.el_room.proofs.Vocabulary.{Handle, NoMemory, are_usable, plan_then, plan_assoc, act_then, act_assoc, gives_then, follows_done, plan_stopped, NotOpen, moved, copied, IsHeard, lost_is_held, lost_is_gone, refused_then, Read, read_of, has, acting, acted, refusal_then, refusal_behind, short_of}
use Rattle.std.proofs.Common.{◌≡◌, Bool, true, false, cond, List, Option, Err, refl, sym, ap, subst, codes}
use Rattle.el_proc.proofs.Changes.{usable_moved, usable_copied}
use Rattle.el_redir.specs.declared.numbers.Numbers.{Numbers}
use Rattle.el_redir.specs.Fdmove.{moved_by, fdmove}
use Rattle.el_redir.proofs.programs.fdmove.fdmove.Goals as goal

pub returns-in_err-numbers-clause-acts : goal.returns-in_err-numbers-clause-acts
unfolding acting fdmove
returns-in_err-numbers-clause-acts g c = acted (plan_assoc _ _ _ (plan_stopped _ c.in_err-numbers.ensures.run c.from_residual.ensures.1)) c.in_err-numbers.ensures.usable

pub returns-in-Err-clause-acts : goal.returns-in-Err-clause-acts
unfolding acting fdmove
returns-in-Err-clause-acts g c =
    acted
    (rw c.in-Err.ensures.same (plan_assoc _ _ _ (plan_then _ c.in_ok-numbers.ensures.run (rw (sym c.in-Err.ensures.answer) (refused_then _ (rw c.in-Err.ensures.same at c.refused.ensures.run))))))
    c.refused.ensures.usable

usable_moved_by : (read : Read) (held : List Handle) (fds : List (Option Handle)) (numbers : Numbers) → are_usable held fds ≡ true → are_usable held (moved_by read fds numbers) ≡ true
usable_moved_by read held fds numbers usable = by (has (codes "c") read)
  where
    by : (keeps : Bool) → are_usable held (cond keeps (copied fds numbers.one numbers.other) (moved fds numbers.one numbers.other)) ≡ true
    by true = usable_copied held fds numbers.one numbers.other usable
    by false = usable_moved held fds numbers.one numbers.other usable

pub close_lost-requires-clause-usable : goal.close_lost-requires-clause-usable
close_lost-requires-clause-usable g c =
    rw c.in-Ok.ensures.fds (usable_moved_by (read_of c.args.front) _ c.args.proc.now.fds c.in_ok-numbers.numbers c.in_ok-numbers.ensures.usable)

pub close_lost-requires-clause-held : goal.close_lost-requires-clause-held
close_lost-requires-clause-held g c = lost_is_held _ c.args.proc.now.fds c.change.new.fds c.in-Ok.lost c.in-Ok.ensures.lost c.in_ok-numbers.ensures.usable

pub close_lost-requires-clause-gone : goal.close_lost-requires-clause-gone
close_lost-requires-clause-gone g c = lost_is_gone c.args.proc.now.fds c.change.new.fds c.in-Ok.lost c.in-Ok.ensures.lost

pub returns-in-Ok-clause-acts : goal.returns-in-Ok-clause-acts
unfolding acting fdmove
returns-in-Ok-clause-acts g c =
    let holds = sym c.in-Ok.ensures.answer in
    let run = rw (← c.in-Ok.ensures.lost, c.in-Ok.ensures.fds) at c.close_lost.ensures.run in
    acted
    (rw (c.into_rest.ensures, c.in-Ok.ensures.fds)
    (plan_assoc _ _ _ (plan_then _ c.in_ok-numbers.ensures.run
    (rw holds (act_assoc _ _ _ (act_then _ run (gives_then _ _ (follows_done refl))))))))
    c.close_lost.ensures.usable

pub returns-in_err-numbers-clause-memory : goal.returns-in_err-numbers-clause-memory
unfolding fdmove
returns-in_err-numbers-clause-memory g c = λ short. refusal_then _ (c.in_err-numbers.ensures.memory (ap Err (short_of c.from_residual.ensures.1 short)))

pub returns-in-Err-clause-memory : goal.returns-in-Err-clause-memory
unfolding fdmove
returns-in-Err-clause-memory g c = λ short.
    let finish : c.refused.result ≡ NoMemory = cc in
    refusal_behind _ c.in_ok-numbers.ensures.read (rw (sym c.in-Err.ensures.answer) (record { trouble = NotOpen; is = refl; heard = subst IsHeard c.in-Err.ensures.same (c.refused.ensures.memory finish) }))
