use Rattle.std.proofs.Common.{refl, sym, ◌∙◌, rules}
use Rattle.el_world.proofs.Follows.{act_then, act_short, follows_done}
use Rattle.el_loops.specs.Turns.{started}
use Rattle.el_loops.proofs.Breaks.{follows_broken, can_still}
use Rattle.el_loops.proofs.turning.start.Goals as goal

pub start_child-requires : goal.start_child-requires
start_child-requires g c = c.requires.streams

pub returns-in-Err-Failed-clause-run : goal.returns-in-Err-Failed-clause-run
unfolding started
returns-in-Err-Failed-clause-run g c = act_then _ (rw c.in-Err-Failed.field-0-is at c.in-Err-Failed.ensures.run) (search (rules, follows_broken))

pub returns-in-Err-NoMemory-clause-run : goal.returns-in-Err-NoMemory-clause-run
unfolding started
returns-in-Err-NoMemory-clause-run g c = act_short _ (rw c.in-Err-NoMemory.field-0-is at c.in-Err-NoMemory.ensures.run) refl

pub returns-in-Some-clause-run : goal.returns-in-Some-clause-run
unfolding started
returns-in-Some-clause-run g c =
    let some = sym c.pid.ensures ∙ c.in-Some.is in
    act_then _ c.in-Ok.ensures.run (rw some (follows_done refl))

pub returns-in-Some-clause-more : goal.returns-in-Some-clause-more
returns-in-Some-clause-more g c = can_still c.in-Ok.ensures.held c.requires

pub returns-in_ok-code-in-None-clause-more : goal.returns-in_ok-code-in-None-clause-more
returns-in_ok-code-in-None-clause-more g c = can_still (c.in_ok-code-in-None.ensures.held ∙ c.in-Ok.ensures.held) c.requires

pub returns-in_err-code-in-None-clause-run : goal.returns-in_err-code-in-None-clause-run
unfolding started
returns-in_err-code-in-None-clause-run g c =
    let none = sym c.pid.ensures ∙ c.in-None.is in
    act_then _ c.in-Ok.ensures.run (rw none (act_short _ c.in_err-code-in-None.ensures.run c.from_residual.ensures.1))

pub returns-in_ok-code-in-None-clause-run : goal.returns-in_ok-code-in-None-clause-run
unfolding started
returns-in_ok-code-in-None-clause-run g c =
    let none = sym c.pid.ensures ∙ c.in-None.is in
    act_then _ c.in-Ok.ensures.run (rw none (act_then _ c.in_ok-code-in-None.ensures.run (follows_done refl)))
