use Rattle.el_room.proofs.Vocabulary.{act_short, act_then, follows_done, follows_refused}
use Rattle.std.proofs.Common.{refl}
use Rattle.el_pipes.specs.Pipes.{started_at}
use Rattle.el_pipes.proofs.pipes.start_at.Goals as goal

pub returns-in-Err-Failed-clause-run : goal.returns-in-Err-Failed-clause-run
unfolding started_at
returns-in-Err-Failed-clause-run g c =
    act_then _ (rw (c.in-Err-Failed.field-0-is) at c.in-Err-Failed.ensures.run) (act_then _ c.close_ends.ensures.run (follows_refused c.refused.ensures.run))

pub returns-in-Err-NoMemory-clause-run : goal.returns-in-Err-NoMemory-clause-run
unfolding started_at
returns-in-Err-NoMemory-clause-run g c = act_short _ (rw (c.in-Err-NoMemory.field-0-is) at c.in-Err-NoMemory.ensures.run) refl

pub returns-in-Ok-clause-run : goal.returns-in-Ok-clause-run
unfolding started_at
returns-in-Ok-clause-run g c = act_then _ c.in-Ok.ensures.run (follows_done refl)
