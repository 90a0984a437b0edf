use Rattle.std.proofs.Common.{Err, ap}
use Rattle.el_world.proofs.Calls.{added-start, done-start, done_as, start_result}
use Rattle.el_world.proofs.call.start.Goals as goal

pub returns-in-Ok-clause-run : goal.returns-in-Ok-clause-run
returns-in-Ok-clause-run g c = done-start _ _ _ _ _ (added-start _ _ _ _ _ c.in-Ok.ensures.log c.in-Ok.ensures.cause c.in-Ok.ensures.handles c.requires.ends)

pub returns-in-Err-NotFound-clause-run : goal.returns-in-Err-NotFound-clause-run
returns-in-Err-NotFound-clause-run g c = done_as (done-start _ _ _ _ _ (added-start _ _ _ _ _ c.in-Err-NotFound.ensures.log c.in-Err-NotFound.ensures.cause c.in-Err-NotFound.ensures.handles c.requires.ends)) (ap (λ e. start_result (Err e)) c.in-Err-NotFound.field-0-is)

pub returns-in-Err-NotStartable-clause-run : goal.returns-in-Err-NotStartable-clause-run
returns-in-Err-NotStartable-clause-run g c = done_as (done-start _ _ _ _ _ (added-start _ _ _ _ _ c.in-Err-NotStartable.ensures.log c.in-Err-NotStartable.ensures.cause c.in-Err-NotStartable.ensures.handles c.requires.ends)) (ap (λ e. start_result (Err e)) c.in-Err-NotStartable.field-0-is)

pub returns-in-Err-Failed-clause-run : goal.returns-in-Err-Failed-clause-run
returns-in-Err-Failed-clause-run g c = done_as (done-start _ _ _ _ _ (added-start _ _ _ _ _ c.in-Err-Failed.ensures.log c.in-Err-Failed.ensures.cause c.in-Err-Failed.ensures.handles c.requires.ends)) (ap (λ e. start_result (Err e)) c.in-Err-Failed.field-0-is)

pub returns-in-Err-NoMemory-clause-run : goal.returns-in-Err-NoMemory-clause-run
returns-in-Err-NoMemory-clause-run g c = done_as (done-start _ _ _ _ _ (added-start _ _ _ _ _ c.in-Err-NoMemory.ensures.log c.in-Err-NoMemory.ensures.cause c.in-Err-NoMemory.ensures.handles c.requires.ends)) (ap (λ e. start_result (Err e)) c.in-Err-NoMemory.field-0-is)
