use Rattle.std.proofs.Common.{sym, ◌∙◌}
use Rattle.el_family.specs.Processes.{process_of}
use Rattle.el_family.proofs.Courses.{run_course, run_told}
use Rattle.el_family.proofs.run.ran_with.Goals as goal

pub returns-clause-run : goal.returns-clause-run
returns-clause-run c =
    run_course c.in_ok-world.world c.execline-finish.new.world (process_of c.args.member.now) _ c.args.budget _ _ (rw (c.in_ok-copy.ensures, c.in_ok-copy-2.ensures) at c.execline-finish.ensures.run) c.in_ok-world.ensures
    c.into_log.ensures.replays c.into_log.ensures.log (sym c.has_ended.ensures ∙ c.if-not-has_ended.false)

pub returns-clause-right : goal.returns-clause-right
returns-clause-right c =
    run_told c.in_ok-world.world c.execline-finish.new.world (process_of c.args.member.now) _ c.args.budget _ _ (rw (c.in_ok-copy.ensures, c.in_ok-copy-2.ensures) at c.execline-finish.ensures.told) c.in_ok-world.ensures
    c.into_log.ensures.log (sym c.has_ended.ensures ∙ c.if-not-has_ended.false)
