use Rattle.el_room.proofs.Vocabulary.{Prog, program_named, state_of}
use Rattle.std.proofs.Common.{subst, ap, ◌∙◌}
use Rattle.el_machine.proofs.RunsOn.{follows_way}
use Rattle.el_machine.proofs.HoldsSteps.{step_exactly, step_changes, step_units, same_program, step_cause, by_count}
use Rattle.el_machine.specs.Causes.{EndsWith111, HasCauseUnlessFailed}
use Rattle.el_machine.specs.Changes.{ChangesBehind}
use Rattle.el_machine.proofs.machine.step.Goals as goal

pub returns-in-Some-clause-exact : goal.returns-in-Some-clause-exact
returns-in-Some-clause-exact g c =
    λ base h. step_exactly c.in-Some.program c.args.proc.now.words (state_of c.args.proc.now) (state_of c.step_as.new.proc) c.next_of.result c.step_as.new.proc.words (follows_way c.next_of.result c.next_of.ensures c.step_as.ensures.run) h

pub returns-in-Some-clause-changes : goal.returns-in-Some-clause-changes
returns-in-Some-clause-changes g c =
    λ program is.
    subst (λ (named : Prog). ChangesBehind c.next_of.result named (state_of c.args.proc.now) (state_of c.step_as.new.proc))
    (same_program c.args.proc.now.words program c.in-Some.program is (c.in-Some.ensures.exact ∙ ap program_named c.first_word.ensures))
    (step_changes c.in-Some.program c.args.proc.now.words (state_of c.args.proc.now) (state_of c.step_as.new.proc) c.next_of.result c.step_as.new.proc.words (follows_way c.next_of.result c.next_of.ensures c.step_as.ensures.run))

pub returns-in-Some-clause-fewer : goal.returns-in-Some-clause-fewer
returns-in-Some-clause-fewer g c = step_units c.next_of.result (follows_way c.next_of.result c.next_of.ensures c.step_as.ensures.run)

pub returns-in-Some-clause-calls : goal.returns-in-Some-clause-calls
returns-in-Some-clause-calls g c =
    λ program is ends.
    subst (λ (named : Prog). HasCauseUnlessFailed (g.W.World.seen c.args.world.now) (g.W.World.seen c.step_as.new.world) (EndsWith111 named c.args.proc.now.words (state_of c.args.proc.now)))
    (same_program c.args.proc.now.words program c.in-Some.program is (c.in-Some.ensures.exact ∙ ap program_named c.first_word.ensures))
    (step_cause c.in-Some.program c.args.proc.now.words (state_of c.args.proc.now) (state_of c.step_as.new.proc) c.next_of.result c.step_as.new.proc.words (follows_way c.next_of.result c.next_of.ensures c.step_as.ensures.run) ends)

pub returns-in-Some-clause-cause : goal.returns-in-Some-clause-cause
returns-in-Some-clause-cause g c = λ program is ends none. by_count (returns-in-Some-clause-calls g c program is ends) none
