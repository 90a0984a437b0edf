use Rattle.std.proofs.Common.{ℕ, ◌-◌, ◌<◌, refl, sym, ap, ◌∙◌, subst}
use Rattle.el_proc.specs.Processes.{state_of}
use Rattle.el_getopt.proofs.Calls.{called_spent, called_from}
use Rattle.el_getopt.proofs.call.elgetopt.Goals as goal

pub returns-then-not-take_unit-clause-parses : goal.returns-then-not-take_unit-clause-parses
returns-then-not-take_unit-clause-parses g c =
    (called_spent (g.W.World.seen c.args.world.now) c.args.words.now c.args.env c.args.dir c.args.budget (sym c.first_process-proc.ensures.budget ∙ c.if-not-take_unit.ensures.spent refl)).parses

pub returns-then-not-take_unit-clause-cause : goal.returns-then-not-take_unit-clause-cause
returns-then-not-take_unit-clause-cause g c =
    (called_spent (g.W.World.seen c.args.world.now) c.args.words.now c.args.env c.args.dir c.args.budget (sym c.first_process-proc.ensures.budget ∙ c.if-not-take_unit.ensures.spent refl)).cause

pub returns-then-not-take_unit-clause-told : goal.returns-then-not-take_unit-clause-told
returns-then-not-take_unit-clause-told g c =
    (called_spent (g.W.World.seen c.args.world.now) c.args.words.now c.args.env c.args.dir c.args.budget (sym c.first_process-proc.ensures.budget ∙ c.if-not-take_unit.ensures.spent refl)).told

pub returns-then-not-take_unit-clause-run : goal.returns-then-not-take_unit-clause-run
returns-then-not-take_unit-clause-run g c =
    (called_spent (g.W.World.seen c.args.world.now) c.args.words.now c.args.env c.args.dir c.args.budget (sym c.first_process-proc.ensures.budget ∙ c.if-not-take_unit.ensures.spent refl)).run

pub returns-then-not-take_unit-clause-spent : goal.returns-then-not-take_unit-clause-spent
returns-then-not-take_unit-clause-spent g c =
    (called_spent (g.W.World.seen c.args.world.now) c.args.words.now c.args.env c.args.dir c.args.budget (sym c.first_process-proc.ensures.budget ∙ c.if-not-take_unit.ensures.spent refl)).spent

pub returns-clause-parses : goal.returns-clause-parses
returns-clause-parses g c =
    (called_from c.args.words.now c.args.env c.args.dir c.args.budget c.run_parsed.result (state_of c.take_unit.new.proc) c.take_unit.new.proc.budget
    (subst (λ (units : ℕ). 0 < units) c.first_process-proc.ensures.budget (c.if-not-take_unit.ensures.taken refl)) (c.take_unit.ensures.state ∙ c.first_process-proc.ensures.state)
    (c.take_unit.ensures.budget ∙ ap (λ n. n - 1) c.first_process-proc.ensures.budget) c.run_parsed.ensures).parses

pub returns-clause-cause : goal.returns-clause-cause
returns-clause-cause g c =
    (called_from c.args.words.now c.args.env c.args.dir c.args.budget c.run_parsed.result (state_of c.take_unit.new.proc) c.take_unit.new.proc.budget
    (subst (λ (units : ℕ). 0 < units) c.first_process-proc.ensures.budget (c.if-not-take_unit.ensures.taken refl)) (c.take_unit.ensures.state ∙ c.first_process-proc.ensures.state)
    (c.take_unit.ensures.budget ∙ ap (λ n. n - 1) c.first_process-proc.ensures.budget) c.run_parsed.ensures).cause

pub returns-clause-told : goal.returns-clause-told
returns-clause-told g c =
    (called_from c.args.words.now c.args.env c.args.dir c.args.budget c.run_parsed.result (state_of c.take_unit.new.proc) c.take_unit.new.proc.budget
    (subst (λ (units : ℕ). 0 < units) c.first_process-proc.ensures.budget (c.if-not-take_unit.ensures.taken refl)) (c.take_unit.ensures.state ∙ c.first_process-proc.ensures.state)
    (c.take_unit.ensures.budget ∙ ap (λ n. n - 1) c.first_process-proc.ensures.budget) c.run_parsed.ensures).told

pub returns-clause-run : goal.returns-clause-run
returns-clause-run g c =
    (called_from c.args.words.now c.args.env c.args.dir c.args.budget c.run_parsed.result (state_of c.take_unit.new.proc) c.take_unit.new.proc.budget
    (subst (λ (units : ℕ). 0 < units) c.first_process-proc.ensures.budget (c.if-not-take_unit.ensures.taken refl)) (c.take_unit.ensures.state ∙ c.first_process-proc.ensures.state)
    (c.take_unit.ensures.budget ∙ ap (λ n. n - 1) c.first_process-proc.ensures.budget) c.run_parsed.ensures).run

pub returns-clause-spent : goal.returns-clause-spent
returns-clause-spent g c =
    (called_from c.args.words.now c.args.env c.args.dir c.args.budget c.run_parsed.result (state_of c.take_unit.new.proc) c.take_unit.new.proc.budget
    (subst (λ (units : ℕ). 0 < units) c.first_process-proc.ensures.budget (c.if-not-take_unit.ensures.taken refl)) (c.take_unit.ensures.state ∙ c.first_process-proc.ensures.state)
    (c.take_unit.ensures.budget ∙ ap (λ n. n - 1) c.first_process-proc.ensures.budget) c.run_parsed.ensures).spent
