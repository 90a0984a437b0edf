use Rattle.std.proofs.Common.{ℕ, List, subst}
use Rattle.el_getopt.proofs.Removing.{IsRemoving, none_removed, one_removed, all_removed}
use Rattle.el_getopt.proofs.environment.remove_options.Goals as goal

pub loop-name-init : goal.loop-name-init
loop-name-init c = rw (c.into_iter-name-iterator.ensures.into_iter_gives.0, c.in_ok-name-items.ensures) (none_removed _)

pub loop-name-preserved : goal.loop-name-preserved
loop-name-preserved c =
    rw c.remove_option.ensures
    (one_removed c.args.env.now c.loop-name.env c.in-Some.name.now c.next.new.self
    (subst (λ (names : List (List ℕ)). IsRemoving c.args.env.now c.loop-name.env names) c.in-Some.ensures.steps.0 c.loop-name.invariant))

pub returns : goal.returns
returns c =
    all_removed c.args.env.now c.loop-name.env
    (subst (λ (names : List (List ℕ)). IsRemoving c.args.env.now c.loop-name.env names) c.in-None.ensures.steps.0.0 c.loop-name.invariant)
