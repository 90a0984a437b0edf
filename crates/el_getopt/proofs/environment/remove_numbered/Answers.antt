use Rattle.std.proofs.Common.{◌∙◌}
use Rattle.el_vars.proofs.Removals.{none_removed, one_removed, all_removed}
use Rattle.el_getopt.proofs.environment.remove_numbered.Goals as goal

pub loop-place-init : goal.loop-place-init
loop-place-init c = none_removed _ _ _

pub loop-place-preserved : goal.loop-place-preserved
loop-place-preserved c =
    one_removed _ _ _ _ _ _ _ c.loop-place-test.true (c.as_bytes-in-loop-place.ensures.same ∙ c.in_ok-put_u64.ensures.text) c.unset.ensures c.loop-place.invariant

pub returns : goal.returns
returns c = all_removed _ _ _ _ _ c.loop-place-test.false c.loop-place.invariant
