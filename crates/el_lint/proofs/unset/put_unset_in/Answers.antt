use Rattle.el_lint.specs.KnownTold.{known_told}
use Rattle.el_lint.proofs.Unsetting.{unset-next, unset-done}
use Rattle.el_lint.proofs.unset.put_unset_in.Goals as goal

pub loop-found-preserved : goal.loop-found-preserved
loop-found-preserved c =
    let found = c.in-Some.found in
    unset-next (known_told c.args.known.now) c.args.around.now _ _ _ c.loop-found.rest.now found.rest.now found.slashes found.key.now c.in-Some.ensures.some c.loop-found.invariant c.in_ok-put_unset_at.ensures

pub returns : goal.returns
returns c = unset-done (known_told c.args.known.now) c.args.around.now _ _ c.loop-found.rest.now c.in_default.ensures.none c.loop-found.invariant
