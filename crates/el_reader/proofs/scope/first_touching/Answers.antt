use Rattle.std.proofs.Common.{arith}
use Rattle.el_subst.specs.Parts.{parts_of}
use Rattle.el_reader.proofs.Indexes.{within-length}
use Rattle.el_reader.proofs.Scopes.{touching, touching-none, touching-next}
use Rattle.el_reader.proofs.scope.first_touching.Goals as goal

pub loop-found-init : goal.loop-found-init
loop-found-init c = let within = within-length (touching (parts_of c.args.text.now)) c.args.members.now in (omega (arith, c.len-first.ensures), omega (arith, c.len-first.ensures, within))

pub loop-found-preserved : goal.loop-found-preserved
loop-found-preserved c =
    let found = c.in-Some.found in
    let next = touching-next c.args.members.now c.loop-found.rest.now found.rest.now found.slashes found.key.now c.in-Some.ensures.some in
    (omega (arith, c.loop-found.invariant.0, c.min-first.ensures), omega (arith, c.loop-found.invariant.1, next, c.first_marking.ensures, c.min-first.ensures))

pub returns : goal.returns
returns c = omega (arith, c.loop-found.invariant.0, c.loop-found.invariant.1, touching-none c.args.members.now c.loop-found.rest.now c.in_default.ensures.none)
