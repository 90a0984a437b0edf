use Rattle.std.proofs.Common.{◌<◌, ◌^◌, length, arith, sym}
use Rattle.std.proofs.lemmas.Result.{err_from_is_err_and}
use Rattle.el_transform.proofs.Filled.{one_more_filled, rest_is_shorter, word-no_nul, fails_here}
use Rattle.el_transform.proofs.netstrings.read_netstrings.Goals as goal

pub returns-in_default-clause-bad : goal.returns-in_default-clause-bad
returns-in_default-clause-bad c =
    let small : length c.args.bytes.now < 2 ^ 64 = omega arith in
    fails_here c.args.bytes.now c.loop-rest.words c.loop-rest.rest.now small (sym c.in_default.ensures) (grind (arith, c.loop-rest-test.ensures)) c.loop-rest.invariant

pub push-requires : goal.push-requires
push-requires c = word-no_nul c.args.bytes.now c.loop-rest.words _ _ _ (sym c.in-Some.ensures) c.loop-rest.invariant c.requires

pub returns-in_err-push-clause-bad : goal.returns-in_err-push-clause-bad
returns-in_err-push-clause-bad c = let p = err_from_is_err_and c.from_residual.result c.from_residual.ensures.1 in rw (p.1, p.2) tt

pub loop-rest-smaller : goal.loop-rest-smaller
loop-rest-smaller c = rest_is_shorter _ _ _ (sym c.in-Some.ensures)

pub loop-rest-preserved : goal.loop-rest-preserved
loop-rest-preserved c =
    one_more_filled c.args.bytes.now c.loop-rest.words _ c.in-Some.netstring.word.now _ _ (sym c.in-Some.ensures) c.in_ok-push.ensures.ok c.loop-rest.invariant
