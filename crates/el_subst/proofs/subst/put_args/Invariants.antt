use Rattle.std.proofs.Common.{◌≡◌, ◌+◌, ◌++◌, length}
use Rattle.el_subst.specs.Pairs.{numbered}
use Rattle.el_subst.proofs.subst.put_args.Given as goal

abbrev pub invariant-loop-place : goal.invariant-loop-place
invariant-loop-place l =
    (l.place + length l.arg-iterator ≡ length l.args)
    × (l.pairs.items ++ numbered (l.place + 1) 0 l.arg-iterator ≡ l.fn.pairs.items ++ numbered 1 0 l.args)
