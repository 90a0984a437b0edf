use Rattle.std.proofs.Common.{◌≡◌, ◌++◌}
use Rattle.std.specs.Slice.Iter.{iter_rest}
use Rattle.el_lint.specs.Keys.{keys_in}
use Rattle.el_lint.proofs.keys.keys_in.Given as goal

-- the keys so far, and those of the tokens that are left
abbrev pub invariant-loop-token : goal.invariant-loop-token
invariant-loop-token l = l.keys.items ++ keys_in (iter_rest l.token-iterator) ≡ keys_in l.tokens
