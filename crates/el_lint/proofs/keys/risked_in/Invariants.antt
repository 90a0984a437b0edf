use Rattle.std.proofs.Common.{◌≡◌, ◌++◌, false}
use Rattle.std.specs.Slice.Iter.{iter_rest}
use Rattle.el_lint.specs.Keys.{risked_from}
use Rattle.el_lint.proofs.keys.risked_in.Given as goal

-- the keys so far, and those of the tokens that are left
abbrev pub invariant-loop-token : goal.invariant-loop-token
invariant-loop-token l = l.keys.items ++ risked_from l.is_behind (iter_rest l.token-iterator) ≡ risked_from false l.tokens
