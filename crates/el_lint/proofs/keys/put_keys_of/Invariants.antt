use Rattle.std.proofs.Common.{◌≡◌, ◌++◌, length}
use Rattle.el_subst.specs.References.{references_of}
use Rattle.el_lint.specs.Keys.{keys_of}
use Rattle.el_lint.proofs.keys.put_keys_of.Given as goal

-- the keys so far, and those of what is left
abbrev pub invariant-loop-found : goal.invariant-loop-found
invariant-loop-found l = l.keys.items ++ keys_of (references_of l.rest) ≡ l.initial.keys.items ++ keys_of (references_of l.text)

abbrev pub decreases-loop-found : goal.decreases-loop-found
decreases-loop-found l = length l.rest
