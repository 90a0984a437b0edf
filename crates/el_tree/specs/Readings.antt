-- Reading tokens from one beginning to another without a fault, and what is read in the end. Only laws and proofs need it.
use Rattle.std.specs.Prelude.{◌≡◌, List, [], ◌∷◌, None, Some}
use Rattle.el_blocks.specs.Tokens.{TokenShape}
use Rattle.el_tree.specs.Trees.{Tree}
use Rattle.el_tree.specs.WellFormed.{IsWellFormed}
use Rattle.el_tree.specs.Accepted.{IsAccepted}
use Rattle.el_tree.specs.Beginnings.{Beginning, TestScope}
use Rattle.el_tree.specs.Faults.{fault_after}
use Rattle.el_tree.specs.Steps.{push, next_shape, Fits}

-- these tokens are read one after the other, none of them is wrong, and they lead from one beginning to the other
abbrev pub ReadsTokens : TestScope → (from : Beginning) → List TokenShape → (to : Beginning) → Type 0
ReadsTokens scope from [] to = from ≡ to
ReadsTokens scope from (token ∷ tokens) to = (fault_after scope from (next_shape token) ≡ None) × Fits token from.around × ReadsTokens scope (push from token) tokens to

-- a tree as it is asked for: a well-formed one, and where there is a scope an accepted one
abbrev pub IsTreeIn : TestScope → Tree → Type 0
IsTreeIn None tree = IsWellFormed tree
IsTreeIn (Some members) tree = IsAccepted members tree
