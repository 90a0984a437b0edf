use Rattle.std.proofs.Common.{◌≡◌, [], ◌∷◌, ◌++◌}
use Rattle.el_lint.proofs.letters.named.Given as goal

-- the words so far, and those that are left
abbrev pub invariant-loop-option : goal.invariant-loop-option
invariant-loop-option l = l.words ++ l.option-iterator ≡ [] ∷ l.options
