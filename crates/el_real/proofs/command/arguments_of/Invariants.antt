use Rattle.std.proofs.Common.{◌≡◌, ◌++◌}
use Rattle.el_real.specs.Commands.{arguments_of, ended}
use Rattle.el_real.proofs.command.arguments_of.Given as goal

-- what is put, and what is to be put
abbrev pub invariant-loop-word : goal.invariant-loop-word
invariant-loop-word l = l.texts.items ++ ended l.word-iterator ≡ ended (arguments_of l.words)
