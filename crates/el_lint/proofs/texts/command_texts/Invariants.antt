use Rattle.el_script.proofs.Vocabulary.{iter_rest, args_of}
use Rattle.std.proofs.Common.{◌≡◌, ◌+◌, ◌++◌}
use Rattle.el_lint.specs.Lints.{texts_in}
use Rattle.el_lint.specs.Findings.{tokens_in}
use Rattle.el_lint.proofs.texts.command_texts.Given as goal

-- the words so far and those that are left, and how many tokens they are
abbrev pub invariant-loop-item : goal.invariant-loop-item
invariant-loop-item l = record {
  words : l.texts.words ++ texts_in (args_of (iter_rest l.item-iterator)) ≡ texts_in l.args;
  tokens : l.texts.tokens + tokens_in (args_of (iter_rest l.item-iterator)) ≡ tokens_in l.args;
}
