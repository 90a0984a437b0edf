use Rattle.el_script.proofs.Vocabulary.{iter_rest, most, deep-Arg, args_of, args_size}
use Rattle.std.proofs.Common.{◌≡◌, ◌+◌, ◌++◌, ◌≤◌}
use Rattle.el_lint.specs.Lints.{texts_in}
use Rattle.el_lint.specs.Findings.{tokens_in}
use Rattle.el_lint.proofs.texts.Texts.+texts.Given as goal

abbrev pub decreases-put_item : goal.decreases-put_item
decreases-put_item l = goal.size-put_item l

abbrev pub decreases-put_group : goal.decreases-put_group
decreases-put_group l = goal.size-put_group l

-- the words so far and those that are left, and how many tokens they are
abbrev pub invariant-put_group-loop-item : goal.invariant-put_group-loop-item
invariant-put_group-loop-item l = record {
  words : l.self.words ++ texts_in (args_of (iter_rest l.item-iterator)) ≡ l.initial.self.words ++ texts_in l.group;
  tokens : l.self.tokens + tokens_in (args_of (iter_rest l.item-iterator)) ≡ l.initial.self.tokens + tokens_in l.group;
  smaller : most deep-Arg (iter_rest l.item-iterator) ≤ args_size l.group;
}
