use Rattle.std.proofs.Common.{◌≡◌, ◌++◌}
use Rattle.el_family.specs.Trees.{words_text}
use Rattle.el_family.proofs.tree.put_words.Given as goal

-- the words so far, and those that are to come
abbrev pub invariant-loop-word : goal.invariant-loop-word
invariant-loop-word l = l.lines ++ words_text l.word-iterator ≡ l.fn.lines ++ words_text l.words
