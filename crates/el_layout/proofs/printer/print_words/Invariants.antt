use Rattle.std.proofs.Common.{◌≡◌, ◌++◌}
use Rattle.el_layout.specs.Layout.{words_layout}
use Rattle.el_layout.proofs.printer.print_words.Given as goal

-- what is printed, and what is to be printed
abbrev pub invariant-loop-word : goal.invariant-loop-word
invariant-loop-word l = l.out ++ words_layout l.word-iterator ≡ l.initial.out ++ words_layout l.words
