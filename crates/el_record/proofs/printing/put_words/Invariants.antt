use Rattle.std.proofs.Common.{◌≡◌, ℕ, List, ◌++◌}
use Rattle.el_record.specs.TraceText.{each_before, words_before}
use Rattle.el_record.proofs.printing.put_words.Given as goal

-- what is printed, and what is to be printed
abbrev pub invariant-loop-word : goal.invariant-loop-word
invariant-loop-word l = (rest : List ℕ) → l.out ++ each_before l.word-iterator rest ≡ l.fn.out ++ words_before l.words rest
