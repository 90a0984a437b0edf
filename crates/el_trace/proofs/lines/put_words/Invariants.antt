use Rattle.std.proofs.Common.{◌≡◌, ℕ, List, ◌++◌}
use Rattle.el_trace.specs.Lines.{others_shown, words_shown}
use Rattle.el_trace.proofs.lines.put_words.Given as goal

-- what is shown, and what is to be shown
abbrev pub invariant-loop-word : goal.invariant-loop-word
invariant-loop-word l = (rest : List ℕ) → l.out ++ others_shown l.word-iterator rest ≡ l.fn.out ++ words_shown l.fn.words rest
