use Rattle.std.proofs.Common.{◌≡◌, ◌++◌, map, drop}
use Rattle.el_lint.specs.Sentences.{shown_byte}
use Rattle.el_lint.proofs.sentence.put_shown_bytes.Given as goal

-- what is shown, and what is to be shown
abbrev pub invariant-loop-byte : goal.invariant-loop-byte
invariant-loop-byte l = l.text ++ map shown_byte (drop l.byte-index l.word) ≡ l.initial.text ++ map shown_byte l.word
