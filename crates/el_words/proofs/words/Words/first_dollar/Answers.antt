use Rattle.std.proofs.Common.{List, ℕ, length, subst}
use Rattle.memchr.specs.Find.{IsFirst}
use Rattle.el_words.specs.Word.{HoldsByteAt}
use Rattle.el_words.proofs.Buffers.{buffered-value, unbuffered-holds}
use Rattle.el_words.proofs.words.Words.first_dollar.Goals as goal
use Rattle.el_words.proofs.words.Words.first_dollar.Goals.{in-Some, in-None}

pub returns-clause-first : goal.returns-clause-first
returns-clause-first c = elim c.match-self.branch [
  | in-Some w ↦
      let P : List (List ℕ) → Type 0 = λ words. IsFirst (HoldsByteAt words 36) 0 (length words) w.first_dollar.result in
      rw w.result-is (subst P (buffered-value _ _ _ _ c.self.view_is w.in-Some.is w.deref_mut.ensures.value) w.first_dollar.ensures.first)
  | in-None w ↦ rw w.result-is (unbuffered-holds _ _ 36 c.self.view_is w.in-None.is)
]
