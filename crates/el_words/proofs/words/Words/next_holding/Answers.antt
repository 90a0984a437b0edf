use Rattle.std.proofs.Common.{List, ℕ, length, subst}
use Rattle.memchr.specs.Find.{IsFirst}
use Rattle.el_words.specs.Word.{HoldsByteAt}
use Rattle.el_words.proofs.Buffers.{buffered-value}
use Rattle.el_words.proofs.words.Words.next_holding.Goals as goal

pub returns-in-Some-clause-first : goal.returns-in-Some-clause-first
returns-in-Some-clause-first c =
    let P : List (List ℕ) → Type 0 = λ words. IsFirst (HoldsByteAt words c.args.byte) c.args.from (length words) c.next_holding.result in
    subst P (buffered-value _ _ _ _ c.self.view_is c.in-Some.is c.deref.ensures) c.next_holding.ensures.first
