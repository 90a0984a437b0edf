use Rattle.std.proofs.Common.{ap, length, All, subst}
use Rattle.std.proofs.iter.runs.Sources.{from_front}
use Rattle.el_words.specs.Word.{HasNul, YieldsFirstWord}
use Rattle.el_words.proofs.Buffers.{buffered-value}
use Rattle.el_words.proofs.words.Words.iter.Goals as goal

pub returns-in-Some-clause-no_nul : goal.returns-in-Some-clause-no_nul
returns-in-Some-clause-no_nul c = subst (All (λ word. HasNul word → ⊥)) (buffered-value _ _ _ _ c.self.view_is c.in-Some.is c.deref.ensures) c.iter.ensures.no_nul

pub returns-in-None-clause-runs : goal.returns-in-None-clause-runs
returns-in-None-clause-runs c = from_front YieldsFirstWord (λ word. word.now) (λ rest. rest) (λ s t h. ap length h.0.0) (λ s word t h. h.0)
