use Rattle.std.proofs.Common.{arith, ◌∙◌, drop}
use Rattle.std.proofs.lemmas.List.{take_rest}
use Rattle.std.proofs.Common.{ap, length}
use Rattle.std.proofs.iter.runs.Sources.{from_front}
use Rattle.el_words.specs.Word.{YieldsFirstWord}
use Rattle.el_words.proofs.Slices.{length-value, value-no_nul, ends_from}
use Rattle.el_words.proofs.words.buffer.Buffer.iter.Goals as goal

pub new-requires-clause-whole : goal.new-requires-clause-whole
new-requires-clause-whole c =
    let left = take_rest c.deref-2.result.now c.self.inside.first ∙ ap (drop c.self.inside.first) c.deref-2.ensures.value in
    (ends_from _ _ _ c.self.invariant.0 _ c.self.view_is c.start_of.result _ _ _ c.deref-3.ensures.value left c.deref.ensures.value c.start_of.ensures).0

pub returns-clause-rest : goal.returns-clause-rest
returns-clause-rest c =
    let left = take_rest c.deref-2.result.now c.self.inside.first ∙ ap (drop c.self.inside.first) c.deref-2.ensures.value in
    c.new.ensures ∙ (ends_from _ _ _ c.self.invariant.0 _ c.self.view_is c.start_of.result _ _ _ c.deref-3.ensures.value left c.deref.ensures.value c.start_of.ensures).1

pub returns-clause-no_nul : goal.returns-clause-no_nul
returns-clause-no_nul c = value-no_nul _ _ _ c.self.invariant.0 _ c.self.view_is

pub returns-clause-few : goal.returns-clause-few
returns-clause-few c = omega (arith, length-value _ _ _ c.self.invariant.0 _ c.self.view_is)

pub returns-clause-runs : goal.returns-clause-runs
returns-clause-runs c = from_front YieldsFirstWord (λ word. word.now) (λ rest. rest) (λ s t h. ap length h.0.0) (λ s word t h. h.0)
