use Rattle.std.proofs.Common.{arith, ap, eq-eqb, length}
use Rattle.std.proofs.lemmas.Bool.{eqb-true}
use Rattle.std.proofs.lemmas.List.{nil_from_length}
use Rattle.el_words.proofs.Slices.{length-value}
use Rattle.el_words.proofs.words.buffer.Buffer.is_empty.Goals as goal

pub returns : goal.returns
returns c =
    let count = length-value _ _ _ c.self.invariant.0 _ c.self.view_is in (
      λ none. nil_from_length _ (omega (arith, count, eqb-true c.self.inside.first c.len.result none)),
      λ none. eq-eqb c.self.inside.first c.len.result (omega (arith, count, ap length none)),
    )
