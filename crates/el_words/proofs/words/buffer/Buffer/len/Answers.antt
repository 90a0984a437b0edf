use Rattle.std.proofs.Common.{arith}
use Rattle.el_words.proofs.Slices.{length-value, sum_by-value}
use Rattle.el_words.proofs.words.buffer.Buffer.len.Goals as goal

pub returns-clause-count : goal.returns-clause-count
returns-clause-count c = omega (arith, length-value _ _ _ c.self.invariant.0 _ c.self.view_is)

pub returns-clause-few : goal.returns-clause-few
returns-clause-few c = omega (arith, length-value _ _ _ c.self.invariant.0 _ c.self.view_is)

pub returns-clause-bounded : goal.returns-clause-bounded
returns-clause-bounded c = omega (arith, sum_by-value _ _ _ c.self.invariant.0 _ c.self.view_is)
