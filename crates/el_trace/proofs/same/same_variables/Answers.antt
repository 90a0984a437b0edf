use Rattle.std.proofs.Common.{arith, ◌∙◌, sym}
use Rattle.el_env.specs.Variable.{pair_of}
use Rattle.el_trace.specs.Same.{same_pair}
use Rattle.el_trace.proofs.Sameness.{all_same, one_differs, pair-Decides}
use Rattle.el_trace.proofs.same.same_variables.Goals as goal

pub returns-then-not-same_variable : goal.returns-then-not-same_variable
returns-then-not-same_variable c =
    one_differs pair_of same_pair pair-Decides c.args.ones.now c.args.others.now c.loop-place.place c.index-ones-place.result c.index-others-place.result (omega arith) c.loop-place.invariant.0 c.index-ones-place.is c.index-others-place.is
    (sym c.same_variable.ensures ∙ c.if-not-same_variable.true) c.loop-place.invariant.1

pub returns : goal.returns
returns c = all_same pair_of same_pair pair-Decides c.args.ones.now c.args.others.now c.loop-place.place (omega arith) c.loop-place.invariant.0 c.loop-place.invariant.1
