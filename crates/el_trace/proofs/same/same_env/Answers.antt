use Rattle.std.proofs.Common.{ap, ◌∙◌, map as mapped}
use Rattle.el_env.specs.Variable.{pair_of}
use Rattle.el_trace.proofs.Sameness.{same_vars}
use Rattle.el_trace.proofs.same.same_env.Goals as goal

pub returns : goal.returns
returns c =
    same_vars c.args.one.now c.args.other.now _ _ c.same_variables.result (ap (mapped pair_of) c.deref.ensures.value ∙ c.in_ok-ones.ensures) (ap (mapped pair_of) c.deref-2.ensures.value ∙ c.in_ok-others.ensures) c.same_variables.ensures
