use Rattle.std.proofs.Common.{◌∙◌}
use Rattle.std.proofs.lemmas.Result.{IfOk-weaker}
use Rattle.el_app.proofs.Sampling.{define_is}
use Rattle.el_app.proofs.samples.define_line.Goals as goal

pub returns : goal.returns
returns c = IfOk-weaker c.from_slice.result _ _ (λ copy is. is ∙ c.as_bytes.ensures.value ∙ c.in_ok-text.ensures.ok ∙ define_is c.args.line) c.from_slice.ensures
