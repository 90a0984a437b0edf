use Rattle.std.proofs.Common.{◌∙◌}
use Rattle.std.proofs.lemmas.Result.{IfOk-weaker}
use Rattle.el_app.proofs.Sampling.{foreground_is}
use Rattle.el_app.proofs.samples.foreground_line.Goals as goal

pub returns : goal.returns
returns c = IfOk-weaker c.from_slice.result _ _ (λ copy is. is ∙ c.as_bytes.ensures.value ∙ c.in_ok-text.ensures.ok ∙ foreground_is c.args.line) c.from_slice.ensures
