use Rattle.el_app.proofs.Layouts.{same-tokens}
use Rattle.el_app.proofs.laws.same_tokens_run_alike.Goals as goal

pub returns : goal.returns
returns c = same-tokens
