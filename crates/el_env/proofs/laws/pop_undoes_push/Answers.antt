use Rattle.el_env.proofs.Frames.{popped-pushed}
use Rattle.el_env.proofs.laws.pop_undoes_push.Goals as goal

pub returns : goal.returns
returns c = popped-pushed
