use Rattle.el_glob.proofs.Lists.{globs_short_err, nothing_globbed}
use Rattle.el_glob.proofs.globbing.glob.Goals as goal

pub returns-in_err-start : goal.returns-in_err-start
returns-in_err-start g c = globs_short_err c.from_residual.result c.from_residual.ensures.1 (nothing_globbed _ _)
