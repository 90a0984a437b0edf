use Rattle.std.proofs.Common.{length}
use Rattle.el_glob.proofs.real_lister.add_names.Given as goal

abbrev pub decreases-loop-rest : goal.decreases-loop-rest
decreases-loop-rest l = length l.rest
