use Rattle.el_glob.proofs.Lists.{Went}
use Rattle.el_glob.proofs.globbing.fitting.Given as goal

abbrev pub invariant-loop-path : goal.invariant-loop-path
invariant-loop-path g l = Went l.dir l.component l.paths (g.L.Lister.seen l.initial.lister) (g.L.Lister.seen l.lister) l.path-iterator l.found
