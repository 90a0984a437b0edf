use Rattle.std.proofs.Common.{drop}
use Rattle.el_glob.proofs.Lists.{Through}
use Rattle.el_glob.proofs.globbing.through.Given as goal

abbrev pub invariant-loop-part : goal.invariant-loop-part
invariant-loop-part g l = Through l.dir l.parts l.fn.paths (g.L.Lister.seen l.initial.lister) (g.L.Lister.seen l.lister) (drop l.part-index l.parts) l.paths
