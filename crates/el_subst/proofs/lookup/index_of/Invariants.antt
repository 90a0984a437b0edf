use Rattle.el_subst.proofs.Lookups.{IsIndexFrom}
use Rattle.el_subst.proofs.lookup.index_of.Given as goal

abbrev pub invariant-loop-place : goal.invariant-loop-place
invariant-loop-place l = IsIndexFrom l.pairs l.place l.index.entries
