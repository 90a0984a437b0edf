use Rattle.std.proofs.Common.{◌≡◌, take, map as mapped}
use Rattle.el_env.specs.Variable.{pair_of}
use Rattle.el_env.specs.Places.{pairs_at}
use Rattle.el_env.proofs.env.inherited.Inherited.lend.Given as goal

abbrev pub invariant-loop-place : goal.invariant-loop-place
invariant-loop-place l = mapped pair_of l.lent.items ≡ pairs_at l.self-inside.bytes.items (take l.place-index l.place-items)
