use Rattle.std.proofs.Common.{◌≡◌, drop}
use Rattle.el_env.specs.Places.{pairs_at}
use Rattle.el_env.specs.Inherited.{value_in}
use Rattle.el_env.proofs.env.inherited.Inherited.position.Given as goal

abbrev pub invariant-loop-at : goal.invariant-loop-at
invariant-loop-at l =
    value_in l.name (pairs_at l.self-inside.bytes.items l.self-inside.places.items) ≡ value_in l.name (pairs_at l.self-inside.bytes.items (drop l.at l.place-items))
