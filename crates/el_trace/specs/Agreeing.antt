-- How far two lists of events agree.
use Rattle.std.specs.Prelude.{◌≡◌, ℕ, List, [], ◌∷◌}
use Rattle.el_world.specs.declared.event.Event.{Event}

-- the longest beginning that both have has this length
abbrev pub AgreeUpto : (at : ℕ) → (ones others : List Event) → Type 0
AgreeUpto Prim.Native.Nat.zero [] others = Unit {0}
AgreeUpto Prim.Native.Nat.zero (one ∷ ones) [] = Unit {0}
AgreeUpto Prim.Native.Nat.zero (one ∷ ones) (other ∷ others) = one ≡ other → ⊥
AgreeUpto (Prim.Native.Nat.suc at) [] others = ⊥
AgreeUpto (Prim.Native.Nat.suc at) (one ∷ ones) [] = ⊥
AgreeUpto (Prim.Native.Nat.suc at) (one ∷ ones) (other ∷ others) = (one ≡ other) × AgreeUpto at ones others
