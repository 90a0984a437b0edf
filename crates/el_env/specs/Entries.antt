-- The stored variables. Only the code's contracts need it.
use Rattle.std.specs.Prelude.{ℕ, List, [], ◌∷◌, Vec}
use Rattle.std.specs.declared.alloc.Global.{Global}

-- stored entries, by the bytes of their names
abbrev pub named : List (Vec ℕ Global × List ℕ) → List (List ℕ × List ℕ)
named [] = []
named (entry ∷ entries) = (entry.0.items, entry.1) ∷ named entries
