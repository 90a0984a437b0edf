-- Words without NUL.
use Rattle.std.proofs.Common.{ℕ, suc, ◌<◌, List, [], ◌∷◌, Contains, drop, length, arith}
use Rattle.el_words.specs.Word.{HasNul}
use Rattle.el_app.specs.Names.{base_name}

-- what stands in a last part of a list stands in the list
contains_behind : (count : ℕ) (bytes : List ℕ) (byte : ℕ) → Contains (drop count bytes) byte → Contains bytes byte
contains_behind Prim.Native.Nat.zero bytes byte c = c
contains_behind (suc count) [] byte c = c
contains_behind (suc count) (first ∷ bytes) byte c = let d = contains_behind count bytes byte c in (suc d.0, (let below : d.0 < length bytes = d.1 in omega arith), d.2)

-- a base name holds no NUL where its word holds none
pub base_without_nul : (word : List ℕ) → (HasNul word → ⊥) → HasNul (base_name word) → ⊥
unfolding base_name
base_without_nul word none nul = none (contains_behind _ word 0 nul)
