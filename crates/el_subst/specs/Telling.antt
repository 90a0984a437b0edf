-- Bytes by which a word shows that a substitution may change it. Only the code needs them.
use Rattle.std.specs.Prelude.{◌≡◌, ◌⊎◌, ℕ, ◌==◌, false, List, [], ◌∷◌, Contains}

-- none of the bytes is this one
abbrev pub Lacks : (byte : ℕ) → List ℕ → Type 0
Lacks byte [] = Unit {0}
Lacks byte (first ∷ bytes) = ((first == byte) ≡ false) × Lacks byte bytes

-- a byte of the key, or `$` (36)
abbrev pub IsTelling : (key : List ℕ) → (byte : ℕ) → Type 0
IsTelling key byte = (byte ≡ 36) ⊎ Contains key byte
