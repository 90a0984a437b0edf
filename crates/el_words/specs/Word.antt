-- Words.
use Rattle.std.specs.Prelude.{ℕ, List, [], Option, Contains, IfSome, slice_index_or}
use Rattle.std.specs.Borrow.{Bor}
use Rattle.std.specs.Iterator.{YieldsFirstRef}

-- a NUL byte stands in these bytes
abbrev pub HasNul : List ℕ → Type 0
HasNul bytes = Contains bytes 0

-- the word at a place holds this byte
abbrev pub HoldsByteAt : List (List ℕ) → (byte place : ℕ) → Type 0
HoldsByteAt words byte place = Contains (slice_index_or words place []) byte

-- a step through a list of words gives the first that is left, which holds no NUL, and leaves the others; or none is left
abbrev pub YieldsFirstWord : List (List ℕ) → Option (Bor (List ℕ)) → List (List ℕ) → Type 0
YieldsFirstWord old result new = YieldsFirstRef (λ rest. rest) old result new × IfSome result (λ word. HasNul word.now → ⊥)
