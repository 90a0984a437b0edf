-- A text cut behind its first line or word. Only the code's contracts need it.
use Rattle.std.specs.Prelude.{ℕ, suc, Bool, List, [], length, Option, None, Some}
use Rattle.std.specs.Borrow.{Bor}
use Rattle.std.specs.List.{slice_split}

-- the pieces of what stands behind a byte that passes the test, where there is one
abbrev pub pieces_behind : (ℕ → Bool) → Option (Bor (List ℕ)) → List (List ℕ)
pieces_behind test None = []
pieces_behind test (Some rest) = slice_split test rest.now

-- how much that is, by which the proof of a loop counts
abbrev pub size_behind : Option (Bor (List ℕ)) → ℕ
size_behind None = 0
size_behind (Some rest) = suc (length rest.now)
