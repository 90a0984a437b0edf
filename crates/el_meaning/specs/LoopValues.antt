-- The values that forstdin and forbacktickx make of their input.
use Rattle.std.specs.Prelude.{◌≡◌, ℕ, List, [], ◌∷◌, ◌++◌, codes, if◌then◌else◌}
use Rattle.std.specs.List.{concat}
use Rattle.std.specs.FinSet as set
use Rattle.el_transform.specs.Crunching.{Delimiters, crunched}
use Rattle.el_transform.specs.Splitting.{Splits}
use Rattle.el_front.specs.Reads.{Read, has}
use Rattle.el_loops.specs.Values.{delimiters_of, values_in, ended_values, new_values, last_values}

-- the bytes that end a value, as a set
abbrev pub delimiters_in : Read → Delimiters
delimiters_in read = set.from_list (delimiters_of read)

-- the values of an input are its splitting at the delimiters, crunched under `C`
abbrev pub ValuesAreSplit : Type 0
ValuesAreSplit = (read : Read) (input : List ℕ) → Splits (delimiters_in read) (if has (codes "C") read then crunched (delimiters_in read) input else input) (values_in read input)

-- the values of which turns are made, in order, where the input comes in these pieces behind bytes that were read
abbrev pub turned_values : Read → (before : List ℕ) → (pieces : List (List ℕ)) → List (List ℕ)
turned_values read before [] = last_values read before
turned_values read before (piece ∷ pieces) = new_values read before piece ++ turned_values read (before ++ piece) pieces

-- they are the values of the whole input, whatever its pieces
abbrev pub PiecesSayNothing : Type 0
PiecesSayNothing = (read : Read) (pieces : List (List ℕ)) → turned_values read [] pieces ≡ values_in read (concat pieces)

-- the values of which turns are made when these pieces were read behind bytes that were read before, and the next read isn't made yet
abbrev pub values_so_far : Read → (before : List ℕ) → (pieces : List (List ℕ)) → List (List ℕ)
values_so_far read before [] = []
values_so_far read before (piece ∷ pieces) = new_values read before piece ++ values_so_far read (before ++ piece) pieces

-- A turn comes after the read that brings the delimiter of its value, and before the next read: after any reads, turns were made for just
-- the values whose delimiter was read.
abbrev pub TurnsComeInTime : Type 0
TurnsComeInTime = (read : Read) (pieces : List (List ℕ)) → values_so_far read [] pieces ≡ ended_values read (concat pieces)
