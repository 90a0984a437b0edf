-- What a `$` begins, as the code reads it. Only the code's contracts need it.
use Rattle.std.specs.Prelude.{ℕ, List, Option, Some, None}
use Rattle.el_subst.specs.declared.reference.Reference.{Reference}
use Rattle.el_subst.specs.Parts.{FoundKey, found_after}
use Rattle.el_subst.specs.Values.{Pairs, words_of}

-- a reference that was read, as its key and the number of its bytes
abbrev pub found_of : Reference → List ℕ × ℕ
found_of reference = (reference.key.now, reference.length)

-- how many bytes belong to a reference, and the words of its pair
abbrev pub pair_of : Pairs → FoundKey → ℕ × Option (List (List ℕ))
pair_of pairs None = (0, None)
pair_of pairs (Some found) = (found.1, words_of pairs found.0)

-- the same for the reference that a `$` begins, by what stands after it
abbrev pub pair_after : Pairs → List ℕ → ℕ × Option (List (List ℕ))
pair_after pairs after = pair_of pairs (found_after after)
