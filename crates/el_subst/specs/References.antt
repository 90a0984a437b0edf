-- The references of a word, in order. Only the code's contracts need it.
use Rattle.std.specs.Prelude.{ℕ, List, [], ◌∷◌}
use Rattle.el_subst.specs.Parts.{Part, Byte, Reference, parts_of}

-- a reference by the number of backslashes directly before its `$`, and its key
abbrev pub Referred : Type 0
Referred = ℕ × List ℕ

-- the references among parts; literal bytes are passed over
abbrev pub references_in : List Part → List Referred
references_in [] = []
references_in (Byte byte ∷ parts) = references_in parts
references_in (Reference slashes key text ∷ parts) = (slashes, key) ∷ references_in parts

-- the references of a word
abbrev pub references_of : (word : List ℕ) → List Referred
references_of word = references_in (parts_of word)
