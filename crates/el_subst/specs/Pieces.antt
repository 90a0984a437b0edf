-- Pieces of a word, and what they may become. Only the code's contracts need it.
use Rattle.std.specs.Prelude.{ℕ, ◌%◌, ◌==◌, List, [], ◌∷◌, map, if◌then◌else◌}
use Rattle.el_subst.specs.declared.piece.Piece.{Piece}
use Rattle.el_subst.specs.declared.piece.Piece.TheVariants.{Literal, Values}
use Rattle.el_subst.specs.Parts.{parts_of}
use Rattle.el_subst.specs.Values.{Pairs, choices}

-- what a piece may become
abbrev pub piece_choices : Piece → List (List ℕ)
piece_choices (Literal text) = text ∷ []
piece_choices (Values words) = words.now

-- what each piece may become
abbrev pub choices_of : List Piece → List (List (List ℕ))
choices_of pieces = map piece_choices pieces

-- what each part of a word may become
abbrev pub part_choices : Pairs → List ℕ → List (List (List ℕ))
part_choices pairs word = map (choices pairs) (parts_of word)

-- what comes in place of a reference with a pair, behind half of its backslashes
abbrev pub replaced : (slashes : ℕ) → (text : List ℕ) → (values : List (List ℕ)) → List (List ℕ)
replaced slashes text values = if slashes % 2 == 1 then text ∷ [] else values
