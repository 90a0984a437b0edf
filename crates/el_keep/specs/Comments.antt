-- The comments of a script, by the token that they stand before.
use Rattle.std.specs.Prelude.{ℕ, List, [], ◌∷◌, ◌++◌}
use Rattle.el_lex.specs.Reading.{Item, Blank, Comment, Wordly}

-- for each word and for the end, the comments since the word before, behind those that are there already
abbrev pub comments_from : (before : List (List ℕ)) → List Item → List (List (List ℕ))
comments_from before [] = before ∷ []
comments_from before (Blank byte ∷ items) = comments_from before items
comments_from before (Comment bytes ∷ items) = comments_from (before ++ bytes ∷ []) items
comments_from before (Wordly piece pieces ∷ items) = before ∷ comments_from [] items

-- the comments before each token, and those before the end
abbrev pub comments_of : List Item → List (List (List ℕ))
comments_of items = comments_from [] items
