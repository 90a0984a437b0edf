-- Products by their place. Only the code's contracts need it.
use Rattle.std.specs.Prelude.{ℕ, ◌*◌, ◌/◌, ◌%◌, List, [], ◌∷◌, ◌++◌, length, slice_index_or}

-- the number of products
abbrev pub count_of : List (List (List ℕ)) → ℕ
count_of [] = 1
count_of (choice ∷ choices) = length choice * count_of choices

-- the product at a place, the leftmost choice varying slowest
abbrev pub product_at : List (List (List ℕ)) → ℕ → List ℕ
product_at [] place = []
product_at (choice ∷ choices) place = slice_index_or choice (place / count_of choices) [] ++ product_at choices (place % count_of choices)
