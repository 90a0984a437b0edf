-- Words in the making. Only the code's contracts need it.
use Rattle.std.specs.Prelude.{ℕ, List}

-- the words so far, how many more there is room for, and for how many bytes of them
pub record Filling : Type 0 where
  pub words : List (List ℕ)
  pub spare_words : ℕ
  pub spare_bytes : ℕ
