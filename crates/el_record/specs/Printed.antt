-- What is printed. Only the code's contracts need it.
use Rattle.std.specs.Prelude.{◌≡◌, ℕ, List, ◌++◌}

-- bytes with a text behind, before whatever follows
pub record Puts (old new : List ℕ) (text : List ℕ → List ℕ) : Type 0 where
  pub behind : (rest : List ℕ) → new ++ rest ≡ old ++ text rest
