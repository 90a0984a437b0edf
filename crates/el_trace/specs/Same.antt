-- Names and values that are compared. Only the code's contracts need it.
use Rattle.std.specs.Prelude.{ℕ, Bool, ◌&&◌, List}
use Rattle.std.specs.Str.{bytes_eq}

-- the names are the same, and so are the values
abbrev pub same_pair : List ℕ × List ℕ → List ℕ × List ℕ → Bool
same_pair one other = bytes_eq one.0 other.0 && bytes_eq one.1 other.1
