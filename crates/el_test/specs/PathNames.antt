-- What a path means from a directory, as the system is told it. Only the code's contracts need it.
use Rattle.std.specs.Prelude.{ℕ, Bool, true, ◌==◌, ◌||◌, List, [], ◌∷◌, ◌++◌, slice_get, Option, None, Some, codes, if◌then◌else◌}
use Rattle.std.specs.Str.{bytes_eq}

-- by its first byte: it begins at the root, or there is none, and it means nothing
abbrev pub is_rooted : Option ℕ → Bool
is_rooted None = true
is_rooted (Some first) = first == 47

-- the process's own directory is called `.`
unfoldable pub is_told_alone : (dir path : List ℕ) → Bool
is_told_alone dir path = is_rooted (slice_get path 0) || bytes_eq dir (codes ".")

-- the path itself, or behind the directory and a `/`
abbrev pub name_from : (dir path : List ℕ) → List ℕ
name_from dir path = if is_told_alone dir path then path else dir ++ 47 ∷ [] ++ path
