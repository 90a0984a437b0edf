-- The comments that silence a lint on the line behind them.
use Rattle.el_room.specs.Vocabulary.{list_any, slice_split, starts_with, bytes_eq}
use Rattle.std.specs.Prelude.{ℕ, ◌+◌, Bool, ◌&&◌, ◌||◌, ◌==◌, nat_eq, List, [], ◌∷◌, ◌++◌, Option, None, Some, length, drop, codes, if◌then◌else◌}
use Rattle.el_lint.specs.declared.allowance.Allowance.{Allowance}

-- a space (32) or a tab (9)
abbrev pub is_blank : ℕ → Bool
is_blank byte = (byte == 32) || (byte == 9)

-- what a line says behind its blanks
abbrev pub behind_blanks : List ℕ → List ℕ
behind_blanks [] = []
behind_blanks (byte ∷ bytes) = if is_blank byte then behind_blanks bytes else byte ∷ bytes

-- what such a comment begins with
unfoldable pub allowing : List ℕ
allowing = codes "# ellint: allow "

-- the names behind that, where a line is such a comment
abbrev pub allowed_by : (text : List ℕ) → Option (List ℕ)
allowed_by text = if starts_with nat_eq text allowing then Some (drop (length allowing) text) else None

-- the comment on a line, with its names
abbrev pub allowance_with : (line : ℕ) → Option (List ℕ) → List Allowance
allowance_with line None = []
allowance_with line (Some names) = record { line = line; names = names } ∷ []

-- the comment on a line of this text
abbrev pub allowance_at : (line : ℕ) → (text : List ℕ) → List Allowance
allowance_at line text = allowance_with line (allowed_by (behind_blanks text))

-- those of lines, of which the first has this number
abbrev pub allowances_from : (line : ℕ) → (lines : List (List ℕ)) → List Allowance
allowances_from line [] = []
allowances_from line (text ∷ lines) = allowance_at line text ++ allowances_from (line + 1) lines

-- a newline (10)
abbrev pub is_newline : ℕ → Bool
is_newline byte = byte == 10

-- those of a script
abbrev pub allowances_of : (script : List ℕ) → List Allowance
allowances_of script = allowances_from 1 (slice_split is_newline script)

-- the comment has this name, on the line before
abbrev pub allows : (line : ℕ) → (name : List ℕ) → Allowance → Bool
allows line name allowance = (allowance.line + 1 == line) && list_any (λ part. bytes_eq part name) (slice_split is_blank allowance.names)

-- one of the comments allows it
abbrev pub is_allowed : List Allowance → (line : ℕ) → (name : List ℕ) → Bool
is_allowed allowances line name = list_any (allows line name) allowances
