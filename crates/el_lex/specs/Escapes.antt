-- What the functions that read escapes answer. Only the code's contracts need it.
use Rattle.std.specs.Prelude.{◌≡◌, ℕ, ◌-◌, List, [], ◌∷◌, length, drop, Option, Some, None, Result, Ok}
use Rattle.el_lex.specs.declared.fault.LexKind.{LexKind}
use Rattle.el_lex.specs.Pieces.{Inner, inner_text, inner_value}
use Rattle.el_lex.specs.Scan.{line_after}

-- the byte of an escape, or none, as a list
abbrev pub meant_bytes : Option ℕ → List ℕ
meant_bytes None = []
meant_bytes (Some byte) = byte ∷ []

-- an escape was read that means these bytes, and its text behind the backslash was taken
pub record EscapeRead (answer : Result Inner LexKind) (meant old new : List ℕ) (old_line new_line : ℕ) : Type 0 where
  pub inner : Inner
  pub is_answer : answer ≡ Ok inner
  pub is_meant : inner_value inner ≡ meant
  pub is_rest : drop (length (inner_text inner) - 1) old ≡ new
  pub is_line : line_after old_line (inner_text inner) ≡ new_line
