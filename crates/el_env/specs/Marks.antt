-- The marks of names. This file is the code's own: a contract sees the names and values of variables alone.
use Rattle.std.specs.Prelude.{◌≡◌, ℕ, ◌+◌, ◌-◌, ◌*◌, ◌/◌, ◌%◌, ◌==◌, Bool, false, List, length, slice_index_or, None, if◌then◌else◌}
use Rattle.el_env.specs.Inherited.{value_in}

-- how many marks there are
abbrev pub mark_count : ℕ
mark_count = 2048

-- the mark of a name: one of 64 for the sum of its length and the byte in its middle, and one of 32 for its last byte
unfoldable pub mark : List ℕ → ℕ
mark name = if length name == 0 then 0 else (length name + slice_index_or name (length name / 2) 0) % 64 * 32 + slice_index_or name (length name - 1) 0 % 32

-- whether the name's mark is set: a one stands for it, and so does a mark that isn't kept
abbrev pub is_marked : (flags : List ℕ) → List ℕ → Bool
is_marked flags name = slice_index_or flags (mark name) 1 == 1

-- a name without its mark has no variable
pub record AreMarked (flags : List ℕ) (pairs : List (List ℕ × List ℕ)) : Type 0 where
  pub unmarked : (name : List ℕ) → is_marked flags name ≡ false → value_in name pairs ≡ None
