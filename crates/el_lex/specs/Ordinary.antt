-- Bytes that only stand for themselves, by where they stand. Only the code's contracts need it.
use Rattle.std.specs.Prelude.{ℕ, Bool, not, ◌||◌, List, [], ◌∷◌, if◌then◌else◌}
use Rattle.el_lex.specs.declared.ordinary.Inside.{Inside}
use Rattle.el_lex.specs.declared.ordinary.Inside.TheVariants.{Comment, Word, Quotes}
use Rattle.el_lex.specs.Bytes.{is_one_of, is_whitespace}

-- the byte is neither an end, a fault nor the beginning of a piece there, and no newline
abbrev pub is_ordinary : Inside → ℕ → Bool
is_ordinary Comment byte = not (is_one_of (0 ∷ 10 ∷ []) byte)
is_ordinary Word byte = not (is_one_of (0 ∷ 34 ∷ 92 ∷ []) byte || is_whitespace byte)
is_ordinary Quotes byte = not (is_one_of (0 ∷ 10 ∷ 34 ∷ 92 ∷ []) byte)

-- the longest run of such bytes in front of a text
abbrev pub ordinary_run : Inside → List ℕ → List ℕ
ordinary_run inside [] = []
ordinary_run inside (byte ∷ bytes) = if is_ordinary inside byte then byte ∷ ordinary_run inside bytes else []
