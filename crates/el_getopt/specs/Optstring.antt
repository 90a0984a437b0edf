-- The letters that an optstring names.
use Rattle.el_room.specs.Vocabulary.{list_any, is_ascii_alphanumeric, Opt}
use Rattle.std.specs.Prelude.{ℕ, Bool, true, false, ◌&&◌, not, ◌==◌, List, [], ◌∷◌, if◌then◌else◌}

-- a colon (58) stands first
abbrev pub begins_with_colon : List ℕ → Bool
begins_with_colon [] = false
begins_with_colon (byte ∷ bytes) = byte == 58

-- what stands behind a colon, where one stands first
abbrev pub behind_colon : List ℕ → List ℕ
behind_colon [] = []
behind_colon (byte ∷ bytes) = if byte == 58 then bytes else byte ∷ bytes

-- a letter or a digit, which isn't among the bytes behind it
abbrev pub is_new_letter : (letter : ℕ) → (behind : List ℕ) → Bool
is_new_letter letter behind = is_ascii_alphanumeric letter && not (list_any (λ byte. byte == letter) behind)

-- an optstring: letters and digits, each once, each with or without a colon behind it
abbrev pub is_optstring : List ℕ → Bool
is_optstring [] = true
is_optstring (letter ∷ []) = is_new_letter letter []
is_optstring (letter ∷ next ∷ bytes) = is_new_letter letter (next ∷ bytes) && (if next == 58 then is_optstring bytes else is_optstring (next ∷ bytes))

-- the letters in it, of which those with a colon behind them take a value
abbrev pub letters_in : (optstring : List ℕ) → List Opt
letters_in [] = []
letters_in (byte ∷ bytes) = if byte == 58 then letters_in bytes else record { letter = byte; takes = begins_with_colon bytes } ∷ letters_in bytes
