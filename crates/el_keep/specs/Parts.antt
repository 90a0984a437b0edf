-- A text cut into gaps and words. Only the code's contracts need it.
use Rattle.std.specs.Prelude.{ℕ, Bool, true, false, not, ◌==◌, List, [], ◌∷◌, length, drop, if◌then◌else◌}
use Rattle.el_lex.specs.Bytes.{is_whitespace}
use Rattle.el_keep.specs.declared.place.Place.{Place}
use Rattle.el_keep.specs.declared.place.Place.TheVariants.{Gap, Comment, Word, Escape, Quotes, QuotedEscape}

-- behind a byte that stands in no quotes, no comment and behind no backslash: quote (34), backslash (92)
abbrev pub word_place : (byte : ℕ) → Place
word_place byte = if is_whitespace byte then Gap else (if byte == 34 then Quotes else (if byte == 92 then Escape else Word))

-- behind the next byte: hash (35), newline (10)
abbrev pub next_place : Place → (byte : ℕ) → Place
next_place Gap byte = if byte == 35 then Comment else word_place byte
next_place Comment byte = if byte == 10 then Gap else Comment
next_place Word byte = word_place byte
next_place Escape byte = Word
next_place Quotes byte = if byte == 34 then Word else (if byte == 92 then QuotedEscape else Quotes)
next_place QuotedEscape byte = Quotes

-- between words
abbrev pub is_between : Place → Bool
is_between Gap = true
is_between Comment = true
is_between _ = false

-- between words, or within one
abbrev pub is_in : (between : Bool) → Place → Bool
is_in between place = if between then is_between place else not (is_between place)

-- the longest run in front that stands there, behind a place
abbrev pub run_from : (between : Bool) → Place → List ℕ → List ℕ
run_from between place [] = []
run_from between place (byte ∷ bytes) = if is_in between (next_place place byte) then byte ∷ run_from between (next_place place byte) bytes else []

-- the whitespace and the comments in front
abbrev pub gap_in : List ℕ → List ℕ
gap_in bytes = run_from true Gap bytes

-- what is behind them
abbrev pub behind_gap : List ℕ → List ℕ
behind_gap bytes = drop (length (gap_in bytes)) bytes

-- the first word
abbrev pub word_in : List ℕ → List ℕ
word_in bytes = run_from false Gap (behind_gap bytes)

-- what is behind it
abbrev pub rest_in : List ℕ → List ℕ
rest_in bytes = drop (length (word_in bytes)) (behind_gap bytes)
