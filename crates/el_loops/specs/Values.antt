-- The values of an input, and a turn for each.
use Rattle.el_room.specs.Vocabulary.{list_any, Rules, listed_rules, Fault, Handle, read_act, gives, ends, takes, and_then, and_go_on, Spent, Task, NulInput, Failed, most_units, has_nul, before_nul, Read, has, value_of}
use Rattle.std.specs.Prelude.{ℕ, suc, zero, Bool, false, true, List, [], ◌∷◌, ◌++◌, length, drop, Option, None, Some, Result, Ok, Err, codes, if◌then◌else◌}
use Rattle.el_transform.specs.Computed.{prepared_by, split_behind}
use Rattle.el_loops.specs.declared.turn.Turn.{Turn}
use Rattle.el_loops.specs.Turns.{Looping, turns, breaking_off}

-- ---- values

-- the bytes that are given; without any, space, newline, carriage return and tab
abbrev pub delimiters_by : Option (List ℕ) → List ℕ
delimiters_by None = codes " \n\r\t"
delimiters_by (Some []) = codes " \n\r\t"
delimiters_by (Some (byte ∷ bytes)) = byte ∷ bytes

-- space, newline, carriage return and tab, unless `d` gives others; the front has refused an empty value
abbrev pub delimiters_of : Read → List ℕ
delimiters_of read = delimiters_by (value_of (codes "d") read)

-- `C` crunches; an input is split, and nothing is chomped
abbrev pub rules_of : Read → Rules
rules_of read = listed_rules (has (codes "C") read) false true (delimiters_of read)

-- the values of an input
abbrev pub values_in : Read → (input : List ℕ) → List (List ℕ)
values_in read input = let rules = rules_of read in split_behind rules.ends_word [] (prepared_by rules input)

-- the bytes up to the last one that passes the test, with it
abbrev pub through_last : (ℕ → Bool) → List ℕ → List ℕ
through_last test [] = []
through_last test (byte ∷ bytes) = if list_any test (byte ∷ bytes) then byte ∷ through_last test bytes else []

-- those whose delimiter was read
abbrev pub ended_values : Read → (input : List ℕ) → List (List ℕ)
ended_values read input = let rules = rules_of read in values_in read (through_last rules.ends_word input)

-- those that end in a piece: the ones whose delimiter was read, less those that ended before it
abbrev pub new_values : Read → (before piece : List ℕ) → List (List ℕ)
new_values read before piece = drop (length (ended_values read before)) (ended_values read (before ++ piece))

-- at the end of the input: all, less those that ended before
abbrev pub last_values : Read → (input : List ℕ) → List (List ℕ)
last_values read input = drop (length (ended_values read input)) (values_in read input)

-- ---- turns

-- a turn for each value; a NUL behind them ends the process
unfoldable pub used : Looping → (made : List Turn) → (values : List (List ℕ)) → (nul : Bool) → Task (List Turn)
used looping made values nul = and_then (turns looping made values) (λ made. if nul then breaking_off looping NulInput else gives made)

-- behind a read: turns for the values that end in the piece, up to a NUL in it; or at the end of the input for the bytes that are left
abbrev pub after_read : Looping → (next : (before : List ℕ) → (made : List Turn) → Task (List Turn)) → (before : List ℕ) → (made : List Turn) → Result (List ℕ) Fault → Task (List Turn)
after_read looping next before made (Ok []) = turns looping made (last_values looping.read before)
after_read looping next before made (Ok (byte ∷ bytes)) =
    let piece = byte ∷ bytes in and_then (used looping made (new_values looping.read before (before_nul piece)) (has_nul piece)) (next (before ++ piece))
after_read looping next before made (Err fault) = breaking_off looping Failed

-- behind these bytes and turns at most so many reads, with a unit before each
unfoldable pub turns_behind : (reads : ℕ) → Looping → Handle → (before : List ℕ) → (made : List Turn) → Task (List Turn)
turns_behind zero looping handle before made = ends (Spent looping.state)
turns_behind (suc reads) looping handle before made =
    takes (Spent looping.state) (and_go_on (read_act handle) (after_read looping (λ before made. turns_behind reads looping handle before made) before made))

-- the turns for all values of what a handle gives, of which those under `p` weren't waited for
unfoldable pub turns_over : Looping → Handle → Task (List Turn)
turns_over looping handle = turns_behind most_units looping handle [] []
