-- loopwhilex [-n] [-x codes] prog..
use Rattle.el_room.specs.Vocabulary.{name_text, Loopwhilex, ends, takes, and_then, State, Status, Spent, Task, child, code_of, most_units, Read, has, value_of, Effect, Way}
use Rattle.std.specs.Prelude.{ℕ, zero, suc, ◌==◌, Bool, not, ◌&&◌, codes, if◌then◌else◌}
use Rattle.el_loops.specs.Codes.{is_listed}
use Rattle.el_loops.specs.Turns.{needing_words}

-- the loop goes on behind code 0, and with `n` behind any other; but not behind one that `x` lists
abbrev pub goes_on_behind : Read → (code : ℕ) → Bool
goes_on_behind read code = (if has (codes "n") read then not (code == 0) else code == 0) && not (is_listed (value_of (codes "x") read) code)

-- the last turn's code is the status
abbrev pub after_turn : State → Read → (next : Task Way) → (code : ℕ) → Task Way
after_turn state read next code = if goes_on_behind read code then next else ends (Status code state)

-- at most so many turns, with a unit before each; a turn is a child of the rest
unfoldable pub repeating : (turns : ℕ) → Read → State → Task Way
repeating zero read state = ends (Spent state)
repeating (suc turns) read state = takes (Spent state) (and_then (child state (name_text Loopwhilex) read.rest) (λ ended. after_turn state read (repeating turns read state) (code_of ended)))

-- the rest is run as a child until a code ends the loop; no budget has as many units as the bound on turns
unfoldable pub loopwhilex : Effect
loopwhilex read state = and_then (needing_words Loopwhilex read.rest state) (λ _. repeating most_units read state)
