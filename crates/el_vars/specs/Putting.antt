-- How a program puts values in the words behind it. Only the code's contracts need it.
use Rattle.el_room.specs.Vocabulary.{words_value, gives, and_then, Task, Left, Way, onward, under, into}
use Rattle.std.specs.Prelude.{ℕ, List, []}

-- the words that are run next where a program has read this rest, and no blocks
abbrev pub left_with : (rest : List (List ℕ)) → Way → Left
left_with rest (onward state) = record { words = rest; state = state }
left_with rest (under pairs state) = record { words = words_value pairs rest; state = state }
left_with rest (into block state) = record { words = []; state = state }

-- the values are put in the rest
unfoldable pub putting_in : (rest : List (List ℕ)) → Task Way → Task Left
putting_in rest task = and_then task (λ way. gives (left_with rest way))
