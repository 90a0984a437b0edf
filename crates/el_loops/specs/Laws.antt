-- What holds of the turns of a loop.
use Rattle.el_room.specs.Vocabulary.{words_value, First, the_text}
use Rattle.std.specs.Prelude.{◌≡◌, ℕ, true, List, [], ◌∷◌, length, None}
use Rattle.std.specs.FinMap as map
use Rattle.el_pipes.specs.Putting.{puts_values}
use Rattle.el_loops.specs.Turns.{Looping, turn_words, turn_env}

-- A turn has the words of the rest, in which the loop's word stands for the value: as one word, so that there are as many. It has no
-- variable of that name.
pub record IsPutInPlace (looping : Looping) (value : List ℕ) : Type 0 where
  pub words : turn_words looping.read value ≡ words_value ((the_text First looping.read, value ∷ []) ∷ []) looping.read.rest
  pub count : length (turn_words looping.read value) ≡ length looping.read.rest
  pub unset : map.get (turn_env looping value) (the_text First looping.read) ≡ None

-- under `E` it is so for each value
abbrev pub ValuesArePutInPlace : Type 0
ValuesArePutInPlace = (looping : Looping) (value : List ℕ) → puts_values looping.read ≡ true → IsPutInPlace looping value
