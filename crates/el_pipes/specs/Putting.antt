-- The letter E of backtick and of the loops over values: a value is put in the words at once, and no variable has it.
use Rattle.el_room.specs.Vocabulary.{is_good_name, is_good_key, Pairs, First, Read, has, the_text}
use Rattle.std.specs.Prelude.{ℕ, Bool, List, [], ◌∷◌, codes, if◌then◌else◌}

-- values are put in the words
abbrev pub puts_values : Read → Bool
puts_values read = has (codes "E") read

-- what a value is for: under `E` a key that a reference can have, and otherwise a name that a variable can have
abbrev pub names_well : Read → Bool
names_well read = if puts_values read then is_good_key (the_text First read) else is_good_name (the_text First read)

-- the key stands for the value, as one word
abbrev pub value_pairs : Read → (value : List ℕ) → Pairs
value_pairs read value = (the_text First read, value ∷ []) ∷ []
