-- What elglob's words say.
use Rattle.std.specs.Prelude.{ℕ, Bool, false, List, [], ◌∷◌, Option, None, Some, Result, Ok, Err, if◌then◌else◌, codes}
use Rattle.el_options.specs.declared.table.Opt.{Opt}
use Rattle.el_options.specs.Reading.{Reading, Unknown, NoValue, LettersRead, reading}
use Rattle.el_subst.specs.Pairs.{is_good_key}
use Rattle.el_proc.specs.declared.trouble.Trouble.TheVariants.{Unknown as UnknownLetter, NoValue as NoValueOf, Missing, BadName}
use Rattle.el_front.specs.declared.choice.Choice.{Choice}
use Rattle.el_front.specs.Reads.{first_byte, is_in_force, chosen_by}
use Rattle.el_glob.specs.declared.asked.Asked.{Asked}
use Rattle.el_glob.specs.declared.refusal.Refusal.{Refusal}
use Rattle.el_glob.specs.declared.refusal.Refusal.TheVariants.{Common, BadPattern}
use Rattle.el_glob.specs.Patterns.{pattern_of}
use Rattle.el_glob.specs.Written.{Written}

-- the one letter, `0`, which takes no value
unfoldable pub elglob_letters : List Opt
elglob_letters = record { letter = first_byte (codes "0"); takes = false } ∷ []

-- what is asked for, where the word is a pattern
abbrev pub asked_with : (none_for_none : Bool) → (key text : List ℕ) → (rest : List (List ℕ)) → Option Written → Result Asked Refusal
asked_with none_for_none key text rest None = Err BadPattern
asked_with none_for_none key text rest (Some pattern) = Ok (record { none_for_none = none_for_none; key = key; text = text; pattern = pattern; rest = rest })

-- what the words behind the options say: first the variable is tested, and then the pattern
abbrev pub asked_behind : (none_for_none : Bool) → (rest : List (List ℕ)) → Result Asked Refusal
asked_behind none_for_none [] = Err (Common Missing)
asked_behind none_for_none (key ∷ []) = Err (Common Missing)
asked_behind none_for_none (key ∷ text ∷ rest) = if is_good_key key then asked_with none_for_none key text rest (pattern_of text) else Err (Common BadName)

-- the letter `0` was read
abbrev pub asks_none_for_none : List Choice → Bool
asks_none_for_none choices = is_in_force choices (first_byte (codes "0"))

-- what words say that are read so
abbrev pub asked_by : List Opt → Reading → Result Asked Refusal
asked_by opts (Unknown letter) = Err (Common (UnknownLetter letter))
asked_by opts (NoValue letter) = Err (Common (NoValueOf letter))
asked_by opts (LettersRead letters used rest ended) = asked_behind (asks_none_for_none (chosen_by [] opts letters)) rest

-- what elglob's words say, of which the first is its name, or what it complains of
unfoldable pub asked : (words : List (List ℕ)) → Result Asked Refusal
asked words = asked_by elglob_letters (reading elglob_letters words)
