-- What holds of optstrings and of the environment behind a parsing.
use Rattle.el_room.specs.Vocabulary.{list_any, is_ascii_alphanumeric, decimal, Vars, Opt, Letter, in_force}
use Rattle.std.specs.Prelude.{◌≡◌, ℕ, ◌<◌, ◌≤◌, ◌==◌, Bool, true, ◌&&◌, not, List, [], ◌∷◌, length, None, option_map, if◌then◌else◌}
use Rattle.std.specs.FinMap as map
use Rattle.el_env.specs.Positionals.{ArePositionals}
use Rattle.el_getopt.specs.Environment.{option_name, option_value}

-- the optstring of these letters: each with a colon (58) behind it where it takes a value
abbrev pub optstring_of : List Opt → List ℕ
optstring_of [] = []
optstring_of (opt ∷ opts) = opt.letter ∷ (if opt.takes then 58 ∷ optstring_of opts else optstring_of opts)

-- they are ASCII letters and digits, each once
abbrev pub are_distinct : List Opt → Bool
are_distinct [] = true
are_distinct (opt ∷ opts) = (is_ascii_alphanumeric opt.letter && not (list_any (λ (other : Opt). other.letter == opt.letter) opts)) && are_distinct opts

-- Behind a parsing of so many arguments, of which these are left: the variable of a letter has the value that it has in force, and isn't set
-- where it has none; the positional parameters are the arguments left; and no variable is left of the other arguments.
pub record IsBehindParsing (letters : List Letter) (zero : List ℕ) (count : ℕ) (left : List (List ℕ)) (env : Vars) : Type 0 where
  pub options : (letter : ℕ) → map.get env (option_name letter) ≡ option_map option_value (in_force [] letter letters)
  pub positionals : ArePositionals env zero left
  pub above : (number : ℕ) → length left < number → number ≤ count → map.get env (decimal number) ≡ None
