-- The environment after option parsing.
use Rattle.el_room.specs.Vocabulary.{starts_with, Vars, with_positionals, Letter}
use Rattle.std.specs.Prelude.{ℕ, ◌+◌, ◌-◌, ◌==◌, Bool, not, List, [], ◌∷◌, ◌++◌, length, unwrap_or, codes}
use Rattle.std.specs.FinMap as map
use Rattle.el_options.specs.Rules.{text_of}
use Rattle.el_vars.specs.Numbered.{without_numbered}

-- how the names of the variables of letters begin
unfoldable pub option_prefix : List ℕ
option_prefix = codes "ELGETOPT_"

-- the name of a letter's variable
abbrev pub option_name : (letter : ℕ) → List ℕ
option_name letter = option_prefix ++ letter ∷ []

-- the value of a letter's variable: that of the letter, or `1` where it takes none
abbrev pub option_value : Letter → List ℕ
option_value letter = unwrap_or (text_of letter.value) (codes "1")

-- the name is that of a letter's variable, be it one that an earlier parsing set
abbrev pub is_option_name : List ℕ → Bool
is_option_name name = starts_with (λ x y. x == y) name option_prefix

-- without the variables of letters
abbrev pub without_options : Vars → Vars
without_options env = map.retain_keys env (λ name. not (is_option_name name))

-- with the variables of these letters, one after the other, so that the last value of a letter stays
abbrev pub with_options : List Letter → Vars → Vars
with_options [] env = env
with_options (letter ∷ letters) env = with_options letters (map.insert env (option_name letter.letter) (option_value letter))

-- The variables behind a parsing of these arguments. Those of letters are of this parsing alone. The arguments left are numbered from 1,
-- `#` is their number, the variables above, up to the old number, are removed, and `0` stays.
abbrev pub parsed_environment : List Letter → (zero : List ℕ) → (args left : List (List ℕ)) → Vars → Vars
parsed_environment letters zero args left env =
    with_positionals zero left (without_numbered (length args - length left) (length left + 1) (with_options letters (without_options env)))
