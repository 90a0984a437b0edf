-- Literal words that their program refuses where it is reached.
use Rattle.el_room.specs.Vocabulary.{filter, Prog, Define, Importas, Import, Multidefine, Export, Unexport, Withstdinas, Exit, Forx, Forstdin, Forbacktickx, Backtick, Redirfd, Fdmove, Fdclose, Fdswap, Piperw, Heredoc, is_good_name, is_good_key, listed_rules, words_by, Letter, first_byte, value_by}
use Rattle.el_script.specs.Vocabulary.{is_literal, has_letter}
use Rattle.std.specs.Prelude.{ℕ, Bool, true, false, ◌&&◌, not, List, [], ◌∷◌, ◌++◌, map, Option, None, Some, is_some, is_ok, slice_get, codes, if◌then◌else◌}
use Rattle.el_front.specs.Reads.{chosen}
use Rattle.el_vars.specs.Multidefine.{is_good_part}
use Rattle.el_control.specs.Endings.{code_named}
use Rattle.el_redir.specs.Numbers.{is_descriptor}
use Rattle.el_lint.specs.declared.lint.Lint.{Lint}
use Rattle.el_lint.specs.declared.lint.Lint.TheVariants.{Refused}
use Rattle.el_lint.specs.declared.wanted.Wanted.{Wanted}
use Rattle.el_lint.specs.declared.wanted.Wanted.TheVariants.{Status, Descriptor, Name, Key, NameAndKey, Netstrings}

-- ---- what must stand there

-- the word of a loop's or backtick's value: under `E` a key, and otherwise a variable's name
abbrev pub value_wanted : (puts : Bool) → Option Wanted
value_wanted puts = Some (if puts then Key else Name)

-- the letter `d` gives no delimiters: values are netstrings
abbrev pub is_empty_value : Option (List ℕ) → Bool
is_empty_value (Some []) = true
is_empty_value _ = false

-- a program reads its values so
abbrev pub has_no_delimiters : Prog → List Letter → Bool
has_no_delimiters program letters = is_empty_value (value_by (chosen program letters) (first_byte (codes "d")))

-- then a word must be netstrings
abbrev pub netstrings_where : (are : Bool) → Option Wanted
netstrings_where are = if are then Some Netstrings else None

-- what a program's first word must be; any word may stand where nothing is said
abbrev pub wanted_first : Prog → List Letter → Option Wanted
wanted_first Exit letters = Some Status
wanted_first Redirfd letters = Some Descriptor
wanted_first Fdmove letters = Some Descriptor
wanted_first Fdclose letters = Some Descriptor
wanted_first Fdswap letters = Some Descriptor
wanted_first Piperw letters = Some Descriptor
wanted_first Heredoc letters = Some Descriptor
wanted_first Export letters = Some Name
wanted_first Unexport letters = Some Name
wanted_first Withstdinas letters = Some Name
wanted_first Define letters = Some Key
wanted_first Importas letters = Some Key
wanted_first Import letters = Some NameAndKey
wanted_first Forx letters = value_wanted (has_letter Forx (codes "E") letters)
wanted_first Forstdin letters = value_wanted (has_letter Forstdin (codes "E") letters)
wanted_first Forbacktickx letters = value_wanted (has_letter Forbacktickx (codes "E") letters)
wanted_first Backtick letters = value_wanted (has_letter Backtick (codes "E") letters)
wanted_first Multidefine letters = netstrings_where (has_no_delimiters Multidefine letters)
wanted_first _ letters = None

-- the same of its second word
abbrev pub wanted_second : Prog → List Letter → Option Wanted
wanted_second Fdmove letters = Some Descriptor
wanted_second Fdswap letters = Some Descriptor
wanted_second Piperw letters = Some Descriptor
wanted_second Importas letters = Some Name
wanted_second Define letters = netstrings_where (has_letter Define (codes "s") letters && has_no_delimiters Define letters)
wanted_second _ letters = None

-- a word is what must stand there: a status is a number up to 255, and a descriptor is one below 64
abbrev pub is_right : Wanted → (text : List ℕ) → Bool
is_right Status text = is_some (code_named text)
is_right Descriptor text = is_descriptor text
is_right Name text = is_good_name text
is_right Key text = is_good_key text
is_right NameAndKey text = is_good_key text && is_good_name text
is_right Netstrings text = is_ok (words_by (listed_rules false false true []) text)

-- ---- what is refused

-- a word that no value changes, and that isn't what must stand there
abbrev pub is_refused : Wanted → (text : List ℕ) → Bool
is_refused wanted text = is_literal text && not (is_right wanted text)

-- the word, where it is refused
abbrev pub refused_as : Prog → Option Wanted → Option (List ℕ) → List Lint
refused_as program None text = []
refused_as program (Some wanted) None = []
refused_as program (Some wanted) (Some text) = if is_refused wanted text then Refused program wanted text ∷ [] else []

-- a name of multidefine's block that is neither empty nor a key
abbrev pub is_bad_part : List ℕ → Bool
is_bad_part name = not (is_good_part name)

-- those that are refused; only multidefine has such a block
abbrev pub refused_parts : Prog → (names : List (List ℕ)) → List Lint
refused_parts Multidefine names = map (Refused Multidefine Key) (filter is_bad_part names)
refused_parts _ names = []

-- the words that a program refuses, by its letters, its single words, and the names of its block
abbrev pub refused_lints : Prog → List Letter → (texts names : List (List ℕ)) → List Lint
refused_lints program letters texts names =
    refused_as program (wanted_first program letters) (slice_get texts 0) ++ refused_as program (wanted_second program letters) (slice_get texts 1) ++ refused_parts program names
