-- What may be a mistake in a program or a directive, and in a command.
use Rattle.el_script.specs.Vocabulary.{filter, bytes_eq, Prog, Importas, Import, Args, nothing, word, group, Referred, references_of, Letter, Places, unplaced, one_place, text_place, values_place, is_literal, letters_of, is_positional, has_letter, names_in, own_member}
use Rattle.std.specs.Prelude.{ℕ, ◌%◌, Bool, true, false, ◌&&◌, ◌||◌, not, ◌==◌, List, [], ◌∷◌, ◌++◌, map, length, Option, None, Some, codes, if◌then◌else◌}
use Rattle.el_lint.specs.declared.stranger.Stranger.{Stranger as StrangerOf}
use Rattle.el_lint.specs.declared.lint.Lint.{Lint}
use Rattle.el_lint.specs.declared.lint.Lint.TheVariants.{Misspelled, Stranger, Unset, Unused}
use Rattle.el_lint.specs.Known.{Known, names_put, is_among, is_known}
use Rattle.el_lint.specs.Wholes.{Whole}
use Rattle.el_lint.specs.Typos.{misspelled}
use Rattle.el_lint.specs.Strangers.{stranger_named}
use Rattle.el_lint.specs.Refused.{refused_lints}
use Rattle.el_lint.specs.Differing.{differing_lints}
use Rattle.el_lint.specs.Negated.{negated_lints}
use Rattle.el_lint.specs.Values.{valued_lints, coded_from}
use Rattle.el_lint.specs.Loaders.{loaded_lints}

-- ---- words

-- the words of a command, those in its blocks too, in order
abbrev pub texts_in : Args → List (List ℕ)
texts_in nothing = []
texts_in (word text rest) = text ∷ texts_in rest
texts_in (group inside rest) = texts_in inside ++ texts_in rest

-- the words at a program's places: single ones, and those of blocks of values
abbrev pub place_texts : Places → List (List ℕ)
place_texts unplaced = []
place_texts (one_place (text_place text) places) = text ∷ place_texts places
place_texts (one_place (values_place values) places) = texts_in values ++ place_texts places
place_texts (one_place _ places) = place_texts places

-- ---- references

-- Something puts a value in for the key: a program in front; or the command itself may, where it has the key among its words, or
-- elgetpositionals, since it may start such a program.
abbrev pub is_put_in : Known → (around : List (List ℕ)) → (key : List ℕ) → Bool
is_put_in known around key = is_known known key || (is_among around key || (is_positional key && is_among around (codes "elgetpositionals")))

-- a reference that would have a value, where nothing puts one in; one behind an odd number of backslashes is meant to stay
abbrev pub unset_at : Known → (around : List (List ℕ)) → Referred → List Lint
unset_at known around reference = if (reference.0 % 2 == 0) && not (is_put_in known around reference.1) then Unset reference.1 ∷ [] else []

-- among the references of a word
abbrev pub unset_in : Known → (around : List (List ℕ)) → List Referred → List Lint
unset_in known around [] = []
unset_in known around (reference ∷ references) = unset_at known around reference ++ unset_in known around references

-- Among words. One behind `-c` isn't looked at: it is the text of another language, whose own references it may hold.
abbrev pub unset_from : Known → (around : List (List ℕ)) → (is_code : Bool) → (texts : List (List ℕ)) → List Lint
unset_from known around is_code [] = []
unset_from known around true (text ∷ texts) = unset_from known around false texts
unset_from known around false (text ∷ texts) = unset_in known around (references_of text) ++ unset_from known around (bytes_eq text (codes "-c")) texts

-- ---- names

-- a program of which a name is more than a name: `i` refuses a script without the variable, and `u` removes that
abbrev pub does_more : Prog → List Letter → Bool
does_more Importas letters = has_letter Importas (codes "i") letters || has_letter Importas (codes "u") letters
does_more Import letters = has_letter Importas (codes "i") letters || has_letter Importas (codes "u") letters
does_more program letters = false

-- a name to which no word of the script refers; the empty one is meant to be passed over
abbrev pub is_unused : (used : List (List ℕ)) → (name : List ℕ) → Bool
is_unused used name = not (length name == 0) && not (is_among used name)

-- the names that a program or a directive puts in for nothing
abbrev pub unused_names : (used : List (List ℕ)) → Prog → List Letter → Places → List Lint
unused_names used program letters places = if does_more program letters then [] else map Unused (filter (is_unused used) (names_put (own_member program letters places)))

-- ---- commands

-- by the program whose name the first word nearly is
abbrev pub misspelled_by : Option Prog → (text : List ℕ) → List Lint
misspelled_by None text = []
misspelled_by (Some program) text = Misspelled text program ∷ []

-- by the program of skarnet's that the first word names
abbrev pub stranger_by : Option StrangerOf → (text : List ℕ) → List Lint
stranger_by None text = misspelled_by (misspelled text) text
stranger_by (Some stranger) text = Stranger stranger ∷ []

-- a command's first word, which no value changes, or in which one is put
abbrev pub first_lints : Known → (text : List ℕ) → List Lint
first_lints known text = if is_literal text then stranger_by (stranger_named text) text else valued_lints known text

-- of a command by what it begins with; it may be a test under `-n`
abbrev pub begun_lints : Known → (is_test : Bool) → Args → List Lint
begun_lints known is_test nothing = []
begun_lints known is_test (word text rest) = first_lints known text ++ negated_lints is_test text
begun_lints known is_test (group inside rest) = []

-- ---- the two

-- of a command
abbrev pub command_lints : Known → (is_test : Bool) → Args → List Lint
command_lints known is_test args =
    begun_lints known is_test args ++ coded_from known false false (texts_in args) ++ loaded_lints args ++ unset_from known (texts_in args) false (texts_in args)

-- of a program or a directive, in a script with these keys, where these descriptors are made
abbrev pub program_lints : Whole → Known → (made : List Bool) → Prog → (options : List (List ℕ)) → Places → List Lint
program_lints whole known made program options places =
    refused_lints program (letters_of program options) (place_texts places) (names_in places)
    ++ differing_lints whole.risked made program (letters_of program options) (place_texts places)
    ++ unset_from known [] false (place_texts places)
    ++ unused_names whole.used program (letters_of program options) places
