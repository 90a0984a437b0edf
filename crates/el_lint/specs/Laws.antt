-- What a word means that its program refuses.
use Rattle.el_script.specs.Vocabulary.{Prog, Multisubstitute, name_text, Scope, Tree, Node, Places, one_place, directives_place, Directives, undirected, directed, letters_of, names_in}
use Rattle.el_room.specs.Vocabulary.{takes, State, Spent, Trouble, trouble_status, refused}
use Rattle.std.specs.Prelude.{◌≡◌, ℕ, List, [], ◌++◌, Contains}
use Rattle.el_tree.specs.WellFormed.{IsFormed}
use Rattle.el_meaning.specs.Meaning.{meaning}
use Rattle.el_lint.specs.declared.lint.Lint.{Lint}
use Rattle.el_lint.specs.Lints.{place_texts}
use Rattle.el_lint.specs.Refused.{refused_lints}

-- a program, where it is reached in this scope and state, takes a unit and ends the script with a message, and with 100
pub record EndsRefused (program : Prog) (options : List (List ℕ)) (places : Places) (rest : Tree) (scope : Scope) (state : State) : Type 0 where
  pub trouble : Trouble
  pub status : trouble_status trouble ≡ 100
  pub means : meaning (Node program options places rest) scope state ≡ takes (Spent state) (refused state (name_text program) trouble)

-- the words that the directives of a block are found to refuse
abbrev pub directives_refused : Directives → List Lint
directives_refused undirected = []
directives_refused (directed program options places directives) = refused_lints program (letters_of program options) (place_texts places) (names_in places) ++ directives_refused directives

-- those of a block at the first place
abbrev pub block_refused : Places → List Lint
block_refused (one_place (directives_place directives) places) = directives_refused directives
block_refused _ = []

-- the words that a program is found to refuse; multisubstitute refuses those of its directives
abbrev pub all_refused : Prog → (options : List (List ℕ)) → Places → List Lint
all_refused Multisubstitute options places = block_refused places
all_refused program options places = refused_lints program (letters_of program options) (place_texts places) (names_in places)

-- a program with a word that is found to be refused ends so wherever it is reached
abbrev pub RefusedWordsEnd : Type 0
RefusedWordsEnd = (program : Prog) (options : List (List ℕ)) (places : Places) (rest : Tree) (scope : Scope) (state : State) (lint : Lint)
    → IsFormed (Node program options places rest) → Contains (all_refused program options places) lint → EndsRefused program options places rest scope state
