-- Programs that do another thing than it seems, or than they do under skarnet's execline.
use Rattle.el_script.specs.Vocabulary.{starts_with, Prog, Forstdin, Forbacktickx, Backtick, Redirfd, Letter, has_letter}
use Rattle.std.specs.Prelude.{ℕ, nat_eq, Bool, true, ◌||◌, List, [], ◌∷◌, ◌++◌, Option, None, Some, slice_get, codes, if◌then◌else◌}
use Rattle.el_lint.specs.declared.lint.Lint.{Lint}
use Rattle.el_lint.specs.declared.lint.Lint.TheVariants.{Opened, Worded, Unchecked}
use Rattle.el_lint.specs.Known.{is_among}
use Rattle.el_lint.specs.Inherited.{inherited_lints}

-- a path that stands for a descriptor of the process that opens it
unfoldable pub is_descriptor_path : (text : List ℕ) → Bool
is_descriptor_path text = starts_with nat_eq text (codes "/dev/fd/") || (starts_with nat_eq text (codes "/dev/std") || starts_with nat_eq text (codes "/proc/self/fd/"))

-- such a path
abbrev pub path_lints : (path : Option (List ℕ)) → List Lint
path_lints None = []
path_lints (Some text) = if is_descriptor_path text then Opened text ∷ [] else []

-- where redirfd opens it
abbrev pub opened_lints : Prog → (path : Option (List ℕ)) → List Lint
opened_lints Redirfd path = path_lints path
opened_lints _ path = []

-- a loop over an input has its delimiters, by its letter `d`; no other program needs them
abbrev pub has_delimiters : Prog → List Letter → Bool
has_delimiters Forstdin letters = has_letter Forstdin (codes "d") letters
has_delimiters Forbacktickx letters = has_letter Forbacktickx (codes "d") letters
has_delimiters _ letters = true

-- a loop without them
abbrev pub worded_lints : Prog → List Letter → List Lint
worded_lints program letters = if has_delimiters program letters then [] else Worded program ∷ []

-- backtick says what comes of a block that fails, by one of its letters `i`, `I` and `D`; no other program needs to
abbrev pub is_guarded : Prog → List Letter → Bool
is_guarded Backtick letters = has_letter Backtick (codes "i") letters || (has_letter Backtick (codes "I") letters || has_letter Backtick (codes "D") letters)
is_guarded _ letters = true

-- the name of one that doesn't, where a word that refers to it is risked
abbrev pub risked_lints : (risked : List (List ℕ)) → (name : Option (List ℕ)) → List Lint
risked_lints risked None = []
risked_lints risked (Some name) = if is_among risked name then Unchecked name ∷ [] else []

-- by a program's letters
abbrev pub unchecked_lints : (risked : List (List ℕ)) → Prog → List Letter → (name : Option (List ℕ)) → List Lint
unchecked_lints risked program letters name = if is_guarded program letters then [] else risked_lints risked name

-- of a program with these letters and single words, where these descriptors are made
abbrev pub differing_lints : (risked : List (List ℕ)) → (made : List Bool) → Prog → List Letter → (texts : List (List ℕ)) → List Lint
differing_lints risked made program letters texts =
    opened_lints program (slice_get texts 1) ++ worded_lints program letters ++ unchecked_lints risked program letters (slice_get texts 0) ++ inherited_lints made program texts
