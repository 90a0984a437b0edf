-- Values in a command where they are more than its words.
use Rattle.el_room.specs.Vocabulary.{bytes_eq, Referred, references_of}
use Rattle.std.specs.Prelude.{ℕ, ◌%◌, Bool, true, false, ◌&&◌, ◌||◌, ◌==◌, List, [], ◌∷◌, ◌++◌, codes, if◌then◌else◌}
use Rattle.el_lint.specs.declared.lint.Lint.{Lint}
use Rattle.el_lint.specs.declared.lint.Lint.TheVariants.{Valued, Coded}
use Rattle.el_lint.specs.Known.{Known, is_known}

-- a value is put in for one of these references
abbrev pub takes_value : Known → List Referred → Bool
takes_value known [] = false
takes_value known (reference ∷ references) = ((reference.0 % 2 == 0) && is_known known reference.1) || takes_value known references

-- the first word of a command, where a value is put in it
abbrev pub valued_lints : Known → (text : List ℕ) → List Lint
valued_lints known text = if takes_value known (references_of text) then Valued text ∷ [] else []

-- the name of a shell
unfoldable pub is_shell : (text : List ℕ) → Bool
is_shell text = bytes_eq text (codes "sh") || (bytes_eq text (codes "/bin/sh") || (bytes_eq text (codes "bash") || bytes_eq text (codes "dash")))

-- the text of a shell, where a value is put in it
abbrev pub coded_lints : Known → (text : List ℕ) → List Lint
coded_lints known text = if takes_value known (references_of text) then Coded text ∷ [] else []

-- those of words: a shell's text is the word behind its name and `-c`
abbrev pub coded_from : Known → (is_behind_shell is_code : Bool) → (texts : List (List ℕ)) → List Lint
coded_from known is_behind_shell is_code [] = []
coded_from known is_behind_shell true (text ∷ texts) = coded_lints known text ++ coded_from known false false texts
coded_from known is_behind_shell false (text ∷ texts) = coded_from known (is_shell text) (is_behind_shell && bytes_eq text (codes "-c")) texts
