-- Tests under `-n`, where a script goes on if their command isn't found.
use Rattle.el_script.specs.Vocabulary.{bytes_eq, Prog, If, Ifelse, Ifte, Exit, Loopwhilex, Letter, is_literal, has_letter}
use Rattle.std.specs.Prelude.{ℕ, Bool, false, ◌&&◌, ◌||◌, not, List, [], ◌∷◌, codes, if◌then◌else◌}
use Rattle.el_lint.specs.declared.lint.Lint.{Lint}
use Rattle.el_lint.specs.declared.lint.Lint.TheVariants.{Negated}

-- the block at a program's first place is such a test
abbrev pub tests_block : Prog → List Letter → Bool
tests_block If letters = has_letter If (codes "n") letters
tests_block Ifelse letters = has_letter Ifelse (codes "n") letters
tests_block _ letters = false

-- A program's rest is one, where the chain that the program stands in may be one itself: the turns of loopwhilex are tests too, ifte has
-- one of its own there, and exit goes on with nothing.
abbrev pub tests_rest : (is_test : Bool) → Prog → List Letter → Bool
tests_rest is_test Loopwhilex letters = is_test || has_letter Loopwhilex (codes "n") letters
tests_rest is_test Ifte letters = has_letter Ifte (codes "n") letters
tests_rest is_test Exit letters = false
tests_rest is_test _ letters = is_test

-- a command that is always found
unfoldable pub is_always_found : (text : List ℕ) → Bool
is_always_found text = bytes_eq text (codes "test") || (bytes_eq text (codes "[") || (bytes_eq text (codes "eltest") || (bytes_eq text (codes "true") || bytes_eq text (codes "false"))))

-- the first word of a test's command, where it may not be found
abbrev pub negated_lints : (is_test : Bool) → (text : List ℕ) → List Lint
negated_lints is_test text = if is_test && (is_literal text && not (is_always_found text)) then Negated text ∷ [] else []
