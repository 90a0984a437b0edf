-- Descriptors that no program makes in the process that needs them.
use Rattle.el_script.specs.Vocabulary.{Prog, Ifte, Loopwhilex, Forx, Forstdin, Forbacktickx, Redirfd, Fdmove, Fdswap, Piperw, Heredoc, is_literal}
use Rattle.std.specs.Prelude.{ℕ, Bool, true, false, ◌&&◌, not, nat_le, List, [], ◌∷◌, ◌++◌, replicate, Option, None, Some, slice_get, slice_set, slice_index_or, if◌then◌else◌}
use Rattle.el_redir.specs.Numbers.{number_or, is_descriptor}
use Rattle.el_lint.specs.declared.lint.Lint.{Lint}
use Rattle.el_lint.specs.declared.lint.Lint.TheVariants.{Inherited}

-- ---- descriptors that are made: for each of the 64, whether it is

-- at the beginning of a process none is
abbrev pub none_made : List Bool
none_made = replicate 64 false

-- a word names a descriptor that is made from there on; where a value is put in, it may be any
abbrev pub with_made : (made : List Bool) → (text : List ℕ) → List Bool
with_made made text = if not (is_literal text) then replicate 64 true else (if is_descriptor text then slice_set made (number_or 64 text) true else made)

-- where there is such a word
abbrev pub with_word : (made : List Bool) → (text : Option (List ℕ)) → List Bool
with_word made None = made
with_word made (Some text) = with_made made text

-- Behind a program with these single words. The rest of a loop or of ifte is a process of its own.
abbrev pub made_behind : (made : List Bool) → Prog → (texts : List (List ℕ)) → List Bool
made_behind made Redirfd texts = with_word made (slice_get texts 0)
made_behind made Fdmove texts = with_word made (slice_get texts 0)
made_behind made Heredoc texts = with_word made (slice_get texts 0)
made_behind made Piperw texts = with_word (with_word made (slice_get texts 0)) (slice_get texts 1)
made_behind made Ifte texts = none_made
made_behind made Loopwhilex texts = none_made
made_behind made Forx texts = none_made
made_behind made Forstdin texts = none_made
made_behind made Forbacktickx texts = none_made
made_behind made _ texts = made

-- ---- descriptors that are needed

-- a word names a descriptor from 3 on that isn't made
abbrev pub is_inherited : (made : List Bool) → (text : List ℕ) → Bool
is_inherited made text = is_literal text && (is_descriptor text && (nat_le 3 (number_or 64 text) && not (slice_index_or made (number_or 64 text) false)))

-- such a word of a program
abbrev pub inherited_word : (made : List Bool) → Prog → (text : Option (List ℕ)) → List Lint
inherited_word made program None = []
inherited_word made program (Some text) = if is_inherited made text then Inherited program text ∷ [] else []

-- the words of fdmove and fdswap whose descriptors must be there
abbrev pub inherited_lints : (made : List Bool) → Prog → (texts : List (List ℕ)) → List Lint
inherited_lints made Fdmove texts = inherited_word made Fdmove (slice_get texts 1)
inherited_lints made Fdswap texts = inherited_word made Fdswap (slice_get texts 0) ++ inherited_word made Fdswap (slice_get texts 1)
inherited_lints made _ texts = []
