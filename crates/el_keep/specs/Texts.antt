-- A layout with the comments and the empty lines of a script, by their bytes: what `keep` computes. `Kept` says what it means.
use Rattle.std.specs.Prelude.{ℕ, zero, suc, Bool, ◌==◌, List, [], ◌∷◌, ◌++◌, length, if◌then◌else◌}
use Rattle.std.specs.List.{list_any}
use Rattle.el_keep.specs.declared.seam.Seam.{Seam}
use Rattle.el_keep.specs.declared.seam.Seam.TheVariants.{Top}
use Rattle.el_keep.specs.declared.seam.Follow.TheVariants.{End}
use Rattle.el_keep.specs.Seams.{over_all, behind_word, follow_of}
use Rattle.el_keep.specs.Parts.{gap_in, word_in, rest_in}
use Rattle.el_keep.specs.Rendered.{rendered}
use Rattle.el_keep.specs.Widened.{is_added}

-- at a word one goes on, and else it is the end
abbrev pub at_word : (word ended goes_on : List ℕ) → List ℕ
at_word [] ended goes_on = ended
at_word (byte ∷ word) ended goes_on = goes_on

-- so many words of the layout at most, and what the script has between its words
unfoldable pub kept_words : (most : ℕ) → Seam → (layout script : List ℕ) → List ℕ
kept_words zero seam layout script = []
kept_words (suc most) seam layout script =
    at_word (word_in layout) (rendered (over_all seam (gap_in layout)) End (gap_in script))
    (rendered (over_all seam (gap_in layout)) (follow_of (word_in layout)) (gap_in script)
    ++ (word_in layout ++ kept_words most (behind_word (over_all seam (gap_in layout))) (rest_in layout) (rest_in script)))

-- all words: there are no more of them than bytes
unfoldable pub kept_text : (layout script : List ℕ) → List ℕ
kept_text layout script = kept_words (suc (length layout)) Top layout script

-- ---- a layout with more words

-- a line ends in a gap
abbrev pub ends_line : (gap : List ℕ) → Bool
ends_line gap = list_any (λ byte. byte == 10) gap

-- the next word of the layout is added
abbrev pub adds_word : (plain layout : List ℕ) → Bool
adds_word plain layout = is_added (ends_line (gap_in plain)) (ends_line (gap_in layout))

-- what stands before a word
abbrev pub gap_text_at : (added : Bool) → (script : List ℕ) → List ℕ
gap_text_at added script = if added then 32 ∷ [] else gap_in script

-- what is left behind it
abbrev pub text_left_at : (added : Bool) → List ℕ → List ℕ
text_left_at added text = if added then text else rest_in text

-- so many words of the layout at most, between what the script has there
unfoldable pub widened_words : (most : ℕ) → (plain layout script : List ℕ) → List ℕ
widened_words zero plain layout script = []
widened_words (suc most) plain layout script =
    at_word (word_in layout) (gap_in script)
    (gap_text_at (adds_word plain layout) script
    ++ (word_in layout ++ widened_words most (text_left_at (adds_word plain layout) plain) (rest_in layout) (text_left_at (adds_word plain layout) script)))

-- the script with the words of a layout that has more of them than the plain one
unfoldable pub widened_text : (plain layout script : List ℕ) → List ℕ
widened_text plain layout script = widened_words (suc (length layout)) plain layout script

-- this layout with the comments and the empty lines of the script: what `keep_wider` computes
abbrev pub kept_wider : (plain layout script : List ℕ) → List ℕ
kept_wider plain layout script = kept_text layout (widened_text plain layout script)
