-- First lines, word by word.
use Rattle.std.proofs.Common.{◌≡◌, ℕ, Bool, true, false, List, [], ◌∷◌, ◌++◌, length, drop, arith, append_assoc, append-nil, refl, sym, ap, ◌∙◌, slice_index_or, if◌then◌else◌}
use Rattle.std.specs.List.{filter, slice_split}
use Rattle.el_lint.specs.Allowances.{is_newline}
use Rattle.el_lint.specs.FirstLines.{is_word, unmarked, line_said, from_execlineb, starts_execlineb}

-- a piece is looked at, and the others are left
pub piece-on : (words : List (List ℕ)) (piece : List ℕ) (pieces : List (List ℕ)) → (words ++ filter is_word (piece ∷ [])) ++ filter is_word pieces ≡ words ++ filter is_word (piece ∷ pieces)
piece-on words piece pieces = by (is_word piece)
  where
    by : (is : Bool) → (words ++ (if is then piece ∷ [] else [])) ++ filter is_word pieces ≡ words ++ (if is then piece ∷ filter is_word pieces else filter is_word pieces)
    by true = append_assoc words (piece ∷ []) (filter is_word pieces)
    by false = ap (λ (words : List (List ℕ)). words ++ filter is_word pieces) (append-nil words)

-- the first line of a text
pub first-said : (text piece : List ℕ) (pieces : List (List ℕ)) → slice_split is_newline text ≡ piece ∷ pieces → line_said piece ≡ unmarked text
first-said text piece pieces cut = sym (ap (λ (pieces : List (List ℕ)). line_said (slice_index_or pieces 0 [])) cut)

-- execlineb is the first word that is left
pub begun-here : (words : List (List ℕ)) → (length words ≡ 0 → ⊥) → starts_execlineb (slice_index_or words 0 []) ≡ true → words ≡ from_execlineb words
begun-here [] some is = absurd (some refl)
begun-here (word ∷ words) some is = rw is refl

-- it is one of the later ones
pub begun-later : (words : List (List ℕ)) → (length words ≡ 0 → ⊥) → starts_execlineb (slice_index_or words 0 []) ≡ false → from_execlineb (drop 1 words) ≡ from_execlineb words
begun-later [] some is = refl
begun-later (word ∷ words) some is = rw is refl

-- none is left
pub begun-never : (words : List (List ℕ)) → length words ≡ 0 → words ≡ from_execlineb words
begun-never [] none = refl
begun-never (word ∷ words) none = absurd (omega (arith, none))

pub ruleset first_lines = (piece-on, first-said, begun-here, begun-later, begun-never)
