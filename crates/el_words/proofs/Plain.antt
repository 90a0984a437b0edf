-- Which words are known to hold no `$`, after each change of a list.
use Rattle.std.proofs.Common.{◌≡◌, ℕ, ◌+◌, ◌-◌, ◌<◌, ◌≤◌, ◌⊎◌, inl, inr, List, [], ◌∷◌, ◌++◌, sym, ap, ◌∙◌, subst, length, length-append, drop, Contains, Option, None, Some, arith}
use Rattle.std.specs.Option.{unwrap_or}
use Rattle.std.proofs.lemmas.List.{length-drop, get_or-drop, get_or_append_left}
use Rattle.std.proofs.lemmas.Bool.{cases_lt}
use Rattle.memchr.specs.Find.{IsFirst}
use Rattle.el_words.specs.Word.{HoldsByteAt}
use Rattle.el_words.specs.Plain.{ArePlain}

-- behind words that were dropped
pub plain-dropped : (words : List (List ℕ)) (gone plain count : ℕ) → ArePlain words (plain - gone) → ArePlain (drop count words) (plain - (gone + count))
plain-dropped words gone plain count are = record {
  within = omega (arith, are.within, length-drop count words);
  none = λ place lt holds. are.none (count + place) (omega (arith, lt)) (subst (λ word. Contains word 36) (get_or-drop count words place []) holds);
}

-- and before one more
pub plain-pushed : (words : List (List ℕ)) (count : ℕ) (word : List ℕ) → ArePlain words count → ArePlain (words ++ word ∷ []) count
plain-pushed words count word are = record {
  within = omega (arith, are.within, length-append words (word ∷ []));
  none = λ place lt holds. are.none place lt (subst (λ word. Contains word 36) (get_or_append_left words (word ∷ []) [] place (omega (arith, lt, are.within))) holds);
}

-- a word before a place is a known one, or stands behind these
either : (words : List (List ℕ)) (count : ℕ) → ArePlain words count → (to : ℕ) → ((place : ℕ) → count ≤ place → place < to → HoldsByteAt words 36 place → ⊥) → (place : ℕ) → place < to → HoldsByteAt words 36 place → ⊥
either words count are to none place high = by (cases_lt place count)
  where
    by : (place < count) ⊎ (count ≤ place) → HoldsByteAt words 36 place → ⊥
    by (inl before) = are.none place before
    by (inr after) = none place after high

-- the first `$` behind words that are known to hold none is the first of all
pub first-dollar : (words : List (List ℕ)) (count : ℕ) → ArePlain words count → (found : Option ℕ) → IsFirst (HoldsByteAt words 36) count (length words) found → IsFirst (HoldsByteAt words 36) 0 (length words) found
first-dollar words count are None none = none-before
  where
    none-before : (place : ℕ) → 0 ≤ place → place < length words → HoldsByteAt words 36 place → ⊥
    none-before place low high = either words count are (length words) none place high
first-dollar words count are (Some found) first = (
  record { low = omega arith; high = first.0.high; before = λ place low high. either words count are found first.0.before place high },
  first.1,
)

-- and the words before it are known then, or all where there is none
pub plain-before : (words : List (List ℕ)) (found : Option ℕ) → IsFirst (HoldsByteAt words 36) 0 (length words) found → ArePlain words (unwrap_or found (length words))
plain-before words None none = record { within = omega arith; none = λ place lt. none place (omega arith) lt }
plain-before words (Some found) first = record { within = omega (arith, first.0.high); none = λ place lt. first.0.before place (omega arith) lt }

module _ (words value : List (List ℕ)) (is : words ≡ value) where
  -- ---- as the code of `Words` reads it: the list is seen as a value
  pub first-seen : (count known : ℕ) → ArePlain words count → known ≡ count → (found : Option ℕ) → IsFirst (HoldsByteAt value 36) known (length value) found → IsFirst (HoldsByteAt value 36) 0 (length value) found
  first-seen count known are known_is found first =
      let P : ℕ → Type 0 = λ count. IsFirst (HoldsByteAt value 36) count (length value) found in
      first-dollar value count (let Q : List (List ℕ) → Type 0 = λ words. ArePlain words count in subst Q is are) found (subst P known_is first)

  pub plain-seen : (gone place len : ℕ) (found : Option ℕ) → IsFirst (HoldsByteAt value 36) 0 (length value) found → place ≡ unwrap_or found len → len ≡ length value → ArePlain words (gone + place - gone)
  plain-seen gone place len found first place_is len_is =
      let same : unwrap_or found (length value) ≡ gone + place - gone = ap (unwrap_or found) (sym len_is) ∙ sym place_is ∙ omega arith in
      let P : ℕ → Type 0 = λ count. ArePlain words count in
      let Q : List (List ℕ) → Type 0 = λ words. ArePlain words (unwrap_or found (length value)) in
      subst P same (subst Q (sym is) (plain-before value found first))
