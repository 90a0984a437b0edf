-- The value of a list of words, with what stays in it as it is.
use Rattle.std.proofs.Common.{◌≡◌, ℕ, suc, ◌+◌, ◌-◌, ◌<◌, ◌≤◌, List, [], ◌∷◌, ◌++◌, refl, sym, ap, ◌∙◌, subst, length, drop, slice_index, slice_index_or, slice_range, arith, append_assoc, ◌⊎◌, inl, inr, Option, Some, None, is_some, false, true≢false, IfNone, Contains}
use Rattle.std.proofs.lemmas.List.{length-take, length-drop, get_or-take, get_or-drop, take_all, drop_more, nil_from_length}
use Rattle.std.proofs.lemmas.List.Folds.{drop_split}
use Rattle.std.proofs.lemmas.List.Concat.{flat_map-append}
use Rattle.std.proofs.lemmas.Bool.{cases_lt}
use Rattle.el_words.proofs.Between.{length-slice_range}
use Rattle.el_words.specs.Word.{HoldsByteAt}
use Rattle.el_words.specs.Room.{Filling}
use Rattle.el_subst.specs.declared.size.Size.{Size}
use Rattle.el_subst.specs.Values.{Pairs, word_value, words_value}
use Rattle.el_subst.specs.Sizes.{bytes_in, size_of, HasRoom, Puts}
use Rattle.el_subst.specs.Staying.{StaysAt, StayBetween, AreChanged}
use Rattle.memchr.specs.Find.{IsFirst}
use Rattle.el_subst.proofs.Values.{plain-stays}
use Rattle.el_subst.proofs.Sizes.{CountsAll, HasRoom-first, HasRoom-then, Puts-then}

-- what holds where there is None
pub when_not_some : {X P : Type 0} (found : Option X) → is_some found ≡ false → IfNone found P → P
when_not_some None is holds = holds
when_not_some (Some x) is holds = absurd (true≢false is)

-- words of a list were put in
pub Puts-part : (old new : Filling) (words : List (List ℕ)) (from to : ℕ) → from ≤ to → to ≤ length words → new.words ≡ old.words ++ slice_range words from to
    → new.spare_words + (to - from) ≡ old.spare_words → new.spare_bytes + bytes_in (slice_range words from to) ≡ old.spare_bytes → Puts old new (slice_range words from to)
Puts-part old new words from to order within put spare_words spare_bytes = record {
  words = put;
  spare_words = omega (arith, spare_words, length-slice_range words from to order within);
  spare_bytes = spare_bytes;
}

module _ (pairs : Pairs) where
  pub Stay-start : (words : List (List ℕ)) (from : ℕ) → from ≤ length words → StayBetween pairs words from from
  Stay-start words from le = record { order = omega arith; within = le; each = λ place low high. absurd (omega (arith, low, high)) }

  -- words without a byte stay, where each word without it does
  pub Stay-to : (byte : ℕ) → ((word : List ℕ) → (Contains word byte → ⊥) → word_value pairs word ≡ word ∷ []) → (words : List (List ℕ)) (from start to : ℕ) → StayBetween pairs words from start
      → start ≤ to → to ≤ length words → ((k : ℕ) → start ≤ k → k < to → HoldsByteAt words byte k → ⊥) → StayBetween pairs words from to
  Stay-to byte telling words from start to stay order within none = record {
    order = omega (arith, stay.order, order);
    within = within;
    each = λ place low high. by place low high (cases_lt place start);
  }
    where
      by : (place : ℕ) → from ≤ place → place < to → (place < start) ⊎ (start ≤ place) → StaysAt pairs words place
      by place low high (inl before) = stay.each place low before
      by place low high (inr after) = telling (slice_index_or words place []) (none place after high)

  -- one more word that stays
  pub Stay-more : (words : List (List ℕ)) (from place : ℕ) → StayBetween pairs words from place → place < length words → StaysAt pairs words place → StayBetween pairs words from (place + 1)
  Stay-more words from place stay within here = record {
    order = omega (arith, stay.order);
    within = omega (arith, within);
    each = λ k low high. by k low high (cases_lt k place);
  }
    where
      by : (k : ℕ) → from ≤ k → k < place + 1 → (k < place) ⊎ (place ≤ k) → StaysAt pairs words k
      by k low high (inl before) = stay.each k low before
      by k low high (inr after) = let same : place ≡ k = omega (arith, high, after) in subst (StaysAt pairs words) same here

  -- words behind others that stay
  pub Stay-joined : (words : List (List ℕ)) (from middle to : ℕ) → StayBetween pairs words from middle → StayBetween pairs words middle to → StayBetween pairs words from to
  Stay-joined words from middle to first then = record {
    order = omega (arith, first.order, then.order);
    within = then.within;
    each = λ place low high. by place low high (cases_lt place middle);
  }
    where
      by : (place : ℕ) → from ≤ place → place < to → (place < middle) ⊎ (middle ≤ place) → StaysAt pairs words place
      by place low high (inl before) = first.each place low before
      by place low high (inr after) = then.each place after high

  -- words before the first `$` stay
  pub Stay-plain : (words : List (List ℕ)) (to : ℕ) → to ≤ length words → ((k : ℕ) → 0 ≤ k → k < to → HoldsByteAt words 36 k → ⊥) → StayBetween pairs words 0 to
  Stay-plain words to within none = Stay-to 36 (plain-stays pairs) words 0 0 to (Stay-start words 0 (omega arith)) (omega arith) within none

  -- the value of words that stay is these words
  stay-all : (words : List (List ℕ)) → ((k : ℕ) → k < length words → StaysAt pairs words k) → words_value pairs words ≡ words
  stay-all [] each = refl
  stay-all (word ∷ words) each =
      (λ i. each 0 (omega arith) i ++ stay-all words (λ k lt. each (suc k) (omega (arith, lt))) i)

  pub value-between : (words : List (List ℕ)) (from to : ℕ) → StayBetween pairs words from to → words_value pairs (slice_range words from to) ≡ slice_range words from to
  value-between words from to stay = stay-all (slice_range words from to) each
    where
      each : (k : ℕ) → k < length (slice_range words from to) → StaysAt pairs (slice_range words from to) k
      each k lt =
          let short : k < to - from = omega (arith, lt, length-take (to - from) (drop from words)) in
          subst (λ word. word_value pairs word ≡ word ∷ []) (sym (get_or-take (to - from) (drop from words) k [] short ∙ get_or-drop from words k []))
          (stay.each (from + k) (omega arith) (omega (arith, short, stay.order)))

  drop_at_place : (words : List (List ℕ)) (place : ℕ) → place < length words → drop place words ≡ slice_index_or words place [] ∷ drop (place + 1) words
  drop_at_place [] place lt = absurd (omega (arith, lt))
  drop_at_place (word ∷ words) Prim.Native.Nat.zero lt = refl
  drop_at_place (word ∷ words) (suc place) lt =
      drop_at_place words place (omega (arith, lt)) ∙ (let same : suc (place + 1) ≡ suc place + 1 = omega arith in ap (λ n. slice_index_or words place [] ∷ drop n (word ∷ words)) same)

  -- what stays, the value of the next word, and those of the words behind it
  pub value-next : (words : List (List ℕ)) (from place : ℕ) → StayBetween pairs words from place → place < length words
      → words_value pairs (drop from words) ≡ slice_range words from place ++ (word_value pairs (slice_index_or words place []) ++ words_value pairs (drop (place + 1) words))
  value-next words from place stay within =
      ap (words_value pairs) (drop_split words from place stay.order)
      ∙ flat_map-append (word_value pairs) (slice_range words from place) (drop place words)
      ∙ ap (λ texts. texts ++ words_value pairs (drop place words)) (value-between words from place stay)
      ∙ ap (λ texts. slice_range words from place ++ words_value pairs texts) (drop_at_place words place within)

  -- or nothing but what stays
  pub value-last : (words : List (List ℕ)) (from : ℕ) → StayBetween pairs words from (length words) → words_value pairs (drop from words) ≡ slice_range words from (length words)
  value-last words from stay = ap (words_value pairs) (sym (take_all (length words - from) (drop from words) (omega (arith, length-drop from words)))) ∙ value-between words from (length words) stay

  pub value-all : (words : List (List ℕ)) → StayBetween pairs words 0 (length words) → words_value pairs words ≡ words
  value-all words stay = stay-all words (λ k lt. stay.each k (omega arith) lt)

  -- no word holds a `$`
  pub value-plain-words : (words : List (List ℕ)) → IsFirst (HoldsByteAt words 36) 0 (length words) None → words_value pairs words ≡ words
  value-plain-words words none = value-all words (Stay-plain words (length words) (omega arith) none)

  -- what stays begins with the words before the first `$`
  pub value-behind : (words : List (List ℕ)) (dollar : ℕ) → IsFirst (HoldsByteAt words 36) 0 (length words) (Some dollar) → StayBetween pairs words dollar (length words) → words_value pairs words ≡ words
  value-behind words dollar first stay =
      value-all words (Stay-joined words 0 dollar (length words) (Stay-plain words dollar (omega (arith, first.0.high)) first.0.before) stay)

  -- ---- the places of words that change
  pub Changed-stay : (words : List (List ℕ)) (from : ℕ) (places : List ℕ) (middle to : ℕ) → AreChanged pairs words from places middle → StayBetween pairs words middle to → AreChanged pairs words from places to
  Changed-stay words from [] middle to changed stay = Stay-joined words from middle to changed stay
  Changed-stay words from (place ∷ places) middle to changed stay = (changed.0, changed.1, Changed-stay words (place + 1) places middle to changed.2 stay)

  pub Changed-more : (words : List (List ℕ)) (from : ℕ) (places : List ℕ) (place : ℕ) → AreChanged pairs words from places place → place < length words → AreChanged pairs words from (places ++ place ∷ []) (place + 1)
  Changed-more words from [] place stay within = (within, stay, Stay-start words (place + 1) (omega (arith, within)))
  Changed-more words from (first ∷ places) place changed within = (changed.0, changed.1, Changed-more words (first + 1) places place changed.2 within)

  pub Changed-next : (words : List (List ℕ)) (from : ℕ) (places : List ℕ) (at to : ℕ) → at < length places → AreChanged pairs words from (drop at places) to
      → (slice_index places at < length words) × StayBetween pairs words from (slice_index places at) × AreChanged pairs words (slice_index places at + 1) (drop (at + 1) places) to
  Changed-next words from places at to within changed =
      let P : List ℕ → Type 0 = λ left. AreChanged pairs words from left to in
      subst P (drop_more places at 0 within) changed

  pub Changed-last : (words : List (List ℕ)) (from : ℕ) (places : List ℕ) (at to : ℕ) → length places ≤ at → AreChanged pairs words from (drop at places) to → StayBetween pairs words from to
  Changed-last words from places at to past changed =
      let P : List ℕ → Type 0 = λ left. AreChanged pairs words from left to in
      subst P (nil_from_length (drop at places) (omega (arith, past, length-drop at places))) changed

  -- words before those that are looked through stay
  pub Changed-before : (words : List (List ℕ)) (from : ℕ) (places : List ℕ) (to : ℕ) → StayBetween pairs words 0 from → AreChanged pairs words from places to → AreChanged pairs words 0 places to
  Changed-before words from [] to stay changed = Stay-joined words 0 from to stay changed
  Changed-before words from (place ∷ places) to stay changed = (changed.0, Stay-joined words 0 from place stay changed.1, changed.2)

  -- ---- counted in the same parts
  pub Counts-next : (words : List (List ℕ)) (from place : ℕ) (size part more size' size'' : Size) → CountsAll pairs words (drop from words) size → StayBetween pairs words from place → place < length words
      → part ≡ size_of (slice_range words from place) → more ≡ size_of (word_value pairs (slice_index_or words place []))
      → ((xs ys : List (List ℕ)) → size ≡ size_of xs → part ≡ size_of ys → size' ≡ size_of (xs ++ ys))
      → ((xs ys : List (List ℕ)) → size' ≡ size_of xs → more ≡ size_of ys → size'' ≡ size_of (xs ++ ys)) → CountsAll pairs words (drop (place + 1) words) size''
  Counts-next words from place size part more size' size'' c stay within part_is more_is first then =
      let stays = slice_range words from place in
      let value = word_value pairs (slice_index_or words place []) in
      let rest = words_value pairs (drop (place + 1) words) in
      record {
        front = (c.front ++ stays) ++ value;
        is = then (c.front ++ stays) value (first c.front stays c.is part_is) more_is;
        whole =
            append_assoc (c.front ++ stays) value rest
            ∙ append_assoc c.front stays (value ++ rest)
            ∙ ap (λ texts. c.front ++ texts) (sym (value-next words from place stay within))
            ∙ c.whole;
      }

  pub Counts-last : (words : List (List ℕ)) (from : ℕ) (size part size' : Size) → CountsAll pairs words (drop from words) size → StayBetween pairs words from (length words)
      → part ≡ size_of (slice_range words from (length words)) → ((xs ys : List (List ℕ)) → size ≡ size_of xs → part ≡ size_of ys → size' ≡ size_of (xs ++ ys)) → size' ≡ size_of (words_value pairs words)
  Counts-last words from size part size' c stay part_is first =
      first c.front (slice_range words from (length words)) c.is part_is ∙ ap size_of (ap (λ texts. c.front ++ texts) (sym (value-last words from stay)) ∙ c.whole)

  -- ---- and put into their room
  -- the words so far, before the values of those from a place on, are the values of all, and there is room for these
  pub record Filled (words : List (List ℕ)) (from : ℕ) (room : Filling) : Type 0 where
    pub within : from ≤ length words
    pub fits : HasRoom room (words_value pairs (drop from words))
    pub whole : room.words ++ words_value pairs (drop from words) ≡ words_value pairs words

  pub Filled-start : (words : List (List ℕ)) (room : Filling) → room.words ≡ [] → HasRoom room (words_value pairs words) → Filled words 0 room
  Filled-start words room none fits = record { within = omega arith; fits = fits; whole = ap (λ texts. texts ++ words_value pairs words) none }

  module _ (words : List (List ℕ)) (from place : ℕ) (room : Filling) (filled : Filled words from room) (stay : StayBetween pairs words from place) (within : place < length words) where
    abbrev stays : List (List ℕ)
    stays = slice_range words from place

    abbrev value : List (List ℕ)
    value = word_value pairs (slice_index_or words place [])

    abbrev rest : List (List ℕ)
    rest = words_value pairs (drop (place + 1) words)

    fits-all : HasRoom room (stays ++ (value ++ rest))
    fits-all = subst (HasRoom room) (value-next words from place stay within) filled.fits

    -- there is room for what stays
    pub fits-stays : HasRoom room stays
    fits-stays = HasRoom-first room stays (value ++ rest) fits-all

    -- then for the value of the next word
    pub fits-value : (mid : Filling) → Puts room mid stays → HasRoom mid value
    fits-value mid put = HasRoom-first mid value rest (HasRoom-then room mid stays (value ++ rest) fits-all put)

    pub Filled-next : (mid new : Filling) → Puts room mid stays → Puts mid new value → Filled words (place + 1) new
    Filled-next mid new first then = record {
      within = omega (arith, within);
      fits = HasRoom-then mid new value rest (HasRoom-then room mid stays (value ++ rest) fits-all first) then;
      whole =
          ap (λ texts. texts ++ rest) (Puts-then room mid new stays value first then).words
          ∙ append_assoc room.words (stays ++ value) rest
          ∙ ap (λ texts. room.words ++ texts) (append_assoc stays value rest ∙ sym (value-next words from place stay within))
          ∙ filled.whole;
    }

  module _ (words : List (List ℕ)) (from : ℕ) (room : Filling) (filled : Filled words from room) (stay : StayBetween pairs words from (length words)) where
    pub fits-last : HasRoom room (slice_range words from (length words))
    fits-last = subst (HasRoom room) (value-last words from stay) filled.fits

    pub Filled-last : (new : Filling) → new.words ≡ room.words ++ slice_range words from (length words) → new.words ≡ words_value pairs words
    Filled-last new is = is ∙ ap (λ texts. room.words ++ texts) (sym (value-last words from stay)) ∙ filled.whole
