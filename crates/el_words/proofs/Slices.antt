-- Words as the slices of one buffer.
use Rattle.std.proofs.Common.{◌≡◌, ℕ, suc, ◌+◌, ◌-◌, ◌<◌, ◌≤◌, List, [], ◌∷◌, ◌++◌, refl, sym, ap, ◌∙◌, subst, length, take, drop, slice_index, slice_index_or, slice_range, sum_by, All, Any, Contains, Option, Some, None, IsTrue, ◌↔◌, is_some, arith, ⊎_elim, eq-eqb}
use Rattle.std.proofs.lemmas.List.{length-append, length-drop, drop-drop, drop-append-le, drop_at, drop_all, take-append-le, take_all, take-append-drop, get_or-drop, get_or_default}
use Rattle.std.proofs.lemmas.List.Concat.{concat_is, length-flat_map}
use Rattle.std.proofs.lemmas.List.Elements.{Contains-append_left, Contains-append_right, Contains-append_cases}
use Rattle.std.proofs.lemmas.Bool.{eqb-true, false≢true}
use Rattle.std.specs.List.{concat}
use Rattle.memchr.specs.Find.{IsFirstByte, is_byte}
use Rattle.el_words.specs.Word.{HasNul}
use Rattle.el_words.specs.Words.{slices, RiseTo, start_at, IsSound}

pub length-slices : (bytes : List ℕ) (start : ℕ) (ends : List ℕ) → length (slices bytes start ends) ≡ length ends
length-slices bytes start [] = refl
length-slices bytes start (end ∷ ends) = ap suc (length-slices bytes end ends)

-- no start is above the length
pub start-le : (start : ℕ) (ends : List ℕ) (len : ℕ) → RiseTo start ends len → start ≤ len
start-le start [] len rise = omega (arith, rise)
start-le start (end ∷ ends) len rise = omega (arith, rise.0, start-le end ends len rise.1)

-- a slice's ends are in order and within the length
pub ends_at : (start : ℕ) (ends : List ℕ) (len k : ℕ) → k < length ends → RiseTo start ends len → (start_at start ends k ≤ slice_index ends k) × (slice_index ends k ≤ len)
ends_at start [] len k lt rise = absurd (omega (arith, lt))
ends_at start (end ∷ ends) len Prim.Native.Nat.zero lt rise = (rise.0, start-le end ends len rise.1)
ends_at start (end ∷ ends) len (suc k) lt rise = ends_at end ends len k (omega (arith, lt)) rise.1

-- the slice at a place
pub at-slices : (bytes : List ℕ) (start : ℕ) (ends : List ℕ) (k : ℕ) (d : List ℕ) → k < length ends → slice_index_or (slices bytes start ends) k d ≡ slice_range bytes (start_at start ends k) (slice_index ends k)
at-slices bytes start [] k d lt = absurd (omega (arith, lt))
at-slices bytes start (end ∷ ends) Prim.Native.Nat.zero d lt = refl
at-slices bytes start (end ∷ ends) (suc k) d lt = at-slices bytes end ends k d (omega (arith, lt))

-- the slices after the first ones
pub drop-slices : (bytes : List ℕ) (start : ℕ) (ends : List ℕ) (k : ℕ) → k ≤ length ends → drop k (slices bytes start ends) ≡ slices bytes (start_at start ends k) (drop k ends)
drop-slices bytes start ends Prim.Native.Nat.zero le = refl
drop-slices bytes start [] (suc k) le = absurd (omega (arith, le))
drop-slices bytes start (end ∷ ends) (suc k) le = drop-slices bytes end ends k (omega (arith, le))

pub RiseTo-drop : (start : ℕ) (ends : List ℕ) (len k : ℕ) → k ≤ length ends → RiseTo start ends len → RiseTo (start_at start ends k) (drop k ends) len
RiseTo-drop start ends len Prim.Native.Nat.zero le rise = rise
RiseTo-drop start [] len (suc k) le rise = absurd (omega (arith, le))
RiseTo-drop start (end ∷ ends) len (suc k) le rise = RiseTo-drop end ends len k (omega (arith, le)) rise.1

-- a slice stays when bytes come behind
slice_range-append : (bytes more : List ℕ) (start end : ℕ) → start ≤ end → end ≤ length bytes → slice_range (bytes ++ more) start end ≡ slice_range bytes start end
slice_range-append bytes more start end rise le =
    ap (take (end - start)) (drop-append-le start bytes more (omega arith))
    ∙ take-append-le (end - start) (drop start bytes) more (omega (arith, length-drop start bytes))

-- the last slice is what came behind
slice_range-more : (bytes more : List ℕ) → slice_range (bytes ++ more) (length bytes) (length bytes + length more) ≡ more
slice_range-more bytes more =
    ap (take (length bytes + length more - length bytes)) (drop_at bytes more (length bytes) refl)
    ∙ take_all _ more (omega arith)

-- one more word
pub slices-push : (bytes word : List ℕ) (start : ℕ) (ends : List ℕ) → RiseTo start ends (length bytes)
    → slices (bytes ++ word) start (ends ++ (length bytes + length word) ∷ []) ≡ slices bytes start ends ++ word ∷ []
slices-push bytes word start [] rise = rw rise (ap (λ slice. slice ∷ []) (slice_range-more bytes word))
slices-push bytes word start (end ∷ ends) rise =
    ap (λ slice. slice ∷ slices (bytes ++ word) end (ends ++ (length bytes + length word) ∷ [])) (slice_range-append bytes word start end rise.0 (start-le end ends (length bytes) rise.1))
    ∙ ap (λ later. slice_range bytes start end ∷ later) (slices-push bytes word end ends rise.1)

pub RiseTo-push : (start : ℕ) (ends : List ℕ) (len more : ℕ) → len ≤ more → RiseTo start ends len → RiseTo start (ends ++ more ∷ []) more
RiseTo-push start [] len more le rise = (omega (arith, rise), refl)
RiseTo-push start (end ∷ ends) len more le rise = (rise.0, RiseTo-push end ends len more le rise.1)

-- the slices joined are the buffer from their start on
pub concat-slices : (bytes : List ℕ) (start : ℕ) (ends : List ℕ) → RiseTo start ends (length bytes) → concat (slices bytes start ends) ≡ drop start bytes
concat-slices bytes start [] rise = sym (drop_all start bytes (omega (arith, rise)))
concat-slices bytes start (end ∷ ends) rise =
    ap (λ later. slice_range bytes start end ++ later) (concat-slices bytes end ends rise.1 ∙ later)
    ∙ take-append-drop (end - start) (drop start bytes)
  where
    later : drop end bytes ≡ drop (end - start) (drop start bytes)
    later = ap (λ n. drop n bytes) (omega (arith, rise.0)) ∙ sym (drop-drop (end - start) start bytes)

pub sum_by-length : (words : List (List ℕ)) → sum_by length words ≡ length (concat words)
sum_by-length words = sym (ap length (concat_is words) ∙ length-flat_map (λ word. word) words)

-- some word holds a byte just where the words joined do
pub Any-concat : (words : List (List ℕ)) (x : ℕ) → Any (λ word. Contains word x) words → Contains (concat words) x
Any-concat [] x some = absurd (omega (arith, some.2))
Any-concat (word ∷ words) x (Prim.Native.Nat.zero, found, lt, is, holds) = Contains-append_left word (concat words) x (rw is holds)
Any-concat (word ∷ words) x (suc k, found, lt, is, holds) = Contains-append_right word (concat words) x (Any-concat words x (k, found, omega (arith, lt), is, holds))

pub Contains-concat : (words : List (List ℕ)) (x : ℕ) → Contains (concat words) x → Any (λ word. Contains word x) words
Contains-concat [] x some = absurd (omega (arith, some.1))
Contains-concat (word ∷ words) x some = ⊎_elim (λ here. (0, word, omega arith, refl, here)) (λ there. later (Contains-concat words x there)) (Contains-append_cases word (concat words) x some)
  where
    later : Any (λ word. Contains word x) words → Any (λ word. Contains word x) (word ∷ words)
    later (k, found, lt, is, holds) = (suc k, found, omega (arith, lt), is, holds)

pub Contains-drop : (n : ℕ) (bytes : List ℕ) (x : ℕ) → Contains (drop n bytes) x → Contains bytes x
Contains-drop n bytes x (k, lt, is) = (n + k, omega (arith, lt, length-drop n bytes), sym (get_or-drop n bytes k x) ∙ is)

-- what `memchr` answers
pub found-Contains : (bytes : List ℕ) (x : ℕ) (r : Option ℕ) → IsFirstByte (is_byte x) bytes r → IsTrue (is_some r) ↔ Contains bytes x
found-Contains bytes x None none = (
  λ no. absurd (false≢true no),
  λ (k, lt, is). absurd (none k (omega arith) lt (eq-eqb _ x (get_or_default bytes k 0 x lt ∙ is))),
)
found-Contains bytes x (Some k) first = (
  λ _. (k, first.0.high, get_or_default bytes k x 0 first.0.high ∙ eqb-true _ x first.1),
  λ _. refl,
)

-- no end is below the start
pub start-le-ends : (start : ℕ) (ends : List ℕ) (len : ℕ) → RiseTo start ends len → All (λ end. start ≤ end) ends
start-le-ends start [] len rise k d lt = absurd (omega (arith, lt))
start-le-ends start (end ∷ ends) len rise Prim.Native.Nat.zero d lt = rise.0
start-le-ends start (end ∷ ends) len rise (suc k) d lt = omega (arith, rise.0, start-le-ends end ends len rise.1 k d (omega (arith, lt)))

module _ (bytes ends : List ℕ) (gone : ℕ) (sound : IsSound bytes ends gone) where
  -- the words that are still there
  abbrev pub words_left : List (List ℕ)
  words_left = drop gone (slices bytes 0 ends)

  -- where the first of them starts
  abbrev pub first_start : ℕ
  first_start = start_at 0 ends gone

  pub left-slices : words_left ≡ slices bytes first_start (drop gone ends)
  left-slices = drop-slices bytes 0 ends gone sound.among

  pub left-rise : RiseTo first_start (drop gone ends) (length bytes)
  left-rise = RiseTo-drop 0 ends (length bytes) gone sound.among sound.whole

  pub first_start-le : first_start ≤ length bytes
  first_start-le = start-le first_start (drop gone ends) (length bytes) left-rise

  pub length-left : length words_left ≡ length ends - gone
  length-left = length-drop gone (slices bytes 0 ends) ∙ ap (λ n. n - gone) (length-slices bytes 0 ends)

  pub concat-left : concat words_left ≡ drop first_start bytes
  concat-left = ap concat left-slices ∙ concat-slices bytes first_start (drop gone ends) left-rise

  pub sum_by-left-le : sum_by length words_left ≤ length bytes
  sum_by-left-le = omega (arith, sum_by-length words_left ∙ ap length concat-left, length-drop first_start bytes)

  pub left-no_nul : All (λ word. HasNul word → ⊥) words_left
  left-no_nul k d lt nul =
      let word = slice_index_or words_left k d in
      let some : Any (λ word. Contains word 0) words_left = (k, word, lt, get_or_default words_left k word d lt, nul) in
      let joined : Contains (drop first_start bytes) 0 = subst (λ joined. Contains joined 0) concat-left (Any-concat words_left 0 some) in
      sound.no_nul (Contains-drop first_start bytes 0 joined)

  -- ---- as the code of `Words` reads it: the list is seen as a value, and a slice of a `Vec` is read as the list of its items
  module _ (value : List (List ℕ)) (is : words_left ≡ value) where
    pub length-value : length value + gone ≡ length ends
    length-value = omega (arith, ap length is, length-left, sound.among)

    pub sum_by-value : sum_by length value ≤ length bytes
    sum_by-value = let P : List (List ℕ) → Type 0 = λ words. sum_by length words ≤ length bytes in subst P is sum_by-left-le

    pub value-no_nul : All (λ word. HasNul word → ⊥) value
    value-no_nul = let P : List (List ℕ) → Type 0 = All (λ word. HasNul word → ⊥) in subst P is left-no_nul

    -- the part of the buffer that is the word at a place
    pub part_at : (place start end : ℕ) (seen : List ℕ) → place < length value → seen ≡ ends → start ≡ start_at 0 seen (gone + place) → end ≡ slice_index_or ends (gone + place) end
        → (start ≤ end) × (end ≤ length bytes) × (slice_range bytes start end ≡ slice_index_or value place [])
    part_at place start end seen lt seen_is start_is end_is = (
      rw (begins, ends_here) bounds.0,
      rw ends_here bounds.1,
      rw (begins, ends_here) (sym (at-slices bytes 0 ends (gone + place) [] within) ∙ (sym (get_or-drop gone (slices bytes 0 ends) place []) ∙ ap (λ words. slice_index_or words place []) is)),
    )
      where
        within : gone + place < length ends
        within = omega (arith, lt, length-value)

        begins : start ≡ start_at 0 ends (gone + place)
        begins = start_is ∙ ap (λ seen. start_at 0 seen (gone + place)) seen_is

        ends_here : end ≡ slice_index ends (gone + place)
        ends_here = end_is ∙ get_or_default ends (gone + place) end 0 within

        bounds : (start_at 0 ends (gone + place) ≤ slice_index ends (gone + place)) × (slice_index ends (gone + place) ≤ length bytes)
        bounds = ends_at 0 ends (length bytes) (gone + place) within sound.whole

    -- the part of the buffer that is all of the words
    pub part_from : (start : ℕ) (seen seen_bytes : List ℕ) → seen ≡ ends → seen_bytes ≡ bytes → start ≡ start_at 0 seen gone
        → (start ≤ length seen_bytes) × (drop start seen_bytes ≡ concat value)
    part_from start seen seen_bytes seen_is bytes_is start_is = (
      rw (begins, bytes_is) first_start-le,
      rw (begins, bytes_is) (sym concat-left ∙ ap concat is),
    )
      where
        begins : start ≡ first_start
        begins = start_is ∙ ap (λ seen. start_at 0 seen gone) seen_is

    -- the ends of the words
    pub ends_from : (start : ℕ) (seen left seen_bytes : List ℕ) → seen ≡ ends → left ≡ drop gone ends → seen_bytes ≡ bytes → start ≡ start_at 0 seen gone
        → RiseTo start left (length seen_bytes) × (slices seen_bytes start left ≡ value)
    ends_from start seen left seen_bytes seen_is left_is bytes_is start_is = (
      rw (begins, left_is, bytes_is) left-rise,
      rw (begins, left_is, bytes_is) (sym left-slices ∙ is),
    )
      where
        begins : start ≡ first_start
        begins = start_is ∙ ap (λ seen. start_at 0 seen gone) seen_is

  -- the buffer after one more word
  pub pushed : (word more more_ends : List ℕ) (end : ℕ) → (HasNul word → ⊥) → more ≡ bytes ++ word → more_ends ≡ ends ++ end ∷ [] → end ≡ length more
      → IsSound more more_ends gone × (drop gone (slices more 0 more_ends) ≡ words_left ++ word ∷ [])
  pushed word more more_ends end no_nul more_is ends_are end_is = (
    record {
      whole = rw (ends_are, end_is) (RiseTo-push 0 ends (length bytes) (length more) (omega (arith, long)) sound.whole);
      no_nul = λ nul. ⊎_elim sound.no_nul no_nul (Contains-append_cases bytes word 0 (let P : List ℕ → Type 0 = HasNul in subst P more_is nul));
      among = omega (arith, sound.among, ap length ends_are, length-append ends (end ∷ []));
    },
    rw (ends_are, end_is ∙ long, more_is, slices-push bytes word 0 ends sound.whole)
        (drop-append-le gone (slices bytes 0 ends) (word ∷ []) (omega (arith, sound.among, length-slices bytes 0 ends))),
  )
    where
      long : length more ≡ length bytes + length word
      long = ap length more_is ∙ length-append bytes word
