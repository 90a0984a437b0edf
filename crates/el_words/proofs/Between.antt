-- The words from one place of a list to before another, in bulk.
use Rattle.std.proofs.Common.{◌≡◌, ℕ, suc, ◌+◌, ◌-◌, ◌<◌, ◌≤◌, List, [], ◌∷◌, ◌++◌, refl, sym, ap, ◌∙◌, subst, length, take, drop, map, slice_range, All, Contains, arith, append-nil, append_assoc}
use Rattle.std.proofs.lemmas.List.{length-append, length-take, length-drop, drop-drop, get_or-take}
use Rattle.std.proofs.lemmas.List.Folds.{drop_split}
use Rattle.std.proofs.lemmas.List.Elements.{Contains-append_left, Contains-append_right}
use Rattle.std.specs.List.{concat}
use Rattle.el_words.specs.Word.{HasNul}
use Rattle.el_words.specs.Words.{slices, RiseTo, start_at, word_ends, IsSound}
use Rattle.el_words.proofs.Slices.{start-le, drop-slices, RiseTo-drop, length-value, Contains-drop, pushed}

pub length-slice_range : {X : Type 0} (xs : List X) (start end : ℕ) → start ≤ end → end ≤ length xs → length (slice_range xs start end) ≡ end - start
length-slice_range xs start end order within = omega (arith, order, within, length-take (end - start) (drop start xs), length-drop start xs)

Contains-slice_range : (bytes : List ℕ) (start end x : ℕ) → Contains (slice_range bytes start end) x → Contains bytes x
Contains-slice_range bytes start end x (k, lt, is) =
    let short : k < end - start = omega (arith, lt, length-take (end - start) (drop start bytes)) in
    Contains-drop start bytes x (k, omega (arith, lt, length-take (end - start) (drop start bytes)), sym (get_or-take (end - start) (drop start bytes) k x short) ∙ is)

-- the first slices
take-slices : (bytes : List ℕ) (start : ℕ) (ends : List ℕ) (k : ℕ) → take k (slices bytes start ends) ≡ slices bytes start (take k ends)
take-slices bytes start ends Prim.Native.Nat.zero = refl
take-slices bytes start [] (suc k) = refl
take-slices bytes start (end ∷ ends) (suc k) = ap (λ later. slice_range bytes start end ∷ later) (take-slices bytes end ends k)

RiseTo-take : (start : ℕ) (ends : List ℕ) (len k : ℕ) → k ≤ length ends → RiseTo start ends len → RiseTo start (take k ends) (start_at start ends k)
RiseTo-take start ends len Prim.Native.Nat.zero le rise = refl
RiseTo-take start [] len (suc k) le rise = absurd (omega (arith, le))
RiseTo-take start (end ∷ ends) len (suc k) le rise = (rise.0, RiseTo-take end ends len k (omega (arith, le)) rise.1)

start_at-drop : (start : ℕ) (ends : List ℕ) (n k : ℕ) → n ≤ length ends → start_at (start_at start ends n) (drop n ends) k ≡ start_at start ends (n + k)
start_at-drop start ends Prim.Native.Nat.zero k le = let same : k ≡ 0 + k = omega arith in ap (start_at start ends) same
start_at-drop start [] (suc n) k le = absurd (omega (arith, le))
start_at-drop start (end ∷ ends) (suc n) k le = start_at-drop end ends n k (omega (arith, le)) ∙ (let same : suc (n + k) ≡ suc n + k = omega arith in ap (start_at start (end ∷ ends)) same)

-- two neighbouring parts are one
slice_range-slice_range : (bytes : List ℕ) (start mid end : ℕ) → start ≤ mid → mid ≤ end → end ≤ length bytes → slice_range bytes start mid ++ slice_range bytes mid end ≡ slice_range bytes start end
slice_range-slice_range bytes start mid end first then within =
    joined (take (mid - start) (drop start bytes)) (take (end - mid) (drop mid bytes)) (drop start bytes) (drop mid bytes)
    (drop_split bytes start mid first) (omega (arith, length-slice_range bytes start mid first (omega (arith, then, within))))
  where
    joined : (one two whole rest : List ℕ) → whole ≡ one ++ rest → length one ≡ mid - start → one ++ take (end - mid) rest ≡ take (end - start) whole
    joined one two whole rest whole_is long = rw whole_is (taken one rest (end - start) (end - mid) (omega (arith, long, first, then)))
      where
        taken : (one rest : List ℕ) (n m : ℕ) → n ≡ length one + m → one ++ take m rest ≡ take n (one ++ rest)
        taken [] rest n m is = let same : m ≡ n = omega (arith, is) in ap (λ k. take k rest) same
        taken (x ∷ one) rest n m is = let same : suc (length one + m) ≡ n = omega (arith, is) in ap (λ xs. x ∷ xs) (taken one rest (length one + m) m refl) ∙ ap (λ k. take k (x ∷ (one ++ rest))) same

-- the slices up to a stop, joined, are the bytes up to there
concat-part : (bytes : List ℕ) (start : ℕ) (ends : List ℕ) (stop : ℕ) → RiseTo start ends stop → stop ≤ length bytes → concat (slices bytes start ends) ≡ slice_range bytes start stop
concat-part bytes start [] stop rise within = let none : 0 ≡ stop - start = omega (arith, rise) in ap (λ n. take n (drop start bytes)) none
concat-part bytes start (end ∷ ends) stop rise within =
    ap (λ later. slice_range bytes start end ++ later) (concat-part bytes end ends stop rise.1 within)
    ∙ slice_range-slice_range bytes start end stop rise.0 (start-le end ends stop rise.1) within

-- and they end where their ends say
word_ends-slices : (bytes : List ℕ) (start : ℕ) (ends : List ℕ) (stop : ℕ) → RiseTo start ends stop → stop ≤ length bytes → word_ends start (slices bytes start ends) ≡ ends
word_ends-slices bytes start [] stop rise within = refl
word_ends-slices bytes start (end ∷ ends) stop rise within =
    ap (λ n. n ∷ word_ends n (slices bytes end ends)) here ∙ ap (λ later. end ∷ later) (word_ends-slices bytes end ends stop rise.1 within)
  where
    here : start + length (slice_range bytes start end) ≡ end
    here = omega (arith, rise.0, length-slice_range bytes start end rise.0 (omega (arith, within, start-le end ends stop rise.1)))

module _ (bytes ends : List ℕ) (gone : ℕ) (sound : IsSound bytes ends gone) (value : List (List ℕ)) (is : drop gone (slices bytes 0 ends) ≡ value) where
  -- a place of the list, or its end, among all places of the buffer
  pub among : (place : ℕ) → place ≤ length value → gone + place ≤ length ends
  among place le = omega (arith, le, length-value bytes ends gone sound value is)

  -- the words without the first ones are sound
  pub after : (from : ℕ) → from ≤ length value → IsSound bytes ends (gone + from) × (drop (gone + from) (slices bytes 0 ends) ≡ drop from value)
  after from le = (
    record { whole = sound.whole; no_nul = sound.no_nul; among = among from le },
    sym (drop-drop from gone (slices bytes 0 ends)) ∙ ap (drop from) is,
  )

  module _ (from to : ℕ) (order : from ≤ to) (within : to ≤ length value) where
    low : gone + from ≤ length ends
    low = among from (omega (arith, order, within))

    abbrev start : ℕ
    start = start_at 0 ends (gone + from)

    abbrev stop : ℕ
    stop = start_at 0 ends (gone + to)

    abbrev part : List ℕ
    part = take (to - from) (drop (gone + from) ends)

    left : RiseTo start (drop (gone + from) ends) (length bytes)
    left = RiseTo-drop 0 ends (length bytes) (gone + from) low sound.whole

    rises : RiseTo start part stop
    rises = subst (RiseTo start part) same (RiseTo-take start (drop (gone + from) ends) (length bytes) (to - from) few left)
      where
        few : to - from ≤ length (drop (gone + from) ends)
        few = omega (arith, order, within, low, length-value bytes ends gone sound value is, length-drop (gone + from) ends)

        same : start_at start (drop (gone + from) ends) (to - from) ≡ stop
        same = (let same : gone + from + (to - from) ≡ gone + to = omega (arith, order) in start_at-drop 0 ends (gone + from) (to - from) low ∙ ap (start_at 0 ends) same)

    inside : stop ≤ length bytes
    inside = start-le stop (drop (gone + to) ends) (length bytes) (RiseTo-drop 0 ends (length bytes) (gone + to) (among to within) sound.whole)

    are : slice_range value from to ≡ slices bytes start part
    are =
        ap (take (to - from)) (sym (after from (omega (arith, order, within))).1 ∙ drop-slices bytes 0 ends (gone + from) low)
        ∙ take-slices bytes start (drop (gone + from) ends) (to - from)

    -- where the words lie, as the code of `Words` reads it
    pub between : (seen-start seen-stop : List ℕ) (s e : ℕ) (seen_bytes : List ℕ) → seen-start ≡ ends → seen-stop ≡ ends → seen_bytes ≡ bytes
        → s ≡ start_at 0 seen-start (gone + from) → e ≡ start_at 0 seen-stop (gone + to)
        → (s ≤ e) × (e ≤ length seen_bytes) × (slice_range seen_bytes s e ≡ concat (slice_range value from to))
    between seen-start seen-stop s e seen_bytes starts_are stops_are bytes_are s_is e_is = (
      rw (begins, ends_here) (start-le start part stop rises),
      rw (ends_here, bytes_are) inside,
      rw (begins, ends_here, bytes_are) (sym (ap concat are ∙ concat-part bytes start part stop rises inside)),
    )
      where
        begins : s ≡ start
        begins = s_is ∙ ap (λ seen. start_at 0 seen (gone + from)) starts_are

        ends_here : e ≡ stop
        ends_here = e_is ∙ ap (λ seen. start_at 0 seen (gone + to)) stops_are

    -- none of them is NUL
    pub between-no_nul : (s e : ℕ) (seen_bytes : List ℕ) → seen_bytes ≡ bytes → HasNul (slice_range seen_bytes s e) → ⊥
    between-no_nul s e seen_bytes bytes_are nul = sound.no_nul (subst (λ bytes. Contains bytes 0) bytes_are (Contains-slice_range seen_bytes s e 0 nul))

    -- and where they end
    pub ends_are : (seen seen_ends : List ℕ) (s : ℕ) → seen ≡ ends → seen_ends ≡ ends → s ≡ start_at 0 seen (gone + from)
        → take (gone + to - (gone + from)) (drop (gone + from) seen_ends) ≡ word_ends s (slice_range value from to)
    ends_are seen seen_ends s seen_is ends_is s_is =
        rw (begins, ends_is) ((let same : gone + to - (gone + from) ≡ to - from = omega (arith, order) in ap (λ n. take n (drop (gone + from) ends)) same) ∙ sym (ap (word_ends start) are ∙ word_ends-slices bytes start part stop rises inside))
      where
        begins : s ≡ start
        begins = s_is ∙ ap (λ seen. start_at 0 seen (gone + from)) seen_is

-- ---- words put behind others

-- the ends counted from another place
pub word_ends-moved : (begin base n : ℕ) (words : List (List ℕ)) → map (λ end. end - begin + base) (word_ends (begin + n) words) ≡ word_ends (base + n) words
word_ends-moved begin base n [] = refl
word_ends-moved begin base n (word ∷ words) = λ i. here i ∷ (ap (λ m. map (λ end. end - begin + base) (word_ends m words)) one ∙ word_ends-moved begin base (n + length word) words ∙ ap (λ m. word_ends m words) two) i
  where
    one : begin + n + length word ≡ begin + (n + length word)
    one = omega arith

    two : base + (n + length word) ≡ base + n + length word
    two = omega arith

    here : begin + n + length word - begin + base ≡ base + n + length word
    here = omega arith

-- no end is below the start, nor above where the words end
pub word_ends-bounds : (begin : ℕ) (words : List (List ℕ)) → All (λ end. (begin ≤ end) × (end ≤ begin + length (concat words))) (word_ends begin words)
word_ends-bounds begin [] k d lt = absurd (omega (arith, lt))
word_ends-bounds begin (word ∷ words) Prim.Native.Nat.zero d lt = (omega arith, omega (arith, length-append word (concat words)))
word_ends-bounds begin (word ∷ words) (suc k) d lt =
    let later = word_ends-bounds (begin + length word) words k d (omega (arith, lt)) in
    (omega (arith, later.0), omega (arith, later.1, length-append word (concat words)))

pub length-word_ends : (begin : ℕ) (words : List (List ℕ)) → length (word_ends begin words) ≡ length words
length-word_ends begin [] = refl
length-word_ends begin (word ∷ words) = ap suc (length-word_ends (begin + length word) words)

-- the buffer after more words
pub appended : (bytes ends : List ℕ) (words : List (List ℕ)) → IsSound bytes ends 0 → (HasNul (concat words) → ⊥)
    → IsSound (bytes ++ concat words) (ends ++ word_ends (length bytes) words) 0 × (slices (bytes ++ concat words) 0 (ends ++ word_ends (length bytes) words) ≡ slices bytes 0 ends ++ words)
appended bytes ends [] sound no_nul =
    let P : List ℕ → List ℕ → Type 0 = λ more more_ends. IsSound more more_ends 0 × (slices more 0 more_ends ≡ slices bytes 0 ends ++ []) in
    subst (P (bytes ++ [])) (sym (append-nil ends)) (subst (λ more. P more ends) (sym (append-nil bytes)) (sound, sym (append-nil (slices bytes 0 ends))))
appended bytes ends (word ∷ words) sound no_nul =
    let long = length-append bytes word in
    let one = pushed bytes ends 0 sound word (bytes ++ word) (ends ++ (length bytes + length word) ∷ []) (length bytes + length word) (λ nul. no_nul (Contains-append_left word (concat words) 0 nul)) refl refl (sym long) in
    let rest = appended (bytes ++ word) (ends ++ (length bytes + length word) ∷ []) words one.0 (λ nul. no_nul (Contains-append_right word (concat words) 0 nul)) in
    let P : List ℕ → List ℕ → Type 0 = λ more more_ends. IsSound more more_ends 0 × (slices more 0 more_ends ≡ slices bytes 0 ends ++ word ∷ words) in
    subst (P (bytes ++ (word ++ concat words))) (append_assoc ends ((length bytes + length word) ∷ []) (word_ends (length bytes + length word) words))
    (subst (λ n. P (bytes ++ (word ++ concat words)) ((ends ++ (length bytes + length word) ∷ []) ++ word_ends n words)) long
    (subst (λ more. P more ((ends ++ (length bytes + length word) ∷ []) ++ word_ends (length (bytes ++ word)) words)) (append_assoc bytes word (concat words))
    (rest.0, rest.1 ∙ ap (λ texts. texts ++ words) one.1 ∙ append_assoc (slices bytes 0 ends) (word ∷ []) words)))

-- the same as the code of `Room` does it
pub appended-room : (bytes ends more more_ends new_bytes new_ends : List ℕ) (begin base : ℕ) (words : List (List ℕ)) → IsSound bytes ends 0 → (HasNul more → ⊥)
    → more ≡ concat words → more_ends ≡ word_ends begin words → base ≡ length bytes → new_bytes ≡ bytes ++ more → new_ends ≡ ends ++ map (λ end. end - begin + base) more_ends
    → IsSound new_bytes new_ends 0 × (slices new_bytes 0 new_ends ≡ slices bytes 0 ends ++ words)
appended-room bytes ends more more_ends new_bytes new_ends begin base words sound no_nul more_is ends_are base_is bytes_are all_ends =
    let P : List ℕ → List ℕ → Type 0 = λ bytes' ends'. IsSound bytes' ends' 0 × (slices bytes' 0 ends' ≡ slices bytes 0 ends ++ words) in
    let N : List ℕ → Type 0 = λ bytes. HasNul bytes in
    subst (P new_bytes) (sym (all_ends ∙ ap (λ later. ends ++ later) moved))
    (subst (λ bytes'. P bytes' (ends ++ word_ends (length bytes) words)) (sym (bytes_are ∙ ap (λ later. bytes ++ later) more_is))
    (appended bytes ends words sound (λ nul. no_nul (subst N (sym more_is) nul))))
  where
    moved : map (λ end. end - begin + base) more_ends ≡ word_ends (length bytes) words
    moved =
        ap (map (λ end. end - begin + base)) (ends_are ∙ (let zero : begin ≡ begin + 0 = omega arith in ap (λ n. word_ends n words) zero))
        ∙ word_ends-moved begin base 0 words
        ∙ (let zero : base + 0 ≡ length bytes = omega (arith, base_is) in ap (λ n. word_ends n words) zero)
