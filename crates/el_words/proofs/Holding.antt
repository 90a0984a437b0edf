-- The first word of a list that holds a byte, found in the buffer.
use Rattle.std.proofs.Common.{◌≡◌, ℕ, suc, ◌+◌, ◌-◌, ◌<◌, ◌≤◌, List, [], ◌∷◌, sym, ap, ◌∙◌, subst, length, drop, slice_index_or, slice_range, Any, Contains, Some, None, arith, eq-eqb}
use Rattle.std.proofs.lemmas.List.{length-drop, get_or-take, get_or-drop, get_or_default}
use Rattle.std.proofs.lemmas.Bool.{eqb-true, false≢true}
use Rattle.std.specs.List.Sorted.{IsNonDecreasing}
use Rattle.memchr.specs.Find.{IsFirst, IsFirstByte, is_byte}
use Rattle.el_words.specs.Word.{HoldsByteAt}
use Rattle.el_words.specs.Words.{slices, RiseTo, start_at, IsCut, IsSound}
use Rattle.el_words.proofs.Slices.{start-le, start-le-ends, drop-slices, RiseTo-drop, length-value, found-Contains, Any-concat, part_from}
use Rattle.el_words.proofs.Between.{length-slice_range, among, after}

-- ends that rise to a length are in order
pub RiseTo-ordered : (start : ℕ) (ends : List ℕ) (len : ℕ) → RiseTo start ends len → IsNonDecreasing ends
RiseTo-ordered start [] len rise i j d le lt = absurd (omega (arith, lt))
RiseTo-ordered start (end ∷ ends) len rise Prim.Native.Nat.zero Prim.Native.Nat.zero d le lt = omega arith
RiseTo-ordered start (end ∷ ends) len rise Prim.Native.Nat.zero (suc j) d le lt = start-le-ends end ends len rise.1 j d (omega (arith, lt))
RiseTo-ordered start (end ∷ ends) len rise (suc i) Prim.Native.Nat.zero d le lt = absurd (omega (arith, le))
RiseTo-ordered start (end ∷ ends) len rise (suc i) (suc j) d le lt = RiseTo-ordered end ends len rise.1 i j d (omega (arith, le)) (omega (arith, lt))

-- a byte of a slice is one of the buffer
slice_range-at : (bytes : List ℕ) (start end k d : ℕ) → k < end - start → slice_index_or (slice_range bytes start end) k d ≡ slice_index_or bytes (start + k) d
slice_range-at bytes start end k d lt = get_or-take (end - start) (drop start bytes) k d lt ∙ get_or-drop start bytes k d

-- a slice before the first place of a byte doesn't hold it
first-later : (bytes : List ℕ) (start end : ℕ) (more : List (List ℕ)) (count at x k : ℕ) → start ≤ end → end ≤ length bytes → end ≤ at
    → ((j : ℕ) → start ≤ j → j < at → slice_index_or bytes j x ≡ x → ⊥)
    → IsFirst (HoldsByteAt more x) 0 count (Some k) → IsFirst (HoldsByteAt (slice_range bytes start end ∷ more) x) 0 (suc count) (Some (suc k))
first-later bytes start end more count at x k order within below none later = (
  record { low = omega arith; high = omega (arith, later.0.high); before = before },
  later.1,
)
  where
    before : (j : ℕ) → 0 ≤ j → j < suc k → HoldsByteAt (slice_range bytes start end ∷ more) x j → ⊥
    before Prim.Native.Nat.zero le lt (m, short, is) =
        let inside : m < end - start = omega (arith, short, length-slice_range bytes start end order within) in
        none (start + m) (omega arith) (omega (arith, inside, below)) (sym (slice_range-at bytes start end m x inside) ∙ is)
    before (suc j) le lt holds = later.0.before j (omega arith) (omega (arith, lt)) holds

-- the first slice whose end is above the first place of a byte is the first that holds it
first-slice : (bytes : List ℕ) (start : ℕ) (ends : List ℕ) (at x k : ℕ) → RiseTo start ends (length bytes) → start ≤ at → at < length bytes → slice_index_or bytes at x ≡ x
    → ((j : ℕ) → start ≤ j → j < at → slice_index_or bytes j x ≡ x → ⊥) → IsCut at ends k → IsFirst (HoldsByteAt (slices bytes start ends) x) 0 (length ends) (Some k)
first-slice bytes start [] at x k rise low high here none cut = absurd (omega (arith, rise, low, high))
first-slice bytes start (end ∷ ends) at x Prim.Native.Nat.zero rise low high here none cut = (
  record { low = omega arith; high = omega arith; before = λ j le lt holds. absurd (omega (arith, lt)) },
  (at - start, long, slice_range-at bytes start end (at - start) x inside ∙ ap (λ n. slice_index_or bytes n x) (omega (arith, low)) ∙ here),
)
  where
    above : at < end
    above = cut.above 0 (omega arith) (omega arith)

    inside : at - start < end - start
    inside = omega (arith, low, above)

    long : at - start < length (slice_range bytes start end)
    long = omega (arith, inside, length-slice_range bytes start end rise.0 (start-le end ends (length bytes) rise.1))
first-slice bytes start (end ∷ ends) at x (suc k) rise low high here none cut =
    let below : end ≤ at = cut.below 0 (omega arith) in
    first-later bytes start end (slices bytes end ends) (length ends) at x k rise.0 (start-le end ends (length bytes) rise.1) below none
    (first-slice bytes end ends at x k rise.1 below high here (λ j le lt is. none j (omega (arith, rise.0, le)) lt is)
    (record {
      within = omega (arith, cut.within);
      below = λ j lt. cut.below (suc j) (omega (arith, lt));
      above = λ j le lt. cut.above (suc j) (omega (arith, le)) (omega (arith, lt));
    }))

-- the first in the words from a place on is the first at or after this place
first-after : (value : List (List ℕ)) (from x k : ℕ) → from ≤ length value → IsFirst (HoldsByteAt (drop from value) x) 0 (length value - from) (Some k)
    → IsFirst (HoldsByteAt value x) from (length value) (Some (from + k))
first-after value from x k le first = (
  record { low = omega arith; high = omega (arith, first.0.high); before = before },
  subst (λ word. Contains word x) (get_or-drop from value k []) first.1,
)
  where
    before : (j : ℕ) → from ≤ j → j < from + k → HoldsByteAt value x j → ⊥
    before j low lt holds =
        first.0.before (j - from) (omega arith) (omega (arith, lt, low))
        (subst (λ word. Contains word x) (sym (get_or-drop from value (j - from) [] ∙ ap (λ n. slice_index_or value n []) (omega (arith, low)))) holds)

none-after : (value : List (List ℕ)) (from x : ℕ) → (Any (λ word. Contains word x) (drop from value) → ⊥) → IsFirst (HoldsByteAt value x) from (length value) None
none-after value from x none j low lt holds =
    none (
      j - from,
      slice_index_or value j [],
      omega (arith, low, lt, length-drop from value),
      get_or-drop from value (j - from) (slice_index_or value j []) ∙ ap (λ n. slice_index_or value n (slice_index_or value j [])) (omega (arith, low)) ∙ get_or_default value j (slice_index_or value j []) [] lt,
      holds,
    )

module _ (bytes ends : List ℕ) (gone : ℕ) (sound : IsSound bytes ends gone) (value : List (List ℕ)) (is : drop gone (slices bytes 0 ends) ≡ value) (from : ℕ) (within : from ≤ length value) where
  -- ---- as the code of `Words` reads it
  -- from where the bytes are looked through
  pub begins-le : (start : ℕ) (seen seen_bytes : List ℕ) → seen ≡ ends → seen_bytes ≡ bytes → start ≡ start_at 0 seen (gone + from) → start ≤ length seen_bytes
  begins-le start seen seen_bytes seen_is bytes_are start_is =
      let next = after bytes ends gone sound value is from within in
      (part_from bytes ends (gone + from) next.0 (drop from value) next.1 start seen seen_bytes seen_is bytes_are start_is).0

  pub left-ordered : (seen left : List ℕ) → seen ≡ ends → left ≡ drop (gone + from) seen → IsNonDecreasing left
  left-ordered seen left seen_is left_is = subst IsNonDecreasing (sym (left_is ∙ ap (drop (gone + from)) seen_is)) (RiseTo-ordered (start_at 0 ends (gone + from)) (drop (gone + from) ends) (length bytes) (RiseTo-drop 0 ends (length bytes) (gone + from) (among bytes ends gone sound value is from within) sound.whole))

  -- no byte is found
  pub none-holds : (start x : ℕ) (seen seen_bytes : List ℕ) → seen ≡ ends → seen_bytes ≡ bytes → start ≡ start_at 0 seen (gone + from) → IsFirstByte (is_byte x) (drop start seen_bytes) None
      → IsFirst (HoldsByteAt value x) from (length value) None
  none-holds start x seen seen_bytes seen_is bytes_are start_is none =
      let next = after bytes ends gone sound value is from within in
      let all = (part_from bytes ends (gone + from) next.0 (drop from value) next.1 start seen seen_bytes seen_is bytes_are start_is).1 in
      none-after value from x (λ some. false≢true ((found-Contains (drop start seen_bytes) x None none).1 (subst (λ bytes. Contains bytes x) (sym all) (Any-concat (drop from value) x some))))

  -- one is found
  pub some-holds : (start x found k : ℕ) (seen seen_bytes seen_ends left : List ℕ) → seen ≡ ends → seen_bytes ≡ bytes → seen_ends ≡ ends → start ≡ start_at 0 seen (gone + from)
      → IsFirstByte (is_byte x) (drop start seen_bytes) (Some found) → left ≡ drop (gone + from) seen_ends → IsCut (start + found) left k → IsFirst (HoldsByteAt value x) from (length value) (Some (from + k))
  some-holds start x found k seen seen_bytes seen_ends left seen_is bytes_are ends_are start_is first left_is cut =
      first-after value from x k within (subst (λ n. IsFirst (HoldsByteAt (drop from value) x) 0 n (Some k)) few (subst (λ words. IsFirst (HoldsByteAt words x) 0 (length later) (Some k)) are in_slices))
    where
      begin : ℕ
      begin = start_at 0 ends (gone + from)

      later : List ℕ
      later = drop (gone + from) ends

      begins : start ≡ begin
      begins = start_is ∙ ap (λ seen. start_at 0 seen (gone + from)) seen_is

      low : gone + from ≤ length ends
      low = among bytes ends gone sound value is from within

      few : length later ≡ length value - from
      few = omega (arith, low, length-drop (gone + from) ends, length-value bytes ends gone sound value is)

      are : slices bytes begin later ≡ drop from value
      are = sym (drop-slices bytes 0 ends (gone + from) low) ∙ (after bytes ends gone sound value is from within).1

      there : IsFirstByte (is_byte x) (drop begin bytes) (Some found)
      there = subst (λ hay. IsFirstByte (is_byte x) hay (Some found)) ((λ i. drop (begins i) (bytes_are i))) first

      short : found < length (drop begin bytes)
      short = there.0.high

      at : ℕ
      at = begin + found

      here : slice_index_or bytes at x ≡ x
      here = sym (get_or-drop begin bytes found x) ∙ get_or_default (drop begin bytes) found x 0 short ∙ eqb-true _ x there.1

      before : (j : ℕ) → begin ≤ j → j < at → slice_index_or bytes j x ≡ x → ⊥
      before j le lt is =
          there.0.before (j - begin) (omega arith) (omega (arith, le, lt))
          (eq-eqb _ x (get_or_default (drop begin bytes) (j - begin) 0 x (omega (arith, le, lt, short)) ∙ get_or-drop begin bytes (j - begin) x ∙ ap (λ n. slice_index_or bytes n x) (omega (arith, le)) ∙ is))

      cuts : IsCut at later k
      cuts = let P : ℕ → List ℕ → Type 0 = λ n left. IsCut (n + found) left k in subst (P begin) (left_is ∙ ap (drop (gone + from)) ends_are) (subst (λ n. P n left) begins cut)

      in_slices : IsFirst (HoldsByteAt (slices bytes begin later) x) 0 (length later) (Some k)
      in_slices = first-slice bytes begin later at x k (RiseTo-drop 0 ends (length bytes) (gone + from) low sound.whole) (omega arith) (omega (arith, short, length-drop begin bytes)) here before cuts
