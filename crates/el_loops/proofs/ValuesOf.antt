-- The values of an input, as a splitter finds them piece by piece.
use Rattle.el_room.proofs.Vocabulary.{fun_ext, list_any, nat_cmp, append-nil, Delimiters, is_delimiter, last_word, crunched_after, split_behind, Splitting, fed, values_of, last_value, values_of-append, Read, has}
use Rattle.std.proofs.Common.{◌≡◌, ℕ, Bool, true, false, if◌then◌else◌, ◌||◌, List, [], ◌∷◌, ◌++◌, length, drop, refl, sym, ap, ap₂, ◌∙◌, codes, eq-eqb, true≢false}
use Rattle.std.specs.Prelude.{nat_eq}
use Rattle.std.specs.FinSet as set
use Rattle.std.proofs.Math.Seq.{drop-append_seam}
use Rattle.el_transform.specs.Splitting.{has_delimiter}
use Rattle.el_transform.specs.Splitter.{ended, grown, is_passed_over, after_last}
use Rattle.el_transform.proofs.Pieces.{with_last-kept, values_of-none, unfinished-after_last}
use Rattle.el_loops.specs.Values.{delimiters_of, values_in, through_last, ended_values, new_values, last_values}
use Rattle.el_loops.specs.Loops.{unread, listed}

-- ---- delimiters

abbrev delims_of : Read → Delimiters
delims_of read = set.from_list (delimiters_of read)

abbrev test_of : Read → ℕ → Bool
test_of read = λ byte. list_any (λ delimiter. nat_eq delimiter byte) (delimiters_of read)

ends_is : (read : Read) → test_of read ≡ is_delimiter (delims_of read)
ends_is read = fun_ext (λ byte. sym (set.contains-from_list_nat (delimiters_of read) byte))

-- a set of some bytes isn't empty
some_delimiter : (byte : ℕ) (bytes : List ℕ) → (let s : Delimiters = set.from_list (byte ∷ bytes) in s ≡ set.empty) → ⊥
some_delimiter byte bytes none =
    true≢false
    (sym (ap (λ b. b || list_any (λ delimiter. nat_eq delimiter byte) bytes) (eq-eqb byte byte refl))
    ∙ sym (set.contains-from_list_nat (byte ∷ bytes) byte)
    ∙ ap (λ (s : Delimiters). set.contains s byte) none
    ∙ set.contains-empty nat_cmp byte)

pub some_delimiters : (bytes : List ℕ) → (bytes ≡ [] → ⊥) → (let s : Delimiters = set.from_list bytes in s ≡ set.empty) → ⊥
some_delimiters [] some = absurd (some refl)
some_delimiters (byte ∷ bytes) some = some_delimiter byte bytes

-- ---- the bytes through the last delimiter

module _ (delims : Delimiters) where
  through-has : (bytes : List ℕ) → has_delimiter delims (through_last (is_delimiter delims) bytes) ≡ has_delimiter delims bytes
  through-has [] = refl
  through-has (byte ∷ bytes) = by (has_delimiter delims (byte ∷ bytes)) refl (through-has bytes)
    where
      by : (some : Bool) → has_delimiter delims (byte ∷ bytes) ≡ some → has_delimiter delims (through_last (is_delimiter delims) bytes) ≡ has_delimiter delims bytes
          → has_delimiter delims (if some then byte ∷ through_last (is_delimiter delims) bytes else []) ≡ has_delimiter delims (byte ∷ bytes)
      by true e rest = ap (λ b. is_delimiter delims byte || b) rest
      by false e rest = sym e

  through-ends : (bytes : List ℕ) → after_last delims (through_last (is_delimiter delims) bytes) ≡ []
  through-ends [] = refl
  through-ends (byte ∷ bytes) = by (has_delimiter delims (byte ∷ bytes)) refl (through-ends bytes)
    where
      by : (some : Bool) → has_delimiter delims (byte ∷ bytes) ≡ some → after_last delims (through_last (is_delimiter delims) bytes) ≡ []
          → after_last delims (if some then byte ∷ through_last (is_delimiter delims) bytes else []) ≡ []
      by true e rest =
          ap (λ b. if b then after_last delims (through_last (is_delimiter delims) bytes) else byte ∷ through_last (is_delimiter delims) bytes) (ap (λ b. is_delimiter delims byte || b) (through-has bytes) ∙ e) ∙ rest
      by false e rest = refl

  through-joined : (bytes : List ℕ) → through_last (is_delimiter delims) bytes ++ after_last delims bytes ≡ bytes
  through-joined [] = refl
  through-joined (byte ∷ bytes) = by (has_delimiter delims (byte ∷ bytes)) (through-joined bytes)
    where
      by : (some : Bool) → through_last (is_delimiter delims) bytes ++ after_last delims bytes ≡ bytes
          → (if some then byte ∷ through_last (is_delimiter delims) bytes else []) ++ (if some then after_last delims bytes else byte ∷ bytes) ≡ byte ∷ bytes
      by true rest = ap (λ bytes. byte ∷ bytes) rest
      by false rest = refl

  after-none : (bytes : List ℕ) → has_delimiter delims (after_last delims bytes) ≡ false
  after-none [] = refl
  after-none (byte ∷ bytes) = by (has_delimiter delims (byte ∷ bytes)) refl (after-none bytes)
    where
      by : (some : Bool) → has_delimiter delims (byte ∷ bytes) ≡ some → has_delimiter delims (after_last delims bytes) ≡ false → has_delimiter delims (if some then after_last delims bytes else byte ∷ bytes) ≡ false
      by true e rest = rest
      by false e rest = e

-- the delimiters stay
fed-delims : (s : Splitting) (bytes : List ℕ) → (fed s bytes).delims ≡ s.delims
fed-delims s [] = refl
fed-delims s (byte ∷ bytes) = by (is_passed_over s byte) (is_delimiter s.delims byte) (fed-delims s bytes) (fed-delims (ended s) bytes) (fed-delims (grown s byte) bytes)
  where
    by : (passed delimits : Bool) → (fed s bytes).delims ≡ s.delims → (fed (ended s) bytes).delims ≡ s.delims → (fed (grown s byte) bytes).delims ≡ s.delims
        → (let t : Splitting = if passed then fed s bytes else (if delimits then fed (ended s) bytes else fed (grown s byte) bytes) in t.delims) ≡ s.delims
    by true delimits passes ends grows = passes
    by false true passes ends grows = ends
    by false false passes ends grows = grows

-- ---- the values

-- those that end, and the unfinished one
split-is : (read : Read) (input : List ℕ) → values_in read input ≡ values_of (unread read) input ++ last_word (fed (unread read) input).unfinished
split-is read input =
    ap (λ (test : ℕ → Bool). split_behind test [] (if has (codes "C") read then crunched_after test false input else input)) (ends_is read) ∙ with_last-kept (unread read) input

nothing_unfinished : (read : Read) (input : List ℕ) → (fed (unread read) (through_last (is_delimiter (delims_of read)) input)).unfinished ≡ []
nothing_unfinished read input =
    let through = through_last (is_delimiter (delims_of read)) input in
    unfinished-after_last (has (codes "C") read) (delims_of read) (through ∷ []) ∙ ap (after_last (delims_of read)) (append-nil through) ∙ through-ends (delims_of read) input

-- what is behind the last delimiter ends no value
through-values : (read : Read) (input : List ℕ) → values_of (unread read) (through_last (is_delimiter (delims_of read)) input) ≡ values_of (unread read) input
through-values read input =
    let delims = delims_of read in
    let through = through_last (is_delimiter delims) input in
    let behind = fed (unread read) through in
    let none : has_delimiter behind.delims (after_last delims input) ≡ false = ap (λ (d : Delimiters). has_delimiter d (after_last delims input)) (fed-delims (unread read) through) ∙ after-none delims input in
    sym (ap (values_of (unread read)) (sym (through-joined delims input))
    ∙ values_of-append (unread read) through (after_last delims input)
    ∙ ap (λ more. values_of (unread read) through ++ more) (values_of-none behind (after_last delims input) none)
    ∙ append-nil (values_of (unread read) through))

ended-is : (read : Read) (input : List ℕ) → ended_values read input ≡ values_of (unread read) input
ended-is read input =
    let through = through_last (is_delimiter (delims_of read)) input in
    ap (λ (test : ℕ → Bool). values_in read (through_last test input)) (ends_is read)
    ∙ split-is read through
    ∙ ap (λ bytes. values_of (unread read) through ++ last_word bytes) (nothing_unfinished read input)
    ∙ append-nil (values_of (unread read) through)
    ∙ through-values read input

-- those that end in a piece
pub new-is : (read : Read) (before piece : List ℕ) → new_values read before piece ≡ values_of (fed (unread read) before) piece
new-is read before piece =
    ap₂ (λ old all. drop (length old) all) (ended-is read before) (ended-is read (before ++ piece) ∙ values_of-append (unread read) before piece)
    ∙ drop-append_seam (values_of (unread read) before) (values_of (fed (unread read) before) piece)

last_listed : (bytes : List ℕ) → last_word bytes ≡ listed (last_value bytes)
last_listed [] = refl
last_listed (byte ∷ bytes) = refl

-- the last one
pub last-is : (read : Read) (input : List ℕ) → last_values read input ≡ listed (last_value (fed (unread read) input).unfinished)
last-is read input =
    ap₂ (λ old all. drop (length old) all) (ended-is read input) (split-is read input)
    ∙ drop-append_seam (values_of (unread read) input) (last_word (fed (unread read) input).unfinished)
    ∙ last_listed (fed (unread read) input).unfinished
