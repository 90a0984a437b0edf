-- The words that a reading used are one whole reading.
use Rattle.std.proofs.Common.{◌≡◌, ℕ, ◌+◌, ◌-◌, ◌≤◌, Bool, true, false, List, [], ◌∷◌, ◌++◌, map, take, drop, length, length-append, append-nil, Option, Some, None, refl, sym, ap, ◌∙◌, subst, arith}
use Rattle.std.proofs.Math.Seq.{take-append_seam}
use Rattle.std.proofs.lemmas.List.{take-append-drop, length-take-le}
use Rattle.el_options.specs.declared.table.Opt.{Opt}
use Rattle.el_options.specs.Reading.{Letter, flag, with_value, LettersRead, Flags, Last, Bad, Shown, Plain, Dashes, Letters, shown, in_front, word_read, read_from, reading, StopsAt}
use Rattle.el_options.specs.declared.read.Slot.{Slot}
use Rattle.el_options.specs.Slots.{IsRead}
use Rattle.el_options.specs.Laws.{IsWholeReading}
use Rattle.el_options.proofs.Places.{without, read-back}

-- the words read are these and the rest, and they are one whole reading that stops by rule
record IsParted (opts : List Opt) (at : ℕ) (wanted : Option ℕ) (words : List (List ℕ)) (letters : List Letter) (used : ℕ) (rest : List (List ℕ)) (ended : Bool) : Type 0 where
  options : List (List ℕ)
  are_words : options ++ rest ≡ words
  is_read : read_from opts at wanted options ≡ LettersRead letters used [] ended
  is_count : at + length options ≡ used
  stops : ended ≡ false → StopsAt opts rest

-- one word before them
behind-word : (opts : List Opt) (at : ℕ) (wanted next : Option ℕ) (word : List ℕ) (words : List (List ℕ)) (front all : List Letter) (used : ℕ) (rest : List (List ℕ)) (ended : Bool)
    → in_front front (read_from opts (at + 1) next words) ≡ LettersRead all used rest ended
    → ((options : List (List ℕ)) → read_from opts at wanted (word ∷ options) ≡ in_front front (read_from opts (at + 1) next options))
    → ((more : List Letter) → read_from opts (at + 1) next words ≡ LettersRead more used rest ended → IsParted opts (at + 1) next words more used rest ended)
    → IsParted opts at wanted (word ∷ words) all used rest ended
behind-word opts at wanted next word words front all used rest ended is step parted =
    let behind = without front all (read_from opts (at + 1) next words) used rest ended is in
    let more = parted behind.more behind.is_reading in
    record {
      options = word ∷ more.options;
      are_words = ap (λ (words : List (List ℕ)). word ∷ words) more.are_words;
      is_read = step more.options ∙ ap (in_front front) more.is_read ∙ ap (λ all. LettersRead all used [] ended) behind.are_all;
      is_count = omega (arith, more.is_count);
      stops = more.stops;
    }

parted : (opts : List Opt) (at : ℕ) (wanted : Option ℕ) (words : List (List ℕ)) (letters : List Letter) (used : ℕ) (rest : List (List ℕ)) (ended : Bool)
    → read_from opts at wanted words ≡ LettersRead letters used rest ended → IsParted opts at wanted words letters used rest ended
parted opts at None [] letters used rest ended is =
    let none : [] ≡ rest = cc in let end : at ≡ used = cc in
    record {
      options = [];
      are_words = sym none;
      is_read = is ∙ ap (λ rest. LettersRead letters used rest ended) (sym none);
      is_count = omega arith;
      stops = λ _. subst (StopsAt opts) none tt;
    }
parted opts at (Some letter) [] letters used rest ended is = absurd (cc)
parted opts at (Some letter) (word ∷ words) letters used rest ended is =
    behind-word opts at (Some letter) None word words (with_value letter (record { word = at; from = 0; text = word }) ∷ []) letters used rest ended is
    (λ options. refl) (λ more next. parted opts (at + 1) None words more used rest ended next)
parted opts at None (word ∷ words) letters used rest ended is =
    by_shown (shown opts word) refl is (λ next more e. parted opts (at + 1) next words more used rest ended e)
  where
    step : (what : Shown) → shown opts word ≡ what → (options : List (List ℕ)) → read_from opts at None (word ∷ options) ≡ word_read what at word options (λ wanted. read_from opts (at + 1) wanted options)
    step what known options = ap (λ shown. word_read shown at word options (λ wanted. read_from opts (at + 1) wanted options)) known

    by_shown : (what : Shown) → shown opts word ≡ what → word_read what at word words (λ wanted. read_from opts (at + 1) wanted words) ≡ LettersRead letters used rest ended
        → ((next : Option ℕ) (more : List Letter) → read_from opts (at + 1) next words ≡ LettersRead more used rest ended → IsParted opts (at + 1) next words more used rest ended)
        → IsParted opts at None (word ∷ words) letters used rest ended
    by_shown Plain known is next =
        let same : word ∷ words ≡ rest = cc in let end : at ≡ used = cc in let none : [] ≡ letters = cc in let not_closed : false ≡ ended = cc in
        record {
          options = [];
          are_words = sym same;
          is_read = λ i. LettersRead (none i) (end i) [] (not_closed i);
          is_count = omega arith;
          stops = λ _. subst (StopsAt opts) same known;
        }
    by_shown Dashes known is next =
        let same : words ≡ rest = cc in let end : at + 1 ≡ used = cc in let none : [] ≡ letters = cc in let closed : true ≡ ended = cc in
        record {
          options = word ∷ [];
          are_words = ap (λ (words : List (List ℕ)). word ∷ words) (sym same);
          is_read = step Dashes known [] ∙ (λ i. LettersRead (none i) (end i) [] (closed i));
          is_count = omega arith;
          stops = λ not_ended. let never : true ≡ false = closed ∙ not_ended in absurd (cc);
        }
    by_shown (Letters (Flags flags)) known is next =
        behind-word opts at None None word words (map flag flags) letters used rest ended is (step (Letters (Flags flags)) known) (next None)
    by_shown (Letters (Bad letter)) known is next = absurd (cc)
    by_shown (Letters (Last before letter [])) known is next =
        behind-word opts at None (Some letter) word words (map flag before) letters used rest ended is (step (Letters (Last before letter [])) known) (next (Some letter))
    by_shown (Letters (Last before letter (byte ∷ bytes))) known is next =
        behind-word opts at None None word words (map flag before ++ with_value letter (record { word = at; from = length before + 2; text = byte ∷ bytes }) ∷ []) letters used rest ended is
        (step (Letters (Last before letter (byte ∷ bytes))) known) (next None)

pub whole-front : (opts : List Opt) (at : ℕ) (words : List (List ℕ)) (letters : List Letter) (used : ℕ) (rest : List (List ℕ)) (ended : Bool)
    → read_from opts at None words ≡ LettersRead letters used rest ended → IsWholeReading opts at (take (used - at) words) letters used ended rest
whole-front opts at words letters used rest ended is =
    let front = parted opts at None words letters used rest ended is in
    let count : used - at ≡ length front.options = omega (arith, front.is_count) in
    let same : take (used - at) words ≡ front.options = ap (λ n. take n words) count ∙ ap (take (length front.options)) (sym front.are_words) ∙ take-append_seam front.options rest in
    record { is_read = ap (read_from opts at None) same ∙ front.is_read; stops = front.stops }

pub one-front : (opts : List Opt) (at : ℕ) (words : List (List ℕ)) (letters others : List Letter) (used count end : ℕ) (rest : List (List ℕ)) (ended is_end : Bool)
    → read_from opts at None words ≡ LettersRead letters used rest ended → count ≤ length words → IsWholeReading opts at (take count words) others end is_end (drop count words) → count ≡ used - at
one-front opts at words letters others used count end rest ended is_end is within whole =
    let back = read-back opts at (take count words) (drop count words) others end is_end whole.is_read whole.stops in
    let same : LettersRead letters used rest ended ≡ LettersRead others end (drop count words) is_end = sym is ∙ ap (read_from opts at None) (sym (take-append-drop count words)) ∙ back in
    let ends : used ≡ end = cc in
    let front = parted opts at None (take count words) others end [] is_end whole.is_read in
    let long : length front.options ≡ count = ap length (sym (append-nil front.options) ∙ front.are_words) ∙ length-take-le count words within in
    omega (arith, front.is_count)

used-within : (opts : List Opt) (words : List (List ℕ)) (letters : List Letter) (used : ℕ) (rest : List (List ℕ)) (ended : Bool) → reading opts words ≡ LettersRead letters used rest ended → used ≤ length words
used-within opts [] letters used rest ended is = let none : 0 ≡ used = cc in omega arith
used-within opts (name ∷ words) letters used rest ended is =
    let front = parted opts 1 None words letters used rest ended is in
    omega (arith, front.is_count, length-append front.options rest, ap length front.are_words)

pub read-within : (opts : List Opt) (words : List (List ℕ)) (slots : List Slot) (used : ℕ) → IsRead opts (reading opts words) slots used → used ≤ length words
read-within opts words slots used read = used-within opts words read.letters used read.rest read.ended read.is_reading
