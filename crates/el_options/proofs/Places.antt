-- Readings are read back, and where the values of letters stand.
use Rattle.std.proofs.Common.{◌≡◌, ℕ, zero, suc, ◌+◌, ◌==◌, Bool, true, false, if◌then◌else◌, List, [], ◌∷◌, ◌++◌, map, drop, length, add-one, Option, Some, None, refl, sym, ap, ◌∙◌, subst, arith}
use Rattle.std.specs.List.{slice_get}
use Rattle.std.specs.Str.{bytes_eq}
use Rattle.el_options.specs.declared.table.Opt.{Opt}
use Rattle.el_options.specs.Reading.{Value, Letter, flag, with_value, Reading, Unknown, NoValue, LettersRead, takes, Cluster, Flags, Last, Bad, cluster_by, cluster_of, Shown, Plain, Dashes, Letters, shown, in_front, word_read, read_from, reading, StopsAt}
use Rattle.el_options.specs.Laws.{AllStand}

-- ---- readings with letters in front

-- the reading behind the letters in front
pub record IsBehind (letters all : List Letter) (reading : Reading) (used : ℕ) (rest : List (List ℕ)) (ended : Bool) : Type 0 where
  pub more : List Letter
  pub is_reading : reading ≡ LettersRead more used rest ended
  pub are_all : letters ++ more ≡ all

pub without : (letters all : List Letter) (reading : Reading) (used : ℕ) (rest : List (List ℕ)) (ended : Bool) → in_front letters reading ≡ LettersRead all used rest ended → IsBehind letters all reading used rest ended
without letters all (Unknown letter) used rest ended is = absurd (cc)
without letters all (NoValue letter) used rest ended is = absurd (cc)
without letters all (LettersRead more used' rest' ended') used rest ended is = record { more = more; is_reading = cc; are_all = cc }

-- ---- readings are read back

back : (opts : List Opt) (at : ℕ) (wanted : Option ℕ) (words more : List (List ℕ)) (letters : List Letter) (used : ℕ) (ended : Bool)
    → read_from opts at wanted words ≡ LettersRead letters used [] ended → (ended ≡ false → StopsAt opts more) → read_from opts at wanted (words ++ more) ≡ LettersRead letters used more ended
back opts at None [] more letters used ended is stops = at_more more (stops (cc)) ∙ cc
  where
    at_more : (words : List (List ℕ)) → StopsAt opts words → read_from opts at None words ≡ LettersRead [] at words false
    at_more [] stop = refl
    at_more (word ∷ words) stop = ap (λ shown. word_read shown at word words (λ wanted. read_from opts (at + 1) wanted words)) stop
back opts at (Some letter) [] more letters used ended is stops = absurd (cc)
back opts at (Some letter) (word ∷ words) more letters used ended is stops =
    let value : Letter = with_value letter (record { word = at; from = 0; text = word }) in
    let behind = without (value ∷ []) letters (read_from opts (at + 1) None words) used [] ended is in
    ap (in_front (value ∷ [])) (back opts (at + 1) None words more behind.more used ended behind.is_reading stops) ∙ ap (λ all. LettersRead all used more ended) behind.are_all
back opts at None (word ∷ words) more letters used ended is stops =
    by_shown (shown opts word) is (λ wanted letters next. back opts (at + 1) wanted words more letters used ended next stops)
  where
    by_shown : (shown : Shown) → word_read shown at word words (λ wanted. read_from opts (at + 1) wanted words) ≡ LettersRead letters used [] ended
        → ((wanted : Option ℕ) (letters : List Letter) → read_from opts (at + 1) wanted words ≡ LettersRead letters used [] ended → read_from opts (at + 1) wanted (words ++ more) ≡ LettersRead letters used more ended)
        → word_read shown at word (words ++ more) (λ wanted. read_from opts (at + 1) wanted (words ++ more)) ≡ LettersRead letters used more ended
    by_shown Plain is next = absurd (cc)
    by_shown Dashes is next = let none : words ≡ [] = cc in ap (λ (rest : List (List ℕ)). LettersRead [] (at + 1) (rest ++ more) true) none ∙ cc
    by_shown (Letters (Flags flags)) is next =
        let behind = without (map flag flags) letters (read_from opts (at + 1) None words) used [] ended is in
        ap (in_front (map flag flags)) (next None behind.more behind.is_reading) ∙ ap (λ all. LettersRead all used more ended) behind.are_all
    by_shown (Letters (Bad letter)) is next = absurd (cc)
    by_shown (Letters (Last before letter [])) is next =
        let behind = without (map flag before) letters (read_from opts (at + 1) (Some letter) words) used [] ended is in
        ap (in_front (map flag before)) (next (Some letter) behind.more behind.is_reading) ∙ ap (λ all. LettersRead all used more ended) behind.are_all
    by_shown (Letters (Last before letter (byte ∷ bytes))) is next =
        let taken : List Letter = map flag before ++ with_value letter (record { word = at; from = length before + 2; text = byte ∷ bytes }) ∷ [] in
        let behind = without taken letters (read_from opts (at + 1) None words) used [] ended is in
        ap (in_front taken) (next None behind.more behind.is_reading) ∙ ap (λ all. LettersRead all used more ended) behind.are_all

pub read-back : (opts : List Opt) (at : ℕ) (words more : List (List ℕ)) (letters : List Letter) (used : ℕ) (ended : Bool)
    → read_from opts at None words ≡ LettersRead letters used [] ended → (ended ≡ false → StopsAt opts more) → read_from opts at None (words ++ more) ≡ LettersRead letters used more ended
read-back opts at words more letters used ended is stops = back opts at None words more letters used ended is stops

-- ---- where values stand

-- a word and what is behind it, found from the words from there on
record IsFound (whole : List (List ℕ)) (at : ℕ) (word : List ℕ) (words : List (List ℕ)) : Type 0 where
  is_there : slice_get whole at ≡ Some word
  are_behind : drop (at + 1) whole ≡ words

found : (whole : List (List ℕ)) (at : ℕ) (word : List ℕ) (words : List (List ℕ)) → drop at whole ≡ word ∷ words → IsFound whole at word words
found [] zero word words is = absurd (cc)
found [] (suc at) word words is = absurd (cc)
found (first ∷ whole) zero word words is = record { is_there = cc; are_behind = cc }
found (first ∷ whole) (suc at) word words is =
    let next = found whole at word words is in
    record { is_there = next.is_there; are_behind = ap (λ n. drop n (first ∷ whole)) (add-one (suc at)) ∙ ap (λ n. drop n whole) (sym (add-one at)) ∙ next.are_behind }

-- the rest of a cluster's word behind the letter that takes it
cluster-rest : (opts : List Opt) (bytes before : List ℕ) (letter : ℕ) (rest : List ℕ) → cluster_of opts bytes ≡ Last before letter rest → rest ≡ drop (suc (length before)) bytes
cluster-rest opts [] before letter rest is = absurd (cc)
cluster-rest opts (byte ∷ bytes) before letter rest is = by_test (takes opts byte) (cluster_of opts bytes) is (λ before is. cluster-rest opts bytes before letter rest is)
  where
    by_test : (test : Option Bool) (more : Cluster) → cluster_by test byte bytes more ≡ Last before letter rest
        → ((before : List ℕ) → more ≡ Last before letter rest → rest ≡ drop (suc (length before)) bytes) → rest ≡ drop (length before) bytes
    by_test None more is next = absurd (cc)
    by_test (Some true) more is next = let none : [] ≡ before = cc in let same : rest ≡ bytes = cc in same ∙ ap (λ (before : List ℕ). drop (length before) bytes) none
    by_test (Some false) (Flags letters) is next = absurd (cc)
    by_test (Some false) (Bad letter) is next = absurd (cc)
    by_test (Some false) (Last before' letter' rest') is next =
        let same : byte ∷ before' ≡ before = cc in
        next before' (cc) ∙ ap (λ (before : List ℕ). drop (length before) bytes) same

-- the same of the whole word
shown-rest : (opts : List Opt) (word before : List ℕ) (letter : ℕ) (rest : List ℕ) → shown opts word ≡ Letters (Last before letter rest) → rest ≡ drop (length before + 2) word
shown-rest opts [] before letter rest is = absurd (cc)
shown-rest opts (byte ∷ []) before letter rest is = absurd (by_dash (byte == 45) is)
  where
    by_dash : (dash : Bool) → (if dash then Plain else Plain) ≡ Letters (Last before letter rest) → ⊥
    by_dash true is = cc
    by_dash false is = cc
shown-rest opts (byte ∷ second ∷ bytes) before letter rest is = by_dash (byte == 45) (bytes_eq (second ∷ bytes) (45 ∷ [])) is
  where
    by_dash : (dash dashes : Bool) → (if dash then (if dashes then Dashes else Letters (cluster_of opts (second ∷ bytes))) else Plain) ≡ Letters (Last before letter rest) → rest ≡ drop (length before + 2) (byte ∷ second ∷ bytes)
    by_dash false dashes is = absurd (cc)
    by_dash true true is = absurd (cc)
    by_dash true false is = let two : suc (suc (length before)) ≡ length before + 2 = omega arith in cluster-rest opts (second ∷ bytes) before letter rest (cc) ∙ ap (λ n. drop n (byte ∷ second ∷ bytes)) two

all-append : (words : List (List ℕ)) (letters others : List Letter) → AllStand words letters → AllStand words others → AllStand words (letters ++ others)
all-append words [] others here there = there
all-append words (letter ∷ letters) others here there = (here.0, all-append words letters others here.1 there)

all-flags : (words : List (List ℕ)) (letters : List ℕ) → AllStand words (map flag letters)
all-flags words [] = tt
all-flags words (letter ∷ letters) = (tt, all-flags words letters)

-- all values stand in these words, and this is the rest
record IsInPlace (words : List (List ℕ)) (letters : List Letter) (used : ℕ) (rest : List (List ℕ)) : Type 0 where
  all_stand : AllStand words letters
  is_rest : rest ≡ drop used words

front-in-place : (whole : List (List ℕ)) (front all : List Letter) (reading : Reading) (used : ℕ) (rest : List (List ℕ)) (ended : Bool) → in_front front reading ≡ LettersRead all used rest ended → AllStand whole front
    → ((more : List Letter) → reading ≡ LettersRead more used rest ended → IsInPlace whole more used rest) → IsInPlace whole all used rest
front-in-place whole front all reading used rest ended is stand next =
    let behind = without front all reading used rest ended is in
    let more = next behind.more behind.is_reading in
    record { all_stand = subst (AllStand whole) behind.are_all (all-append whole front behind.more stand more.all_stand); is_rest = more.is_rest }

in-place : (opts : List Opt) (whole : List (List ℕ)) (at : ℕ) (wanted : Option ℕ) (words : List (List ℕ)) (letters : List Letter) (used : ℕ) (rest : List (List ℕ)) (ended : Bool)
    → drop at whole ≡ words → read_from opts at wanted words ≡ LettersRead letters used rest ended → IsInPlace whole letters used rest
in-place opts whole at None [] letters used rest ended from is =
    let none : [] ≡ letters = cc in let end : at ≡ used = cc in let same : [] ≡ rest = cc in
    record { all_stand = subst (AllStand whole) none tt; is_rest = sym same ∙ sym from ∙ ap (λ n. drop n whole) end }
in-place opts whole at (Some letter) [] letters used rest ended from is = absurd (cc)
in-place opts whole at (Some letter) (word ∷ words) letters used rest ended from is =
    let there = found whole at word words from in
    let value : Value = record { word = at; from = 0; text = word } in
    front-in-place whole (with_value letter value ∷ []) letters (read_from opts (at + 1) None words) used rest ended is
    (record { word = word; is_there = there.is_there; is_text = refl }, tt)
    (λ more next. in-place opts whole (at + 1) None words more used rest ended there.are_behind next)
in-place opts whole at None (word ∷ words) letters used rest ended from is =
    let there = found whole at word words from in
    by_shown (shown opts word) refl is there.is_there there.are_behind (λ wanted letters next. in-place opts whole (at + 1) wanted words letters used rest ended there.are_behind next)
  where
    by_shown : (what : Shown) → shown opts word ≡ what → word_read what at word words (λ wanted. read_from opts (at + 1) wanted words) ≡ LettersRead letters used rest ended
        → slice_get whole at ≡ Some word → drop (at + 1) whole ≡ words
        → ((wanted : Option ℕ) (letters : List Letter) → read_from opts (at + 1) wanted words ≡ LettersRead letters used rest ended → IsInPlace whole letters used rest)
        → IsInPlace whole letters used rest
    by_shown Plain known is there are next =
        let none : [] ≡ letters = cc in let end : at ≡ used = cc in let same : word ∷ words ≡ rest = cc in
        record { all_stand = subst (AllStand whole) none tt; is_rest = sym same ∙ sym from ∙ ap (λ n. drop n whole) end }
    by_shown Dashes known is there are next =
        let none : [] ≡ letters = cc in let end : at + 1 ≡ used = cc in let same : words ≡ rest = cc in
        record { all_stand = subst (AllStand whole) none tt; is_rest = sym same ∙ sym are ∙ ap (λ n. drop n whole) end }
    by_shown (Letters (Flags flags)) known is there are next =
        front-in-place whole (map flag flags) letters (read_from opts (at + 1) None words) used rest ended is (all-flags whole flags) (next None)
    by_shown (Letters (Bad letter)) known is there are next = absurd (cc)
    by_shown (Letters (Last before letter [])) known is there are next =
        front-in-place whole (map flag before) letters (read_from opts (at + 1) (Some letter) words) used rest ended is (all-flags whole before) (next (Some letter))
    by_shown (Letters (Last before letter (byte ∷ bytes))) known is there are next =
        let value : Value = record { word = at; from = length before + 2; text = byte ∷ bytes } in
        front-in-place whole (map flag before ++ with_value letter value ∷ []) letters (read_from opts (at + 1) None words) used rest ended is
        (all-append whole (map flag before) (with_value letter value ∷ []) (all-flags whole before)
        (record { word = word; is_there = there; is_text = shown-rest opts word before letter (byte ∷ bytes) known }, tt))
        (next None)

whole-in-place : (opts : List Opt) (words : List (List ℕ)) (letters : List Letter) (used : ℕ) (rest : List (List ℕ)) (ended : Bool) → reading opts words ≡ LettersRead letters used rest ended → IsInPlace words letters used rest
whole-in-place opts [] letters used rest ended is =
    let none : [] ≡ letters = cc in let end : 0 ≡ used = cc in let same : [] ≡ rest = cc in
    record { all_stand = subst (AllStand []) none tt; is_rest = sym same ∙ ap (λ n. drop n []) end }
whole-in-place opts (name ∷ words) letters used rest ended is = in-place opts (name ∷ words) 1 None words letters used rest ended refl is

pub values-stand : (opts : List Opt) (words : List (List ℕ)) (letters : List Letter) (used : ℕ) (rest : List (List ℕ)) (ended : Bool) → reading opts words ≡ LettersRead letters used rest ended → AllStand words letters
values-stand opts words letters used rest ended is = (whole-in-place opts words letters used rest ended is).all_stand

pub rest-stands : (opts : List Opt) (words : List (List ℕ)) (letters : List Letter) (used : ℕ) (rest : List (List ℕ)) (ended : Bool) → reading opts words ≡ LettersRead letters used rest ended → rest ≡ drop used words
rest-stands opts words letters used rest ended is = (whole-in-place opts words letters used rest ended is).is_rest
