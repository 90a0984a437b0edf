-- The steps of the reader.
use Rattle.std.proofs.Common.{◌≡◌, ℕ, zero, suc, ◌+◌, ◌<◌, ◌≤◌, ◌==◌, Bool, true, false, if◌then◌else◌, List, [], ◌∷◌, ◌++◌, map, set, get_or, drop, drop-cons, add-one, length, length-drop, replicate, append-nil, length-append, append_assoc, Option, Some, None, refl, sym, ap, ◌∙◌, arith}
use Rattle.std.proofs.lemmas.Bool.{ne_eqb}
use Rattle.std.proofs.lemmas.List.{drop_all}
use Rattle.std.proofs.lemmas.List.Sums.{sum_by-cons}
use Rattle.el_options.specs.declared.table.Opt.{Opt}
use Rattle.el_options.specs.declared.read.Slot.{Slot}
use Rattle.el_options.specs.declared.read.Slot.TheVariants.{Absent, Flag as FlagAt, Value as ValueAt}
use Rattle.el_options.specs.Reading.{Value, Letter, flag, with_value, Reading, Unknown, NoValue, LettersRead, takes, Cluster, Flags, Last, Bad, after_flag, cluster_of, Plain, Dashes, Letters, shown, shown_behind_dash, in_front, word_read, cluster_by, read_from, reading}
use Rattle.el_options.specs.Slots.{are_good_opts, slot_at, slots_of, IsRead}
use Rattle.el_options.specs.Reader.{IsOption, letter_at, cluster_read, behind, bytes_in, IsAt, IsInside, IsWanting}
use Rattle.el_options.proofs.Slots.{slots-after, IsPlaced, takes_at}

-- ---- letters in front

in_front-nothing : (reading : Reading) → in_front [] reading ≡ reading
in_front-nothing (Unknown letter) = refl
in_front-nothing (NoValue letter) = refl
in_front-nothing (LettersRead more used rest ended) = refl

pub in_front-append : (letters others : List Letter) (reading : Reading) → in_front (letters ++ others) reading ≡ in_front letters (in_front others reading)
in_front-append letters others (Unknown letter) = refl
in_front-append letters others (NoValue letter) = refl
in_front-append letters others (LettersRead more used rest ended) = ap (λ all. LettersRead all used rest ended) (append_assoc letters others more)

-- ---- clusters

cluster-flag : (cluster : Cluster) (letter at from : ℕ) (next : Option ℕ → Reading) → cluster_read (after_flag letter cluster) at from next ≡ in_front (flag letter ∷ []) (cluster_read cluster at (suc from) next)
cluster-flag (Flags letters) letter at from next = in_front-append (flag letter ∷ []) (map flag letters) (next None)
cluster-flag (Bad bad) letter at from next = refl
cluster-flag (Last before last []) letter at from next = in_front-append (flag letter ∷ []) (map flag before) (next (Some last))
cluster-flag (Last before last (byte ∷ bytes)) letter at from next =
    ap (λ n. in_front (flag letter ∷ (map flag before ++ with_value last (record { word = at; from = n; text = byte ∷ bytes }) ∷ [])) (next None)) (omega arith)
    ∙ in_front-append (flag letter ∷ []) (map flag before ++ with_value last (record { word = at; from = length before + suc (suc from); text = byte ∷ bytes }) ∷ []) (next None)

cluster-word : (cluster : Cluster) (at : ℕ) (word : List ℕ) (words : List (List ℕ)) (next : Option ℕ → Reading) → word_read (Letters cluster) at word words next ≡ cluster_read cluster at 1 next
cluster-word (Flags letters) at word words next = refl
cluster-word (Bad bad) at word words next = refl
cluster-word (Last before last []) at word words next = refl
cluster-word (Last before last (byte ∷ bytes)) at word words next = refl

-- ---- one more letter

-- the slots of these letters, and their count
pub record IsNoted (opts : List Opt) (letters : List Letter) (slots : List Slot) (count : ℕ) : Type 0 where
  pub are_slots : slots ≡ slots_of opts letters
  pub is_count : count ≡ length letters

noted : (opts : List Opt) (letters : List Letter) (slots : List Slot) (count place : ℕ) (last : Letter) (slot : Slot) → are_good_opts opts ≡ true → place < length opts → letter_at opts place ≡ last.letter
    → slots ≡ slots_of opts letters → count ≡ length letters → slot ≡ slot_at (length letters) last.value
    → IsNoted opts (letters ++ last ∷ []) (set slots place slot) (count + 1)
noted opts letters slots count place last slot good inside same are is is_slot = record {
  are_slots = ap (λ slots. set slots place slot) are ∙ ap (set (slots_of opts letters) place) is_slot ∙ sym (slots-after opts letters last place good inside same);
  is_count = ap (λ n. n + 1) is ∙ sym (length-append letters (last ∷ []));
}

-- ---- words behind others

first : (words : List (List ℕ)) (used : ℕ) → used < length words → drop used words ≡ get_or words used [] ∷ drop (used + 1) words
first words used inside = drop-cons words used [] inside ∙ ap (λ n. get_or words used [] ∷ drop n words) (sym (add-one used))

behind-word : (opts : List Opt) (words : List (List ℕ)) (used : ℕ) → used < length words
    → behind opts words used None ≡ word_read (shown opts (get_or words used [])) used (get_or words used []) (drop (used + 1) words) (behind opts words (used + 1))
behind-word opts words used inside = ap (read_from opts used None) (first words used inside)

-- the bytes of the words from one on
bytes-from : (words : List (List ℕ)) (used : ℕ) → used < length words → bytes_in (drop used words) ≡ length (get_or words used []) + bytes_in (drop (used + 1) words)
bytes-from words used inside = ap bytes_in (first words used inside) ∙ sum_by-cons length (get_or words used []) (drop (used + 1) words)

-- ---- inside a cluster

pub inside-start : (opts : List Opt) (words : List (List ℕ)) (slots : List Slot) (count used : ℕ) → IsAt opts words None slots count used → used < length words
    → shown opts (get_or words used []) ≡ Letters (cluster_of opts (drop 1 (get_or words used []))) → IsInside opts words used 1 slots count
inside-start opts words slots count used at inside is = record {
  letters = at.letters;
  are_slots = at.are_slots;
  is_count = at.is_count;
  is_within = inside;
  has_bytes = omega (arith, at.has_bytes, bytes-from words used inside, length-drop 1 (get_or words used []));
  is_reading = at.is_reading ∙ ap (in_front at.letters) (behind-word opts words used inside
      ∙ ap (λ shown. word_read shown used (get_or words used []) (drop (used + 1) words) (behind opts words (used + 1))) is
      ∙ cluster-word (cluster_of opts (drop 1 (get_or words used []))) used (get_or words used []) (drop (used + 1) words) (behind opts words (used + 1)));
}

-- the cluster from a byte on
from-byte : (opts : List Opt) (word : List ℕ) (from : ℕ) → from < length word
    → cluster_of opts (drop from word) ≡ cluster_by (takes opts (get_or word from 0)) (get_or word from 0) (drop (from + 1) word) (cluster_of opts (drop (from + 1) word))
from-byte opts word from inside = ap (cluster_of opts) (drop-cons word from 0 inside ∙ ap (λ n. get_or word from 0 ∷ drop n word) (sym (add-one from)))

-- a cluster at a letter without a value
at-flag : (opts : List Opt) (word : List ℕ) (at from letter : ℕ) (next : Option ℕ → Reading) → from < length word → get_or word from 0 ≡ letter → takes opts letter ≡ Some false
    → cluster_read (cluster_of opts (drop from word)) at from next ≡ in_front (flag letter ∷ []) (cluster_read (cluster_of opts (drop (from + 1) word)) at (from + 1) next)
at-flag opts word at from letter next inside is plain =
    ap (λ cluster. cluster_read cluster at from next)
    (from-byte opts word from inside
    ∙ ap (λ letter. cluster_by (takes opts letter) letter (drop (from + 1) word) (cluster_of opts (drop (from + 1) word))) is
    ∙ ap (λ test. cluster_by test letter (drop (from + 1) word) (cluster_of opts (drop (from + 1) word))) plain)
    ∙ cluster-flag (cluster_of opts (drop (from + 1) word)) letter at from next
    ∙ ap (λ n. in_front (flag letter ∷ []) (cluster_read (cluster_of opts (drop (from + 1) word)) at n next)) (sym (add-one from))

-- a cluster at a letter with a value
at-valued : (opts : List Opt) (word : List ℕ) (at from letter : ℕ) (next : Option ℕ → Reading) → from < length word → get_or word from 0 ≡ letter → takes opts letter ≡ Some true
    → cluster_read (cluster_of opts (drop from word)) at from next ≡ cluster_read (Last [] letter (drop (from + 1) word)) at from next
at-valued opts word at from letter next inside is valued =
    ap (λ cluster. cluster_read cluster at from next)
    (from-byte opts word from inside
    ∙ ap (λ letter. cluster_by (takes opts letter) letter (drop (from + 1) word) (cluster_of opts (drop (from + 1) word))) is
    ∙ ap (λ test. cluster_by test letter (drop (from + 1) word) (cluster_of opts (drop (from + 1) word))) valued)

-- a cluster at an unknown letter
at-unknown : (opts : List Opt) (word : List ℕ) (at from letter : ℕ) (next : Option ℕ → Reading) → from < length word → get_or word from 0 ≡ letter → takes opts letter ≡ None
    → cluster_read (cluster_of opts (drop from word)) at from next ≡ Unknown letter
at-unknown opts word at from letter next inside is none =
    ap (λ cluster. cluster_read cluster at from next)
    (from-byte opts word from inside
    ∙ ap (λ letter. cluster_by (takes opts letter) letter (drop (from + 1) word) (cluster_of opts (drop (from + 1) word))) is
    ∙ ap (λ test. cluster_by test letter (drop (from + 1) word) (cluster_of opts (drop (from + 1) word))) none)

last-value : (rest : List ℕ) (letter at from : ℕ) (next : Option ℕ → Reading) → 0 < length rest
    → cluster_read (Last [] letter rest) at from next ≡ in_front (with_value letter (record { word = at; from = from + 1; text = rest }) ∷ []) (next None)
last-value [] letter at from next some = absurd (omega arith)
last-value (byte ∷ bytes) letter at from next some =
    ap (λ n. in_front (with_value letter (record { word = at; from = n; text = byte ∷ bytes }) ∷ []) (next None)) (omega arith)

pub inside-flag : (opts : List Opt) (words : List (List ℕ)) (at from : ℕ) (slots : List Slot) (count letter place : ℕ) → IsInside opts words at from slots count → are_good_opts opts ≡ true
    → from < length (get_or words at []) → get_or (get_or words at []) from 0 ≡ letter → IsPlaced opts letter place → takes_at opts place ≡ false
    → IsInside opts words at (from + 1) (set slots place (FlagAt count)) (count + 1)
inside-flag opts words at from slots count letter place here good inside is placed plain =
    let next = noted opts here.letters slots count place (flag letter) (FlagAt count) good placed.is_within placed.is_letter here.are_slots here.is_count (ap FlagAt here.is_count) in
    record {
      letters = here.letters ++ flag letter ∷ [];
      are_slots = next.are_slots;
      is_count = next.is_count;
      is_within = here.is_within;
      has_bytes = omega (arith, here.has_bytes, length-drop from (get_or words at []), length-drop (from + 1) (get_or words at []));
      is_reading = here.is_reading
          ∙ ap (in_front here.letters) (at-flag opts (get_or words at []) at from letter (behind opts words (at + 1)) inside is (placed.is_known ∙ ap Some plain))
          ∙ sym (in_front-append here.letters (flag letter ∷ []) _);
    }

pub inside-value : (opts : List Opt) (words : List (List ℕ)) (at from : ℕ) (slots : List Slot) (count letter place : ℕ) → IsInside opts words at from slots count → are_good_opts opts ≡ true
    → from + 1 < length (get_or words at []) → get_or (get_or words at []) from 0 ≡ letter → IsPlaced opts letter place → takes_at opts place ≡ true
    → IsAt opts words None (set slots place (ValueAt count at (from + 1))) (count + 1) (at + 1)
inside-value opts words at from slots count letter place here good inside is placed valued =
    let value : Value = record { word = at; from = from + 1; text = drop (from + 1) (get_or words at []) } in
    let next = noted opts here.letters slots count place (with_value letter value) (ValueAt count at (from + 1)) good placed.is_within placed.is_letter here.are_slots here.is_count (ap (λ n. ValueAt n at (from + 1)) here.is_count) in
    record {
      letters = here.letters ++ with_value letter value ∷ [];
      are_slots = next.are_slots;
      is_count = next.is_count;
      is_within = omega (arith, here.is_within);
      has_bytes = omega (arith, here.has_bytes, length-drop from (get_or words at []));
      is_reading = here.is_reading
          ∙ ap (in_front here.letters) (at-valued opts (get_or words at []) at from letter (behind opts words (at + 1)) (omega arith) is (placed.is_known ∙ ap Some valued)
          ∙ last-value (drop (from + 1) (get_or words at [])) letter at from (behind opts words (at + 1)) (omega (arith, length-drop (from + 1) (get_or words at []))))
          ∙ sym (in_front-append here.letters (with_value letter value ∷ []) _);
    }

pub inside-wanted : (opts : List Opt) (words : List (List ℕ)) (at from : ℕ) (slots : List Slot) (count letter place : ℕ) → IsInside opts words at from slots count
    → from + 1 ≡ length (get_or words at []) → get_or (get_or words at []) from 0 ≡ letter → IsPlaced opts letter place → takes_at opts place ≡ true
    → IsWanting opts words slots count (at + 1) (Some place)
inside-wanted opts words at from slots count letter place here last is placed valued = (
  placed.is_within,
  record {
    letters = here.letters;
    are_slots = here.are_slots;
    is_count = here.is_count;
    is_within = omega (arith, here.is_within);
    has_bytes = omega (arith, here.has_bytes, length-drop from (get_or words at []));
    is_reading = here.is_reading
        ∙ ap (in_front here.letters) (at-valued opts (get_or words at []) at from letter (behind opts words (at + 1)) (omega arith) is (placed.is_known ∙ ap Some valued)
        ∙ ap (λ rest. cluster_read (Last [] letter rest) at from (behind opts words (at + 1))) (drop_all (from + 1) (get_or words at []) (omega arith))
        ∙ in_front-nothing (behind opts words (at + 1) (Some letter))
        ∙ ap (λ letter. behind opts words (at + 1) (Some letter)) (sym placed.is_letter));
  },
)

pub inside-end : (opts : List Opt) (words : List (List ℕ)) (at from : ℕ) (slots : List Slot) (count : ℕ) → IsInside opts words at from slots count → length (get_or words at []) ≤ from
    → IsAt opts words None slots count (at + 1)
inside-end opts words at from slots count here end = record {
  letters = here.letters;
  are_slots = here.are_slots;
  is_count = here.is_count;
  is_within = omega (arith, here.is_within);
  has_bytes = omega (arith, here.has_bytes);
  is_reading = here.is_reading
      ∙ ap (in_front here.letters) (ap (λ bytes. cluster_read (cluster_of opts bytes) at from (behind opts words (at + 1))) (drop_all from (get_or words at []) end)
      ∙ in_front-nothing (behind opts words (at + 1) None));
}

pub inside-unknown : (opts : List Opt) (words : List (List ℕ)) (at from : ℕ) (slots : List Slot) (count letter : ℕ) → IsInside opts words at from slots count → from < length (get_or words at [])
    → get_or (get_or words at []) from 0 ≡ letter → takes opts letter ≡ None → reading opts words ≡ Unknown letter
inside-unknown opts words at from slots count letter here inside is none =
    here.is_reading ∙ ap (in_front here.letters) (at-unknown opts (get_or words at []) at from letter (behind opts words (at + 1)) inside is none)

-- ---- the value behind a word

pub value-taken : (opts : List Opt) (words : List (List ℕ)) (slots : List Slot) (count used place : ℕ) → IsAt opts words (Some (letter_at opts place)) slots count used → are_good_opts opts ≡ true
    → place < length opts → used < length words → IsAt opts words None (set slots place (ValueAt count used 0)) (count + 1) (used + 1)
value-taken opts words slots count used place here good within inside =
    let value : Value = record { word = used; from = 0; text = get_or words used [] } in
    let last : Letter = with_value (letter_at opts place) value in
    let next = noted opts here.letters slots count place last (ValueAt count used 0) good within refl here.are_slots here.is_count (ap (λ n. ValueAt n used 0) here.is_count) in
    record {
      letters = here.letters ++ last ∷ [];
      are_slots = next.are_slots;
      is_count = next.is_count;
      is_within = omega arith;
      has_bytes = omega (arith, here.has_bytes, bytes-from words used inside);
      is_reading = here.is_reading
          ∙ ap (λ words. in_front here.letters (read_from opts used (Some (letter_at opts place)) words)) (first words used inside)
          ∙ sym (in_front-append here.letters (last ∷ []) _);
    }

pub value-missing : (opts : List Opt) (words : List (List ℕ)) (slots : List Slot) (letter count used : ℕ) → IsAt opts words (Some letter) slots count used → used ≡ length words → reading opts words ≡ NoValue letter
value-missing opts words slots letter count used here end =
    here.is_reading ∙ ap (λ words. in_front here.letters (read_from opts used (Some letter) words)) (drop_all used words (omega arith))

-- ---- what a word is

pub plain-word : (opts : List Opt) (word : List ℕ) → (IsOption word → ⊥) → shown opts word ≡ Plain
plain-word opts [] never = refl
plain-word opts (byte ∷ []) never = by_dash (byte == 45)
  where
    by_dash : (dash : Bool) → (if dash then Plain else Plain) ≡ Plain
    by_dash true = refl
    by_dash false = refl
plain-word opts (byte ∷ second ∷ bytes) never =
    let other : (byte == 45) ≡ false = ne_eqb byte 45 (λ dash. never (omega arith, dash)) in
    ap (λ dash. if dash then shown_behind_dash opts (second ∷ bytes) else Plain) other

pub dashes-word : (opts : List Opt) (word : List ℕ) → word ≡ 45 ∷ 45 ∷ [] → shown opts word ≡ Dashes
dashes-word opts word is = ap (shown opts) is

-- ---- the beginning and the end

absent : (opts : List Opt) (many : ℕ) → length opts ≡ many → replicate many Absent ≡ slots_of opts []
absent [] zero same = refl
absent [] (suc many) same = absurd (omega arith)
absent (opt ∷ opts) zero same = absurd (omega arith)
absent (opt ∷ opts) (suc many) same = ap (λ (slots : List Slot). Absent ∷ slots) (absent opts many (omega arith))

pub at-start : (opts : List Opt) (words : List (List ℕ)) (many : ℕ) → length opts ≡ many → 0 < length words → IsAt opts words None (replicate many Absent) 0 1
at-start opts [] many same named = absurd (omega arith)
at-start opts (name ∷ words) many same named = record {
  letters = [];
  are_slots = absent opts many same;
  is_count = refl;
  is_within = omega arith;
  has_bytes = omega (arith, sum_by-cons length name words);
  is_reading = sym (in_front-nothing (read_from opts 1 None words));
}

pub ends-there : (opts : List Opt) (words : List (List ℕ)) (slots : List Slot) (count used : ℕ) → IsAt opts words None slots count used → used ≡ length words → IsRead opts (reading opts words) slots used
ends-there opts words slots count used here end = record {
  letters = here.letters;
  rest = [];
  ended = false;
  is_reading = here.is_reading ∙ ap (λ words. in_front here.letters (read_from opts used None words)) (drop_all used words (omega arith)) ∙ ap (λ all. LettersRead all used [] false) (append-nil here.letters);
  are_slots = here.are_slots;
}

pub stops-before : (opts : List Opt) (words : List (List ℕ)) (slots : List Slot) (count used : ℕ) → IsAt opts words None slots count used → used < length words → shown opts (get_or words used []) ≡ Plain
    → IsRead opts (reading opts words) slots used
stops-before opts words slots count used here inside is = record {
  letters = here.letters;
  rest = get_or words used [] ∷ drop (used + 1) words;
  ended = false;
  is_reading = here.is_reading
      ∙ ap (in_front here.letters) (behind-word opts words used inside ∙ ap (λ shown. word_read shown used (get_or words used []) (drop (used + 1) words) (behind opts words (used + 1))) is)
      ∙ ap (λ all. LettersRead all used (get_or words used [] ∷ drop (used + 1) words) false) (append-nil here.letters);
  are_slots = here.are_slots;
}

pub stops-behind : (opts : List Opt) (words : List (List ℕ)) (slots : List Slot) (count used : ℕ) → IsAt opts words None slots count used → used < length words → shown opts (get_or words used []) ≡ Dashes
    → IsRead opts (reading opts words) slots (used + 1)
stops-behind opts words slots count used here inside is = record {
  letters = here.letters;
  rest = drop (used + 1) words;
  ended = true;
  is_reading = here.is_reading
      ∙ ap (in_front here.letters) (behind-word opts words used inside ∙ ap (λ shown. word_read shown used (get_or words used []) (drop (used + 1) words) (behind opts words (used + 1))) is)
      ∙ ap (λ all. LettersRead all (used + 1) (drop (used + 1) words) true) (append-nil here.letters);
  are_slots = here.are_slots;
}
