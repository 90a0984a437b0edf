-- The slots after one more letter, and the place of a letter in a table.
use Rattle.std.proofs.Common.{◌≡◌, ℕ, zero, suc, ◌+◌, ◌<◌, ◌==◌, Bool, true, false, not, ◌||◌, if◌then◌else◌, List, [], ◌∷◌, ◌++◌, reverse, set, get_or, length, Some, None, refl, sym, ap, ◌∙◌, arith, cond, eq-eqb}
use Rattle.std.specs.List.{enumerate_from, list_any, find, position, position_from}
use Rattle.std.proofs.lemmas.List.{reverse-append}
use Rattle.std.proofs.lemmas.List.Quantifiers.{position-Some}
use Rattle.std.proofs.lemmas.List.Folds.{list_any_at}
use Rattle.std.proofs.lemmas.Iterator.Adapters.{position_from-zero}
use Rattle.std.proofs.lemmas.Bool.{ne_eqb, eqb-true, and_parts, not-true, or_parts}
use Rattle.el_options.specs.declared.table.Opt.{Opt}
use Rattle.el_options.specs.declared.read.Slot.{Slot}
use Rattle.el_options.specs.Reading.{Letter, takes}
use Rattle.el_options.specs.Slots.{are_good_opts, slot_at, slot_by, slot_of, slots_of}
use Rattle.el_options.specs.Reader.{letter_at}

-- ---- the last letter

enumerate-last : (n : ℕ) (letters : List Letter) (last : Letter) → enumerate_from n (letters ++ last ∷ []) ≡ enumerate_from n letters ++ (n + length letters, last) ∷ []
enumerate-last n [] last = ap (λ m. (m, last) ∷ []) (omega arith)
enumerate-last n (letter ∷ letters) last =
    ap (λ (rest : List (ℕ × Letter)). (n, letter) ∷ rest)
    (enumerate-last (n + 1) letters last ∙ ap (λ m. enumerate_from (n + 1) letters ++ (m, last) ∷ []) (omega arith))

reverse-last : (letters : List Letter) (last : Letter) → reverse (enumerate_from 0 (letters ++ last ∷ [])) ≡ (length letters, last) ∷ reverse (enumerate_from 0 letters)
reverse-last letters last =
    ap reverse (enumerate-last 0 letters last)
    ∙ reverse-append (enumerate_from 0 letters) ((0 + length letters, last) ∷ [])
    ∙ ap (λ m. (m, last) ∷ reverse (enumerate_from 0 letters)) (omega arith)

slot-found : (letter : ℕ) (letters : List Letter) (last : Letter) (same : Bool) → (last.letter == letter) ≡ same → slot_of letter (letters ++ last ∷ []) ≡ (if same then slot_at (length letters) last.value else slot_of letter letters)
slot-found letter letters last same is =
    ap (λ numbered. slot_by (find (λ (numbered : ℕ × Letter). numbered.1.letter == letter) numbered)) (reverse-last letters last)
    ∙ by_test same is
  where
    by_test : (same : Bool) → (last.letter == letter) ≡ same
        → slot_by (find (λ (numbered : ℕ × Letter). numbered.1.letter == letter) ((length letters, last) ∷ reverse (enumerate_from 0 letters))) ≡ (if same then slot_at (length letters) last.value else slot_of letter letters)
    by_test true is = rw is refl
    by_test false is = rw is refl

-- ---- all slots

slots-others : (opts : List Opt) (letters : List Letter) (last : Letter) → list_any (λ (other : Opt). other.letter == last.letter) opts ≡ false → slots_of opts (letters ++ last ∷ []) ≡ slots_of opts letters
slots-others [] letters last none = refl
slots-others (opt ∷ opts) letters last none =
    let here : (last.letter == opt.letter) ≡ false = differs opt.letter last.letter (list_any (λ (other : Opt). other.letter == last.letter) opts) none in
    let rest : list_any (λ (other : Opt). other.letter == last.letter) opts ≡ false = (or_parts (opt.letter == last.letter) _ none).1 in
    ap (λ (slots : List Slot). slot_of opt.letter (letters ++ last ∷ []) ∷ slots) (slots-others opts letters last rest)
    ∙ ap (λ (slot : Slot). slot ∷ slots_of opts letters) (slot-found opt.letter letters last false here)
  where
    differs : (a b : ℕ) (others : Bool) → ((a == b) || others) ≡ false → (b == a) ≡ false
    differs a b others none = ne_eqb b a (λ same. let here : (a == b) ≡ true = eq-eqb a b (sym same) in let none : true ≡ false = (sym (ap (λ t. t || others) here) ∙ none) in cc)

-- a letter that no other is, is not the one at a place
differs-at : (opts : List Opt) (place letter : ℕ) → list_any (λ (other : Opt). other.letter == letter) opts ≡ false → place < length opts → letter_at opts place ≡ letter → ⊥
differs-at opts place letter none inside same =
    let found : list_any (λ (other : Opt). other.letter == letter) opts ≡ true = list_any_at (λ (other : Opt). other.letter == letter) opts place (record { letter = 0; takes = false }) inside (eq-eqb (letter_at opts place) letter same) in
    let never : true ≡ false = sym found ∙ none in cc

pub slots-after : (opts : List Opt) (letters : List Letter) (last : Letter) (place : ℕ) → are_good_opts opts ≡ true → place < length opts → letter_at opts place ≡ last.letter
    → slots_of opts (letters ++ last ∷ []) ≡ set (slots_of opts letters) place (slot_at (length letters) last.value)
slots-after [] letters last place good inside same = absurd (omega arith)
slots-after (opt ∷ opts) letters last zero good inside same =
    let others = and_parts (not (list_any (λ (other : Opt). other.letter == opt.letter) opts)) (are_good_opts opts) (and_parts (not (opt.letter == 45)) _ good).1 in
    let none : list_any (λ (other : Opt). other.letter == last.letter) opts ≡ false = ap (λ letter. list_any (λ (other : Opt). other.letter == letter) opts) (sym same) ∙ not-true _ others.0 in
    ap (λ (slots : List Slot). slot_of opt.letter (letters ++ last ∷ []) ∷ slots) (slots-others opts letters last none)
    ∙ ap (λ (slot : Slot). slot ∷ slots_of opts letters) (slot-found opt.letter letters last true (eq-eqb last.letter opt.letter (sym same)))
slots-after (opt ∷ opts) letters last (suc place) good inside same =
    let others = and_parts (not (list_any (λ (other : Opt). other.letter == opt.letter) opts)) (are_good_opts opts) (and_parts (not (opt.letter == 45)) _ good).1 in
    let within : place < length opts = omega arith in
    let here : (last.letter == opt.letter) ≡ false = ne_eqb last.letter opt.letter (λ is. differs-at opts place opt.letter (not-true _ others.0) within (same ∙ is)) in
    ap (λ (slots : List Slot). slot_of opt.letter (letters ++ last ∷ []) ∷ slots) (slots-after opts letters last place others.1 within same)
    ∙ ap (λ (slot : Slot). slot ∷ set (slots_of opts letters) place (slot_at (length letters) last.value)) (slot-found opt.letter letters last false here)

-- ---- the place of a letter

-- whether the letter at a place takes a value
abbrev pub takes_at : List Opt → (place : ℕ) → Bool
takes_at opts place = (get_or opts place (record { letter = 0; takes = false })).takes

-- the letter stands at this place of the table
pub record IsPlaced (opts : List Opt) (letter place : ℕ) : Type 0 where
  pub is_within : place < length opts
  pub is_letter : letter_at opts place ≡ letter
  pub is_known : takes opts letter ≡ Some (takes_at opts place)

known : (opts : List Opt) (letter place : ℕ) → place < length opts → (letter_at opts place == letter) ≡ true → ((k : ℕ) → k < place → (letter_at opts k == letter) ≡ false) → takes opts letter ≡ Some (takes_at opts place)
known [] letter place inside here before = absurd (omega arith)
known (opt ∷ opts) letter zero inside here before = rw here refl
known (opt ∷ opts) letter (suc place) inside here before =
    let first : (opt.letter == letter) ≡ false = before 0 (omega arith) in
    rw first (known opts letter place (omega arith) here (λ k below. before (suc k) (omega arith)))

pub placed : (opts : List Opt) (letter place : ℕ) → position (λ (opt : Opt). opt.letter == letter) opts ≡ Some place → IsPlaced opts letter place
placed opts letter place is =
    let found = position-Some (λ (opt : Opt). opt.letter == letter) opts place (record { letter = 0; takes = false }) is in
    record {
      is_within = found.0;
      is_letter = eqb-true (letter_at opts place) letter found.1;
      is_known = known opts letter place found.0 found.1 found.2;
    }

unknown-from : (opts : List Opt) (letter from : ℕ) → position_from (λ (opt : Opt). opt.letter == letter) from opts ≡ None → takes opts letter ≡ None
unknown-from [] letter from none = refl
unknown-from (opt ∷ opts) letter from none = by_test (opt.letter == letter) none (unknown-from opts letter (from + 1))
  where
    by_test : (here : Bool) → cond here (Some from) (position_from (λ (opt : Opt). opt.letter == letter) (from + 1) opts) ≡ None
        → (position_from (λ (opt : Opt). opt.letter == letter) (from + 1) opts ≡ None → takes opts letter ≡ None) → (if here then Some opt.takes else takes opts letter) ≡ None
    by_test true none next = absurd (cc)
    by_test false none next = next none

pub unknown : (opts : List Opt) (letter : ℕ) → position (λ (opt : Opt). opt.letter == letter) opts ≡ None → takes opts letter ≡ None
unknown opts letter none = unknown-from opts letter 0 (sym (position_from-zero (λ (opt : Opt). opt.letter == letter) opts) ∙ none)
