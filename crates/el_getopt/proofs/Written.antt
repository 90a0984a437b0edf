-- Optstrings as they are written.
use Rattle.el_room.proofs.Vocabulary.{list_any, is_ascii_alphanumeric, ne_eqb, eqb-true, and_parts, not-true, Opt}
use Rattle.std.proofs.Common.{◌≡◌, ℕ, Bool, true, false, ◌&&◌, ◌||◌, not, ◌==◌, if◌then◌else◌, List, [], ◌∷◌, refl, sym, ap, ◌∙◌, true≢false}
use Rattle.el_getopt.specs.Optstring.{begins_with_colon, behind_colon, is_new_letter, is_optstring, letters_in}
use Rattle.el_getopt.specs.Laws.{optstring_of, are_distinct}
use Rattle.el_getopt.proofs.Optstrings.{no-colon, optstring-cons, letters-plain, letters-colon}

-- ---- what stands behind a letter

behind : Opt → List Opt → List ℕ
behind opt opts = if opt.takes then 58 ∷ optstring_of opts else optstring_of opts

-- the letters of the rest are among its bytes, and no others but the colons are
among-letters : (letter : ℕ) → (58 == letter) ≡ false → (opts : List Opt) → list_any (λ byte. byte == letter) (optstring_of opts) ≡ list_any (λ (other : Opt). other.letter == letter) opts
among-letters letter plain [] = refl
among-letters letter plain (opt ∷ opts) = ap (λ more. (opt.letter == letter) || more) (by opt.takes ∙ among-letters letter plain opts)
  where
    by : (takes : Bool) → list_any (λ byte. byte == letter) (if takes then 58 ∷ optstring_of opts else optstring_of opts) ≡ list_any (λ byte. byte == letter) (optstring_of opts)
    by true = ap (λ here. here || list_any (λ byte. byte == letter) (optstring_of opts)) plain
    by false = refl

-- an optstring of distinct letters begins with no colon
no-colon-first : (opts : List Opt) → are_distinct opts ≡ true → begins_with_colon (optstring_of opts) ≡ false
no-colon-first [] are = refl
no-colon-first (opt ∷ opts) are =
    let first = and_parts (is_ascii_alphanumeric opt.letter && not (list_any (λ (other : Opt). other.letter == opt.letter) opts)) (are_distinct opts) are in
    let letter = and_parts (is_ascii_alphanumeric opt.letter) _ first.0 in
    no-colon opt.letter letter.0

plain-behind : (bytes : List ℕ) → begins_with_colon bytes ≡ false → behind_colon bytes ≡ bytes
plain-behind [] plain = refl
plain-behind (byte ∷ bytes) plain = ap (λ colon. if colon then bytes else byte ∷ bytes) plain

module _ (opt : Opt) (opts : List Opt) (are : are_distinct (opt ∷ opts) ≡ true) where
  split : ((is_ascii_alphanumeric opt.letter && not (list_any (λ (other : Opt). other.letter == opt.letter) opts)) ≡ true) × (are_distinct opts ≡ true)
  split = and_parts (is_ascii_alphanumeric opt.letter && not (list_any (λ (other : Opt). other.letter == opt.letter) opts)) (are_distinct opts) are

  letter : is_ascii_alphanumeric opt.letter ≡ true
  letter = (and_parts (is_ascii_alphanumeric opt.letter) (not (list_any (λ (other : Opt). other.letter == opt.letter) opts)) split.0).0

  rest-behind : behind_colon (behind opt opts) ≡ optstring_of opts
  unfolding behind
  rest-behind = by opt.takes
    where
      by : (takes : Bool) → behind_colon (if takes then 58 ∷ optstring_of opts else optstring_of opts) ≡ optstring_of opts
      by true = refl
      by false = plain-behind (optstring_of opts) (no-colon-first opts split.1)

  takes-behind : begins_with_colon (behind opt opts) ≡ opt.takes
  unfolding behind
  takes-behind = by opt.takes
    where
      by : (takes : Bool) → begins_with_colon (if takes then 58 ∷ optstring_of opts else optstring_of opts) ≡ takes
      by true = refl
      by false = no-colon-first opts split.1

  letters-behind : letters_in (behind opt opts) ≡ letters_in (optstring_of opts)
  unfolding behind
  letters-behind = by opt.takes
    where
      by : (takes : Bool) → letters_in (if takes then 58 ∷ optstring_of opts else optstring_of opts) ≡ letters_in (optstring_of opts)
      by true = refl
      by false = refl

  colon-plain : (58 == opt.letter) ≡ false
  colon-plain = ne_eqb 58 opt.letter (λ same. let never : false ≡ true = ap is_ascii_alphanumeric same ∙ letter in cc)

  new-letter : is_new_letter opt.letter (behind opt opts) ≡ true
  unfolding behind
  new-letter = ap (λ among. is_ascii_alphanumeric opt.letter && not among) (by opt.takes ∙ among-letters opt.letter colon-plain opts) ∙ split.0
    where
      by : (takes : Bool) → list_any (λ byte. byte == opt.letter) (if takes then 58 ∷ optstring_of opts else optstring_of opts) ≡ list_any (λ byte. byte == opt.letter) (optstring_of opts)
      by true = ap (λ here. here || list_any (λ byte. byte == opt.letter) (optstring_of opts)) colon-plain
      by false = refl

-- what distinct letters are written as is an optstring
pub written-is : (opts : List Opt) → are_distinct opts ≡ true → is_optstring (optstring_of opts) ≡ true
unfolding behind
written-is [] are = refl
written-is (opt ∷ opts) are =
    optstring-cons opt.letter (behind opt opts)
    ∙ ap (λ new. new && is_optstring (behind_colon (behind opt opts))) (new-letter opt opts are)
    ∙ ap is_optstring (rest-behind opt opts are)
    ∙ written-is opts (split opt opts are).1

-- and its letters are these
pub written-letters : (opts : List Opt) → are_distinct opts ≡ true → letters_in (optstring_of opts) ≡ opts
unfolding behind
written-letters [] are = refl
written-letters (opt ∷ opts) are =
    letters-plain opt.letter (behind opt opts) (no-colon opt.letter (letter opt opts are))
    ∙ ap (λ takes. record { letter = opt.letter; takes = takes } ∷ letters_in (behind opt opts)) (takes-behind opt opts are)
    ∙ ap (λ (more : List Opt). opt ∷ more) (letters-behind opt opts are ∙ written-letters opts (split opt opts are).1)

-- ---- any optstring

-- a byte that doesn't stand among these is none of their letters
none-among : (letter : ℕ) (bytes : List ℕ) → list_any (λ byte. byte == letter) bytes ≡ false → list_any (λ (other : Opt). other.letter == letter) (letters_in bytes) ≡ false
none-among letter [] none = refl
none-among letter (byte ∷ bytes) none = by (byte == 58) refl (byte == letter) refl none (λ rest. none-among letter bytes rest)
  where
    by : (colon : Bool) → (byte == 58) ≡ colon → (here : Bool) → (byte == letter) ≡ here → (here || list_any (λ byte. byte == letter) bytes) ≡ false
        → (list_any (λ byte. byte == letter) bytes ≡ false → list_any (λ (other : Opt). other.letter == letter) (letters_in bytes) ≡ false)
        → list_any (λ (other : Opt). other.letter == letter) (letters_in (byte ∷ bytes)) ≡ false
    by colon is true here none rest = absurd (true≢false none)
    by true is false here none rest = ap (list_any (λ (other : Opt). other.letter == letter)) (letters-colon byte bytes is) ∙ rest none
    by false is false here none rest =
        ap (list_any (λ (other : Opt). other.letter == letter)) (letters-plain byte bytes is)
        ∙ ap (λ here. here || list_any (λ (other : Opt). other.letter == letter) (letters_in bytes)) here
        ∙ rest none

pub optstring-written : (text : List ℕ) → is_optstring text ≡ true → optstring_of (letters_in text) ≡ text
optstring-written [] is = refl
optstring-written (first ∷ []) is =
    let new = and_parts (is_ascii_alphanumeric first) _ is in
    ap optstring_of (letters-plain first [] (no-colon first new.0))
optstring-written (first ∷ next ∷ bytes) is =
    let parts = and_parts (is_new_letter first (next ∷ bytes)) _ is in
    let new = and_parts (is_ascii_alphanumeric first) _ parts.0 in
    ap optstring_of (letters-plain first (next ∷ bytes) (no-colon first new.0))
    ∙ ap (λ (more : List ℕ). first ∷ more) (by (next == 58) refl parts.1 (λ good. optstring-written bytes good) (λ good. optstring-written (next ∷ bytes) good))
  where
    by : (colon : Bool) → (next == 58) ≡ colon → (if colon then is_optstring bytes else is_optstring (next ∷ bytes)) ≡ true → (is_optstring bytes ≡ true → optstring_of (letters_in bytes) ≡ bytes)
        → (is_optstring (next ∷ bytes) ≡ true → optstring_of (letters_in (next ∷ bytes)) ≡ next ∷ bytes)
        → (if next == 58 then 58 ∷ optstring_of (letters_in (next ∷ bytes)) else optstring_of (letters_in (next ∷ bytes))) ≡ next ∷ bytes
    by true is good one two =
        ap (λ colon. if colon then 58 ∷ optstring_of (letters_in (next ∷ bytes)) else optstring_of (letters_in (next ∷ bytes))) is
        ∙ ap (λ opts. 58 ∷ optstring_of opts) (letters-colon next bytes is)
        ∙ ap (λ (more : List ℕ). 58 ∷ more) (one good)
        ∙ ap (λ byte. byte ∷ bytes) (sym (eqb-true next 58 is))
    by false is good one two = ap (λ colon. if colon then 58 ∷ optstring_of (letters_in (next ∷ bytes)) else optstring_of (letters_in (next ∷ bytes))) is ∙ two good

pub optstring-distinct : (text : List ℕ) → is_optstring text ≡ true → are_distinct (letters_in text) ≡ true
optstring-distinct [] is = refl
optstring-distinct (first ∷ []) is =
    let new = and_parts (is_ascii_alphanumeric first) _ is in
    ap are_distinct (letters-plain first [] (no-colon first new.0)) ∙ ap (λ letter. (letter && true) && true) new.0
optstring-distinct (first ∷ next ∷ bytes) is =
    let parts = and_parts (is_new_letter first (next ∷ bytes)) _ is in
    let new = and_parts (is_ascii_alphanumeric first) _ parts.0 in
    ap are_distinct (letters-plain first (next ∷ bytes) (no-colon first new.0))
    ∙ ap (λ letter. (letter && not (list_any (λ (other : Opt). other.letter == first) (letters_in (next ∷ bytes)))) && are_distinct (letters_in (next ∷ bytes))) new.0
    ∙ ap (λ among. not among && are_distinct (letters_in (next ∷ bytes))) (none-among first (next ∷ bytes) (not-true _ new.1))
    ∙ by (next == 58) refl parts.1 (λ good. optstring-distinct bytes good) (λ good. optstring-distinct (next ∷ bytes) good)
  where
    by : (colon : Bool) → (next == 58) ≡ colon → (if colon then is_optstring bytes else is_optstring (next ∷ bytes)) ≡ true → (is_optstring bytes ≡ true → are_distinct (letters_in bytes) ≡ true)
        → (is_optstring (next ∷ bytes) ≡ true → are_distinct (letters_in (next ∷ bytes)) ≡ true) → are_distinct (letters_in (next ∷ bytes)) ≡ true
    by true is good one two = ap are_distinct (letters-colon next bytes is) ∙ one good
    by false is good one two = two good
