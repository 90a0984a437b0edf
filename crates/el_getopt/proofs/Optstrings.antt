-- The letters of an optstring, and which of them take a value.
use Rattle.el_room.proofs.Vocabulary.{is_ascii_alphanumeric, ne_eqb, eqb-true, and_parts}
use Rattle.std.proofs.Common.{◌≡◌, ℕ, Bool, true, false, ◌&&◌, ◌==◌, if◌then◌else◌, List, [], ◌∷◌, Option, Some, None, refl, sym, ap, ◌∙◌, subst}
use Rattle.el_options.specs.Reading.{takes}
use Rattle.el_getopt.specs.Optstring.{begins_with_colon, behind_colon, is_new_letter, is_optstring, letters_in}

and-true : (b : Bool) → b ≡ (b && true)
and-true true = refl
and-true false = refl

-- ---- optstrings

-- an optstring by its first letter
pub optstring-cons : (letter : ℕ) (behind : List ℕ) → is_optstring (letter ∷ behind) ≡ (is_new_letter letter behind && is_optstring (behind_colon behind))
optstring-cons letter [] = and-true (is_new_letter letter [])
optstring-cons letter (next ∷ bytes) = ap (λ more. is_new_letter letter (next ∷ bytes) && more) (by (next == 58))
  where
    by : (colon : Bool) → (if colon then is_optstring bytes else is_optstring (next ∷ bytes)) ≡ is_optstring (if colon then bytes else next ∷ bytes)
    by true = refl
    by false = refl

-- ---- letters

-- a letter or a digit is no colon
pub no-colon : (letter : ℕ) → is_ascii_alphanumeric letter ≡ true → (letter == 58) ≡ false
no-colon letter is = ne_eqb letter 58 (λ same. let never : false ≡ true = sym (ap is_ascii_alphanumeric same) ∙ is in cc)

pub letters-plain : (first : ℕ) (behind : List ℕ) → (first == 58) ≡ false → letters_in (first ∷ behind) ≡ record { letter = first; takes = begins_with_colon behind } ∷ letters_in behind
letters-plain first behind plain = ap (λ (colon : Bool). if colon then letters_in behind else record { letter = first; takes = begins_with_colon behind } ∷ letters_in behind) plain

takes-letter : (first : ℕ) (behind : List ℕ) (letter : ℕ) → (first == 58) ≡ false → takes (letters_in (first ∷ behind)) letter ≡ (if first == letter then Some (begins_with_colon behind) else takes (letters_in behind) letter)
takes-letter first behind letter plain = ap (λ opts. takes opts letter) (letters-plain first behind plain)

pub letters-colon : (first : ℕ) (behind : List ℕ) → (first == 58) ≡ true → letters_in (first ∷ behind) ≡ letters_in behind
letters-colon first behind colon = ap (λ (colon : Bool). if colon then letters_in behind else record { letter = first; takes = begins_with_colon behind } ∷ letters_in behind) colon

-- a letter of an optstring is an ASCII letter or a digit
pub named : (optstring : List ℕ) (letter : ℕ) (value : Bool) → is_optstring optstring ≡ true → takes (letters_in optstring) letter ≡ Some value → is_ascii_alphanumeric letter ≡ true
named [] letter value good is = absurd (cc)
named (first ∷ []) letter value good is =
    let new = and_parts (is_ascii_alphanumeric first) _ good in
    by (first == letter) refl (sym (takes-letter first [] letter (no-colon first new.0)) ∙ is) new.0
  where
    by : (same : Bool) → (first == letter) ≡ same → ◌≡◌ {A = Option Bool} (if same then Some false else None) (Some value) → is_ascii_alphanumeric first ≡ true → is_ascii_alphanumeric letter ≡ true
    by true same is known = subst (λ letter. is_ascii_alphanumeric letter ≡ true) (eqb-true first letter same) known
    by false same is known = absurd (cc)
named (first ∷ next ∷ bytes) letter value good is =
    let split = and_parts (is_new_letter first (next ∷ bytes)) _ good in
    let new = and_parts (is_ascii_alphanumeric first) _ split.0 in
    by (first == letter) refl (sym (takes-letter first (next ∷ bytes) letter (no-colon first new.0)) ∙ is) new.0
    (λ more. behind (next == 58) refl split.1 more (λ good more. named bytes letter value good more) (λ good more. named (next ∷ bytes) letter value good more))
  where
    behind : (colon : Bool) → (next == 58) ≡ colon → (if colon then is_optstring bytes else is_optstring (next ∷ bytes)) ≡ true → takes (letters_in (next ∷ bytes)) letter ≡ Some value
        → (is_optstring bytes ≡ true → takes (letters_in bytes) letter ≡ Some value → is_ascii_alphanumeric letter ≡ true)
        → (is_optstring (next ∷ bytes) ≡ true → takes (letters_in (next ∷ bytes)) letter ≡ Some value → is_ascii_alphanumeric letter ≡ true) → is_ascii_alphanumeric letter ≡ true
    behind true colon good more one two = one good (ap (λ opts. takes opts letter) (sym (letters-colon next bytes colon)) ∙ more)
    behind false colon good more one two = two good more

    by : (same : Bool) → (first == letter) ≡ same → (if same then Some (begins_with_colon (next ∷ bytes)) else takes (letters_in (next ∷ bytes)) letter) ≡ Some value → is_ascii_alphanumeric first ≡ true
        → (takes (letters_in (next ∷ bytes)) letter ≡ Some value → is_ascii_alphanumeric letter ≡ true) → is_ascii_alphanumeric letter ≡ true
    by true same is known rest = subst (λ letter. is_ascii_alphanumeric letter ≡ true) (eqb-true first letter same) known
    by false same is known rest = rest is

-- no letter is a colon
pub takes-colon : (optstring : List ℕ) (letter : ℕ) → letter ≡ 58 → takes (letters_in optstring) letter ≡ None
takes-colon [] letter is = refl
takes-colon (first ∷ behind) letter is = by (first == 58) refl (takes-colon behind letter is)
  where
    by : (colon : Bool) → (first == 58) ≡ colon → takes (letters_in behind) letter ≡ None → takes (letters_in (first ∷ behind)) letter ≡ None
    by true colon rest = ap (λ opts. takes opts letter) (letters-colon first behind colon) ∙ rest
    by false colon rest =
        takes-letter first behind letter colon
        ∙ ap (λ (same : Bool). if same then Some (begins_with_colon behind) else takes (letters_in behind) letter) (ap (λ letter. first == letter) is ∙ colon)
        ∙ rest

-- a letter that isn't the first one stands behind, if anywhere
pub takes-behind : (first : ℕ) (behind : List ℕ) (letter : ℕ) → (first ≡ letter → ⊥) → takes (letters_in (first ∷ behind)) letter ≡ takes (letters_in behind) letter
takes-behind first behind letter other = by (first == 58) refl
  where
    by : (colon : Bool) → (first == 58) ≡ colon → takes (letters_in (first ∷ behind)) letter ≡ takes (letters_in behind) letter
    by true colon = ap (λ opts. takes opts letter) (letters-colon first behind colon)
    by false colon =
        takes-letter first behind letter colon
        ∙ ap (λ (same : Bool). if same then Some (begins_with_colon behind) else takes (letters_in behind) letter) (ne_eqb first letter other)
