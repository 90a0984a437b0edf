-- That where pieces stand for bytes, the last piece may stand for the last byte.
use Rattle.std.proofs.Common.{◌≡◌, ◌∙◌, sym, refl, ap, subst, ℕ, suc, ◌-◌, Bool, true, false, ◌||◌, List, [], ◌∷◌, ◌++◌, append_assoc, length, slice_get, Some, arith, inl, inr}
use Rattle.std.proofs.lemmas.Bool.{false≢true, or_cases, or_right, and_parts}
use Rattle.el_glob.specs.declared.piece.Piece.{Piece}
use Rattle.el_glob.specs.declared.piece.Piece.TheVariants.{Star, Any, Byte, Set}
use Rattle.el_glob.specs.Pieces.{stands_for, is_star}
use Rattle.el_glob.specs.Matching.{some_rest, one_byte, matches}
use Rattle.el_glob.specs.Ahead.{ends_in, may_end}

ends-last : (p : ℕ → Bool) (bytes : List ℕ) (byte : ℕ) → ends_in p (bytes ++ byte ∷ []) ≡ p byte
ends-last p [] byte = refl
ends-last p (first ∷ []) byte = refl
ends-last p (first ∷ second ∷ bytes) byte = ends-last p (second ∷ bytes) byte

-- what holds behind each rest that passes holds behind all of the bytes
behind-rest : (Holds : List ℕ → Type 0) (p : List ℕ → Bool) (bytes before : List ℕ) → ((before rest : List ℕ) → p rest ≡ true → Holds (before ++ rest)) → some_rest p bytes ≡ true → Holds (before ++ bytes)
behind-rest Holds p [] before here passes = here before [] passes
behind-rest Holds p (byte ∷ bytes) before here passes = elim (or_cases (p (byte ∷ bytes)) (some_rest p bytes) passes) [
  | inl first ↦ here before (byte ∷ bytes) first
  | inr later ↦ subst Holds (append_assoc before (byte ∷ []) bytes) (behind-rest Holds p bytes (before ++ byte ∷ []) here later)
]

module _ (piece : Piece) where
  abbrev may_stand : ℕ → Bool
  may_stand byte = is_star piece || stands_for piece byte

  -- one byte, and then what is to hold behind it
  one-behind : (Holds : List ℕ → Type 0) (p : List ℕ → Bool) (before bytes : List ℕ)
      → ((byte : ℕ) (rest : List ℕ) → stands_for piece byte ≡ true → p rest ≡ true → Holds (before ++ byte ∷ rest)) → one_byte (stands_for piece) p bytes ≡ true → Holds (before ++ bytes)
  one-behind Holds p before [] here passes = absurd (false≢true passes)
  one-behind Holds p before (byte ∷ bytes) here passes = let both = and_parts (stands_for piece byte) (p bytes) passes in here byte bytes both.0 both.1

  last-one : (before bytes : List ℕ) → one_byte (stands_for piece) (matches []) bytes ≡ true → ends_in may_stand (before ++ bytes) ≡ true
  last-one before bytes = one-behind (λ all. ends_in may_stand all ≡ true) (matches []) before bytes here where
    here : (byte : ℕ) (rest : List ℕ) → stands_for piece byte ≡ true → matches [] rest ≡ true → ends_in may_stand (before ++ byte ∷ rest) ≡ true
    here byte [] stands none = ends-last may_stand before byte ∙ or_right (is_star piece) (stands_for piece byte) stands
    here byte (other ∷ rest) stands none = absurd (false≢true none)

ends-any : (bytes : List ℕ) → ends_in (λ byte. true) bytes ≡ true
ends-any [] = refl
ends-any (byte ∷ []) = refl
ends-any (byte ∷ other ∷ bytes) = ends-any (other ∷ bytes)

one-more : (piece next : Piece) (pieces : List Piece) (before bytes : List ℕ) → ((before rest : List ℕ) → matches (next ∷ pieces) rest ≡ true → may_end (next ∷ pieces) (before ++ rest) ≡ true)
    → one_byte (stands_for piece) (matches (next ∷ pieces)) bytes ≡ true → may_end (next ∷ pieces) (before ++ bytes) ≡ true
one-more piece next pieces before bytes later = one-behind piece (λ all. may_end (next ∷ pieces) all ≡ true) (matches (next ∷ pieces)) before bytes
    (λ byte rest stands passes. subst (λ all. may_end (next ∷ pieces) all ≡ true) (append_assoc before (byte ∷ []) rest) (later (before ++ byte ∷ []) rest passes))

-- behind whatever bytes
ends-behind : (pieces : List Piece) (before bytes : List ℕ) → matches pieces bytes ≡ true → may_end pieces (before ++ bytes) ≡ true
ends-behind [] before bytes passes = refl
ends-behind (Star ∷ []) before bytes passes = ends-any (before ++ bytes)
ends-behind (Any ∷ []) before bytes passes = last-one Any before bytes passes
ends-behind (Byte own ∷ []) before bytes passes = last-one (Byte own) before bytes passes
ends-behind (Set negated spans ∷ []) before bytes passes = last-one (Set negated spans) before bytes passes
ends-behind (Star ∷ next ∷ pieces) before bytes passes =
    behind-rest (λ all. may_end (next ∷ pieces) all ≡ true) (matches (next ∷ pieces)) bytes before (λ before rest. ends-behind (next ∷ pieces) before rest) passes
ends-behind (Any ∷ next ∷ pieces) before bytes passes = one-more Any next pieces before bytes (λ before rest. ends-behind (next ∷ pieces) before rest) passes
ends-behind (Byte own ∷ next ∷ pieces) before bytes passes = one-more (Byte own) next pieces before bytes (λ before rest. ends-behind (next ∷ pieces) before rest) passes
ends-behind (Set negated spans ∷ next ∷ pieces) before bytes passes = one-more (Set negated spans) next pieces before bytes (λ before rest. ends-behind (next ∷ pieces) before rest) passes

matches-ends : (pieces : List Piece) (bytes : List ℕ) → matches pieces bytes ≡ true → may_end pieces bytes ≡ true
matches-ends pieces bytes = ends-behind pieces [] bytes

-- ---- the last piece and the last byte

last-byte : (p : ℕ → Bool) (bytes : List ℕ) (byte : ℕ) → slice_get bytes (length bytes - 1) ≡ Some byte → ends_in p bytes ≡ p byte
last-byte p [] byte is = let no : ⊥ = cc in absurd no
last-byte p (first ∷ []) byte is = let same : first ≡ byte = cc in ap p same
last-byte p (first ∷ second ∷ bytes) byte is =
    let e : length (first ∷ second ∷ bytes) - 1 ≡ suc (length (second ∷ bytes) - 1) = omega arith in
    last-byte p (second ∷ bytes) byte (subst (λ place. slice_get (first ∷ second ∷ bytes) place ≡ Some byte) e is)

last-piece : (pieces : List Piece) (bytes : List ℕ) (piece : Piece) → slice_get pieces (length pieces - 1) ≡ Some piece → may_end pieces bytes ≡ ends_in (may_stand piece) bytes
last-piece [] bytes piece is = let no : ⊥ = cc in absurd no
last-piece (first ∷ []) bytes piece is = let same : first ≡ piece = cc in ap (λ one. ends_in (may_stand one) bytes) same
last-piece (first ∷ second ∷ pieces) bytes piece is =
    let e : length (first ∷ second ∷ pieces) - 1 ≡ suc (length (second ∷ pieces) - 1) = omega arith in
    last-piece (second ∷ pieces) bytes piece (subst (λ place. slice_get (first ∷ second ∷ pieces) place ≡ Some piece) e is)

pub last-stands : (pieces : List Piece) (bytes : List ℕ) (piece : Piece) (byte : ℕ) → slice_get pieces (length pieces - 1) ≡ Some piece → slice_get bytes (length bytes - 1) ≡ Some byte
    → is_star piece ≡ false → matches pieces bytes ≡ true → stands_for piece byte ≡ true
last-stands pieces bytes piece byte last end star passes =
    let ends : (is_star piece || stands_for piece byte) ≡ true = sym (last-byte (may_stand piece) bytes byte end) ∙ sym (last-piece pieces bytes piece last) ∙ matches-ends pieces bytes passes in
    elim (or_cases (is_star piece) (stands_for piece byte) ends) [ inl is ↦ absurd (false≢true (sym star ∙ is)) | inr stands ↦ stands ]
