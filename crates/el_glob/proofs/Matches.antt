-- The relation and its computation are one.
use Rattle.std.proofs.Common.{◌≡◌, ◌∙◌, ◌↔◌, sym, refl, ap, ℕ, Bool, true, false, not, ◌||◌, List, [], ◌∷◌, ◌++◌, inl, inr}
use Rattle.std.proofs.lemmas.Bool.{false≢true, or_cases, or_left, or_right, and_parts, and_from}
use Rattle.el_glob.specs.declared.piece.Piece.{Piece}
use Rattle.el_glob.specs.declared.piece.Piece.TheVariants.{Star, Any, Byte, Set}
use Rattle.el_glob.specs.Pieces.{stands_for, is_star}
use Rattle.el_glob.specs.Fits.{Fits, fits, is_hidden, begin_with_dot}
use Rattle.el_glob.specs.Matching.{some_rest, one_byte, matches, Match, StandsFor}

-- some rest passes, behind some front
some_rest-split : (p : List ℕ → Bool) (bytes : List ℕ) → some_rest p bytes ≡ true → (front : List ℕ) × ((rest : List ℕ) × ((bytes ≡ front ++ rest) × (p rest ≡ true)))
some_rest-split p [] holds = ([], ([], (refl, holds)))
some_rest-split p (byte ∷ bytes) holds = elim (or_cases (p (byte ∷ bytes)) (some_rest p bytes) holds) [
  | inl first ↦ ([], (byte ∷ bytes, (refl, first)))
  | inr later ↦ let h = some_rest-split p bytes later in (byte ∷ h.0, (h.1.0, (ap (λ bs. byte ∷ bs) h.1.1.0, h.1.1.1)))
]

some_rest-here : (p : List ℕ → Bool) (bytes : List ℕ) → p bytes ≡ true → some_rest p bytes ≡ true
some_rest-here p [] holds = holds
some_rest-here p (byte ∷ bytes) holds = or_left _ _ holds

some_rest-behind : (p : List ℕ → Bool) (front rest : List ℕ) → p rest ≡ true → some_rest p (front ++ rest) ≡ true
some_rest-behind p [] rest holds = some_rest-here p rest holds
some_rest-behind p (byte ∷ front) rest holds = or_right (p (byte ∷ front ++ rest)) (some_rest p (front ++ rest)) (some_rest-behind p front rest holds)

-- a piece that isn't `*`, by its one byte
one-split : (piece : Piece) (pieces : List Piece) (bytes : List ℕ) → ((part : List ℕ) → StandsFor piece part → (byte : ℕ) × ((part ≡ byte ∷ []) × (stands_for piece byte ≡ true)))
    → ((part : ℕ) → stands_for piece part ≡ true → StandsFor piece (part ∷ [])) → ((bs : List ℕ) → (matches pieces bs ≡ true) ↔ Match pieces bs)
    → (one_byte (stands_for piece) (matches pieces) bytes ≡ true) ↔ Match (piece ∷ pieces) bytes
one-split piece pieces bytes is one later = (to bytes, from bytes) where
  to : (bs : List ℕ) → one_byte (stands_for piece) (matches pieces) bs ≡ true → Match (piece ∷ pieces) bs
  to [] holds = absurd (false≢true holds)
  to (byte ∷ bs) holds = let h = and_parts (stands_for piece byte) (matches pieces bs) holds in (byte ∷ [], bs, refl, one byte h.0, (later bs).0 h.1)

  from : (bs : List ℕ) → Match (piece ∷ pieces) bs → one_byte (stands_for piece) (matches pieces) bs ≡ true
  from bs m =
      let b = is m.0 m.3 in
      let whole : bs ≡ b.0 ∷ m.1 = m.2 ∙ ap (λ part. part ++ m.1) b.1.0 in
      rw whole (and_from (stands_for piece b.0) (matches pieces m.1) b.1.1 ((later m.1).1 m.4))

-- the one byte of a part, for a piece that isn't `*`
one_of : (piece : Piece) (part : List ℕ) → is_star piece ≡ false → StandsFor piece part → (byte : ℕ) × ((part ≡ byte ∷ []) × (stands_for piece byte ≡ true))
one_of Star part is h = absurd (false≢true (sym is))
one_of Any [] is h = absurd h
one_of Any (byte ∷ []) is h = (byte, (refl, h))
one_of Any (byte ∷ other ∷ part) is h = absurd h
one_of (Byte own) [] is h = absurd h
one_of (Byte own) (byte ∷ []) is h = (byte, (refl, h))
one_of (Byte own) (byte ∷ other ∷ part) is h = absurd h
one_of (Set negated spans) [] is h = absurd h
one_of (Set negated spans) (byte ∷ []) is h = (byte, (refl, h))
one_of (Set negated spans) (byte ∷ other ∷ part) is h = absurd h

star-both : (pieces : List Piece) (bytes : List ℕ) → ((bs : List ℕ) → (matches pieces bs ≡ true) ↔ Match pieces bs) → (some_rest (matches pieces) bytes ≡ true) ↔ Match (Star ∷ pieces) bytes
star-both pieces bytes later = (
  (λ holds. let h = some_rest-split (matches pieces) bytes holds in (h.0, h.1.0, h.1.1.0, tt, (later h.1.0).0 h.1.1.1)),
  (λ m. let whole : bytes ≡ m.0 ++ m.1 = m.2 in rw whole (some_rest-behind (matches pieces) m.0 m.1 ((later m.1).1 m.4))),
)

-- the relation is what `matches` computes
pub matches-both : (pieces : List Piece) (bytes : List ℕ) → (matches pieces bytes ≡ true) ↔ Match pieces bytes
matches-both [] [] = ((λ _. refl), (λ _. refl))
matches-both [] (byte ∷ bytes) = ((λ holds. absurd (false≢true holds)), (λ none. let fails : ⊥ = cc in absurd fails))
matches-both (Star ∷ pieces) bytes = star-both pieces bytes (matches-both pieces)
matches-both (Any ∷ pieces) bytes = one-split Any pieces bytes (λ part h. one_of Any part refl h) (λ byte h. h) (matches-both pieces)
matches-both (Byte own ∷ pieces) bytes = one-split (Byte own) pieces bytes (λ part h. one_of (Byte own) part refl h) (λ byte h. h) (matches-both pieces)
matches-both (Set negated spans ∷ pieces) bytes = one-split (Set negated spans) pieces bytes (λ part h. one_of (Set negated spans) part refl h) (λ byte h. h) (matches-both pieces)

pub fits-both : (pieces : List Piece) (name : List ℕ) → (is_hidden name ≡ true → begin_with_dot pieces ≡ true) → (matches pieces name ≡ true) ↔ Fits pieces name
fits-both pieces name dot = (
  (λ holds. record { matched = (matches-both pieces name).0 holds; dot = dot }),
  (λ h. (matches-both pieces name).1 h.matched),
)

-- the same of `fits`
pub fits-is : (pieces : List Piece) (name : List ℕ) → (fits pieces name ≡ true) ↔ Fits pieces name
fits-is pieces name = (to, from) where
  shown : (hidden dot : Bool) → (not hidden || dot) ≡ true → hidden ≡ true → dot ≡ true
  shown true dot is yes-hidden = is
  shown false dot is no-hidden = absurd (false≢true no-hidden)

  told : (hidden dot : Bool) → (hidden ≡ true → dot ≡ true) → (not hidden || dot) ≡ true
  told true dot is = is refl
  told false dot is = refl

  to : fits pieces name ≡ true → Fits pieces name
  to is = let both = and_parts (not (is_hidden name) || begin_with_dot pieces) (matches pieces name) is in
      record { matched = (matches-both pieces name).0 both.1; dot = shown (is_hidden name) (begin_with_dot pieces) both.0 }

  from : Fits pieces name → fits pieces name ≡ true
  from h = and_from (not (is_hidden name) || begin_with_dot pieces) (matches pieces name) (told (is_hidden name) (begin_with_dot pieces) h.dot) ((matches-both pieces name).1 h.matched)
