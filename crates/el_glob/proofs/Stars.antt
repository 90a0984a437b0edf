-- That only the last `*` needs to be tried again.
use Rattle.std.proofs.Common.{◌≡◌, ◌∙◌, sym, refl, ap, subst, ℕ, suc, ◌+◌, ◌-◌, ◌*◌, ◌<◌, ◌≤◌, Bool, true, false, ◌&&◌, ◌||◌, List, [], ◌∷◌, length, drop, Option, Some, None, arith, add-one, inl, inr, ◌⊎◌}
use Rattle.std.proofs.lemmas.Bool.{false≢true, or_cases, or_left, or_right, and_parts}
use Rattle.std.proofs.Math.ListN.{drop_of_length-le}
use Rattle.std.proofs.lemmas.List.{length-drop}
use Rattle.std.proofs.Math.Bool.{or-false}
use Rattle.el_glob.specs.declared.piece.Piece.{Piece}
use Rattle.el_glob.specs.declared.piece.Piece.TheVariants.{Star, Any, Byte, Set}
use Rattle.el_glob.specs.declared.matching.Tried.{Tried}
use Rattle.el_glob.specs.Pieces.{stands_for, is_star}
use Rattle.el_glob.specs.Matching.{some_rest, one_byte, matches}
use Rattle.el_glob.specs.Ahead.{begin_with_star, begin_alike}

-- some shorter rest passes
abbrev pub beyond : (List ℕ → Bool) → List ℕ → Bool
beyond p [] = false
beyond p (byte ∷ bytes) = some_rest p bytes

-- The answer is that here, or that of a new try; and where a new try passes, some rest passes here.
pub record Stands (whole : Bool) (here : List ℕ → Bool) (bytes : List ℕ) (again : Bool) : Type 0 where
  pub same : whole ≡ (here bytes || again)
  pub reaches : again ≡ true → some_rest here bytes ≡ true

some_rest-first : (p : List ℕ → Bool) (bytes : List ℕ) → some_rest p bytes ≡ (p bytes || beyond p bytes)
some_rest-first p [] = sym (or-false (p []))
some_rest-first p (byte ∷ bytes) = refl

some_rest-here : (p : List ℕ → Bool) (bytes : List ℕ) → p bytes ≡ true → some_rest p bytes ≡ true
some_rest-here p [] holds = holds
some_rest-here p (byte ∷ bytes) holds = or_left _ _ holds

some_rest-beyond : (p : List ℕ → Bool) (bytes : List ℕ) → beyond p bytes ≡ true → some_rest p bytes ≡ true
some_rest-beyond p bytes holds = some_rest-first p bytes ∙ or_right _ _ holds

some_rest-same : (p q : List ℕ → Bool) (bytes : List ℕ) → ((bs : List ℕ) → p bs ≡ q bs) → some_rest p bytes ≡ some_rest q bytes
some_rest-same p q [] same = same []
some_rest-same p q (byte ∷ bytes) same = rw (same (byte ∷ bytes), some_rest-same p q bytes same) refl

some_rest-twice : (p : List ℕ → Bool) (bytes : List ℕ) → some_rest (some_rest p) bytes ≡ true → some_rest p bytes ≡ true
some_rest-twice p [] holds = holds
some_rest-twice p (byte ∷ bytes) holds = elim (or_cases _ _ holds) [ inl first ↦ first | inr later ↦ or_right _ _ (some_rest-twice p bytes later) ]

some_rest-one_byte : (here : ℕ → Bool) (p : List ℕ → Bool) (byte : ℕ) (bytes : List ℕ) → some_rest (one_byte here p) (byte ∷ bytes) ≡ true → some_rest p bytes ≡ true
some_rest-one_byte here p byte [] holds = elim (or_cases (here byte && p []) false holds) [ inl first ↦ (and_parts (here byte) (p []) first).1 | inr later ↦ absurd (false≢true later) ]
some_rest-one_byte here p byte (other ∷ bytes) holds = elim (or_cases (here byte && p (other ∷ bytes)) (some_rest (one_byte here p) (other ∷ bytes)) holds) [
  | inl first ↦ some_rest-here p (other ∷ bytes) (and_parts (here byte) (p (other ∷ bytes)) first).1
  | inr later ↦ or_right (p (other ∷ bytes)) (some_rest p bytes) (some_rest-one_byte here p other bytes later)
]

star_same : (here p : List ℕ → Bool) (bytes : List ℕ) (again : Bool) → ((bs : List ℕ) → here bs ≡ some_rest p bs) → (again ≡ true → some_rest here bytes ≡ true) → (here bytes || again) ≡ some_rest p bytes
star_same here p bytes false is reaches = or-false _ ∙ is bytes
star_same here p bytes true is reaches =
    or_right _ _ refl ∙ sym (some_rest-twice p bytes (sym (some_rest-same here (some_rest p) bytes is) ∙ reaches refl))

pub stands-star : (whole : Bool) (here p : List ℕ → Bool) (bytes : List ℕ) (again : Bool) → Stands whole here bytes again → ((bs : List ℕ) → here bs ≡ some_rest p bs) → Stands whole p bytes (beyond p bytes)
stands-star whole here p bytes again h is = record {
  same = h.same ∙ star_same here p bytes again is h.reaches ∙ some_rest-first p bytes;
  reaches = some_rest-beyond p bytes;
}

pub stands-byte : (whole : Bool) (here p : List ℕ → Bool) (alike : ℕ → Bool) (byte : ℕ) (bytes : List ℕ) (again : Bool) → Stands whole here (byte ∷ bytes) again → ((bs : List ℕ) → here bs ≡ one_byte alike p bs) → alike byte ≡ true → Stands whole p bytes again
stands-byte whole here p alike byte bytes again h is holds = record {
  same = h.same ∙ ap (λ b. b || again) (is (byte ∷ bytes) ∙ ap (λ b. b && p bytes) holds);
  reaches = λ more. some_rest-one_byte alike p byte bytes (sym (some_rest-same here (one_byte alike p) (byte ∷ bytes) is) ∙ h.reaches more);
}

pub stands-again : (whole : Bool) (here p : List ℕ → Bool) (bytes from : List ℕ) (again : Bool) → Stands whole here bytes again → here bytes ≡ false → again ≡ some_rest p from → Stands whole p from (beyond p from)
stands-again whole here p bytes from again h fails is = record {
  same = h.same ∙ ap (λ b. b || again) fails ∙ is ∙ some_rest-first p from;
  reaches = some_rest-beyond p from;
}

pub stands-false : (whole : Bool) (here : List ℕ → Bool) (bytes : List ℕ) (again : Bool) → Stands whole here bytes again → here bytes ≡ false → again ≡ false → whole ≡ false
stands-false whole here bytes again h fails none = h.same ∙ ap (λ b. b || again) fails ∙ none

-- ---- pieces

matches-star : (piece : Piece) (pieces : List Piece) (bytes : List ℕ) → is_star piece ≡ true → matches (piece ∷ pieces) bytes ≡ some_rest (matches pieces) bytes
matches-star Star pieces bytes is = refl
matches-star Any pieces bytes is = absurd (false≢true is)
matches-star (Byte own) pieces bytes is = absurd (false≢true is)
matches-star (Set negated spans) pieces bytes is = absurd (false≢true is)

matches-single : (piece : Piece) (pieces : List Piece) (bytes : List ℕ) → is_star piece ≡ false → matches (piece ∷ pieces) bytes ≡ one_byte (stands_for piece) (matches pieces) bytes
matches-single Star pieces bytes is = absurd (false≢true (sym is))
matches-single Any pieces bytes is = refl
matches-single (Byte own) pieces bytes is = refl
matches-single (Set negated spans) pieces bytes is = refl

-- a step over the pieces from a place on
pub star_here : (pieces : List Piece) (piece : ℕ) → begin_with_star (drop piece pieces) ≡ true
    → (piece < length pieces) × ((bs : List ℕ) → matches (drop piece pieces) bs ≡ some_rest (matches (drop (suc piece) pieces)) bs)
star_here [] Prim.Native.Nat.zero is = absurd (false≢true is)
star_here [] (suc place) is = absurd (false≢true is)
star_here (piece ∷ pieces) Prim.Native.Nat.zero is = (omega arith, λ bs. matches-star piece pieces bs is)
star_here (piece ∷ pieces) (suc place) is = let h = star_here pieces place is in (let lt = h.0 in omega arith, h.1)

-- what is at a place, where a piece and a byte are alike
pub alike_here : (pieces : List Piece) (piece : ℕ) (byte : ℕ) (bytes : List ℕ) → begin_with_star (drop piece pieces) ≡ false → begin_alike (drop piece pieces) (byte ∷ bytes) ≡ true
    → (piece < length pieces) × ((alike : ℕ → Bool) × (((bs : List ℕ) → matches (drop piece pieces) bs ≡ one_byte alike (matches (drop (suc piece) pieces)) bs) × (alike byte ≡ true)))
alike_here [] Prim.Native.Nat.zero byte bytes is holds = absurd (false≢true holds)
alike_here [] (suc place) byte bytes is holds = absurd (false≢true holds)
alike_here (piece ∷ pieces) Prim.Native.Nat.zero byte bytes is holds = (omega arith, (stands_for piece, ((λ bs. matches-single piece pieces bs is), holds)))
alike_here (piece ∷ pieces) (suc place) byte bytes is holds = let h = alike_here pieces place byte bytes is holds in (let lt = h.0 in omega arith, h.1)

pub byte_here : (pieces : List Piece) (bytes : List ℕ) (byte : ℕ) → begin_alike pieces (drop byte bytes) ≡ true
    → (byte < length bytes) × ((b : ℕ) × (drop byte bytes ≡ b ∷ drop (suc byte) bytes))
byte_here [] [] Prim.Native.Nat.zero holds = absurd (false≢true holds)
byte_here (piece ∷ pieces) [] Prim.Native.Nat.zero holds = absurd (false≢true holds)
byte_here [] [] (suc place) holds = absurd (false≢true holds)
byte_here (piece ∷ pieces) [] (suc place) holds = absurd (false≢true holds)
byte_here pieces (b ∷ bytes) Prim.Native.Nat.zero holds = (omega arith, (b, refl))
byte_here pieces (b ∷ bytes) (suc place) holds = let h = byte_here pieces bytes place holds in (let lt = h.0 in omega arith, h.1)

-- no match here
pub none_here : (pieces : List Piece) (bytes : List ℕ) → begin_with_star pieces ≡ false → begin_alike pieces bytes ≡ false → (length pieces ≡ 0 → length bytes ≡ 0 → ⊥) → matches pieces bytes ≡ false
none_here [] [] is fails some = absurd (some refl refl)
none_here [] (byte ∷ bytes) is fails some = refl
none_here (piece ∷ pieces) [] is fails some = matches-single piece pieces [] is
none_here (piece ∷ pieces) (byte ∷ bytes) is fails some = matches-single piece pieces (byte ∷ bytes) is ∙ ap (λ b. b && matches pieces bytes) fails

-- ---- the loop

-- what the last `*` gives by more bytes
abbrev pub later : List Piece → List ℕ → Option Tried → Bool
later pieces bytes None = false
later pieces bytes (Some tried) = beyond (matches (drop tried.piece pieces)) (drop tried.byte bytes)

-- how many tries are left
abbrev pub tries : List ℕ → Option Tried → ℕ
tries bytes None = length bytes + 1
tries bytes (Some tried) = length bytes - tried.byte

-- the last try was before here
abbrev pub IsBehind : List Piece → (byte : ℕ) → Option Tried → Type 0
IsBehind pieces byte None = Unit {0}
IsBehind pieces byte (Some tried) = (tried.piece ≤ length pieces) × (tried.byte ≤ byte)

pub record At (pieces : List Piece) (bytes : List ℕ) (piece byte : ℕ) (last : Option Tried) : Type 0 where
  pub in_pieces : piece ≤ length pieces
  pub in_bytes : byte ≤ length bytes
  pub behind : IsBehind pieces byte last
  pub stands : Stands (matches pieces bytes) (matches (drop piece pieces)) (drop byte bytes) (later pieces bytes last)

abbrev pub work : List Piece → List ℕ → (piece : ℕ) → Option Tried → ℕ
work pieces bytes piece last = tries bytes last * (length pieces + 1) + (length pieces - piece)

pub at-star : (pieces : List Piece) (bytes : List ℕ) (piece byte : ℕ) (last : Option Tried) → At pieces bytes piece byte last → begin_with_star (drop piece pieces) ≡ true
    → At pieces bytes (piece + 1) byte (Some (record { piece = piece + 1; byte = byte }))
at-star pieces bytes piece byte last h is =
    let here = star_here pieces piece is in
    let lt : piece < length pieces = here.0 in
    record {
      in_pieces = omega arith;
      in_bytes = h.in_bytes;
      behind = (omega arith, omega arith);
      stands = stands-star _ _ (matches (drop (piece + 1) pieces)) _ _ h.stands (λ bs. rw add-one (here.1 bs));
    }

behind_more : (pieces : List Piece) (byte : ℕ) (last : Option Tried) → IsBehind pieces byte last → IsBehind pieces (byte + 1) last
behind_more pieces byte None h = h
behind_more pieces byte (Some tried) h = (h.0, omega (arith, h.1))

pub at-byte : (pieces : List Piece) (bytes : List ℕ) (piece byte : ℕ) (last : Option Tried) → At pieces bytes piece byte last → begin_with_star (drop piece pieces) ≡ false
    → begin_alike (drop piece pieces) (drop byte bytes) ≡ true → At pieces bytes (piece + 1) (byte + 1) last
at-byte pieces bytes piece byte last h is alike =
    let next = byte_here (drop piece pieces) bytes byte alike in
    let P : List ℕ → Type 0 = λ bs. begin_alike (drop piece pieces) bs ≡ true in
    let here = alike_here pieces piece next.1.0 (drop (suc byte) bytes) is (subst P next.1.1 alike) in
    let Q : List ℕ → Type 0 = λ bs. Stands (matches pieces bytes) (matches (drop piece pieces)) bs (later pieces bytes last) in
    let lt : piece < length pieces = here.0 in
    let lt2 : byte < length bytes = next.0 in
    record {
      in_pieces = omega arith;
      in_bytes = omega arith;
      behind = behind_more pieces byte last h.behind;
      stands = rw (add-one, add-one) (stands-byte _ _ (matches (drop (suc piece) pieces)) here.1.0 next.1.0 (drop (suc byte) bytes) _ (subst Q next.1.1 h.stands) here.1.1.0 here.1.1.1);
    }

fails_here : (pieces : List Piece) (bytes : List ℕ) (piece byte : ℕ) → (piece < length pieces) ⊎ (byte < length bytes) → begin_with_star (drop piece pieces) ≡ false
    → begin_alike (drop piece pieces) (drop byte bytes) ≡ false → matches (drop piece pieces) (drop byte bytes) ≡ false
fails_here pieces bytes piece byte some is alike = none_here _ _ is alike (λ a b. elim some [
  | inl lt ↦ omega (arith, length-drop piece pieces)
  | inr lt ↦ omega (arith, length-drop byte bytes)
])

pub at-none : (pieces : List Piece) (bytes : List ℕ) (piece byte : ℕ) → At pieces bytes piece byte None → (piece < length pieces) ⊎ (byte < length bytes)
    → begin_with_star (drop piece pieces) ≡ false → begin_alike (drop piece pieces) (drop byte bytes) ≡ false → false ≡ matches pieces bytes
at-none pieces bytes piece byte h some is alike = sym (stands-false _ _ _ _ h.stands (fails_here pieces bytes piece byte some is alike) refl)

-- the last try at the end of the bytes
pub at-last : (pieces : List Piece) (bytes : List ℕ) (piece byte : ℕ) (tried : Tried) → At pieces bytes piece byte (Some tried) → (piece < length pieces) ⊎ (byte < length bytes)
    → begin_with_star (drop piece pieces) ≡ false → begin_alike (drop piece pieces) (drop byte bytes) ≡ false → tried.byte ≡ length bytes → false ≡ matches pieces bytes
at-last pieces bytes piece byte tried h some is alike end =
    sym (stands-false _ _ _ _ h.stands (fails_here pieces bytes piece byte some is alike)
    (ap (beyond (matches (drop tried.piece pieces))) (drop_of_length-le bytes (omega arith))))

beyond-drop : (p : List ℕ → Bool) (bytes : List ℕ) (place : ℕ) → place < length bytes → beyond p (drop place bytes) ≡ some_rest p (drop (suc place) bytes)
beyond-drop p [] place lt = absurd (omega arith)
beyond-drop p (byte ∷ bytes) Prim.Native.Nat.zero lt = refl
beyond-drop p (byte ∷ bytes) (suc place) lt = beyond-drop p bytes place (omega arith)

pub at-again : (pieces : List Piece) (bytes : List ℕ) (piece byte : ℕ) (tried : Tried) → At pieces bytes piece byte (Some tried) → (piece < length pieces) ⊎ (byte < length bytes)
    → begin_with_star (drop piece pieces) ≡ false → begin_alike (drop piece pieces) (drop byte bytes) ≡ false → (tried.byte ≡ length bytes → ⊥)
    → At pieces bytes tried.piece (tried.byte + 1) (Some (record { piece = tried.piece; byte = tried.byte + 1 }))
at-again pieces bytes piece byte tried h some is alike more =
    let within = h.behind.1 in
    let lt : tried.byte < length bytes = omega (arith, h.in_bytes, within, more) in
    record {
      in_pieces = h.behind.0;
      in_bytes = omega arith;
      behind = (h.behind.0, omega arith);
      stands = rw add-one (stands-again _ _ (matches (drop tried.piece pieces)) _ (drop (suc tried.byte) bytes) _ h.stands (fails_here pieces bytes piece byte some is alike) (beyond-drop (matches (drop tried.piece pieces)) bytes tried.byte lt));
    }
