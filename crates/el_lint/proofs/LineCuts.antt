-- A text at its first newline, or at its first blank.
use Rattle.el_room.proofs.Vocabulary.{false_from_ne_true, common_steps, slice_split}
use Rattle.std.proofs.Common.{◌≡◌, ℕ, zero, suc, ◌+◌, ◌-◌, ◌<◌, Bool, true, false, List, [], ◌∷◌, ◌++◌, length, take, drop, slice_index_or, Some, None, refl, sym, ap, subst, ◌∙◌, arith, take-append-drop, drop-cons}
use Rattle.std.specs.List.{onto_first}
use Rattle.memchr.specs.Find.{IsFirstByte}
use Rattle.el_lint.specs.Allowances.{is_blank, is_newline}

module _ (test : ℕ → Bool) where
  -- no byte passes the test
  LacksAny : List ℕ → Type 0
  LacksAny [] = Unit {0}
  LacksAny (byte ∷ bytes) = (test byte ≡ false) × LacksAny bytes

  lacks-below : (bytes : List ℕ) (n : ℕ) → ((k : ℕ) → k < n → test (slice_index_or bytes k 0) ≡ true → ⊥) → LacksAny (take n bytes)
  unfolding LacksAny
  lacks-below bytes zero none = tt
  lacks-below [] (suc n) none = tt
  lacks-below (byte ∷ bytes) (suc n) none = (false_from_ne_true (test byte) (none 0 (omega arith)), lacks-below bytes n (λ k below. none (suc k) (omega arith)))

  one-piece : (bytes : List ℕ) → LacksAny bytes → slice_split test bytes ≡ bytes ∷ []
  unfolding LacksAny
  one-piece [] lacks = refl
  one-piece (byte ∷ bytes) lacks = rw lacks.0 (ap (onto_first byte) (one-piece bytes lacks.1))

  to-byte : (front : List ℕ) (byte : ℕ) (back : List ℕ) → LacksAny front → test byte ≡ true → slice_split test (front ++ byte ∷ back) ≡ front ∷ slice_split test back
  unfolding LacksAny
  to-byte [] byte back lacks passes = rw passes refl
  to-byte (first ∷ front) byte back lacks passes = rw lacks.0 (ap (onto_first first) (to-byte front byte back lacks.1 passes))

  at-byte : (text : List ℕ) (end : ℕ) → end < length text → text ≡ take end text ++ slice_index_or text end 0 ∷ drop (suc end) text
  at-byte text end within = sym (take-append-drop end text) ∙ ap (λ more. take end text ++ more) (drop-cons text end 0 within)

  pub cut-none : (text : List ℕ) → IsFirstByte test text None → slice_split test text ≡ text ∷ []
  cut-none text none =
      let all : take (length text) text ≡ text = grind (arith, common_steps) in
      one-piece text (subst LacksAny all (lacks-below text (length text) (λ k below e. none k (omega arith) below e)))

  pub cut-at : (text : List ℕ) (end : ℕ) → IsFirstByte test text (Some end) → slice_split test text ≡ take end text ∷ slice_split test (take (length text - (end + 1)) (drop (end + 1) text))
  cut-at text end found =
      let rest : take (length text - (end + 1)) (drop (end + 1) text) ≡ drop (suc end) text = grind (arith, common_steps) in
      ap (slice_split test) (at-byte text end found.0.high)
      ∙ to-byte (take end text) (slice_index_or text end 0) (drop (suc end) text) (lacks-below text end (λ k below e. found.0.before k (omega arith) below e)) found.1
      ∙ ap (λ (more : List ℕ). take end text ∷ slice_split test more) (sym rest)

pub no-newline : (text : List ℕ) → IsFirstByte is_newline text None → slice_split is_newline text ≡ text ∷ []
no-newline = cut-none is_newline

pub at-newline : (text : List ℕ) (end : ℕ) → IsFirstByte is_newline text (Some end) → slice_split is_newline text ≡ take end text ∷ slice_split is_newline (take (length text - (end + 1)) (drop (end + 1) text))
at-newline = cut-at is_newline

pub no-blank : (text : List ℕ) → IsFirstByte is_blank text None → slice_split is_blank text ≡ text ∷ []
no-blank = cut-none is_blank

pub at-blank : (text : List ℕ) (end : ℕ) → IsFirstByte is_blank text (Some end) → slice_split is_blank text ≡ take end text ∷ slice_split is_blank (take (length text - (end + 1)) (drop (end + 1) text))
at-blank = cut-at is_blank

pub ruleset cuts = (no-newline, at-newline, no-blank, at-blank)
