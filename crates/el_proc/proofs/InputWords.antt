-- Words of inputs.
use Rattle.std.proofs.Common.{◌≡◌, ℕ, suc, ◌+◌, ◌-◌, Bool, true, false, ◌==◌, true≢false, List, [], ◌∷◌, None, Some, length, take, drop, refl, sym, ap, ◌∙◌, arith}
use Rattle.std.specs.List.{position_or_len}
use Rattle.std.specs.Prelude.{◌&&◌, if◌then◌else◌}
use Rattle.std.specs.Cmp.Lexicographic.{pointwise}
use Rattle.std.proofs.lemmas.List.{take_all}
use Rattle.std.proofs.lemmas.List.Sums.{position_or_len_is}
use Rattle.std.proofs.lemmas.Bool.{false_from_ne_true}
use Rattle.memchr.specs.Find.{IsFirstByte, is_byte}
use Rattle.el_proc.specs.Inputs.{is_nul, before_nul, without_newline}

-- the first NUL that is found
pub before_nul-some : (bytes : List ℕ) (place : ℕ) → IsFirstByte (is_byte 0) bytes (Some place) → take place bytes ≡ before_nul bytes
before_nul-some bytes place found =
    ap (λ n. take n bytes)
    (sym (position_or_len_is is_nul bytes place 0 (omega (arith, found.0.high)) (λ k less. false_from_ne_true _ (found.0.before k (omega arith) less)) (λ _. found.1)))

pub before_nul-none : (bytes : List ℕ) → IsFirstByte (is_byte 0) bytes None → bytes ≡ before_nul bytes
before_nul-none bytes none =
    let all : position_or_len is_nul bytes ≡ length bytes = position_or_len_is is_nul bytes (length bytes) 0 (omega arith) (λ k less. false_from_ne_true _ (none k (omega arith) less))
    (λ less. let never : ⊥ = omega (arith, less) in absurd never) in
    sym (ap (λ n. take n bytes) all ∙ take_all (length bytes) bytes (omega arith))

-- ---- a newline at the end

-- the bytes end with a newline, behind so many
abbrev EndsWithNewline : List ℕ → (last : ℕ) → Bool
EndsWithNewline bytes last = pointwise (λ byte other. byte == other) (drop last bytes) (10 ∷ [])

cut_if : (byte : ℕ) → ((byte == 10) && true) ≡ true → [] ≡ (if byte == 10 then [] else byte ∷ [])
cut_if byte = by (byte == 10)
  where
    by : (b : Bool) → (b && true) ≡ true → [] ≡ (if b then [] else byte ∷ [])
    by true is = refl
    by false is = absurd (true≢false (sym is))

kept_if : (byte : ℕ) → ((byte == 10) && true) ≡ false → byte ∷ [] ≡ (if byte == 10 then [] else byte ∷ [])
kept_if byte = by (byte == 10)
  where
    by : (b : Bool) → (b && true) ≡ false → byte ∷ [] ≡ (if b then [] else byte ∷ [])
    by true is = absurd (true≢false is)
    by false is = refl

pub newline_cut : (bytes : List ℕ) (last : ℕ) → length bytes ≡ last + 1 → EndsWithNewline bytes last ≡ true → take last bytes ≡ without_newline bytes
newline_cut [] last is h = absurd (omega arith)
newline_cut (byte ∷ []) Prim.Native.Nat.zero is h = cut_if byte h
newline_cut (byte ∷ []) (suc last) is h = absurd (omega arith)
newline_cut (byte ∷ next ∷ bytes) Prim.Native.Nat.zero is h = absurd (omega arith)
newline_cut (byte ∷ next ∷ bytes) (suc last) is h = ap (λ rest. byte ∷ rest) (newline_cut (next ∷ bytes) last (omega arith) h)

newline_missing : (bytes : List ℕ) (last : ℕ) → length bytes ≡ last + 1 → EndsWithNewline bytes last ≡ false → bytes ≡ without_newline bytes
newline_missing [] last is h = absurd (omega arith)
newline_missing (byte ∷ []) Prim.Native.Nat.zero is h = kept_if byte h
newline_missing (byte ∷ []) (suc last) is h = absurd (omega arith)
newline_missing (byte ∷ next ∷ bytes) Prim.Native.Nat.zero is h = absurd (omega arith)
newline_missing (byte ∷ next ∷ bytes) (suc last) is h = ap (λ rest. byte ∷ rest) (newline_missing (next ∷ bytes) last (omega arith) h)

pub newline_kept : (bytes : List ℕ) → EndsWithNewline bytes (length bytes - 1) ≡ false → bytes ≡ without_newline bytes
newline_kept [] h = refl
newline_kept (byte ∷ bytes) h = newline_missing (byte ∷ bytes) (length (byte ∷ bytes) - 1) (omega arith) h
