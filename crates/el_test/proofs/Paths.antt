-- A path as the system reads it.
use Rattle.std.proofs.Common.{◌≡◌, ℕ, suc, ◌+◌, ◌-◌, ◌<◌, drop, replicate, ◌==◌, ◌||◌, Bool, true, false, true≢false, List, [], ◌∷◌, ◌++◌, length, take, refl, sym, ap, ◌∙◌, arith, if◌then◌else◌}
use Rattle.std.specs.List.{position_or_len}
use Rattle.std.proofs.lemmas.Bool.{eqb-true}
use Rattle.std.proofs.lemmas.List.{drop-replicate}
use Rattle.std.proofs.lemmas.Grind.{common_steps}
use Rattle.libc.specs.Io.{Ended}
use Rattle.el_words.specs.Word.{HasNul}
use Rattle.el_test.specs.System.{text_in}

abbrev is_nul : ℕ → Bool
is_nul byte = byte == 0

one_more : (n : ℕ) → 1 + n ≡ suc n
one_more n = omega arith

nul_first : (byte : ℕ) (path : List ℕ) → (byte == 0) ≡ true → HasNul (byte ∷ path)
nul_first byte path is = let zero : byte ≡ 0 = eqb-true byte 0 is in (0, omega arith, zero)

nul_later : (byte : ℕ) (path : List ℕ) → HasNul path → HasNul (byte ∷ path)
nul_later byte path has = (suc has.0, omega (arith, has.1), has.2)

-- the first NUL stands behind the path
behind_path : (path rest : List ℕ) → (HasNul path → ⊥) → position_or_len is_nul (path ++ 0 ∷ rest) ≡ length path
behind_path [] rest none = refl
behind_path (byte ∷ path) rest none = by (byte == 0) refl (behind_path path rest (λ has. none (nul_later byte path has)))
  where
    by : (is : Bool) → (byte == 0) ≡ is → position_or_len is_nul (path ++ 0 ∷ rest) ≡ length path → position_or_len is_nul (byte ∷ path ++ 0 ∷ rest) ≡ suc (length path)
    by true is rest = absurd (none (nul_first byte path is))
    by false is rest = rw is (ap (λ n. 1 + n) rest ∙ one_more (length path))

before : (path rest : List ℕ) → take (length path) (path ++ rest) ≡ path
before [] rest = refl
before (byte ∷ path) rest = ap (λ bytes. byte ∷ bytes) (before path rest)

-- a path without NUL is what is read of it with a NUL behind
pub path_read : (path rest : List ℕ) → (HasNul path → ⊥) → text_in (path ++ 0 ∷ rest) ≡ path
path_read path rest none = ap (λ n. take n (path ++ 0 ∷ rest)) (behind_path path rest none) ∙ before path (0 ∷ rest)

abbrev pub zeros : List ℕ
zeros = replicate 4096 0

zeros_behind : (n : ℕ) → n < 4096 → drop n zeros ≡ 0 ∷ replicate (4095 - n) 0
zeros_behind n less = drop-replicate n 4096 0 ∙ ap (λ k. replicate k 0) (let more : 4096 - n ≡ suc (4095 - n) = omega (arith, less) in more)

-- and so with NULs up to the end of an array
pub path_in_array : (path : List ℕ) → length path < 4096 → (HasNul path → ⊥) → text_in (path ++ drop (length path) zeros) ≡ path
path_in_array path less none = ap (λ rest. text_in (path ++ rest)) (zeros_behind (length path) less) ∙ path_read path (replicate (4095 - length path) 0) none

-- whose last byte is one
pub array_ends : (path : List ℕ) → length path < 4096 → Ended (path ++ drop (length path) zeros)
array_ends path less = rw (drop-replicate {X = ℕ} (length path) 4096 0) (grind (arith, common_steps, less))
