-- Crunching and chomping byte by byte.
use Rattle.std.proofs.Common.{◌≡◌, ℕ, zero, suc, ◌≤◌, drop, Contains, ◌&&◌, not, Bool, true, false, cond, if◌then◌else◌, List, [], ◌∷◌, ◌++◌, Option, None, Some, map, length, take, refl, sym, ap, ◌∙◌, subst, arith}
use Rattle.std.specs.List.{zip, filter, slice_get}
use Rattle.std.specs.Option.{option_map_or}
use Rattle.std.proofs.lemmas.List.{append-nil, drop_all}
use Rattle.el_words.specs.Word.{HasNul}
use Rattle.el_transform.specs.Crunching.{Delimiters, is_delimiter, is_repeated, crunched, chomped}
use Rattle.el_transform.specs.Computed.{crunched_after, chomped_by}

abbrev is_after : Delimiters → Option ℕ → Bool
is_after delims before = option_map_or (is_delimiter delims) before false

-- the bytes that stay behind another one, or at the beginning
abbrev kept_behind : Delimiters → Option ℕ → List ℕ → List ℕ
kept_behind delims before bytes = map (λ p. p.1) (filter (λ p. not (is_repeated delims p)) (zip (before ∷ map Some bytes) bytes))

first_kept : (after delimits : Bool) (before : Option ℕ) (byte : ℕ) (rest : List (Option ℕ × ℕ)) (f : Bool → List ℕ) → map (λ p. p.1) rest ≡ f delimits
    → map (λ p. p.1) (cond (not (after && delimits)) ((before, byte) ∷ rest) rest) ≡ (if after && delimits then f true else byte ∷ f delimits)
first_kept true true before byte rest f same = same
first_kept true false before byte rest f same = ap (λ bytes. byte ∷ bytes) same
first_kept false true before byte rest f same = ap (λ bytes. byte ∷ bytes) same
first_kept false false before byte rest f same = ap (λ bytes. byte ∷ bytes) same

kept_behind-is : (delims : Delimiters) (before : Option ℕ) (bytes : List ℕ) → kept_behind delims before bytes ≡ crunched_after (is_delimiter delims) (is_after delims before) bytes
kept_behind-is delims before [] = refl
kept_behind-is delims before (byte ∷ bytes) =
    first_kept (is_after delims before) (is_delimiter delims byte) before byte _ (λ after. crunched_after (is_delimiter delims) after bytes) (kept_behind-is delims (Some byte) bytes)

pub crunched-is : (delims : Delimiters) (bytes : List ℕ) → crunched delims bytes ≡ crunched_after (is_delimiter delims) false bytes
crunched-is delims bytes = kept_behind-is delims None bytes

cons_either : (b : Bool) (byte : ℕ) (xs ys : List ℕ) → (if b then byte ∷ xs else byte ∷ ys) ≡ byte ∷ (if b then xs else ys)
cons_either true byte xs ys = refl
cons_either false byte xs ys = refl

-- chomping at a place, which is that of the last byte
abbrev chomped_at : (ℕ → Bool) → ℕ → List ℕ → List ℕ
chomped_at test place bytes = if option_map_or test (slice_get bytes place) false then take place bytes else bytes

chomped_at-is : (test : ℕ → Bool) (place byte : ℕ) (bytes : List ℕ) → place ≡ length bytes → chomped_at test place (byte ∷ bytes) ≡ chomped_by test (byte ∷ bytes)
chomped_at-is test place byte [] last = ap (λ p. chomped_at test p (byte ∷ [])) last
chomped_at-is test place byte (next ∷ bytes) last =
    ap (λ p. chomped_at test p (byte ∷ next ∷ bytes)) last
    ∙ cons_either _ byte _ _
    ∙ ap (λ rest. byte ∷ rest) (chomped_at-is test (length bytes) next bytes refl)

pub chomped-is : (delims : Delimiters) (bytes : List ℕ) → chomped delims bytes ≡ chomped_by (is_delimiter delims) bytes
chomped-is delims [] = refl
chomped-is delims (byte ∷ bytes) = chomped_at-is (is_delimiter delims) _ byte bytes (omega arith)

-- what a loop keeps is all that is kept, once nothing is left
pub kept-whole : (delims : Delimiters) (bytes : List ℕ) (before : Bool) (kept : List ℕ) (after : Bool) (place : ℕ) → length bytes ≤ place
    → crunched_after (is_delimiter delims) before bytes ≡ kept ++ crunched_after (is_delimiter delims) after (drop place bytes) → kept ≡ crunched_after (is_delimiter delims) before bytes
kept-whole delims bytes before kept after place end so_far =
    sym (append-nil kept)
    ∙ ap (λ rest. kept ++ crunched_after (is_delimiter delims) after rest) (sym (drop_all place bytes end))
    ∙ sym so_far

-- what is crunched holds no byte that the value doesn't hold
Contains-crunched_after : (test : ℕ → Bool) (after : Bool) (bytes : List ℕ) (x : ℕ) → Contains (crunched_after test after bytes) x → Contains bytes x
Contains-crunched_after test after [] x has = has
Contains-crunched_after test after (byte ∷ bytes) x has =
    by (after && test byte) (Contains-crunched_after test true bytes x) (Contains-crunched_after test (test byte) bytes x) has
  where
    later : Contains bytes x → Contains (byte ∷ bytes) x
    later (place, within, is) = (suc place, omega arith, is)

    by : (b : Bool) → (Contains (crunched_after test true bytes) x → Contains bytes x) → (Contains (crunched_after test (test byte) bytes) x → Contains bytes x)
        → Contains (if b then crunched_after test true bytes else byte ∷ crunched_after test (test byte) bytes) x → Contains (byte ∷ bytes) x
    by true passed kept has = later (passed has)
    by false passed kept (zero, within, is) = (zero, omega arith, is)
    by false passed kept (suc place, within, is) = later (kept (place, omega arith, is))

pub crunched_after-no_nul : (delims : Delimiters) (after : Bool) (bytes : List ℕ) → (HasNul bytes → ⊥) → HasNul (crunched_after (is_delimiter delims) after bytes) → ⊥
crunched_after-no_nul delims after bytes none nul = none (Contains-crunched_after (is_delimiter delims) after bytes 0 nul)

pub crunched-no_nul : (delims : Delimiters) (bytes : List ℕ) → (HasNul bytes → ⊥) → HasNul (crunched delims bytes) → ⊥
crunched-no_nul delims bytes none nul = none (Contains-crunched_after (is_delimiter delims) false bytes 0 (subst HasNul (crunched-is delims bytes) nul))
