-- Frame names, read and written.
use Rattle.std.proofs.Common.{◌≡◌, ◌≢◌, ℕ, suc, ◌^◌, ◌<◌, Bool, true, false, cond, not, ◌||◌, ◌==◌, nat_lt, List, [], ◌∷◌, ◌++◌, length, drop, get_or, Contains, Option, None, Some, refl, sym, ap, ◌∙◌, subst, true≢false, arith, rules, if◌then◌else◌, lit<, inl, inr}
use Rattle.std.specs.Option.{option_map}
use Rattle.std.specs.Char.{is_ascii_digit}
use Rattle.std.specs.Fmt.{decimal}
use Rattle.std.proofs.lemmas.Fmt.{decimal-digits_value, decimal_digit, first_decimal, digits_decimal}
use Rattle.std.proofs.lemmas.Str.Parse.{IsNumeralModel, numerals_by_fold, digit_at}
use Rattle.std.proofs.lemmas.List.{get_or_default}
use Rattle.std.proofs.lemmas.List.Sums.{take_while-cons}
use Rattle.std.proofs.lemmas.List.Elements.{Contains-append_left, Contains-append_cases}
use Rattle.std.proofs.lemmas.Option.{same_Some}
use Rattle.el_words.proofs.Truths.{none_is_some}
use Rattle.el_words.specs.Number.{are_digits, decimal_value, number_of}
use Rattle.el_words.proofs.Numbers.{number_of-decimal, decimal-no_nul}
use Rattle.el_env.specs.Frames.{Frame, frame_at, frame_text, depth_of, with_depth, base_of, frame_of}

own : IsNumeralModel (λ ds. are_digits ds ≡ true) (decimal_value 0)
own = numerals_by_fold _ (search rules) decimal_value (search rules)

-- a depth is the number that its digits write
pub depth_of-value : (digits : List ℕ) (n : ℕ) → depth_of digits ≡ Some n → (0 < n) × (n < 2 ^ 64) × (decimal n ≡ digits)
depth_of-value [] n is = none_is_some n is
depth_of-value (d ∷ ds) n is = by (d == 48) refl (are_digits (d ∷ ds)) refl (nat_lt (decimal_value 0 (d ∷ ds)) (2 ^ 64)) refl is
  where
    positive : (m : ℕ) → d ≢ 48 → decimal m ≡ d ∷ ds → 0 < m
    positive Prim.Native.Nat.zero other writes = let zero : decimal 0 ≡ 48 ∷ [] = decimal_digit 0 (omega arith) in let same : d ≡ 48 = cc in absurd (other same)
    positive (suc m) other writes = omega arith

    by : (a : Bool) → (d == 48) ≡ a → (b : Bool) → are_digits (d ∷ ds) ≡ b → (c : Bool) → nat_lt (decimal_value 0 (d ∷ ds)) (2 ^ 64) ≡ c
        → (if a then None else (if b then (if c then Some (decimal_value 0 (d ∷ ds)) else None) else None)) ≡ Some n
        → (0 < n) × (n < 2 ^ 64) × (decimal n ≡ d ∷ ds)
    by true _ b _ c _ is = none_is_some n is
    by false _ false _ c _ is = none_is_some n is
    by false _ true _ false _ is = none_is_some n is
    by false other true digits true small is =
        let same : decimal_value 0 (d ∷ ds) ≡ n = same_Some _ _ is in
        let not_zero : d ≢ 48 = grind (arith, other) in
        let lt : decimal_value 0 (d ∷ ds) < 2 ^ 64 = grind (arith, small) in
        let writes : decimal (decimal_value 0 (d ∷ ds)) ≡ d ∷ ds =
        decimal-digits_value own (d ∷ ds) digits (omega arith) (λ zero. absurd (not_zero zero)) lt in
        let writes_n = ap decimal (sym same) ∙ writes in
        (positive n not_zero writes_n, subst (λ m. m < 2 ^ 64) same lt, writes_n)

-- and is read back
pub depth_of-decimal : (n : ℕ) → 0 < n → n < 2 ^ 64 → depth_of (decimal n) ≡ Some n
depth_of-decimal n some small = by (decimal n) (first_decimal n some small) (number_of-decimal n small)
  where
    by : (ds : List ℕ) → 48 < get_or ds 0 0 → number_of ds ≡ Some n → depth_of ds ≡ Some n
    by [] first is = absurd (omega arith)
    by (d ∷ ds) first is = let other : (d == 48) ≡ false = grind arith in ap (λ b. if b then None else number_of (d ∷ ds)) other ∙ is

-- what stands behind the base of a name
abbrev pub rest_of : List ℕ → List ℕ
rest_of name = drop (length (base_of name)) name

base_of-cons : (x : ℕ) (xs : List ℕ) → base_of (x ∷ xs) ≡ cond (not (x == 58)) (x ∷ base_of xs) []
base_of-cons x xs = take_while-cons (λ byte. not (byte == 58)) x xs

base_of-other : (x : ℕ) (xs : List ℕ) → not (x == 58) ≡ true → base_of (x ∷ xs) ≡ x ∷ base_of xs
base_of-other x xs other = base_of-cons x xs ∙ ap (λ b. cond b (x ∷ base_of xs) []) other

base_of-colon : (x : ℕ) (xs : List ℕ) → not (x == 58) ≡ false → base_of (x ∷ xs) ≡ []
base_of-colon x xs colon = base_of-cons x xs ∙ ap (λ b. cond b (x ∷ base_of xs) []) colon

-- a name is its base and the rest
pub base_then_rest : (name : List ℕ) → base_of name ++ rest_of name ≡ name
base_then_rest [] = refl
base_then_rest (x ∷ xs) = by (not (x == 58)) refl (base_then_rest xs)
  where
    by : (b : Bool) → not (x == 58) ≡ b → base_of xs ++ rest_of xs ≡ xs → base_of (x ∷ xs) ++ rest_of (x ∷ xs) ≡ x ∷ xs
    by true other rest = ap (λ base. base ++ drop (length base) (x ∷ xs)) (base_of-other x xs other) ∙ ap (λ ys. x ∷ ys) rest
    by false colon rest = ap (λ base. base ++ drop (length base) (x ∷ xs)) (base_of-colon x xs colon)

-- a base has no colon
pub base_of-base_of : (name : List ℕ) → base_of (base_of name) ≡ base_of name
base_of-base_of [] = refl
base_of-base_of (x ∷ xs) = by (not (x == 58)) refl (base_of-base_of xs)
  where
    by : (b : Bool) → not (x == 58) ≡ b → base_of (base_of xs) ≡ base_of xs → base_of (base_of (x ∷ xs)) ≡ base_of (x ∷ xs)
    by true other rest =
        ap base_of (base_of-other x xs other) ∙ base_of-other x (base_of xs) other ∙ ap (λ ys. x ∷ ys) rest ∙ sym (base_of-other x xs other)
    by false colon rest = ap base_of (base_of-colon x xs colon) ∙ sym (base_of-colon x xs colon)

-- what stands behind it begins with a colon
pub rest_of-colon : (name : List ℕ) (c : ℕ) (ds : List ℕ) → rest_of name ≡ c ∷ ds → c ≡ 58
rest_of-colon [] c ds is = let no : ⊥ = cc in absurd no
rest_of-colon (x ∷ xs) c ds is = by (not (x == 58)) refl (rest_of-colon xs c ds)
  where
    by : (b : Bool) → not (x == 58) ≡ b → (rest_of xs ≡ c ∷ ds → c ≡ 58) → c ≡ 58
    by true other rest = rest (sym (ap (λ base. drop (length base) (x ∷ xs)) (base_of-other x xs other)) ∙ is)
    by false colon rest =
        let same : x ∷ xs ≡ c ∷ ds = sym (ap (λ base. drop (length base) (x ∷ xs)) (base_of-colon x xs colon)) ∙ is in
        let x_is : x ≡ 58 = grind (arith, colon) in
        let first : x ≡ c = cc in
        sym first ∙ x_is

-- a text without a colon is the base where a colon follows it
pub base_of-then_colon : (base ds : List ℕ) → base_of base ≡ base → base_of (base ++ 58 ∷ ds) ≡ base
base_of-then_colon [] ds is = refl
base_of-then_colon (x ∷ xs) ds is = by (not (x == 58)) refl (base_of-then_colon xs ds)
  where
    by : (b : Bool) → not (x == 58) ≡ b → (base_of xs ≡ xs → base_of (xs ++ 58 ∷ ds) ≡ xs) → base_of (x ∷ xs ++ 58 ∷ ds) ≡ x ∷ xs
    by true other rest =
        let whole : x ∷ base_of xs ≡ x ∷ xs = sym (base_of-other x xs other) ∙ is in
        let tail : base_of xs ≡ xs = cc in
        base_of-other x (xs ++ 58 ∷ ds) other ∙ ap (λ ys. x ∷ ys) (rest tail)
    by false colon rest = let none : [] ≡ x ∷ xs = sym (base_of-colon x xs colon) ∙ is in let no : ⊥ = cc in absurd no

drop-front : (front back : List ℕ) → drop (length front) (front ++ back) ≡ back
drop-front [] back = refl
drop-front (x ∷ xs) back = drop-front xs back

abbrev is_first : ℕ → Bool
is_first byte = (byte == 35) || is_ascii_digit byte

first_is_no_colon : (x : ℕ) → is_first x ≡ true → not (x == 58) ≡ true
first_is_no_colon x first = by (x == 58) refl
  where
    by : (b : Bool) → (x == 58) ≡ b → not b ≡ true
    by true colon = let same : x ≡ 58 = grind (arith, colon) in absurd (true≢false (sym first ∙ ap is_first same))
    by false other = refl

-- what it is to be a frame name with this first byte
frame_of-first : (x : ℕ) (xs : List ℕ) → is_first x ≡ true → frame_of (x ∷ xs) ≡ with_depth (base_of (x ∷ xs)) (rest_of (x ∷ xs))
frame_of-first x xs first = ap (λ b. if b then with_depth (base_of (x ∷ xs)) (rest_of (x ∷ xs)) else None) first

-- the base of a frame name is a frame name itself, at depth 0
frame_of-base_of : (x : ℕ) (xs : List ℕ) → is_first x ≡ true → frame_of (base_of (x ∷ xs)) ≡ Some (frame_at (base_of (x ∷ xs)) 0)
frame_of-base_of x xs first =
    let is : base_of (x ∷ xs) ≡ x ∷ base_of xs = base_of-other x xs (first_is_no_colon x first) in
    let whole : base_of (x ∷ base_of xs) ≡ x ∷ base_of xs = sym (ap base_of is) ∙ base_of-base_of (x ∷ xs) ∙ is in
    let none : rest_of (x ∷ base_of xs) ≡ [] = ap (λ base. drop (length base) (x ∷ base_of xs)) whole ∙ drop_all (base_of xs) in
    ap frame_of is ∙ frame_of-first x (base_of xs) first
    ∙ (λ i. with_depth (whole i) (none i)) ∙ ap (λ base. Some (frame_at base 0)) (sym is)
  where
    drop_all : (ys : List ℕ) → drop (length ys) ys ≡ []
    drop_all [] = refl
    drop_all (y ∷ ys) = drop_all ys

-- what a name is that is read as a frame
pub record IsFrame (name : List ℕ) (frame : Frame) : Type 0 where
  pub text : frame_text frame ≡ name
  pub base : frame_of frame.base ≡ Some (frame_at frame.base 0)
  pub small : frame.depth < 2 ^ 64

pub frame_of-read : (name : List ℕ) (frame : Frame) → frame_of name ≡ Some frame → IsFrame name frame
frame_of-read [] frame is = none_is_some frame is
frame_of-read (x ∷ xs) frame is = by (is_first x) refl (rest_of (x ∷ xs)) refl is
  where
    behind : (n : Option ℕ) (ds : List ℕ) → depth_of ds ≡ n → is_first x ≡ true → rest_of (x ∷ xs) ≡ 58 ∷ ds
        → option_map (λ m. frame_at (base_of (x ∷ xs)) m) n ≡ Some frame → IsFrame (x ∷ xs) frame
    behind None ds depth first rest is = none_is_some frame is
    behind (Some Prim.Native.Nat.zero) ds depth first rest is = absurd (omega (arith, (depth_of-value ds 0 depth).0))
    behind (Some (suc n)) ds depth first rest is =
        let value = depth_of-value ds (suc n) depth in
        subst (IsFrame (x ∷ xs)) (same_Some _ _ is) (record {
          text = ap (λ digits. base_of (x ∷ xs) ++ 58 ∷ digits) value.2 ∙ ap (λ r. base_of (x ∷ xs) ++ r) (sym rest) ∙ base_then_rest (x ∷ xs);
          base = frame_of-base_of x xs first;
          small = value.1;
        })

    by : (b : Bool) → is_first x ≡ b → (rest : List ℕ) → rest_of (x ∷ xs) ≡ rest → (if b then with_depth (base_of (x ∷ xs)) rest else None) ≡ Some frame → IsFrame (x ∷ xs) frame
    by false _ rest _ is = none_is_some frame is
    by true first [] rest is =
        subst (IsFrame (x ∷ xs)) (same_Some _ _ is) (record {
          text = sym (no_more (base_of (x ∷ xs))) ∙ ap (λ r. base_of (x ∷ xs) ++ r) (sym rest) ∙ base_then_rest (x ∷ xs);
          base = frame_of-base_of x xs first;
          small = lit< tt;
        })
      where
        no_more : (ys : List ℕ) → ys ++ [] ≡ ys
        no_more [] = refl
        no_more (y ∷ ys) = ap (λ zs. y ∷ zs) (no_more ys)
    by true first (c ∷ ds) rest is =
        behind (depth_of ds) ds refl first (rest ∙ ap (λ b. b ∷ ds) (rest_of-colon (x ∷ xs) c ds rest)) is

-- a base is all of itself
base_is_whole : (base : List ℕ) → frame_of base ≡ Some (frame_at base 0) → base_of base ≡ base
base_is_whole [] is = refl
base_is_whole (x ∷ xs) is = by (is_first x) refl (rest_of (x ∷ xs)) refl is
  where
    by : (b : Bool) → is_first x ≡ b → (rest : List ℕ) → rest_of (x ∷ xs) ≡ rest
        → (if b then with_depth (base_of (x ∷ xs)) rest else None) ≡ Some (frame_at (x ∷ xs) 0) → base_of (x ∷ xs) ≡ x ∷ xs
    by false _ rest _ is = none_is_some _ is
    by true _ [] _ is = ap (λ (f : Frame). f.base) (same_Some _ _ is)
    by true _ (c ∷ ds) _ is = behind (depth_of ds) is
      where
        behind : (n : Option ℕ) → option_map (λ m. frame_at (base_of (x ∷ xs)) m) n ≡ Some (frame_at (x ∷ xs) 0) → base_of (x ∷ xs) ≡ x ∷ xs
        behind None is = none_is_some _ is
        behind (Some n) is = ap (λ (f : Frame). f.base) (same_Some _ _ is)

-- a frame that is written is read back
pub frame_of-written : (base : List ℕ) (n : ℕ) → frame_of base ≡ Some (frame_at base 0) → n < 2 ^ 64 → frame_of (frame_text (frame_at base n)) ≡ Some (frame_at base n)
frame_of-written base Prim.Native.Nat.zero is small = is
frame_of-written [] (suc n) is small = none_is_some _ is
frame_of-written (x ∷ xs) (suc n) is small =
    let base_is = base_of-then_colon (x ∷ xs) (decimal (suc n)) (base_is_whole (x ∷ xs) is) in
    let rest_is : rest_of (x ∷ xs ++ 58 ∷ decimal (suc n)) ≡ 58 ∷ decimal (suc n) =
    ap (λ base. drop (length base) (x ∷ xs ++ 58 ∷ decimal (suc n))) base_is ∙ drop-front (x ∷ xs) (58 ∷ decimal (suc n)) in
    frame_of-first x (xs ++ 58 ∷ decimal (suc n)) (begins (is_first x) refl is)
    ∙ (λ i. with_depth (base_is i) (rest_is i))
    ∙ ap (λ depth. option_map (λ m. frame_at (x ∷ xs) m) depth) (depth_of-decimal (suc n) (omega arith) small)
  where
    begins : (b : Bool) → is_first x ≡ b → (if b then with_depth (base_of (x ∷ xs)) (rest_of (x ∷ xs)) else None) ≡ Some (frame_at (x ∷ xs) 0) → is_first x ≡ true
    begins true first is = first
    begins false _ is = none_is_some _ is

-- a byte that stands in no depth, nor before one
pub record IsForeign (byte : ℕ) : Type 0 where
  pub no_colon : byte ≢ 58
  pub no_digit : (n : ℕ) → n < 2 ^ 64 → Contains (decimal n) byte → ⊥

pub IsForeign-nul : IsForeign 0
IsForeign-nul = record { no_colon = λ e. omega (arith, e); no_digit = decimal-no_nul }

pub IsForeign-equals : IsForeign 61
IsForeign-equals = record {
  no_colon = λ e. omega (arith, e);
  no_digit = λ n small holds. let digit = digit_at (decimal n) holds.0 (own.to (decimal n) (digits_decimal own n small)) holds.1 in
      omega (arith, digit, get_or_default (decimal n) holds.0 0 61 holds.1, holds.2);
}

-- a frame name holds such a byte just where its base does
pub Contains-frame_text : (byte : ℕ) → IsForeign byte → (base : List ℕ) (n : ℕ) → n < 2 ^ 64 → Contains (frame_text (frame_at base n)) byte → Contains base byte
Contains-frame_text byte foreign base Prim.Native.Nat.zero small holds = holds
Contains-frame_text byte foreign base (suc n) small holds =
    elim (Contains-append_cases base (58 ∷ decimal (suc n)) byte holds) [
      | inl in_base ↦ in_base
      | inr behind ↦ absurd (not_behind behind)
    ]
  where
    not_behind : Contains (58 ∷ decimal (suc n)) byte → ⊥
    not_behind (Prim.Native.Nat.zero, below, is) = foreign.no_colon (sym is)
    not_behind (suc k, below, is) = foreign.no_digit (suc n) small (k, omega arith, is)

pub Contains-base : (byte : ℕ) (base : List ℕ) (n : ℕ) → Contains base byte → Contains (frame_text (frame_at base n)) byte
Contains-base byte base Prim.Native.Nat.zero holds = holds
Contains-base byte base (suc n) holds = Contains-append_left base (58 ∷ decimal (suc n)) byte holds
