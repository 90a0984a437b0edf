-- The digits of number escapes.
use Rattle.std.proofs.Common.{◌≡◌, ℕ, ◌+◌, ◌*◌, ◌^◌, ◌<◌, ◌≤◌, Bool, true, false, List, [], ◌∷◌, refl, sym, ap, ◌∙◌, length, suc, arith, zero, true≢false, if◌then◌else◌}
use Rattle.std.specs.Prelude.{◌&&◌, ◌==◌}
use Rattle.std.specs.List.{list_all}
use Rattle.std.proofs.lemmas.Nat.{mul-le}
use Rattle.el_lex.specs.declared.base.Base.{Base}
use Rattle.el_lex.specs.declared.base.Base.TheVariants.{Octal as OctalBase, Decimal as DecimalBase, Hexadecimal as HexadecimalBase}
use Rattle.el_lex.specs.Bytes.{is_digit, is_octal_digit, is_hexadecimal_digit}
use Rattle.el_lex.specs.Reading.{newlines_in}
use Rattle.el_lex.specs.Scan.{run}
use Rattle.el_lex.specs.Base.{radix, digits_in}

-- ---- runs

pub run-passes : (test : ℕ → Bool) (most : ℕ) (bytes : List ℕ) → list_all test (run test most bytes) ≡ true
run-passes test Prim.Native.Nat.zero bytes = refl
run-passes test (suc most) [] = refl
run-passes test (suc most) (byte ∷ bytes) = by (test byte) refl (run-passes test most bytes)
  where
    by : (b : Bool) → test byte ≡ b → list_all test (run test most bytes) ≡ true → list_all test (if b then byte ∷ run test most bytes else []) ≡ true
    by true is later = rw is later
    by false is later = refl

pub run-within : (test : ℕ → Bool) (most : ℕ) (bytes : List ℕ) → length (run test most bytes) ≤ most
run-within test Prim.Native.Nat.zero bytes = omega arith
run-within test (suc most) [] = omega arith
run-within test (suc most) (byte ∷ bytes) = by (test byte) (run-within test most bytes)
  where
    by : (b : Bool) → length (run test most bytes) ≤ most → length (if b then byte ∷ run test most bytes else []) ≤ suc most
    by true later = omega (arith, later)
    by false later = omega arith

-- bytes that pass a test which newlines fail hold no newline
pub no_newlines : (test : ℕ → Bool) (bytes : List ℕ) → test 10 ≡ false → list_all test bytes ≡ true → newlines_in bytes ≡ 0
no_newlines test [] fails all = refl
no_newlines test (byte ∷ bytes) fails all = by (no_newlines test bytes fails) (test byte) refl (byte == 10) refl all
  where
    by : (list_all test bytes ≡ true → newlines_in bytes ≡ 0) → (b : Bool) → test byte ≡ b → (same : Bool) → (byte == 10) ≡ same → (b && list_all test bytes) ≡ true → newlines_in (byte ∷ bytes) ≡ 0
    by later true is true same all = let is_newline : byte ≡ 10 = grind (arith, same) in absurd (true≢false (sym is ∙ ap test is_newline ∙ fails))
    by later true is false same all = rw same (omega (arith, later all))
    by later false is same other all = let no : ⊥ = cc in absurd no

pub list_all-weaken : (strong weak : ℕ → Bool) (bytes : List ℕ) → ((byte : ℕ) → strong byte ≡ true → weak byte ≡ true) → list_all strong bytes ≡ true → list_all weak bytes ≡ true
list_all-weaken strong weak [] implies all = refl
list_all-weaken strong weak (byte ∷ bytes) implies all = by (list_all-weaken strong weak bytes implies) (strong byte) refl all
  where
    by : (list_all strong bytes ≡ true → list_all weak bytes ≡ true) → (b : Bool) → strong byte ≡ b → (b && list_all strong bytes) ≡ true → list_all weak (byte ∷ bytes) ≡ true
    by later true is all = rw (implies byte is) (later all)
    by later false is all = let no : ⊥ = cc in absurd no

-- ---- digits

octal_is_hexadecimal : (byte : ℕ) → is_octal_digit byte ≡ true → is_hexadecimal_digit byte ≡ true
octal_is_hexadecimal byte is = grind arith

decimal_is_hexadecimal : (byte : ℕ) → is_digit byte ≡ true → is_hexadecimal_digit byte ≡ true
decimal_is_hexadecimal byte is = grind arith

pub digits-hexadecimal : (base : Base) (bytes : List ℕ) → list_all is_hexadecimal_digit (digits_in base bytes) ≡ true
digits-hexadecimal OctalBase bytes = list_all-weaken is_octal_digit is_hexadecimal_digit (run is_octal_digit 3 bytes) octal_is_hexadecimal (run-passes is_octal_digit 3 bytes)
digits-hexadecimal DecimalBase bytes = list_all-weaken is_digit is_hexadecimal_digit (run is_digit 3 bytes) decimal_is_hexadecimal (run-passes is_digit 3 bytes)
digits-hexadecimal HexadecimalBase bytes = run-passes is_hexadecimal_digit 2 bytes

pub digits-no_newline : (base : Base) (bytes : List ℕ) → newlines_in (digits_in base bytes) ≡ 0
digits-no_newline base bytes = no_newlines is_hexadecimal_digit (digits_in base bytes) refl (digits-hexadecimal base bytes)

-- ---- the number of few digits

pub one_digit_more : (number radix digit place : ℕ) → number < 16 ^ place → radix ≤ 16 → digit < 16 → place < 3 → number * radix + digit < 16 ^ (place + 1)
one_digit_more number radix digit Prim.Native.Nat.zero small within value lt = let most = mul-le number radix number 16 (omega arith) within in omega (arith, most, small)
one_digit_more number radix digit (suc Prim.Native.Nat.zero) small within value lt = let most = mul-le number radix number 16 (omega arith) within in omega (arith, most, small)
one_digit_more number radix digit (suc (suc Prim.Native.Nat.zero)) small within value lt = let most = mul-le number radix number 16 (omega arith) within in omega (arith, most, small)
one_digit_more number radix digit (suc (suc (suc place))) small within value lt = absurd (omega (arith, lt))

pub at_most_three : (place : ℕ) → place ≤ 3 → 16 ^ place ≤ 4096
at_most_three Prim.Native.Nat.zero le = omega arith
at_most_three (suc Prim.Native.Nat.zero) le = omega arith
at_most_three (suc (suc Prim.Native.Nat.zero)) le = omega arith
at_most_three (suc (suc (suc Prim.Native.Nat.zero))) le = omega arith
at_most_three (suc (suc (suc (suc place)))) le = absurd (omega (arith, le))
