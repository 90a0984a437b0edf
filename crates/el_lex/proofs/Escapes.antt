-- Escapes in quotes, by the bytes behind the backslash.
use Rattle.std.proofs.Common.{◌≡◌, ◌≢◌, ℕ, ◌-◌, ◌≤◌, Bool, true, false, List, [], ◌∷◌, Some, None, Result, Ok, Err, refl, sym, ap, ◌∙◌, length, take, drop, suc, arith, nat_eq, IfOk, OnOk, not}
use Rattle.std.specs.Option.{option_eq}
use Rattle.el_lex.specs.declared.fault.LexFault.{LexFault}
use Rattle.std.specs.Prelude.{slice_get, ◌==◌}
use Rattle.std.proofs.lemmas.Bool.{not-true}
use Rattle.el_lex.specs.declared.base.Base.TheVariants.{Octal as OctalBase, Decimal as DecimalBase, Hexadecimal as HexadecimalBase}
use Rattle.el_lex.specs.declared.fault.LexKind.{LexKind}
use Rattle.el_lex.specs.declared.fault.LexKind.TheVariants.{Nul, EndAfterBackslash}
use Rattle.el_lex.specs.Bytes.{begins_with, is_digit, is_hexadecimal_digit}
use Rattle.el_lex.specs.Pieces.{Inner, Named, inner_text, named, escape_number}
use Rattle.el_lex.specs.Scan.{checked, zero_escape, hexadecimal_escape, escape, line_after}
use Rattle.el_lex.specs.Base.{digits_in, number_escape}
use Rattle.el_lex.specs.Escapes.{EscapeRead}
use Rattle.el_lex.proofs.Scans.{take-next}
use Rattle.el_lex.proofs.Digits.{digits-no_newline}

pub begins : (test : ℕ → Bool) (rest : List ℕ) (byte : ℕ) → slice_get rest 0 ≡ Some byte → begins_with test rest ≡ test byte
begins test [] byte next = let no : ⊥ = cc in absurd no
begins test (other ∷ rest) byte next = let same : other ≡ byte = cc in ap test same

-- the test by which the code looks for a byte
pub begins-other : (rest : List ℕ) (byte : ℕ) → not (option_eq nat_eq (slice_get rest 0) (Some byte)) ≡ true → begins_with (λ other. other == byte) rest ≡ false
begins-other [] byte other = refl
begins-other (first ∷ rest) byte other = not-true (first == byte) other

pub begins-same : (rest : List ℕ) (byte : ℕ) → not (option_eq nat_eq (slice_get rest 0) (Some byte)) ≡ false → slice_get rest 0 ≡ Some byte
begins-same [] byte same = let no : ⊥ = cc in absurd no
begins-same (first ∷ rest) byte same = by (first == byte) refl same
  where
    by : (b : Bool) → (first == byte) ≡ b → not b ≡ false → Some first ≡ Some byte
    by true is same = ap Some (grind (arith, is))
    by false is same = let no : ⊥ = cc in absurd no

drop-one_more : (n : ℕ) (bytes : List ℕ) → drop (suc n) bytes ≡ drop n (drop 1 bytes)
drop-one_more Prim.Native.Nat.zero [] = refl
drop-one_more (suc n) [] = refl
drop-one_more n (byte ∷ bytes) = refl

-- ---- which escape stands behind the backslash

pub escape-end : (rest : List ℕ) → slice_get rest 0 ≡ None → escape rest ≡ Err EndAfterBackslash
unfolding escape
escape-end [] end = refl
escape-end (byte ∷ rest) end = let no : ⊥ = cc in absurd no

pub escape-nul : (rest : List ℕ) → slice_get rest 0 ≡ Some 0 → escape rest ≡ Err Nul
unfolding escape
escape-nul [] next = let no : ⊥ = cc in absurd no
escape-nul (byte ∷ rest) next = let same : byte ≡ 0 = cc in rw same refl

pub escape-zero : (rest : List ℕ) → slice_get rest 0 ≡ Some 48 → escape rest ≡ zero_escape (drop 1 rest)
unfolding escape
escape-zero [] next = let no : ⊥ = cc in absurd no
escape-zero (byte ∷ rest) next = let same : byte ≡ 48 = cc in rw same refl

pub escape-decimal : (rest : List ℕ) (byte : ℕ) → slice_get rest 0 ≡ Some byte → 49 ≤ byte → byte ≤ 57 → escape rest ≡ checked (number_escape DecimalBase rest)
unfolding escape
escape-decimal [] byte next low high = let no : ⊥ = cc in absurd no
escape-decimal (other ∷ rest) byte next low high =
    let same : other ≡ byte = cc in
    let nul : (other == 0) ≡ false = grind arith in
    let zero : (other == 48) ≡ false = grind arith in
    let digit : is_digit other ≡ true = grind arith in
    rw (nul, zero, digit) refl

pub escape-named : (rest : List ℕ) (byte : ℕ) → slice_get rest 0 ≡ Some byte → byte ≢ 0 → is_digit byte ≡ false → escape rest ≡ Ok (Named byte)
unfolding escape
escape-named [] byte next some other = let no : ⊥ = cc in absurd no
escape-named (first ∷ rest) byte next some other =
    let same : first ≡ byte = cc in
    let nul : (first == 0) ≡ false = grind arith in
    let zero : (first == 48) ≡ false = grind arith in
    let no_digit : is_digit first ≡ false = ap is_digit same ∙ other in
    rw (nul, zero, no_digit) (ap (λ b. Ok (Named b)) same)

pub zero-octal : (rest : List ℕ) → begins_with (λ byte. byte == 120) rest ≡ false → zero_escape rest ≡ checked (number_escape OctalBase rest)
zero-octal rest other = rw other refl

pub zero-hexadecimal : (rest after : List ℕ) → slice_get rest 0 ≡ Some 120 → after ≡ drop 1 rest → zero_escape rest ≡ hexadecimal_escape after
zero-hexadecimal rest after next is_after = let is : begins_with (λ byte. byte == 120) rest ≡ true = begins (λ byte. byte == 120) rest 120 next in rw (is, is_after) refl

pub hexadecimal-number : (rest : List ℕ) → begins_with is_hexadecimal_digit rest ≡ true → hexadecimal_escape rest ≡ checked (number_escape HexadecimalBase rest)
hexadecimal-number rest is = rw is refl

-- ---- what was read

pub read_along : (here there : Result Inner LexKind) (meant old new : List ℕ) (line below : ℕ) → here ≡ there → EscapeRead there meant old new line below → EscapeRead here meant old new line below
read_along here there meant old new line below same read = record {
  inner = read.inner;
  is_answer = same ∙ read.is_answer;
  is_meant = read.is_meant;
  is_rest = read.is_rest;
  is_line = read.is_line;
}

pub decimal-read : (old new : List ℕ) (byte line below : ℕ) → byte ≡ escape_number (number_escape DecimalBase old) → checked (number_escape DecimalBase old) ≡ Ok (number_escape DecimalBase old)
    → new ≡ drop (length (digits_in DecimalBase old)) old → below ≡ line → EscapeRead (checked (number_escape DecimalBase old)) (byte ∷ []) old new line below
decimal-read old new byte line below is_byte is is_new is_below = record {
  inner = number_escape DecimalBase old;
  is_answer = is;
  is_meant = ap (λ b. b ∷ []) (sym is_byte);
  is_rest = ap (λ n. drop n old) (omega arith) ∙ sym is_new;
  is_line = omega (arith, digits-no_newline DecimalBase old);
}

octal-read : (old mid new : List ℕ) (byte line below : ℕ) → mid ≡ drop 1 old → byte ≡ escape_number (number_escape OctalBase mid) → checked (number_escape OctalBase mid) ≡ Ok (number_escape OctalBase mid)
    → new ≡ drop (length (digits_in OctalBase mid)) mid → below ≡ line → EscapeRead (checked (number_escape OctalBase mid)) (byte ∷ []) old new line below
octal-read old mid new byte line below is_mid is_byte is is_new is_below =
    let count = length (digits_in OctalBase mid) in
    let longer : length (inner_text (number_escape OctalBase mid)) - 1 ≡ suc count = omega arith in
    record {
      inner = number_escape OctalBase mid;
      is_answer = is;
      is_meant = ap (λ b. b ∷ []) (sym is_byte);
      is_rest = ap (λ n. drop n old) longer ∙ drop-one_more count old ∙ ap (drop count) (sym is_mid) ∙ sym is_new;
      is_line = omega (arith, digits-no_newline OctalBase mid);
    }

-- an octal number behind its `0`
pub octal-answer : (result : Result ℕ LexFault) (old mid new : List ℕ) (line below : ℕ) → mid ≡ drop 1 old → begins_with (λ byte. byte == 120) mid ≡ false
    → IfOk result (λ byte. byte ≡ escape_number (number_escape OctalBase mid)) → OnOk result (checked (number_escape OctalBase mid) ≡ Ok (number_escape OctalBase mid))
    → new ≡ drop (length (digits_in OctalBase mid)) mid → below ≡ line → IfOk result (λ byte. EscapeRead (zero_escape (drop 1 old)) (byte ∷ []) old new line below)
octal-answer (Err fault) old mid new line below is_mid other is_byte is is_new is_below = tt
octal-answer (Ok byte) old mid new line below is_mid other is_byte is is_new is_below =
    read_along _ _ _ _ _ _ _ (ap zero_escape (sym is_mid) ∙ zero-octal mid other) (octal-read old mid new byte line below is_mid is_byte is is_new is_below)

hexadecimal-read : (old mid last new : List ℕ) (byte line below : ℕ) → mid ≡ drop 1 old → last ≡ drop 1 mid → byte ≡ escape_number (number_escape HexadecimalBase last)
    → checked (number_escape HexadecimalBase last) ≡ Ok (number_escape HexadecimalBase last) → new ≡ drop (length (digits_in HexadecimalBase last)) last → below ≡ line
    → EscapeRead (checked (number_escape HexadecimalBase last)) (byte ∷ []) old new line below
hexadecimal-read old mid last new byte line below is_mid is_last is_byte is is_new is_below =
    let count = length (digits_in HexadecimalBase last) in
    let longer : length (inner_text (number_escape HexadecimalBase last)) - 1 ≡ suc (suc count) = omega arith in
    record {
      inner = number_escape HexadecimalBase last;
      is_answer = is;
      is_meant = ap (λ b. b ∷ []) (sym is_byte);
      is_rest = ap (λ n. drop n old) longer ∙ drop-one_more (suc count) old ∙ drop-one_more count (drop 1 old)
          ∙ ap (λ (bytes : List ℕ). drop count (drop 1 bytes)) (sym is_mid) ∙ ap (drop count) (sym is_last) ∙ sym is_new;
      is_line = omega (arith, digits-no_newline HexadecimalBase last);
    }

-- a hexadecimal number behind its `0x`
pub hexadecimal-answer : (result : Result ℕ LexFault) (old mid last new : List ℕ) (line below : ℕ) → mid ≡ drop 1 old → last ≡ drop 1 mid
    → slice_get mid 0 ≡ Some 120 → begins_with is_hexadecimal_digit last ≡ true
    → IfOk result (λ byte. byte ≡ escape_number (number_escape HexadecimalBase last)) → OnOk result (checked (number_escape HexadecimalBase last) ≡ Ok (number_escape HexadecimalBase last))
    → new ≡ drop (length (digits_in HexadecimalBase last)) last → below ≡ line → IfOk result (λ byte. EscapeRead (zero_escape (drop 1 old)) (byte ∷ []) old new line below)
hexadecimal-answer (Err fault) old mid last new line below is_mid is_last x digit is_byte is is_new is_below = tt
hexadecimal-answer (Ok byte) old mid last new line below is_mid is_last x digit is_byte is is_new is_below =
    read_along _ _ _ _ _ _ _ (ap zero_escape (sym is_mid) ∙ zero-hexadecimal mid last x is_last ∙ hexadecimal-number last digit)
    (hexadecimal-read old mid last new byte line below is_mid is_last is_byte is is_new is_below)

pub named-read : (old new meant : List ℕ) (byte line below : ℕ) → slice_get old 0 ≡ Some byte → new ≡ drop 1 old → below ≡ line_after line (take 1 old) → named byte ≡ meant
    → EscapeRead (Ok (Named byte)) meant old new line below
named-read old new meant byte line below next is_new is_below is_meant = record {
  inner = Named byte;
  is_answer = refl;
  is_meant = is_meant;
  is_rest = sym is_new;
  is_line = sym (is_below ∙ ap (line_after line) (take-next old byte next));
}
