-- The tokens of a script by a scanner: what `lex` computes. `Reading` and `Faults` say what it means.
use Rattle.std.specs.Prelude.{◌≡◌, ◌⊎◌, ℕ, zero, suc, ◌+◌, ◌-◌, Bool, ◌==◌, nat_lt, List, [], ◌∷◌, ◌++◌, length, drop, Option, Some, None, Result, Ok, Err, if◌then◌else◌}
use Rattle.el_lex.specs.declared.lexer.TheConstants.{MAX_SCRIPT}
use Rattle.el_lex.specs.declared.token.Token.{Token}
use Rattle.el_lex.specs.declared.token.Token.TheVariants.{Word as WordToken, Open, Close}
use Rattle.el_lex.specs.declared.fault.LexFault.{LexFault}
use Rattle.el_lex.specs.declared.fault.LexKind.{LexKind}
use Rattle.el_lex.specs.declared.fault.LexKind.TheVariants.{TooLong, Nul, EndAfterBackslash, BadNumber, ByteTooLarge, NulEscape, OpenQuote, NoMemory}
use Rattle.el_lex.specs.Bytes.{is_whitespace, is_digit, is_octal_digit, is_hexadecimal_digit, begins_with, is_over_or}
use Rattle.el_lex.specs.Pieces.{Inner, Named, Hexadecimal, Octal, Decimal, inner_text, inner_value, escape_number}
use Rattle.el_lex.specs.Reading.{newlines_in}

-- ---- escapes in quotes

-- the longest run of bytes in front that pass the test, within a limit
abbrev pub run : (test : ℕ → Bool) → (most : ℕ) → List ℕ → List ℕ
run test zero bytes = []
run test (suc most) [] = []
run test (suc most) (byte ∷ bytes) = if test byte then byte ∷ run test most bytes else []

-- a number escape, unless its number is no byte of a word
abbrev pub checked : Inner → Result Inner LexKind
checked escape = if escape_number escape == 0 then Err NulEscape else (if nat_lt 255 (escape_number escape) then Err ByteTooLarge else Ok escape)

-- the escape whose text behind `\0x` begins this text
abbrev pub hexadecimal_escape : List ℕ → Result Inner LexKind
hexadecimal_escape after = if begins_with is_hexadecimal_digit after then checked (Hexadecimal (run is_hexadecimal_digit 2 after)) else Err BadNumber

-- the escape whose text behind `\0` begins this text
abbrev pub zero_escape : List ℕ → Result Inner LexKind
zero_escape after = if begins_with (λ byte. byte == 120) after then hexadecimal_escape (drop 1 after) else checked (Octal (run is_octal_digit 3 after))

-- the escape whose text behind its backslash begins this text
unfoldable pub escape : List ℕ → Result Inner LexKind
escape [] = Err EndAfterBackslash
escape (byte ∷ bytes) =
    if byte == 0 then Err Nul
    else (if byte == 48 then zero_escape bytes
    else (if is_digit byte then checked (Decimal (run is_digit 3 (byte ∷ bytes)))
    else Ok (Named byte)))

-- ---- one step: the name says where the scanner stands

-- where the scanner stands: between words, in a comment, in a word that began on a line and has a value so far,
-- or in a quoted string of such a word, whose quote was opened on a line
pub data Mode : Type 0 where
  AtGap AtComment : Mode
  AtWord : (line : ℕ) → (value : List ℕ) → Mode
  AtQuotes : (line : ℕ) → (value : List ℕ) → (opened : ℕ) → Mode

-- a byte is a fault, or gives tokens, jumps over some bytes behind it, and leads to a mode and a line
pub data Step : Type 0 where
  Stop : LexKind → (line : ℕ) → Step
  Go : List Token → (jump : ℕ) → Mode → (line : ℕ) → Step

-- the line behind these bytes
abbrev pub line_after : (line : ℕ) → List ℕ → ℕ
line_after line bytes = line + newlines_in bytes

-- in a comment
abbrev pub comment_step : (line byte : ℕ) → Step
comment_step line byte =
    if byte == 0 then Stop Nul line
    else (if byte == 10 then Go [] 0 AtGap (line_after line (byte ∷ [])) else Go [] 0 AtComment line)

-- in a word, behind a backslash
abbrev pub escaped_step : (began : ℕ) → (value : List ℕ) → (line : ℕ) → (after : List ℕ) → Step
escaped_step began value line [] = Stop EndAfterBackslash line
escaped_step began value line (byte ∷ bytes) = if byte == 0 then Stop Nul line else Go [] 1 (AtWord began (value ++ byte ∷ [])) (line_after line (byte ∷ []))

-- in a word
abbrev pub word_step : (began : ℕ) → (value : List ℕ) → (line byte : ℕ) → (after : List ℕ) → Step
word_step began value line byte after =
    if is_whitespace byte then Go (WordToken began value ∷ []) 0 AtGap (line_after line (byte ∷ []))
    else (if byte == 0 then Stop Nul line
    else (if byte == 34 then Go [] 0 (AtQuotes began value line) line
    else (if byte == 92 then escaped_step began value line after
    else Go [] 0 (AtWord began (value ++ byte ∷ [])) line)))

-- a brace that is a whole word
abbrev pub lone_brace : (line byte : ℕ) → (after : List ℕ) → Option Token
lone_brace line byte after =
    if is_over_or is_whitespace after then (if byte == 123 then Some (Open line) else (if byte == 125 then Some (Close line) else None)) else None

-- at the first byte of a word, which may be such a brace
abbrev pub first_step : (brace : Option Token) → (line byte : ℕ) → (after : List ℕ) → Step
first_step (Some brace) line byte after = Go (brace ∷ []) 0 AtGap line
first_step None line byte after = word_step line [] line byte after

-- between words
abbrev pub gap_step : (line byte : ℕ) → (after : List ℕ) → Step
gap_step line byte after =
    if is_whitespace byte then Go [] 0 AtGap (line_after line (byte ∷ []))
    else (if byte == 35 then Go [] 0 AtComment line
    else first_step (lone_brace line byte after) line byte after)

-- in quotes, behind a backslash, by the escape there
abbrev pub escape_step : (began : ℕ) → (value : List ℕ) → (opened line : ℕ) → Result Inner LexKind → Step
escape_step began value opened line (Err kind) = Stop kind line
escape_step began value opened line (Ok inner) = Go [] (length (inner_text inner) - 1) (AtQuotes began (value ++ inner_value inner) opened) (line_after line (inner_text inner))

-- in quotes
abbrev pub quotes_step : (began : ℕ) → (value : List ℕ) → (opened line byte : ℕ) → (after : List ℕ) → Step
quotes_step began value opened line byte after =
    if byte == 34 then Go [] 0 (AtWord began value) line
    else (if byte == 0 then Stop Nul line
    else (if byte == 92 then escape_step began value opened line (escape after)
    else Go [] 0 (AtQuotes began (value ++ byte ∷ []) opened) (line_after line (byte ∷ []))))

-- anywhere
abbrev pub step : Mode → (line byte : ℕ) → (after : List ℕ) → Step
step AtGap line byte after = gap_step line byte after
step AtComment line byte after = comment_step line byte
step (AtWord began value) line byte after = word_step began value line byte after
step (AtQuotes began value opened) line byte after = quotes_step began value opened line byte after

-- ---- all steps

-- at the script's end
abbrev pub ended : Mode → (line : ℕ) → Result (List Token) (LexKind × ℕ)
ended AtGap line = Ok []
ended AtComment line = Ok []
ended (AtWord began value) line = Ok (WordToken began value ∷ [])
ended (AtQuotes began value opened) line = Err (OpenQuote, opened)

-- these tokens in front
abbrev pub in_front : List Token → Result (List Token) (LexKind × ℕ) → Result (List Token) (LexKind × ℕ)
in_front tokens (Ok more) = Ok (tokens ++ more)
in_front tokens (Err fault) = Err fault

-- what a step gives, by what the scanner gives from there
abbrev pub after_step : (from : ℕ → Mode → ℕ → Result (List Token) (LexKind × ℕ)) → Step → Result (List Token) (LexKind × ℕ)
after_step from (Stop kind line) = Err (kind, line)
after_step from (Go tokens jump mode line) = in_front tokens (from jump mode line)

-- the tokens of a text, but for a number of bytes in front, that begins in a mode on a line
unfoldable pub scan : List ℕ → (jump : ℕ) → Mode → (line : ℕ) → Result (List Token) (LexKind × ℕ)
scan [] jump mode line = ended mode line
scan (byte ∷ bytes) (suc jump) mode line = scan bytes jump mode line
scan (byte ∷ bytes) zero mode line = after_step (scan bytes) (step mode line byte bytes)

-- the tokens of a script, or the kind and the line of its first fault
unfoldable pub lexed : List ℕ → Result (List Token) (LexKind × ℕ)
lexed script = if nat_lt MAX_SCRIPT (length script) then Err (TooLong, 1) else scan script 0 AtGap 1

-- the fault that an answer names; want of memory may come at any text
abbrev pub IsFaultOf : Result (List Token) (LexKind × ℕ) → LexFault → Type 0
IsFaultOf answer fault = (fault ≡ record { kind = NoMemory; line = 0 }) ⊎ (answer ≡ Err (fault.kind, fault.line))

-- a result that is right
abbrev pub IsAnswer : Result (List Token) (LexKind × ℕ) → Result (List Token) LexFault → Type 0
IsAnswer answer (Ok tokens) = answer ≡ Ok tokens
IsAnswer answer (Err fault) = IsFaultOf answer fault
