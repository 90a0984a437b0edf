-- What `lex` answers, by what the scanner gives.
use Rattle.std.proofs.Common.{◌≡◌, ◌≢◌, ◌∙◌, Bool, ap, ℕ, ◌<◌, ◌≤◌, true, false, List, Result, Ok, Err, refl, sym, length, arith, subst, inl, inr, IfOk, IfErr}
use Rattle.std.specs.Prelude.{nat_lt}
use Rattle.el_lex.specs.declared.lexer.TheConstants.{MAX_SCRIPT}
use Rattle.el_lex.specs.declared.token.Token.{Token}
use Rattle.el_lex.specs.declared.fault.LexFault.{LexFault}
use Rattle.el_lex.specs.declared.fault.LexKind.{LexKind}
use Rattle.el_lex.specs.declared.fault.LexKind.TheVariants.{TooLong, Nul, EndAfterBackslash, BadNumber, ByteTooLarge, NulEscape, OpenQuote, NoMemory}
use Rattle.el_lex.specs.Reading.{Lexes}
use Rattle.el_lex.specs.Faults.{Cut, Cause, nul, escaped_nul_in_word, escaped_nul_in_quotes, end_in_word, end_in_quotes, bad_number, too_large, zero_escape, open_quote, FaultsAt, IsFirstFault, IsFirstLexFault}
use Rattle.el_lex.specs.Scan.{AtGap, scan, lexed, IsAnswer}
use Rattle.el_lex.proofs.Printed.{reads-scanned}
use Rattle.el_lex.proofs.Stops.{fault-scanned, err-same, never}
use Rattle.el_lex.proofs.Found.{scanned-reads, scanned-fault}

-- no cause in the text makes a script too long or memory scarce
abbrev HasCause : LexKind → Type 0
HasCause TooLong = ⊥
HasCause NoMemory = ⊥
HasCause kind = Unit {0}

has_cause : (kind : LexKind) (cut : Cut) (rest : List ℕ) → Cause kind cut rest → HasCause kind
has_cause kind cut rest (nul next) = tt
has_cause kind cut rest (escaped_nul_in_word next) = tt
has_cause kind cut rest (escaped_nul_in_quotes next) = tt
has_cause kind cut rest end_in_word = tt
has_cause kind cut rest end_in_quotes = tt
has_cause kind cut rest (bad_number next) = tt
has_cause kind cut rest (too_large next large) = tt
has_cause kind cut rest (zero_escape next) = tt
has_cause kind cut rest open_quote = tt

first-fault : (script : List ℕ) (kind : LexKind) (line : ℕ) → length script ≤ MAX_SCRIPT → HasCause kind → FaultsAt script kind line → IsFirstFault script kind line
first-fault script TooLong line few has fault = absurd has
first-fault script NoMemory line few has fault = absurd has
first-fault script Nul line few has fault = (few, fault)
first-fault script EndAfterBackslash line few has fault = (few, fault)
first-fault script BadNumber line few has fault = (few, fault)
first-fault script ByteTooLarge line few has fault = (few, fault)
first-fault script NulEscape line few has fault = (few, fault)
first-fault script OpenQuote line few has fault = (few, fault)

pub lexed-short : (script : List ℕ) → length script ≤ MAX_SCRIPT → lexed script ≡ scan script 0 AtGap 1
unfolding lexed
lexed-short script few = let short : nat_lt MAX_SCRIPT (length script) ≡ false = grind arith in rw short refl

pub lexed-long : (script : List ℕ) → MAX_SCRIPT < length script → lexed script ≡ Err (TooLong, 1)
unfolding lexed
lexed-long script many = let long : nat_lt MAX_SCRIPT (length script) ≡ true = grind arith in rw long refl

-- ---- the clauses of `lex`

pub answer-ok : (script : List ℕ) (result : Result (List Token) LexFault) → length script ≤ MAX_SCRIPT → IsAnswer (scan script 0 AtGap 1) result → IfOk result (Lexes script)
answer-ok script (Ok tokens) few is = record { short = few; reads = scanned-reads script tokens is }
answer-ok script (Err fault) few is = tt

pub answer-fault : (script : List ℕ) (result : Result (List Token) LexFault) → length script ≤ MAX_SCRIPT → IsAnswer (scan script 0 AtGap 1) result → IfErr result (IsFirstLexFault script)
answer-fault script (Ok tokens) few is = tt
answer-fault script (Err fault) few (inl no_memory) = subst (IsFirstLexFault script) (sym no_memory) refl
answer-fault script (Err fault) few (inr is) =
    let at = scanned-fault script fault.kind fault.line is in
    first-fault script fault.kind fault.line few (has_cause fault.kind at.cut at.rest at.cause) at

pub answer-exact : (script : List ℕ) (result : Result (List Token) LexFault) → length script ≤ MAX_SCRIPT → IsAnswer (scan script 0 AtGap 1) result → IsAnswer (lexed script) result
answer-exact script result few is = subst (λ answer. IsAnswer answer result) (sym (lexed-short script few)) is

-- ---- and the other way round

by_length : {Goal : Type 0} (script : List ℕ) → (MAX_SCRIPT < length script → Goal) → (length script ≤ MAX_SCRIPT → Goal) → Goal
by_length {Goal} script long short = by (nat_lt MAX_SCRIPT (length script)) refl
  where
    by : (b : Bool) → nat_lt MAX_SCRIPT (length script) ≡ b → Goal
    by true is = long (grind (arith, is))
    by false is = short (grind (arith, is))

pub lexed-reads : (script : List ℕ) (tokens : List Token) → lexed script ≡ Ok tokens → Lexes script tokens
lexed-reads script tokens is = by_length script
    (λ many. absurd (never (lexed script) tokens TooLong 1 is (lexed-long script many)))
    (λ few. record { short = few; reads = scanned-reads script tokens (sym (lexed-short script few) ∙ is) })

pub reads-lexed : (script : List ℕ) (tokens : List Token) → Lexes script tokens → lexed script ≡ Ok tokens
reads-lexed script tokens lexes = lexed-short script lexes.short ∙ reads-scanned script tokens lexes.reads

pub lexed-faults : (script : List ℕ) (kind : LexKind) (line : ℕ) → lexed script ≡ Err (kind, line) → IsFirstFault script kind line
lexed-faults script kind line is = by_length script
    (λ many.
    let same = err-same (lexed script) TooLong kind 1 line (lexed-long script many) is in
    let P : LexKind → Type 0 = λ k. IsFirstFault script k line in
    subst P same.0 (many, sym same.1))
    (λ few.
    let at = scanned-fault script kind line (sym (lexed-short script few) ∙ is) in
    first-fault script kind line few (has_cause kind at.cut at.rest at.cause) at)

pub faults-lexed : (script : List ℕ) (kind : LexKind) (line : ℕ) → kind ≢ NoMemory → IsFirstFault script kind line → lexed script ≡ Err (kind, line)
faults-lexed script TooLong line other (many, first) = lexed-long script many ∙ ap (λ n. Err (TooLong, n)) (sym first)
faults-lexed script NoMemory line other fault = absurd (other refl)
faults-lexed script Nul line other (few, fault) = lexed-short script few ∙ fault-scanned script Nul line fault
faults-lexed script EndAfterBackslash line other (few, fault) = lexed-short script few ∙ fault-scanned script EndAfterBackslash line fault
faults-lexed script BadNumber line other (few, fault) = lexed-short script few ∙ fault-scanned script BadNumber line fault
faults-lexed script ByteTooLarge line other (few, fault) = lexed-short script few ∙ fault-scanned script ByteTooLarge line fault
faults-lexed script NulEscape line other (few, fault) = lexed-short script few ∙ fault-scanned script NulEscape line fault
faults-lexed script OpenQuote line other (few, fault) = lexed-short script few ∙ fault-scanned script OpenQuote line fault
