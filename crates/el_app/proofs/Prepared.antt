-- What is made ready before a script's words are run: exactly what is due is held behind it, and it ends with 111 only where a call failed.
use Rattle.el_room.proofs.Vocabulary.{SpellFault, StrayClose, TooDeep, Unclosed, spelling_of, Reading, Unknown, NoValue, LettersRead, reading as read_letters, Options, has_bad_last_number, Fault, Handle, read_act, gives, takes, and_go_on, State, Trouble, Usage, BadNumber, FrameTooDeep, after_read, Left, refused, Choice, first_byte, value_by, chosen_by}
use Rattle.el_script.proofs.Vocabulary.{NoMemory as NoSpellMemory, fault-computed, LexKind, MAX_SCRIPT, Token, Cut, Cause, nul, AtGap, scan, lexed, scanned-fault}
use Rattle.el_machine.proofs.Vocabulary.{Now, Kept, Goes, goes-then, goes-refused}
use Rattle.std.proofs.Common.{◌≡◌, ℕ, suc, Bool, true, false, if◌then◌else◌, nat_lt, List, [], ◌∷◌, ◌++◌, length, Option, Some, None, Result, Ok, Err, refl, sym, ap, ◌∙◌, subst, true≢false, codes}
use Rattle.el_lex.specs.declared.fault.LexKind.TheVariants as lex
use Rattle.el_lex.specs.Faults.{escaped_nul_in_word, escaped_nul_in_quotes, end_in_word, end_in_quotes, bad_number, too_large, zero_escape, open_quote}
use Rattle.el_lex.proofs.Stops.{err-same}
use Rattle.el_world.specs.declared.event.Mode.TheVariants.{Read as ForReading}
use Rattle.el_world.specs.States.{Spent}
use Rattle.el_proc.specs.declared.trouble.Trouble.TheVariants.{Unknown as UnknownLetter, NoValue as NoValueOf}
use Rattle.el_machine.proofs.Holds.{goes-gives, goes-takes, goes-act, Terms}
use Rattle.el_machine.proofs.HoldsTasks.{IsOther, Answered, IsTold, Opened, WasRead, told_later, does-open, does-read, does-close, goes-failed}
use Rattle.el_check.specs.declared.params.Params.TheVariants.{Frame, Leave, Subst}
use Rattle.el_app.specs.declared.asked.Placement.{Placement}
use Rattle.el_app.specs.declared.asked.Placement.TheVariants.{By, Shifted}
use Rattle.el_app.specs.declared.asked.Asked.{Asked}
use Rattle.el_app.specs.declared.asked.Source.{Source}
use Rattle.el_app.specs.declared.asked.Source.TheVariants.{Inline, File}
use Rattle.el_app.specs.Names.{execlineb_name}
use Rattle.el_app.specs.Options.{source_by, asked_with, asked_behind, asked_by, asked}
use Rattle.el_app.specs.Files.{reading, whole_file, unless_failed, opened_script, after_open, file_script}
use Rattle.el_app.specs.Scripts.{script_trouble, brace_trouble, spelled_words, words_in, script_words}
use Rattle.el_app.specs.Params.{is_too_deep, in_new_frame, placed}
use Rattle.el_app.specs.Execlineb.{words_from, zero_of, prelude}

-- ---- what is refused before the run has another status

abbrev is_scarce : LexKind → Bool
is_scarce lex.NoMemory = true
is_scarce kind = false

-- no cause in a text makes memory scarce
never_scarce : (kind : LexKind) (cut : Cut) (rest : List ℕ) → Cause kind cut rest → is_scarce kind ≡ false
never_scarce kind cut rest (nul next) = refl
never_scarce kind cut rest (escaped_nul_in_word next) = refl
never_scarce kind cut rest (escaped_nul_in_quotes next) = refl
never_scarce kind cut rest end_in_word = refl
never_scarce kind cut rest end_in_quotes = refl
never_scarce kind cut rest (bad_number next) = refl
never_scarce kind cut rest (too_large next large) = refl
never_scarce kind cut rest (zero_escape next) = refl
never_scarce kind cut rest open_quote = refl

lexed-known : (script : List ℕ) (kind : LexKind) (line : ℕ) → lexed script ≡ Err (kind, line) → kind ≡ lex.NoMemory → ⊥
unfolding lexed
lexed-known script kind line is same = by (nat_lt MAX_SCRIPT (length script)) is
  where
    by : (long : Bool) → (if long then Err (lex.TooLong, 1) else scan script 0 AtGap 1) ≡ Err (kind, line) → ⊥
    by true is = let long = err-same (Err (lex.TooLong, 1)) lex.TooLong kind 1 line refl is in true≢false (sym (ap is_scarce same) ∙ ap is_scarce (sym long.0))
    by false is = let at = scanned-fault script kind line is in true≢false (sym (ap is_scarce same) ∙ never_scarce kind at.cut at.rest at.cause)

lex-other : (kind : LexKind) (line : ℕ) → (kind ≡ lex.NoMemory → ⊥) → IsOther (script_trouble kind line)
lex-other lex.TooLong line known = tt
lex-other lex.Nul line known = tt
lex-other lex.EndAfterBackslash line known = tt
lex-other lex.BadNumber line known = tt
lex-other lex.ByteTooLarge line known = tt
lex-other lex.NulEscape line known = tt
lex-other lex.OpenQuote line known = tt
lex-other lex.NoMemory line known = absurd (known refl)

brace-other : (fault : SpellFault) → (fault ≡ NoSpellMemory → ⊥) → IsOther (brace_trouble fault)
brace-other (StrayClose line) known = tt
brace-other (TooDeep line) known = tt
brace-other (Unclosed line) known = tt
brace-other NoSpellMemory known = absurd (known refl)

-- so has what is wrong with the words of a call
pub asked-other : (options : Options) (words : List (List ℕ)) (trouble : Trouble) → asked options words ≡ Err trouble → IsOther trouble
unfolding asked
asked-other options words trouble is = by (read_letters options.letters words) is
  where
    same : (one : Trouble) → IsOther one → ◌≡◌ {A = Result Asked Trouble} (Err one) (Err trouble) → IsOther trouble
    same one other is = let e : one ≡ trouble = cc in subst (λ trouble. IsOther trouble) e other

    with : (choices : List Choice) (rest : List (List ℕ)) (source : Option Source) → asked_with choices rest source ≡ Err trouble → IsOther trouble
    with choices rest None is = same Usage tt is
    with choices rest (Some source) is = let no : ⊥ = cc in absurd no

    tested : (bad : Bool) (choices : List Choice) (rest : List (List ℕ)) → (if bad then Err BadNumber else asked_behind choices rest) ≡ Err trouble → IsOther trouble
    tested true choices rest is = same BadNumber tt is
    tested false choices rest is = with choices rest (source_by (value_by choices (first_byte (codes "c"))) rest) is

    by : (read : Reading) → asked_by options read ≡ Err trouble → IsOther trouble
    by (Unknown letter) is = same (UnknownLetter letter) tt is
    by (NoValue letter) is = same (NoValueOf letter) tt is
    by (LettersRead letters used rest stops) is = tested (has_bad_last_number options letters) (chosen_by options.groups options.letters letters) rest is

-- ---- the file of a script

-- a spent budget may cut the reads off, so that more is held here than is due at an end
module _ {terms : Terms} {cause : Now → Type 0} {base due : List Handle} (state : State) (handle : Handle) where
  goes-pieces : (reads : ℕ) (before : List ℕ) (now : Now) → Kept terms base state.fds now → Goes terms cause due now (WasRead terms base state.fds) (reading reads state handle before)
  unfolding reading
  goes-pieces Prim.Native.Nat.zero before now h = goes-gives (record { kept = h; told = tt })
  goes-pieces (suc reads) before now h = by (nat_lt MAX_SCRIPT (length before)) (goes-pieces reads)
    where
      after : ((read : List ℕ) (now : Now) → Kept terms base state.fds now → Goes terms cause due now (WasRead terms base state.fds) (reading reads state handle read)) → (answer : Result (List ℕ) Fault) (now : Now) → Answered terms base state.fds answer now
          → Goes terms cause due now (WasRead terms base state.fds) (after_read (λ read. reading reads state handle read) before answer)
      after next (Ok []) now p = goes-gives (record { kept = p.kept; told = tt })
      after next (Ok (byte ∷ bytes)) now p = next (before ++ byte ∷ bytes) now p.kept
      after next (Err fault) now p = goes-gives (record { kept = p.kept; told = p.told })

      by : (over : Bool) → ((read : List ℕ) (now : Now) → Kept terms base state.fds now → Goes terms cause due now (WasRead terms base state.fds) (reading reads state handle read))
          → Goes terms cause due now (WasRead terms base state.fds) (if over then gives (Some before) else takes (Spent state) (and_go_on (read_act handle) (after_read (λ read. reading reads state handle read) before)))
      by true next = goes-gives (record { kept = h; told = tt })
      by false next = goes-takes (goes-act (does-read h handle) (after next))

module _ {terms : Terms} {cause : Now → Type 0} {base : List Handle} (state : State) where
  goes-script_file : {now : Now} (name path : List ℕ) → Kept terms base state.fds now → Goes terms cause base now (λ _. Kept terms base state.fds) (file_script name state path)
  unfolding file_script opened_script whole_file
  goes-script_file name path h = goes-act (does-open h state.dir path ForReading) by
    where
      unless : (read : Option (List ℕ)) (now : Now) → IsTold now.ok read → Kept terms base state.fds now → Goes terms cause base now (λ _. Kept terms base state.fds) (unless_failed name state read)
      unless (Some script) now told h = goes-gives h
      unless None now told h = goes-failed state name told h

      by : (answer : Result Handle Fault) (now : Now) → Opened terms base state.fds answer now → Goes terms cause base now (λ _. Kept terms base state.fds) (after_open name state answer)
      by (Ok handle) now p = goes-then (goes-pieces state handle (suc MAX_SCRIPT) [] now p.kept) (λ read now q. goes-act (does-close handle (λ s. (p.fresh s).apart) q.kept) (λ _ now r. unless read now (told_later read r.later q.told) r.kept))
      by (Err fault) now p = goes-failed state name p.told p.kept

  -- ---- its words

  goes-spelled : {now : Now} (tokens : List Token) → Kept terms base state.fds now → Goes terms cause base now (λ _. Kept terms base state.fds) (spelled_words state (spelling_of tokens))
  unfolding spelled_words
  goes-spelled {now} tokens h = by (spelling_of tokens) refl
    where
      by : (words : Result (List (List ℕ)) SpellFault) → spelling_of tokens ≡ words → Goes terms cause base now (λ _. Kept terms base state.fds) (spelled_words state words)
      by (Ok words) is = goes-gives h
      by (Err fault) is = goes-refused state execlineb_name (brace_trouble fault) (brace-other fault ((fault-computed tokens fault).1 is).0) h

  goes-script_words : {now : Now} (script : List ℕ) → Kept terms base state.fds now → Goes terms cause base now (λ _. Kept terms base state.fds) (script_words state script)
  unfolding script_words
  goes-script_words {now} script h = by (lexed script) refl
    where
      by : (read : Result (List Token) (LexKind × ℕ)) → lexed script ≡ read → Goes terms cause base now (λ _. Kept terms base state.fds) (words_in state read)
      by (Ok tokens) is = goes-spelled tokens h
      by (Err (kind, line)) is = goes-refused state execlineb_name (script_trouble kind line) (lex-other kind line (lexed-known script kind line is)) h

  goes-words_from : {now : Now} (source : Source) → Kept terms base state.fds now → Goes terms cause base now (λ _. Kept terms base state.fds) (words_from state source)
  goes-words_from (Inline script) h = goes-script_words script h
  goes-words_from (File path) h = goes-then (goes-script_file execlineb_name path h) (λ script now h. goes-script_words script h)

  -- ---- all of it

  goes-placed : {now : Now} (placement : Placement) (zero : List ℕ) (args script : List (List ℕ)) → Kept terms base state.fds now → Goes terms cause base now (λ (left : Left) now. Kept terms base left.state.fds now) (placed placement zero args script state)
  unfolding placed
  goes-placed (By Leave) zero args script h = goes-gives h
  goes-placed (By (Subst least)) zero args script h = goes-gives h
  goes-placed (Shifted least) zero args script h = goes-gives h
  goes-placed {now} (By Frame) zero args script h = by (is_too_deep state.env)
    where
      by : (deep : Bool) → Goes terms cause base now (λ (left : Left) now. Kept terms base left.state.fds now) (if deep then refused state execlineb_name FrameTooDeep else gives (record { words = script; state = record state { env = in_new_frame zero args state.env } }))
      by true = goes-refused state execlineb_name FrameTooDeep tt h
      by false = goes-gives h

  pub goes-prelude : {now : Now} (asking : Asked) → Kept terms base state.fds now → Goes terms cause base now (λ (left : Left) now. Kept terms base left.state.fds now) (prelude asking state)
  unfolding prelude
  goes-prelude asking h = goes-then (goes-words_from asking.source h) (λ script now h. goes-placed asking.placement (zero_of asking.source) asking.args script h)
