-- What the scanner gives of a text, by its next byte.
use Rattle.std.proofs.Common.{◌≡◌, ℕ, true, false, List, [], ◌∷◌, ◌++◌, Some, None, Result, Ok, Err, refl, sym, ap, ◌∙◌, take, drop, suc, append_assoc, subst, arith, ◌≢◌, true≢false, length, ◌-◌, ◌<◌, inl, inr, ◌⊎◌, IfOk, IfErr, OnOk}
use Rattle.std.specs.Prelude.{slice_get, ◌==◌}
use Rattle.el_lex.specs.declared.token.Token.{Token}
use Rattle.el_lex.specs.declared.token.Token.TheVariants.{Word as WordToken}
use Rattle.el_lex.specs.declared.fault.LexKind.{LexKind}
use Rattle.el_lex.specs.declared.fault.LexKind.TheVariants.{Nul, OpenQuote}
use Rattle.el_lex.specs.Bytes.{is_whitespace, is_over_or}
use Rattle.el_lex.specs.Scan.{Mode, AtGap, AtComment, AtWord, AtQuotes, Go, step, first_step, lone_brace, word_step, escaped_step, escape_step, escape, ended, in_front, after_step, scan, line_after, IsFaultOf}
use Rattle.el_lex.specs.Pieces.{inner_text, inner_value}
use Rattle.el_lex.specs.Escapes.{EscapeRead}
use Rattle.el_lex.specs.declared.fault.LexFault.{LexFault}

abbrev Answer : Type 0
Answer = Result (List Token) (LexKind × ℕ)

pub in_front-nil : (answer : Answer) → in_front [] answer ≡ answer
in_front-nil (Ok tokens) = refl
in_front-nil (Err fault) = refl

pub in_front-append : (a b : List Token) (answer : Answer) → in_front (a ++ b) answer ≡ in_front a (in_front b answer)
in_front-append a b (Ok tokens) = ap Ok (append_assoc a b tokens)
in_front-append a b (Err fault) = refl

-- what is jumped over may as well be absent
pub scan-jump : (bytes : List ℕ) (jump : ℕ) (mode : Mode) (line : ℕ) → scan bytes jump mode line ≡ scan (drop jump bytes) 0 mode line
unfolding scan
scan-jump [] Prim.Native.Nat.zero mode line = refl
scan-jump [] (suc jump) mode line = refl
scan-jump (byte ∷ bytes) Prim.Native.Nat.zero mode line = refl
scan-jump (byte ∷ bytes) (suc jump) mode line = scan-jump bytes jump mode line

pub scan-next : (rest : List ℕ) (byte : ℕ) (mode : Mode) (line : ℕ) → slice_get rest 0 ≡ Some byte → scan rest 0 mode line ≡ after_step (scan (drop 1 rest)) (step mode line byte (drop 1 rest))
unfolding scan
scan-next [] byte mode line next = let no : ⊥ = cc in absurd no
scan-next (other ∷ rest) byte mode line next = let same : other ≡ byte = cc in ap (λ b. after_step (scan rest) (step mode line b rest)) same

pub scan-end : (rest : List ℕ) (mode : Mode) (line : ℕ) → slice_get rest 0 ≡ None → scan rest 0 mode line ≡ ended mode line
unfolding scan
scan-end [] mode line end = refl
scan-end (byte ∷ rest) mode line end = let no : ⊥ = cc in absurd no

-- where no byte is to come, no token is
pub none-given : (rest : List ℕ) (line : ℕ) → slice_get rest 0 ≡ None → scan rest 0 AtGap line ≡ Ok []
none-given rest line end = scan-end rest AtGap line end

pub nothing-given : (rest : List ℕ) (line : ℕ) → rest ≡ [] → scan rest 0 AtGap line ≡ Ok []
nothing-given rest line none = ap (λ bytes. scan bytes 0 AtGap line) none ∙ scan-end [] AtGap line refl

-- a byte less is to come behind the next one
pub drop-shorter : (rest after : List ℕ) (byte : ℕ) → slice_get rest 0 ≡ Some byte → after ≡ drop 1 rest → suc (length after) ≡ length rest
drop-shorter [] after byte next is = let no : ⊥ = cc in absurd no
drop-shorter (other ∷ rest) after byte next is = ap (λ bytes. suc (length bytes)) is

pub append-length : (tokens : List Token) (token : Token) → length (tokens ++ token ∷ []) ≡ suc (length tokens)
append-length [] token = refl
append-length (one ∷ tokens) token = ap suc (append-length tokens token)

pub take-next : (rest : List ℕ) (byte : ℕ) → slice_get rest 0 ≡ Some byte → take 1 rest ≡ byte ∷ []
take-next [] byte next = let no : ⊥ = cc in absurd no
take-next (other ∷ rest) byte next = let same : other ≡ byte = cc in ap (λ b. b ∷ []) same

pub same_line : (line byte : ℕ) → byte ≢ 10 → line_after line (byte ∷ []) ≡ line
same_line line byte other = let no : (byte == 10) ≡ false = grind arith in rw no (omega arith)

no_newline : (byte : ℕ) → is_whitespace byte ≡ false → byte ≢ 10
no_newline byte dark same = true≢false (sym (ap is_whitespace same) ∙ dark)

pub no_hash : (byte : ℕ) → byte ≢ 35 → (byte == 35) ≡ false
no_hash byte other = grind arith

pub line_behind : (rest : List ℕ) (byte line below : ℕ) → slice_get rest 0 ≡ Some byte → below ≡ line_after line (take 1 rest) → byte ≢ 10 → below ≡ line
line_behind rest byte line below next is_below other = is_below ∙ ap (line_after line) (take-next rest byte next) ∙ same_line line byte other

-- the text and the line behind a byte, as a step from it uses them
taken : (rest after : List ℕ) (byte line below : ℕ) (mode : Mode) → slice_get rest 0 ≡ Some byte → after ≡ drop 1 rest → below ≡ line_after line (take 1 rest)
    → (scan rest 0 mode line ≡ after_step (scan after) (step mode line byte after)) × (below ≡ line_after line (byte ∷ []))
taken rest after byte line below mode next is_after is_below = (
  scan-next rest byte mode line next ∙ ap (λ (bytes : List ℕ). after_step (scan bytes) (step mode line byte bytes)) (sym is_after),
  is_below ∙ ap (line_after line) (take-next rest byte next),
)

-- a step that gives no token goes on from behind the byte
goes_on : (rest after : List ℕ) (byte line below : ℕ) (from mode : Mode) → slice_get rest 0 ≡ Some byte → after ≡ drop 1 rest → below ≡ line_after line (take 1 rest)
    → step from line byte after ≡ Go [] 0 mode (line_after line (byte ∷ [])) → scan rest 0 from line ≡ scan after 0 mode below
goes_on rest after byte line below from mode next is_after is_below is =
    let at = taken rest after byte line below from next is_after is_below in
    at.0 ∙ ap (after_step (scan after)) is ∙ in_front-nil (scan after 0 mode (line_after line (byte ∷ []))) ∙ ap (scan after 0 mode) (sym at.1)

-- ---- between words

pub scan-whitespace : (rest after : List ℕ) (byte line below : ℕ) → slice_get rest 0 ≡ Some byte → after ≡ drop 1 rest → below ≡ line_after line (take 1 rest)
    → is_whitespace byte ≡ true → scan rest 0 AtGap line ≡ scan after 0 AtGap below
scan-whitespace rest after byte line below next is_after is_below white = goes_on rest after byte line below AtGap AtGap next is_after is_below (rw white refl)

pub scan-hash : (rest after : List ℕ) (line below : ℕ) → slice_get rest 0 ≡ Some 35 → after ≡ drop 1 rest → below ≡ line_after line (take 1 rest)
    → scan rest 0 AtGap line ≡ scan after 0 AtComment below
scan-hash rest after line below next is_after is_below = goes_on rest after 35 line below AtGap AtComment next is_after is_below (ap (Go [] 0 AtComment) (omega arith))

pub scan-brace : (rest after : List ℕ) (byte line below : ℕ) (token : Token) → slice_get rest 0 ≡ Some byte → after ≡ drop 1 rest → below ≡ line_after line (take 1 rest)
    → is_whitespace byte ≡ false → (byte == 35) ≡ false → lone_brace line byte (drop 1 rest) ≡ Some token → scan rest 0 AtGap line ≡ in_front (token ∷ []) (scan after 0 AtGap below)
scan-brace rest after byte line below token next is_after is_below dark no_comment brace =
    let step_is = ap (λ b. after_step (scan (drop 1 rest)) (first_step b line byte (drop 1 rest))) brace in
    scan-next rest byte AtGap line next ∙ rw (dark, no_comment) step_is
    ∙ ap (λ (bytes : List ℕ). in_front (token ∷ []) (scan bytes 0 AtGap line)) (sym is_after)
    ∙ ap (λ n. in_front (token ∷ []) (scan after 0 AtGap n)) (sym (line_behind rest byte line below next is_below (no_newline byte dark)))

-- any other byte begins a word
pub scan-word : (rest : List ℕ) (byte line : ℕ) → slice_get rest 0 ≡ Some byte → is_whitespace byte ≡ false → (byte == 35) ≡ false
    → lone_brace line byte (drop 1 rest) ≡ None → scan rest 0 AtGap line ≡ scan rest 0 (AtWord line []) line
scan-word rest byte line next dark no_comment no_brace =
    let after = drop 1 rest in
    let first : step AtGap line byte after ≡ first_step (lone_brace line byte after) line byte after = rw (dark, no_comment) refl in
    scan-next rest byte AtGap line next ∙ ap (after_step (scan after)) (first ∙ ap (λ b. first_step b line byte after) no_brace) ∙ sym (scan-next rest byte (AtWord line []) line next)

-- ---- in a comment

pub scan-comment : (rest after : List ℕ) (byte line below : ℕ) → slice_get rest 0 ≡ Some byte → after ≡ drop 1 rest → below ≡ line_after line (take 1 rest)
    → byte ≢ 0 → byte ≢ 10 → scan rest 0 AtComment line ≡ scan after 0 AtComment below
scan-comment rest after byte line below next is_after is_below some other =
    let no_nul : (byte == 0) ≡ false = grind arith in
    let no_line : (byte == 10) ≡ false = grind arith in
    goes_on rest after byte line below AtComment AtComment next is_after is_below (rw (no_nul, no_line) (ap (Go [] 0 AtComment) (omega arith)))

pub scan-comment_nul : (rest : List ℕ) (line : ℕ) → slice_get rest 0 ≡ Some 0 → scan rest 0 AtComment line ≡ Err (Nul, line)
scan-comment_nul rest line next = scan-next rest 0 AtComment line next

pub scan-comment_newline : (rest : List ℕ) (line : ℕ) → slice_get rest 0 ≡ Some 10 → scan rest 0 AtComment line ≡ scan rest 0 AtGap line
scan-comment_newline rest line next = scan-next rest 10 AtComment line next ∙ sym (scan-next rest 10 AtGap line next)

pub scan-comment_end : (rest : List ℕ) (line : ℕ) → slice_get rest 0 ≡ None → scan rest 0 AtComment line ≡ scan rest 0 AtGap line
scan-comment_end rest line end = scan-end rest AtComment line end ∙ sym (scan-end rest AtGap line end)

-- ---- in a word

pub scan-piece : (rest after : List ℕ) (byte line below began : ℕ) (value : List ℕ) → slice_get rest 0 ≡ Some byte → after ≡ drop 1 rest → below ≡ line_after line (take 1 rest)
    → is_whitespace byte ≡ false → scan rest 0 (AtWord began value) line ≡ after_step (scan after) (word_step began value below byte after)
scan-piece rest after byte line below began value next is_after is_below dark =
    let at = taken rest after byte line below (AtWord began value) next is_after is_below in
    at.0 ∙ ap (λ n. after_step (scan after) (word_step began value n byte after)) (sym (at.1 ∙ same_line line byte (no_newline byte dark)))

scan-word_end : (rest : List ℕ) (line began : ℕ) (value : List ℕ) → slice_get rest 0 ≡ None → scan rest 0 (AtWord began value) line ≡ in_front (WordToken began value ∷ []) (scan rest 0 AtGap line)
scan-word_end rest line began value end = scan-end rest (AtWord began value) line end ∙ ap (in_front (WordToken began value ∷ [])) (sym (scan-end rest AtGap line end))

scan-word_whitespace : (rest : List ℕ) (byte line began : ℕ) (value : List ℕ) → slice_get rest 0 ≡ Some byte → is_whitespace byte ≡ true
    → scan rest 0 (AtWord began value) line ≡ in_front (WordToken began value ∷ []) (scan rest 0 AtGap line)
scan-word_whitespace rest byte line began value next white =
    let gap = goes_on rest (drop 1 rest) byte line (line_after line (take 1 rest)) AtGap AtGap next refl refl (rw white refl) in
    let below = ap (line_after line) (take-next rest byte next) in
    scan-next rest byte (AtWord began value) line next ∙ rw white (ap (λ n. in_front (WordToken began value ∷ []) (scan (drop 1 rest) 0 AtGap n)) (sym below))
    ∙ ap (in_front (WordToken began value ∷ [])) (sym gap)

-- a word is over before whitespace and at the end
pub scan-word_over : (rest : List ℕ) (line began : ℕ) (value : List ℕ) → is_over_or is_whitespace rest ≡ true
    → scan rest 0 (AtWord began value) line ≡ in_front (WordToken began value ∷ []) (scan rest 0 AtGap line)
scan-word_over [] line began value over = scan-word_end [] line began value refl
scan-word_over (byte ∷ rest) line began value over = scan-word_whitespace (byte ∷ rest) byte line began value refl over

pub over-whitespace : (rest : List ℕ) (byte : ℕ) → slice_get rest 0 ≡ Some byte → is_over_or is_whitespace rest ≡ is_whitespace byte
over-whitespace [] byte next = let no : ⊥ = cc in absurd no
over-whitespace (other ∷ rest) byte next = let same : other ≡ byte = cc in ap is_whitespace same

-- what is left behind two parts of a text is what was there, or shorter
pub shorter-twice : (old mid new : List ℕ) → (mid ≡ old) ⊎ (length mid < length old) → (new ≡ mid) ⊎ (length new < length mid) → (new ≡ old) ⊎ (length new < length old)
shorter-twice old mid new (inl same) (inl again) = inl (again ∙ same)
shorter-twice old mid new (inl same) (inr less) = inr (omega (arith, less, ap (λ (bytes : List ℕ). length bytes) same))
shorter-twice old mid new (inr less) (inl same) = inr (omega (arith, less, ap (λ (bytes : List ℕ). length bytes) same))
shorter-twice old mid new (inr less) (inr more) = inr (omega (arith, less, more))

-- what is left of a text that doesn't begin with whitespace is shorter, where a word is over
pub word-shorter : (old new : List ℕ) (byte : ℕ) → (new ≡ old) ⊎ (length new < length old) → is_over_or is_whitespace new ≡ true → slice_get old 0 ≡ Some byte → is_whitespace byte ≡ false
    → length new < length old
word-shorter old new byte (inl same) over next dark = absurd (true≢false (sym over ∙ ap (is_over_or is_whitespace) same ∙ over-whitespace old byte next ∙ dark))
word-shorter old new byte (inr less) over next dark = less

pub piece-quote : (rest : List ℕ) (line began : ℕ) (value : List ℕ) → after_step (scan rest) (word_step began value line 34 rest) ≡ scan rest 0 (AtQuotes began value line) line
piece-quote rest line began value = in_front-nil (scan rest 0 (AtQuotes began value line) line)

pub scan-quote : (rest after : List ℕ) (line below began : ℕ) (value : List ℕ) → slice_get rest 0 ≡ Some 34 → after ≡ drop 1 rest → below ≡ line_after line (take 1 rest)
    → scan rest 0 (AtWord began value) line ≡ scan after 0 (AtQuotes began value below) below
scan-quote rest after line below began value next is_after is_below = scan-piece rest after 34 line below began value next is_after is_below refl ∙ piece-quote after below began value

pub scan-escaped : (rest after : List ℕ) (line below began : ℕ) (value : List ℕ) → slice_get rest 0 ≡ Some 92 → after ≡ drop 1 rest → below ≡ line_after line (take 1 rest)
    → scan rest 0 (AtWord began value) line ≡ after_step (scan after) (escaped_step began value below after)
scan-escaped rest after line below began value next is_after is_below = scan-piece rest after 92 line below began value next is_after is_below refl

pub scan-word_nul : (rest : List ℕ) (line began : ℕ) (value : List ℕ) → slice_get rest 0 ≡ Some 0 → scan rest 0 (AtWord began value) line ≡ Err (Nul, line)
scan-word_nul rest line began value next = scan-next rest 0 (AtWord began value) line next

pub piece-plain : (rest : List ℕ) (byte line began : ℕ) (value : List ℕ) → is_whitespace byte ≡ false → byte ≢ 0 → byte ≢ 34 → byte ≢ 92
    → after_step (scan rest) (word_step began value line byte rest) ≡ scan rest 0 (AtWord began (value ++ byte ∷ [])) line
piece-plain rest byte line began value dark some no_quote no_backslash =
    let nul : (byte == 0) ≡ false = grind arith in
    let quote : (byte == 34) ≡ false = grind arith in
    let backslash : (byte == 92) ≡ false = grind arith in
    rw (dark, nul, quote, backslash) (in_front-nil (scan rest 0 (AtWord began (value ++ byte ∷ [])) line))

pub piece-escaped : (rest after : List ℕ) (byte line below began : ℕ) (value : List ℕ) → slice_get rest 0 ≡ Some byte → after ≡ drop 1 rest → below ≡ line_after line (take 1 rest)
    → byte ≢ 0 → after_step (scan rest) (escaped_step began value line rest) ≡ scan after 0 (AtWord began (value ++ byte ∷ [])) below
piece-escaped [] after byte line below began value next is_after is_below some = let no : ⊥ = cc in absurd no
piece-escaped (other ∷ rest) after byte line below began value next is_after is_below some =
    let same : other ≡ byte = cc in
    let nul : (other == 0) ≡ false = grind arith in
    let mode = AtWord began (value ++ other ∷ []) in
    rw nul (in_front-nil (scan (other ∷ rest) 1 mode (line_after line (other ∷ []))) ∙ scan-jump (other ∷ rest) 1 mode (line_after line (other ∷ []))
    ∙ ap (λ (bytes : List ℕ). scan bytes 0 mode (line_after line (other ∷ []))) (sym is_after)
    ∙ ap (scan after 0 mode) (sym is_below) ∙ ap (λ b. scan after 0 (AtWord began (value ++ b ∷ [])) below) same)

-- ---- in quotes

pub scan-unquote : (rest after : List ℕ) (line below began opened : ℕ) (value : List ℕ) → slice_get rest 0 ≡ Some 34 → after ≡ drop 1 rest → below ≡ line_after line (take 1 rest)
    → scan rest 0 (AtQuotes began value opened) line ≡ scan after 0 (AtWord began value) below
scan-unquote rest after line below began opened value next is_after is_below =
    goes_on rest after 34 line below (AtQuotes began value opened) (AtWord began value) next is_after is_below (ap (Go [] 0 (AtWord began value)) (omega arith))

pub scan-quotes_nul : (rest : List ℕ) (line below began opened : ℕ) (value : List ℕ) → slice_get rest 0 ≡ Some 0 → below ≡ line_after line (take 1 rest)
    → scan rest 0 (AtQuotes began value opened) line ≡ Err (Nul, below)
scan-quotes_nul rest line below began opened value next is_below =
    let same : line ≡ below = omega (arith, is_below ∙ ap (line_after line) (take-next rest 0 next)) in
    scan-next rest 0 (AtQuotes began value opened) line next ∙ ap (λ n. Err (Nul, n)) same

pub scan-bare : (rest after : List ℕ) (byte line below began opened : ℕ) (value : List ℕ) → slice_get rest 0 ≡ Some byte → after ≡ drop 1 rest → below ≡ line_after line (take 1 rest)
    → byte ≢ 0 → byte ≢ 34 → byte ≢ 92 → scan rest 0 (AtQuotes began value opened) line ≡ scan after 0 (AtQuotes began (value ++ byte ∷ []) opened) below
scan-bare rest after byte line below began opened value next is_after is_below some no_quote no_backslash =
    let nul : (byte == 0) ≡ false = grind arith in
    let quote : (byte == 34) ≡ false = grind arith in
    let backslash : (byte == 92) ≡ false = grind arith in
    goes_on rest after byte line below (AtQuotes began value opened) (AtQuotes began (value ++ byte ∷ []) opened) next is_after is_below (rw (nul, quote, backslash) refl)

pub scan-backslash : (rest after : List ℕ) (line below began opened : ℕ) (value : List ℕ) → slice_get rest 0 ≡ Some 92 → after ≡ drop 1 rest → below ≡ line_after line (take 1 rest)
    → scan rest 0 (AtQuotes began value opened) line ≡ after_step (scan after) (escape_step began value opened below (escape after))
scan-backslash rest after line below began opened value next is_after is_below =
    let at = taken rest after 92 line below (AtQuotes began value opened) next is_after is_below in
    let same : line ≡ below = omega (arith, at.1) in
    at.0 ∙ ap (λ n. after_step (scan after) (escape_step began value opened n (escape after))) same

pub scan-quotes_end : (rest : List ℕ) (line began opened : ℕ) (value : List ℕ) → slice_get rest 0 ≡ None → scan rest 0 (AtQuotes began value opened) line ≡ Err (OpenQuote, opened)
scan-quotes_end rest line began opened value end = scan-end rest (AtQuotes began value opened) line end

pub escape-meant : (rest after meant value : List ℕ) (line below began opened : ℕ) → EscapeRead (escape rest) meant rest after line below
    → after_step (scan rest) (escape_step began value opened line (escape rest)) ≡ scan after 0 (AtQuotes began (value ++ meant) opened) below
escape-meant rest after meant value line below began opened read =
    let jump = length (inner_text read.inner) - 1 in
    let mode = AtQuotes began (value ++ inner_value read.inner) opened in
    ap (λ answer. after_step (scan rest) (escape_step began value opened line answer)) read.is_answer
    ∙ in_front-nil (scan rest jump mode (line_after line (inner_text read.inner)))
    ∙ scan-jump rest jump mode (line_after line (inner_text read.inner))
    ∙ ap (λ (bytes : List ℕ). scan bytes 0 mode (line_after line (inner_text read.inner))) read.is_rest
    ∙ ap (scan after 0 mode) read.is_line
    ∙ ap (λ (bytes : List ℕ). scan after 0 (AtQuotes began (value ++ bytes) opened) below) read.is_meant

pub escape-fault : (rest value : List ℕ) (kind : LexKind) (line began opened : ℕ) → escape rest ≡ Err kind
    → after_step (scan rest) (escape_step began value opened line (escape rest)) ≡ Err (kind, line)
escape-fault rest value kind line began opened is = ap (λ answer. after_step (scan rest) (escape_step began value opened line answer)) is

-- ---- faults

-- a fault of what the scanner gives from a later place is one from an earlier
pub fault_along : (here there : Result (List Token) (LexKind × ℕ)) (fault : LexFault) → here ≡ there → IsFaultOf there fault → IsFaultOf here fault
fault_along here there fault same is = let P : Result (List Token) (LexKind × ℕ) → Type 0 = λ answer. IsFaultOf answer fault in subst P (sym same) is

pub fault_here : (here : Result (List Token) (LexKind × ℕ)) (kind : LexKind) (line : ℕ) (fault : LexFault) → fault ≡ record { kind = kind; line = line } → here ≡ Err (kind, line) → IsFaultOf here fault
fault_here here kind line fault is same = let P : LexFault → Type 0 = λ f. IsFaultOf here f in subst P (sym is) (inr same)

-- ---- modes by equal parts

pub same_word : (rest : List ℕ) (line began later : ℕ) (value more : List ℕ) → later ≡ began → more ≡ value → scan rest 0 (AtWord began value) line ≡ scan rest 0 (AtWord later more) line
same_word rest line began later value more is_began is_value = rw (is_began, is_value) refl

pub same_quotes : (rest : List ℕ) (line began later opened : ℕ) (value more : List ℕ) → later ≡ began → more ≡ value
    → scan rest 0 (AtQuotes began value opened) line ≡ scan rest 0 (AtQuotes later more opened) line
same_quotes rest line began later opened value more is_began is_value = rw (is_began, is_value) refl

pub faults_along : {T : Type 0} (result : Result T LexFault) (here there : Result (List Token) (LexKind × ℕ)) → here ≡ there → IfErr result (IsFaultOf there) → IfErr result (IsFaultOf here)
faults_along result here there same is = let P : Result (List Token) (LexKind × ℕ) → Type 0 = λ answer. IfErr result (IsFaultOf answer) in subst P (sym same) is

pub ok_along : {T : Type 0} (result : Result T LexFault) (here there end : Result (List Token) (LexKind × ℕ)) → here ≡ there → OnOk result (there ≡ end) → OnOk result (here ≡ end)
ok_along result here there end same is = let P : Result (List Token) (LexKind × ℕ) → Type 0 = λ answer. OnOk result (answer ≡ end) in subst P (sym same) is

pub token_along : (result : Result Token LexFault) (here there rest : Result (List Token) (LexKind × ℕ)) → here ≡ there
    → IfOk result (λ token. there ≡ in_front (token ∷ []) rest) → IfOk result (λ token. here ≡ in_front (token ∷ []) rest)
token_along result here there rest same is =
    let P : Result (List Token) (LexKind × ℕ) → Type 0 = λ answer. IfOk result (λ token. answer ≡ in_front (token ∷ []) rest) in subst P (sym same) is

pub fault_behind : (tokens : List Token) (answer : Result (List Token) (LexKind × ℕ)) (fault : LexFault) → IsFaultOf answer fault → IsFaultOf (in_front tokens answer) fault
fault_behind tokens answer fault (inl no_memory) = inl no_memory
fault_behind tokens answer fault (inr is) = inr (ap (in_front tokens) is)
