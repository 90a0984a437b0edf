-- Runs of ordinary bytes, and what the scanner makes of them.
use Rattle.std.proofs.Common.{◌≡◌, ◌≢◌, ℕ, ◌+◌, Bool, true, false, List, [], ◌∷◌, ◌++◌, refl, sym, ap, ◌∙◌, length, take, drop, arith, true≢false, append_assoc, append-nil, cond, if◌then◌else◌, ◌≤◌, ◌<◌, ◌⊎◌, inl, inr}
use Rattle.std.specs.Prelude.{slice_get, Some, not, ◌==◌}
use Rattle.std.specs.List.{list_all, prefix_len}
use Rattle.std.proofs.lemmas.List.{length-drop}
use Rattle.std.proofs.lemmas.List.Sums.{AllPass-from_list_all, prefix_len-le-length}
use Rattle.el_words.specs.Word.{HasNul}
use Rattle.el_lex.specs.declared.ordinary.Inside.{Inside}
use Rattle.el_lex.specs.declared.ordinary.Inside.TheVariants.{Comment, Word, Quotes}
use Rattle.el_lex.specs.Bytes.{is_one_of, is_whitespace}
use Rattle.el_lex.specs.Ordinary.{is_ordinary, ordinary_run}
use Rattle.el_lex.specs.Scan.{AtGap, AtComment, AtWord, AtQuotes, scan, line_after}
use Rattle.el_lex.proofs.Scans.{same_line, scan-comment, scan-comment_newline, scan-piece, piece-plain, scan-bare}
use Rattle.el_lex.proofs.Printed.{nor_parts, differs}

-- ---- runs

pub length_run : (inside : Inside) (bytes : List ℕ) → length (ordinary_run inside bytes) ≡ prefix_len (is_ordinary inside) bytes
length_run inside [] = refl
length_run inside (byte ∷ bytes) = by (is_ordinary inside byte) (length_run inside bytes)
  where
    by : (b : Bool) → length (ordinary_run inside bytes) ≡ prefix_len (is_ordinary inside) bytes
        → length (if b then byte ∷ ordinary_run inside bytes else []) ≡ cond b (1 + prefix_len (is_ordinary inside) bytes) 0
    by true later = omega (arith, later)
    by false later = refl

pub run_within : (inside : Inside) (bytes : List ℕ) → length (ordinary_run inside bytes) ≤ length bytes
run_within inside bytes = omega (arith, length_run inside bytes, prefix_len-le-length (is_ordinary inside) bytes)

pub take_run : (inside : Inside) (bytes : List ℕ) → take (length (ordinary_run inside bytes)) bytes ≡ ordinary_run inside bytes
take_run inside [] = refl
take_run inside (byte ∷ bytes) = by (is_ordinary inside byte) (take_run inside bytes)
  where
    by : (b : Bool) → take (length (ordinary_run inside bytes)) bytes ≡ ordinary_run inside bytes
        → take (length (if b then byte ∷ ordinary_run inside bytes else [])) (byte ∷ bytes) ≡ (if b then byte ∷ ordinary_run inside bytes else [])
    by true later = ap (λ (more : List ℕ). byte ∷ more) later
    by false later = refl

run_passes : (inside : Inside) (bytes : List ℕ) → list_all (is_ordinary inside) (ordinary_run inside bytes) ≡ true
run_passes inside [] = refl
run_passes inside (byte ∷ bytes) = by (is_ordinary inside byte) refl (run_passes inside bytes)
  where
    by : (b : Bool) → is_ordinary inside byte ≡ b → list_all (is_ordinary inside) (ordinary_run inside bytes) ≡ true
        → list_all (is_ordinary inside) (if b then byte ∷ ordinary_run inside bytes else []) ≡ true
    by true is later = rw is later
    by false is later = refl

nul_isnt : (inside : Inside) → is_ordinary inside 0 ≡ false
nul_isnt Comment = refl
nul_isnt Word = refl
nul_isnt Quotes = refl

pub run_no_nul : (inside : Inside) (bytes : List ℕ) → HasNul (ordinary_run inside bytes) → ⊥
run_no_nul inside bytes (k, less, is) =
    let passes = AllPass-from_list_all (is_ordinary inside) (ordinary_run inside bytes) (run_passes inside bytes) k 0 less in
    true≢false (sym passes ∙ ap (is_ordinary inside) is ∙ nul_isnt inside)

-- no ordinary byte stands behind a run
pub behind_run : (inside : Inside) (bytes : List ℕ) (byte : ℕ) → slice_get (drop (length (ordinary_run inside bytes)) bytes) 0 ≡ Some byte → is_ordinary inside byte ≡ false
behind_run inside [] byte next = let no : ⊥ = cc in absurd no
behind_run inside (other ∷ bytes) byte next = by (is_ordinary inside other) refl next (behind_run inside bytes byte)
  where
    by : (b : Bool) → is_ordinary inside other ≡ b → slice_get (drop (length (if b then other ∷ ordinary_run inside bytes else [])) (other ∷ bytes)) 0 ≡ Some byte
        → (slice_get (drop (length (ordinary_run inside bytes)) bytes) 0 ≡ Some byte → is_ordinary inside byte ≡ false) → is_ordinary inside byte ≡ false
    by true is here later = later here
    by false is here later = let same : other ≡ byte = cc in ap (is_ordinary inside) (sym same) ∙ is

-- what no word ends before, and what begins no other piece
pub plain : (byte : ℕ) → is_whitespace byte ≡ false → byte ≢ 0 → byte ≢ 34 → byte ≢ 92 → is_ordinary Word byte ≡ true
plain byte dark some no_quote no_backslash =
    let nul : (0 == byte) ≡ false = grind arith in
    let quote : (34 == byte) ≡ false = grind arith in
    let backslash : (92 == byte) ≡ false = grind arith in
    rw (nul, quote, backslash, dark) refl

-- a run with a first byte makes what is left shorter
pub behind-shorter : (inside : Inside) (rest after : List ℕ) (byte : ℕ) → after ≡ drop (length (ordinary_run inside rest)) rest → slice_get rest 0 ≡ Some byte → is_ordinary inside byte ≡ true
    → length after < length rest
behind-shorter inside [] after byte is_after next is = let no : ⊥ = cc in absurd no
behind-shorter inside (other ∷ rest) after byte is_after next is =
    let same : other ≡ byte = cc in
    let first : ordinary_run inside (other ∷ rest) ≡ other ∷ ordinary_run inside rest = rw (ap (is_ordinary inside) same ∙ is) refl in
    let left : after ≡ drop (length (ordinary_run inside rest)) rest = is_after ∙ ap (λ (bytes : List ℕ). drop (length bytes) (other ∷ rest)) first in
    omega (arith, ap (λ (bytes : List ℕ). length bytes) left ∙ length-drop (length (ordinary_run inside rest)) rest)

-- what is left behind a run is what was there, or shorter
pub left-behind : (inside : Inside) (rest after : List ℕ) → after ≡ drop (length (ordinary_run inside rest)) rest → (after ≡ rest) ⊎ (length after < length rest)
left-behind inside [] after is_after = inl is_after
left-behind inside (byte ∷ rest) after is_after = by (is_ordinary inside byte) refl
  where
    by : (b : Bool) → is_ordinary inside byte ≡ b → (after ≡ byte ∷ rest) ⊎ (length after < length (byte ∷ rest))
    by true is = inr (behind-shorter inside (byte ∷ rest) after byte is_after refl is)
    by false is =
        let none : ordinary_run inside (byte ∷ rest) ≡ [] = rw is refl in
        inl (is_after ∙ ap (λ (bytes : List ℕ). drop (length bytes) (byte ∷ rest)) none)

-- ---- the scanner goes on behind a run

same_below : (line byte : ℕ) → byte ≢ 10 → line ≡ line_after line (byte ∷ [])
same_below line byte other = sym (same_line line byte other)

pub comment_run : (rest : List ℕ) (line : ℕ) → scan rest 0 AtComment line ≡ scan (drop (length (ordinary_run Comment rest)) rest) 0 AtComment line
comment_run [] line = refl
comment_run (byte ∷ rest) line = by (is_ordinary Comment byte) refl (comment_run rest line)
  where
    by : (b : Bool) → is_ordinary Comment byte ≡ b → scan rest 0 AtComment line ≡ scan (drop (length (ordinary_run Comment rest)) rest) 0 AtComment line
        → scan (byte ∷ rest) 0 AtComment line ≡ scan (drop (length (if b then byte ∷ ordinary_run Comment rest else [])) (byte ∷ rest)) 0 AtComment line
    by true is later =
        let other = differs (is_ordinary Comment) byte 10 is refl in
        scan-comment (byte ∷ rest) rest byte line line refl refl (same_below line byte other) (differs (is_ordinary Comment) byte 0 is refl) other ∙ later
    by false is later = refl

pub word_run : (rest : List ℕ) (line began : ℕ) (value : List ℕ)
    → scan rest 0 (AtWord began value) line ≡ scan (drop (length (ordinary_run Word rest)) rest) 0 (AtWord began (value ++ ordinary_run Word rest)) line
word_run [] line began value = ap (λ (bytes : List ℕ). scan [] 0 (AtWord began bytes) line) (sym (append-nil value))
word_run (byte ∷ rest) line began value = by (is_ordinary Word byte) refl (word_run rest line began (value ++ byte ∷ []))
  where
    is_bare : ℕ → Bool
    is_bare other = not (is_one_of (0 ∷ 34 ∷ 92 ∷ []) other)

    by : (b : Bool) → is_ordinary Word byte ≡ b
        → scan rest 0 (AtWord began (value ++ byte ∷ [])) line ≡ scan (drop (length (ordinary_run Word rest)) rest) 0 (AtWord began ((value ++ byte ∷ []) ++ ordinary_run Word rest)) line
        → scan (byte ∷ rest) 0 (AtWord began value) line
        ≡ scan (drop (length (if b then byte ∷ ordinary_run Word rest else [])) (byte ∷ rest)) 0 (AtWord began (value ++ (if b then byte ∷ ordinary_run Word rest else []))) line
    by true is later =
        let parts = nor_parts (is_one_of (0 ∷ 34 ∷ 92 ∷ []) byte) (is_whitespace byte) is in
        scan-piece (byte ∷ rest) rest byte line line began value refl refl (same_below line byte (differs (is_ordinary Word) byte 10 is refl)) parts.1
        ∙ piece-plain rest byte line began value parts.1 (differs (is_ordinary Word) byte 0 is refl) (differs (is_ordinary Word) byte 34 is refl) (differs (is_ordinary Word) byte 92 is refl)
        ∙ later
        ∙ ap (λ (bytes : List ℕ). scan (drop (length (ordinary_run Word rest)) rest) 0 (AtWord began bytes) line) (append_assoc value (byte ∷ []) (ordinary_run Word rest))
    by false is later = ap (λ (bytes : List ℕ). scan (byte ∷ rest) 0 (AtWord began bytes) line) (sym (append-nil value))

pub quotes_run : (rest : List ℕ) (line began opened : ℕ) (value : List ℕ)
    → scan rest 0 (AtQuotes began value opened) line ≡ scan (drop (length (ordinary_run Quotes rest)) rest) 0 (AtQuotes began (value ++ ordinary_run Quotes rest) opened) line
quotes_run [] line began opened value = ap (λ (bytes : List ℕ). scan [] 0 (AtQuotes began bytes opened) line) (sym (append-nil value))
quotes_run (byte ∷ rest) line began opened value = by (is_ordinary Quotes byte) refl (quotes_run rest line began opened (value ++ byte ∷ []))
  where
    by : (b : Bool) → is_ordinary Quotes byte ≡ b
        → scan rest 0 (AtQuotes began (value ++ byte ∷ []) opened) line
        ≡ scan (drop (length (ordinary_run Quotes rest)) rest) 0 (AtQuotes began ((value ++ byte ∷ []) ++ ordinary_run Quotes rest) opened) line
        → scan (byte ∷ rest) 0 (AtQuotes began value opened) line
        ≡ scan (drop (length (if b then byte ∷ ordinary_run Quotes rest else [])) (byte ∷ rest)) 0 (AtQuotes began (value ++ (if b then byte ∷ ordinary_run Quotes rest else [])) opened) line
    by true is later =
        scan-bare (byte ∷ rest) rest byte line line began opened value refl refl (same_below line byte (differs (is_ordinary Quotes) byte 10 is refl))
        (differs (is_ordinary Quotes) byte 0 is refl) (differs (is_ordinary Quotes) byte 34 is refl) (differs (is_ordinary Quotes) byte 92 is refl)
        ∙ later
        ∙ ap (λ (bytes : List ℕ). scan (drop (length (ordinary_run Quotes rest)) rest) 0 (AtQuotes began bytes opened) line) (append_assoc value (byte ∷ []) (ordinary_run Quotes rest))
    by false is later = ap (λ (bytes : List ℕ). scan (byte ∷ rest) 0 (AtQuotes began bytes opened) line) (sym (append-nil value))

-- ---- the same with what a cursor and a draft hold behind it

pub comment-ordinary : (rest after : List ℕ) (line below : ℕ) → after ≡ drop (length (ordinary_run Comment rest)) rest → below ≡ line
    → scan rest 0 AtComment line ≡ scan after 0 AtComment below
comment-ordinary rest after line below is_after is_below = comment_run rest line ∙ rw (is_after, is_below) refl

pub word-ordinary : (rest after run value more : List ℕ) (line below began later : ℕ) → run ≡ ordinary_run Word rest → after ≡ drop (length (ordinary_run Word rest)) rest → below ≡ line
    → later ≡ began → more ≡ value ++ run → scan rest 0 (AtWord began value) line ≡ scan after 0 (AtWord later more) below
word-ordinary rest after run value more line below began later is_run is_after is_below is_began is_more =
    word_run rest line began value ∙ rw (is_after, is_below, is_began, is_more, is_run) refl

pub quotes-ordinary : (rest after run value more : List ℕ) (line below began later opened : ℕ) → run ≡ ordinary_run Quotes rest → after ≡ drop (length (ordinary_run Quotes rest)) rest → below ≡ line
    → later ≡ began → more ≡ value ++ run → scan rest 0 (AtQuotes began value opened) line ≡ scan after 0 (AtQuotes later more opened) below
quotes-ordinary rest after run value more line below began later opened is_run is_after is_below is_began is_more =
    quotes_run rest line began opened value ∙ rw (is_after, is_below, is_began, is_more, is_run) refl

newline : (byte : ℕ) → byte ≢ 0 → is_ordinary Comment byte ≡ false → byte ≡ 10
newline byte some isnt = by (10 == byte) refl
  where
    by : (b : Bool) → (10 == byte) ≡ b → byte ≡ 10
    by true is = grind arith
    by false is =
        let no_nul : (0 == byte) ≡ false = grind arith in
        let is_ordinary_here : is_ordinary Comment byte ≡ true = rw (no_nul, is) refl in
        absurd (true≢false (sym is_ordinary_here ∙ isnt))

-- a comment is over before a newline and at the end
pub comment-over : (rest after : List ℕ) (byte line below : ℕ) → after ≡ drop (length (ordinary_run Comment rest)) rest → below ≡ line → slice_get after 0 ≡ Some byte → byte ≢ 0
    → scan rest 0 AtComment line ≡ scan after 0 AtGap below
comment-over rest after byte line below is_after is_below next some =
    let here : slice_get (drop (length (ordinary_run Comment rest)) rest) 0 ≡ Some byte = ap (λ (bytes : List ℕ). slice_get bytes 0) (sym is_after) ∙ next in
    let is_newline = newline byte some (behind_run Comment rest byte here) in
    comment-ordinary rest after line below is_after is_below ∙ scan-comment_newline after below (next ∙ ap Some is_newline)
