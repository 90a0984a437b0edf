-- A kept layout reads as its items.
use Rattle.std.proofs.Common.{◌≡◌, ℕ, suc, ◌+◌, Bool, true, false, List, [], ◌∷◌, ◌++◌, refl, sym, ap, ◌∙◌, append_assoc, append-nil, if◌then◌else◌}
use Rattle.std.specs.Prelude.{◌==◌}
use Rattle.std.proofs.lemmas.Bool.{and_parts}
use Rattle.el_lex.specs.Bytes.{is_whitespace, is_over_or, begins_with}
use Rattle.el_lex.specs.Pieces.{pieces_text, fit_pieces}
use Rattle.el_lex.specs.Reading.{Item, Blank, Comment, Wordly, text, fits_item, fit, is_comment}
use Rattle.el_keep.specs.declared.seam.Seam.{Seam}
use Rattle.el_keep.specs.declared.seam.Seam.TheVariants.{Top, Within, Below}
use Rattle.el_keep.specs.declared.seam.Follow.{Follow}
use Rattle.el_keep.specs.declared.seam.Follow.TheVariants.{Word, Close, End}
use Rattle.el_keep.specs.declared.distance.Distance.{Distance}
use Rattle.el_keep.specs.declared.distance.Distance.TheVariants.{SameLine, BehindComment, NextLine, BlankLine}
use Rattle.el_keep.specs.Seams.{over_all, behind_word, follow_of, further, spaces, indent_of, comment_indent, broken, line_start, lead, last}
use Rattle.el_keep.specs.Kept.{blanks, gap_layout, past_word, kept_from}
use Rattle.el_keep.proofs.Words.{fit-parts, past_word-fits}
use Rattle.el_keep.proofs.Again.{IsApart, apart-further}

abbrev pub is_newline : ℕ → Bool
is_newline byte = byte == 10

-- an item with what is behind it fits, where it fits before these items and they do
pub fit-front : (item : Item) (items : List Item) → fits_item item (text items) ≡ true → fit items [] ≡ true → fit (item ∷ items) [] ≡ true
fit-front item items here behind = rw (ap (fits_item item) (append-nil (text items)) ∙ here, behind) refl

-- ---- whitespace

-- each byte is whitespace
abbrev AllWhite : List ℕ → Type 0
AllWhite [] = Unit {0}
AllWhite (byte ∷ bytes) = (is_whitespace byte ≡ true) × AllWhite bytes

white-spaces : (count : ℕ) → AllWhite (spaces count)
white-spaces Prim.Native.Nat.zero = tt
white-spaces (suc count) = (refl, white-spaces count)

white-line : (distance : Distance) (indent : ℕ) → AllWhite (line_start distance indent)
white-line BlankLine indent = (refl, (refl, white-spaces indent))
white-line SameLine indent = (refl, white-spaces indent)
white-line BehindComment indent = (refl, white-spaces indent)
white-line NextLine indent = (refl, white-spaces indent)

white-lead : (seam : Seam) (follow : Follow) (distance : Distance) → AllWhite (lead seam follow distance)
white-lead Top follow distance = tt
white-lead (Within indent) follow SameLine = (refl, tt)
white-lead (Within indent) follow BehindComment = white-line BehindComment (comment_indent (Within indent) follow)
white-lead (Within indent) follow NextLine = white-line NextLine (comment_indent (Within indent) follow)
white-lead (Within indent) follow BlankLine = white-line BlankLine (comment_indent (Within indent) follow)
white-lead (Below indent) follow SameLine = (refl, tt)
white-lead (Below indent) follow BehindComment = white-line BehindComment (comment_indent (Below indent) follow)
white-lead (Below indent) follow NextLine = white-line NextLine (comment_indent (Below indent) follow)
white-lead (Below indent) follow BlankLine = white-line BlankLine (comment_indent (Below indent) follow)

white-last : (seam : Seam) (follow : Follow) (distance : Distance) → AllWhite (last seam follow distance)
white-last Top follow distance = tt
white-last (Within indent) Word distance = (refl, tt)
white-last (Within indent) Close distance = (refl, tt)
white-last (Within indent) End distance = (refl, tt)
white-last (Below indent) Word distance = white-line distance indent
white-last (Below indent) Close distance = white-line distance indent
white-last (Below indent) End distance = (refl, tt)

fit-led : (bytes : List ℕ) (items : List Item) → AllWhite bytes → fit items [] ≡ true → fit (blanks bytes ++ items) [] ≡ true
fit-led [] items white fits = fits
fit-led (byte ∷ bytes) items white fits = fit-front (Blank byte) (blanks bytes ++ items) white.0 (fit-led bytes items white.1 fits)

-- ---- behind a comment a newline stands

newline-line : (distance : Distance) (indent : ℕ) (behind : List Item) → begins_with is_newline (text (blanks (line_start distance indent) ++ behind)) ≡ true
newline-line BlankLine indent behind = refl
newline-line SameLine indent behind = refl
newline-line BehindComment indent behind = refl
newline-line NextLine indent behind = refl

newline-last : (indent : ℕ) (follow : Follow) (distance : Distance) (behind : List Item) → begins_with is_newline (text (blanks (last (Below indent) follow distance) ++ behind)) ≡ true
newline-last indent Word distance behind = newline-line distance indent behind
newline-last indent Close distance behind = newline-line distance indent behind
newline-last indent End distance behind = refl

newline-lead : (indent : ℕ) (follow : Follow) (distance : Distance) (behind : List Item) → IsApart distance → begins_with is_newline (text (blanks (lead (Below indent) follow distance) ++ behind)) ≡ true
newline-lead indent follow SameLine behind apart = absurd apart
newline-lead indent follow BehindComment behind apart = newline-line BehindComment (comment_indent (Below indent) follow) behind
newline-lead indent follow NextLine behind apart = newline-line NextLine (comment_indent (Below indent) follow) behind
newline-lead indent follow BlankLine behind apart = newline-line BlankLine (comment_indent (Below indent) follow) behind

pub newline-gap : (indent : ℕ) (follow : Follow) (distance : Distance) (script behind : List Item) → IsApart distance → begins_with is_newline (text (gap_layout (Below indent) follow distance script ++ behind)) ≡ true
newline-gap indent follow distance [] behind apart = newline-last indent follow distance behind
newline-gap indent follow distance (Blank byte ∷ script) behind apart = newline-gap indent follow (further distance byte) script behind (apart-further distance byte apart)
newline-gap indent follow distance (Comment bytes ∷ script) behind apart =
    let gap = gap_layout (Below indent) follow BehindComment script in
    ap (λ (items : List Item). begins_with is_newline (text items)) (append_assoc (blanks (lead (Below indent) follow distance)) (Comment bytes ∷ gap) behind)
    ∙ newline-lead indent follow distance (Comment bytes ∷ (gap ++ behind)) apart
newline-gap indent follow distance (Wordly piece pieces ∷ script) behind apart = newline-last indent follow distance behind

begins-over : (test : ℕ → Bool) (bytes : List ℕ) → begins_with test bytes ≡ true → is_over_or test bytes ≡ true
begins-over test [] begins = refl
begins-over test (byte ∷ bytes) begins = begins

-- ---- behind a word whitespace stands, or nothing

-- something stands before
abbrev NotTop : Seam → Type 0
NotTop Top = ⊥
NotTop _ = Unit {0}

either : (b : Bool) (one other : Seam) (gap : List ℕ) → NotTop (over_all one gap) → NotTop (over_all other gap) → NotTop (over_all (if b then one else other) gap)
either true one other gap here there = here
either false one other gap here there = there

top-over : (seam : Seam) (gap : List ℕ) → NotTop seam → NotTop (over_all seam gap)
top-over seam [] some = some
top-over Top (byte ∷ gap) some = absurd some
top-over (Within indent) (byte ∷ gap) some = either (byte == 10) (Below 0) (Within indent) gap (top-over (Below 0) gap tt) (top-over (Within indent) gap tt)
top-over (Below indent) (byte ∷ gap) some = either (byte == 10) (Below 0) (Below (indent + 1)) gap (top-over (Below 0) gap tt) (top-over (Below (indent + 1)) gap tt)

begins-line : (distance : Distance) (indent : ℕ) (behind : List Item) → is_over_or is_whitespace (text (blanks (line_start distance indent) ++ behind)) ≡ true
begins-line BlankLine indent behind = refl
begins-line SameLine indent behind = refl
begins-line BehindComment indent behind = refl
begins-line NextLine indent behind = refl

begins-lead : (seam : Seam) (follow : Follow) (distance : Distance) (behind : List Item) → NotTop seam → is_over_or is_whitespace (text (blanks (lead seam follow distance) ++ behind)) ≡ true
begins-lead Top follow distance behind some = absurd some
begins-lead (Within indent) follow SameLine behind some = refl
begins-lead (Within indent) follow BehindComment behind some = refl
begins-lead (Within indent) follow NextLine behind some = refl
begins-lead (Within indent) follow BlankLine behind some = refl
begins-lead (Below indent) follow SameLine behind some = refl
begins-lead (Below indent) follow BehindComment behind some = refl
begins-lead (Below indent) follow NextLine behind some = refl
begins-lead (Below indent) follow BlankLine behind some = refl

begins-last : (seam : Seam) (follow : Follow) (distance : Distance) (behind : List Item) → NotTop seam → is_over_or is_whitespace (text (blanks (last seam follow distance) ++ behind)) ≡ true
begins-last Top follow distance behind some = absurd some
begins-last (Within indent) Word distance behind some = refl
begins-last (Within indent) Close distance behind some = refl
begins-last (Within indent) End distance behind some = refl
begins-last (Below indent) Word distance behind some = begins-line distance indent behind
begins-last (Below indent) Close distance behind some = begins-line distance indent behind
begins-last (Below indent) End distance behind some = refl

begins-gap : (seam : Seam) (follow : Follow) (distance : Distance) (script behind : List Item) → NotTop seam → is_over_or is_whitespace (text (gap_layout seam follow distance script ++ behind)) ≡ true
begins-gap seam follow distance [] behind some = begins-last seam follow distance behind some
begins-gap seam follow distance (Blank byte ∷ script) behind some = begins-gap seam follow (further distance byte) script behind some
begins-gap seam follow distance (Comment bytes ∷ script) behind some =
    let gap = gap_layout (broken seam) follow BehindComment script in
    ap (λ (items : List Item). is_over_or is_whitespace (text items)) (append_assoc (blanks (lead seam follow distance)) (Comment bytes ∷ gap) behind)
    ∙ begins-lead seam follow distance (Comment bytes ∷ (gap ++ behind)) some
begins-gap seam follow distance (Wordly piece pieces ∷ script) behind some = begins-last seam follow distance behind some

begins-kept : (seam : Seam) (layout script : List Item) → NotTop seam → is_over_or is_whitespace (text (kept_from seam layout script)) ≡ true
begins-kept seam [] script some =
    ap (λ (items : List Item). is_over_or is_whitespace (text items)) (sym (append-nil (gap_layout seam End SameLine script))) ∙ begins-gap seam End SameLine script [] some
begins-kept seam (Blank byte ∷ layout) script some = begins-kept (over_all seam (byte ∷ [])) layout script (top-over seam (byte ∷ []) some)
begins-kept seam (Comment bytes ∷ layout) script some = begins-kept (over_all seam (35 ∷ bytes)) layout script (top-over seam (35 ∷ bytes) some)
begins-kept seam (Wordly piece pieces ∷ layout) script some =
    begins-gap seam (follow_of (pieces_text (piece ∷ pieces))) SameLine script (Wordly piece pieces ∷ kept_from (behind_word seam) layout (past_word script)) some

some-behind : (seam : Seam) → NotTop (behind_word seam)
some-behind Top = tt
some-behind (Within indent) = tt
some-behind (Below indent) = tt

-- ---- layouts

fit-gap : (seam : Seam) (follow : Follow) (distance : Distance) (script behind : List Item) → fit script [] ≡ true → fit behind [] ≡ true → fit (gap_layout seam follow distance script ++ behind) [] ≡ true
fit-gap seam follow distance [] behind fits behind_fits = fit-led (last seam follow distance) behind (white-last seam follow distance) behind_fits
fit-gap seam follow distance (Blank byte ∷ script) behind fits behind_fits = fit-gap seam follow (further distance byte) script behind (fit-parts (Blank byte) script fits).1 behind_fits
fit-gap seam follow distance (Comment bytes ∷ script) behind fits behind_fits =
    let gap = gap_layout (broken seam) follow BehindComment script in
    let parts = fit-parts (Comment bytes) script fits in
    let is = and_parts (is_comment bytes) (is_over_or is_newline (text script)) parts.0 in
    let over = begins-over is_newline (text (gap ++ behind)) (newline-gap (indent_of seam) follow BehindComment script behind tt) in
    let here : fits_item (Comment bytes) (text (gap ++ behind)) ≡ true = rw (is.0, over) refl in
    ap (λ (items : List Item). fit items []) (append_assoc (blanks (lead seam follow distance)) (Comment bytes ∷ gap) behind)
    ∙ fit-led (lead seam follow distance) (Comment bytes ∷ (gap ++ behind)) (white-lead seam follow distance)
    (fit-front (Comment bytes) (gap ++ behind) here (fit-gap (broken seam) follow BehindComment script behind parts.1 behind_fits))
fit-gap seam follow distance (Wordly piece pieces ∷ script) behind fits behind_fits = fit-led (last seam follow distance) behind (white-last seam follow distance) behind_fits

pub kept-fits : (seam : Seam) (layout script : List Item) → fit layout [] ≡ true → fit script [] ≡ true → fit (kept_from seam layout script) [] ≡ true
kept-fits seam [] script fits script_fits =
    ap (λ (items : List Item). fit items []) (sym (append-nil (gap_layout seam End SameLine script))) ∙ fit-gap seam End SameLine script [] script_fits refl
kept-fits seam (Blank byte ∷ layout) script fits script_fits = kept-fits (over_all seam (byte ∷ [])) layout script (fit-parts (Blank byte) layout fits).1 script_fits
kept-fits seam (Comment bytes ∷ layout) script fits script_fits = kept-fits (over_all seam (35 ∷ bytes)) layout script (fit-parts (Comment bytes) layout fits).1 script_fits
kept-fits seam (Wordly piece pieces ∷ layout) script fits script_fits =
    let behind = kept_from (behind_word seam) layout (past_word script) in
    let parts = fit-parts (Wordly piece pieces) layout fits in
    let is = and_parts (fit_pieces (piece ∷ pieces)) (is_over_or is_whitespace (text layout)) parts.0 in
    let over = begins-kept (behind_word seam) layout (past_word script) (some-behind seam) in
    let here : fits_item (Wordly piece pieces) (text behind) ≡ true = rw (is.0, over) refl in
    fit-gap seam (follow_of (pieces_text (piece ∷ pieces))) SameLine script (Wordly piece pieces ∷ behind) script_fits
    (fit-front (Wordly piece pieces) behind here (kept-fits (behind_word seam) layout (past_word script) parts.1 (past_word-fits script script_fits)))
