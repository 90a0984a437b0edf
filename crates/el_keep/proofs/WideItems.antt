-- The script with the words of a wider layout, by its items.
use Rattle.std.proofs.Common.{◌≡◌, ℕ, suc, ◌+◌, Bool, true, false, List, [], ◌∷◌, ◌++◌, refl, sym, ap, ap₂, ◌∙◌, arith, append-nil, true≢false, drop, take}
use Rattle.std.specs.Prelude.{◌==◌, ◌||◌}
use Rattle.std.proofs.lemmas.Bool.{and_parts}
use Rattle.el_lex.specs.Bytes.{is_whitespace, is_over_or}
use Rattle.el_lex.specs.Pieces.{Piece, Plain, Escaped, Quoted, pieces_text, fit_pieces}
use Rattle.el_lex.specs.Reading.{Item, Blank, Comment, Wordly, text, fits_item, fit, is_comment, newlines_in, token_of, tokens_from}
use Rattle.el_blocks.specs.Tokens.{TokenShape, shape_of, shapes_of}
use Rattle.el_keep.specs.declared.seam.Seam.{Seam}
use Rattle.el_keep.specs.declared.seam.Follow.{Follow}
use Rattle.el_keep.specs.declared.seam.Follow.TheVariants.{End}
use Rattle.el_keep.specs.declared.distance.Distance.{Distance}
use Rattle.el_keep.specs.declared.distance.Distance.TheVariants.{SameLine, BehindComment}
use Rattle.el_keep.specs.Seams.{over_all, behind_word, follow_of, further, broken, lead, last}
use Rattle.el_keep.specs.Kept.{blanks, gap_layout, past_word, kept_from}
use Rattle.el_keep.specs.Comments.{comments_from, comments_of}
use Rattle.el_keep.specs.Widened.{before_word, has_break, is_added, gap_at, left_at, widened_from, comments_at, comments_left, spread_from, count_words, count_at, count_own}
use Rattle.el_keep.proofs.Words.{fit-parts, past_word-fits, from_word}
use Rattle.el_keep.proofs.Tokens.{shapes-line}
use Rattle.el_keep.proofs.Comments.{first_comments, comments-parted}
use Rattle.el_keep.proofs.Fits.{fit-front}
use Rattle.el_keep.proofs.OneReading.{not_both, word-begins}

-- ---- whether a word is added

pub or-parts : (one other more : Bool) → ((one || other) || more) ≡ (one || (other || more))
or-parts true other more = refl
or-parts false other more = refl

pub or-none : (one : Bool) → (one || false) ≡ one
or-none true = refl
or-none false = refl

none-added : (breaks : Bool) → is_added breaks breaks ≡ false
none-added true = refl
none-added false = refl

-- ---- tokens

-- what stands before a word has no tokens
shapes-before : (script behind : List Item) (line : ℕ) → shapes_of (tokens_from line (before_word script ++ behind)) ≡ shapes_of (tokens_from line behind)
shapes-before [] behind line = refl
shapes-before (Blank byte ∷ script) behind line = shapes-before script behind (line + newlines_in (byte ∷ [])) ∙ shapes-line behind (line + newlines_in (byte ∷ [])) line
shapes-before (Comment bytes ∷ script) behind line = shapes-before script behind line
shapes-before (Wordly piece pieces ∷ script) behind line = refl

shapes-at : (added : Bool) (script behind : List Item) (line : ℕ) → shapes_of (tokens_from line (gap_at added script ++ behind)) ≡ shapes_of (tokens_from line behind)
shapes-at true script behind line = shapes-line behind (line + newlines_in (32 ∷ [])) line
shapes-at false script behind line = shapes-before script behind line

pub widened-tokens : (breaks : Bool) (plain layout script : List Item) (line : ℕ) → shapes_of (tokens_from line (widened_from breaks plain layout script)) ≡ shapes_of (tokens_from line layout)
widened-tokens breaks plain [] script line = ap (λ (items : List Item). shapes_of (tokens_from line items)) (sym (append-nil (before_word script))) ∙ shapes-before script [] line
widened-tokens breaks plain (Blank byte ∷ layout) script line =
    widened-tokens (breaks || (byte == 10)) plain layout script line ∙ shapes-line layout line (line + newlines_in (byte ∷ []))
widened-tokens breaks plain (Comment bytes ∷ layout) script line = widened-tokens breaks plain layout script line
widened-tokens breaks plain (Wordly piece pieces ∷ layout) script line =
    let added = is_added (has_break plain) breaks in
    let behind = widened_from false (left_at added plain) layout (left_at added script) in
    let below = line + newlines_in (pieces_text (piece ∷ pieces)) in
    shapes-at added script (Wordly piece pieces ∷ behind) line
    ∙ ap (λ (shapes : List TokenShape). shape_of (token_of line piece pieces) ∷ shapes) (widened-tokens false (left_at added plain) layout (left_at added script) below)

-- ---- comments

comments-before : (before : List (List ℕ)) (script : List Item) (piece : Piece) (pieces : List Piece) (behind : List Item)
    → comments_from before (before_word script ++ (Wordly piece pieces ∷ behind)) ≡ first_comments before script ∷ comments_of behind
comments-before before [] piece pieces behind = refl
comments-before before (Blank byte ∷ script) piece pieces behind = comments-before before script piece pieces behind
comments-before before (Comment bytes ∷ script) piece pieces behind = comments-before (before ++ bytes ∷ []) script piece pieces behind
comments-before before (Wordly first others ∷ script) piece pieces behind = refl

-- where no word is left, all of the script stands before it
pub all-before : (script : List Item) → count_words script ≡ 0 → before_word script ≡ script
all-before [] none = refl
all-before (Blank byte ∷ script) none = ap (λ (items : List Item). Blank byte ∷ items) (all-before script none)
all-before (Comment bytes ∷ script) none = ap (λ (items : List Item). Comment bytes ∷ items) (all-before script none)
all-before (Wordly piece pieces ∷ script) none = let no : ⊥ = omega (arith, none) in absurd no

pub widened-comments : (breaks : Bool) (plain layout script : List Item) → count_own breaks plain layout ≡ count_words script
    → comments_of (widened_from breaks plain layout script) ≡ spread_from breaks plain layout (comments_of script)
widened-comments breaks plain [] script same = ap comments_of (all-before script (sym same))
widened-comments breaks plain (Blank byte ∷ layout) script same = widened-comments (breaks || (byte == 10)) plain layout script same
widened-comments breaks plain (Comment bytes ∷ layout) script same = widened-comments breaks plain layout script same
widened-comments breaks plain (Wordly piece pieces ∷ layout) script same = by (is_added (has_break plain) breaks) same
    (λ added left. widened-comments false (left_at added plain) layout (left_at added script) left)
  where
    by : (added : Bool) → count_at added (count_own false (left_at added plain) layout) ≡ count_words script
        → ((now : Bool) → count_own false (left_at now plain) layout ≡ count_words (left_at now script)
        → comments_of (widened_from false (left_at now plain) layout (left_at now script)) ≡ spread_from false (left_at now plain) layout (comments_of (left_at now script)))
        → comments_of (gap_at added script ++ (Wordly piece pieces ∷ widened_from false (left_at added plain) layout (left_at added script)))
        ≡ comments_at added (comments_of script) ++ spread_from false (left_at added plain) layout (comments_left added (comments_of script))
    by true is later = ap (λ (more : List (List (List ℕ))). [] ∷ more) (later true is)
    by false is later =
        let parted = comments-parted [] script (count_own false (past_word plain) layout) (sym is) in
        comments-before [] script piece pieces (widened_from false (past_word plain) layout (past_word script))
        ∙ ap (λ (more : List (List (List ℕ))). first_comments [] script ∷ more) (later false (sym parted.1))
        ∙ ap (λ (all : List (List (List ℕ))). take 1 all ++ spread_from false (past_word plain) layout (drop 1 all)) (sym parted.0)

-- ---- its items fit

-- what may stand behind a word stands there still
over-before : (test : ℕ → Bool) → ((byte : ℕ) → test byte ≡ true → is_whitespace byte ≡ true) → (script behind : List Item) (count : ℕ)
    → fit script [] ≡ true → count_words script ≡ suc count → is_over_or test (text script) ≡ true → is_over_or test (text (before_word script ++ behind)) ≡ true
over-before test white [] behind count fits some over = let no : ⊥ = omega (arith, some) in absurd no
over-before test white (Blank byte ∷ script) behind count fits some over = over
over-before test white (Comment bytes ∷ script) behind count fits some over = absurd (true≢false (sym (white 35 over)))
over-before test white (Wordly (Plain byte) pieces ∷ script) behind count fits some over =
    let parts = fit-parts (Wordly (Plain byte) pieces) script fits in
    let is = and_parts (fit_pieces (Plain byte ∷ pieces)) (is_over_or is_whitespace (text script)) parts.0 in
    absurd (not_both byte (white byte over) (word-begins (Plain byte) pieces (text script) (pieces_text pieces ++ text script) byte is.0 refl))
over-before test white (Wordly (Escaped byte) pieces ∷ script) behind count fits some over = absurd (true≢false (sym (white 92 over)))
over-before test white (Wordly (Quoted inners) pieces ∷ script) behind count fits some over = absurd (true≢false (sym (white 34 over)))

pub newline-white : (byte : ℕ) → (byte == 10) ≡ true → is_whitespace byte ≡ true
newline-white byte is = let same : 10 ≡ byte = grind (arith, is) in rw (sym same) refl

fit-before : (script behind : List Item) (count : ℕ) → fit script [] ≡ true → count_words script ≡ suc count → fit behind [] ≡ true → fit (before_word script ++ behind) [] ≡ true
fit-before [] behind count fits some behind_fits = let no : ⊥ = omega (arith, some) in absurd no
fit-before (Blank byte ∷ script) behind count fits some behind_fits =
    let parts = fit-parts (Blank byte) script fits in
    fit-front (Blank byte) (before_word script ++ behind) parts.0 (fit-before script behind count parts.1 some behind_fits)
fit-before (Comment bytes ∷ script) behind count fits some behind_fits =
    let parts = fit-parts (Comment bytes) script fits in
    let is = and_parts (is_comment bytes) (is_over_or (λ byte. byte == 10) (text script)) parts.0 in
    let over = over-before (λ byte. byte == 10) newline-white script behind count parts.1 some is.1 in
    let here : fits_item (Comment bytes) (text (before_word script ++ behind)) ≡ true = rw (is.0, over) refl in
    fit-front (Comment bytes) (before_word script ++ behind) here (fit-before script behind count parts.1 some behind_fits)
fit-before (Wordly piece pieces ∷ script) behind count fits some behind_fits = behind_fits

-- behind a word whitespace stands, or nothing
behind-whole : (script : List Item) → fit script [] ≡ true → is_over_or is_whitespace (text (past_word script)) ≡ true
behind-whole [] fits = refl
behind-whole (Blank byte ∷ script) fits = behind-whole script (fit-parts (Blank byte) script fits).1
behind-whole (Comment bytes ∷ script) fits = behind-whole script (fit-parts (Comment bytes) script fits).1
behind-whole (Wordly piece pieces ∷ script) fits =
    (and_parts (fit_pieces (piece ∷ pieces)) (is_over_or is_whitespace (text script)) (fit-parts (Wordly piece pieces) script fits).0).1

begins-widened : (breaks : Bool) (plain layout script : List Item) → fit script [] ≡ true → count_own breaks plain layout ≡ count_words script → is_over_or is_whitespace (text script) ≡ true
    → is_over_or is_whitespace (text (widened_from breaks plain layout script)) ≡ true
begins-widened breaks plain [] script fits same over = ap (λ (items : List Item). is_over_or is_whitespace (text items)) (all-before script (sym same)) ∙ over
begins-widened breaks plain (Blank byte ∷ layout) script fits same over = begins-widened (breaks || (byte == 10)) plain layout script fits same over
begins-widened breaks plain (Comment bytes ∷ layout) script fits same over = begins-widened breaks plain layout script fits same over
begins-widened breaks plain (Wordly piece pieces ∷ layout) script fits same over = by (is_added (has_break plain) breaks) same
  where
    by : (added : Bool) → count_at added (count_own false (left_at added plain) layout) ≡ count_words script
        → is_over_or is_whitespace (text (gap_at added script ++ (Wordly piece pieces ∷ widened_from false (left_at added plain) layout (left_at added script)))) ≡ true
    by true is = refl
    by false is =
        over-before is_whitespace (λ byte white. white) script (Wordly piece pieces ∷ widened_from false (past_word plain) layout (past_word script))
        (count_own false (past_word plain) layout) fits (sym is) over

-- behind a word, or where the first word isn't added
widened-fits : (breaks : Bool) (plain layout script : List Item) → (is_added (has_break plain) (breaks || has_break layout) ≡ true → is_over_or is_whitespace (text script) ≡ true)
    → fit layout [] ≡ true → fit script [] ≡ true → count_own breaks plain layout ≡ count_words script → fit (widened_from breaks plain layout script) [] ≡ true
widened-fits breaks plain [] script over fits script_fits same = ap (λ (items : List Item). fit items []) (all-before script (sym same)) ∙ script_fits
widened-fits breaks plain (Blank byte ∷ layout) script over fits script_fits same =
    widened-fits (breaks || (byte == 10)) plain layout script (λ added. over (ap (is_added (has_break plain)) (sym (or-parts breaks (byte == 10) (has_break layout))) ∙ added))
    (fit-parts (Blank byte) layout fits).1 script_fits same
widened-fits breaks plain (Comment bytes ∷ layout) script over fits script_fits same = widened-fits breaks plain layout script over (fit-parts (Comment bytes) layout fits).1 script_fits same
widened-fits breaks plain (Wordly piece pieces ∷ layout) script over fits script_fits same =
    by (is_added (has_break plain) breaks) (λ added. over (ap (is_added (has_break plain)) (or-none breaks) ∙ added)) same
    (λ added begins left_fits left. (
      widened-fits false (left_at added plain) layout (left_at added script) (λ some. begins) (fit-parts (Wordly piece pieces) layout fits).1 left_fits left,
      begins-widened false (left_at added plain) layout (left_at added script) left_fits left begins,
    ))
  where
    word : (behind : List Item) → fit behind [] ≡ true → is_over_or is_whitespace (text behind) ≡ true → fit (Wordly piece pieces ∷ behind) [] ≡ true
    word behind behind_fits begins =
        let parts = fit-parts (Wordly piece pieces) layout fits in
        let is = and_parts (fit_pieces (piece ∷ pieces)) (is_over_or is_whitespace (text layout)) parts.0 in
        let here : fits_item (Wordly piece pieces) (text behind) ≡ true = rw (is.0, begins) refl in
        fit-front (Wordly piece pieces) behind here behind_fits

    by : (added : Bool) → (added ≡ true → is_over_or is_whitespace (text script) ≡ true) → count_at added (count_own false (left_at added plain) layout) ≡ count_words script
        → ((now : Bool) → is_over_or is_whitespace (text (left_at now script)) ≡ true → fit (left_at now script) [] ≡ true → count_own false (left_at now plain) layout ≡ count_words (left_at now script)
        → (fit (widened_from false (left_at now plain) layout (left_at now script)) [] ≡ true)
        × (is_over_or is_whitespace (text (widened_from false (left_at now plain) layout (left_at now script))) ≡ true))
        → fit (gap_at added script ++ (Wordly piece pieces ∷ widened_from false (left_at added plain) layout (left_at added script))) [] ≡ true
    by true begins is later =
        let rest = later true (begins refl) script_fits is in
        fit-front (Blank 32) (Wordly piece pieces ∷ widened_from false plain layout script) refl (word (widened_from false plain layout script) rest.0 rest.1)
    by false begins is later =
        let behind = widened_from false (past_word plain) layout (past_word script) in
        let parted = comments-parted [] script (count_own false (past_word plain) layout) (sym is) in
        let rest = later false (behind-whole script script_fits) (past_word-fits script script_fits) (sym parted.1) in
        fit-before script (Wordly piece pieces ∷ behind) (count_own false (past_word plain) layout) script_fits (sym is) (word behind rest.0 rest.1)

pub widened-whole : (plain layout script : List Item) → has_break plain ≡ false → fit layout [] ≡ true → fit script [] ≡ true → count_own false plain layout ≡ count_words script
    → fit (widened_from false plain layout script) [] ≡ true
widened-whole plain layout script begins fits script_fits same =
    widened-fits false plain layout script (λ added. absurd (true≢false (sym added ∙ ap (λ (ends : Bool). is_added ends (has_break layout)) begins))) fits script_fits same

-- ---- the first line

newline-before : (script behind : List Item) (bytes : List ℕ) → fit script [] ≡ true → text script ≡ 10 ∷ bytes → (after : List ℕ) × (text (before_word script ++ behind) ≡ 10 ∷ after)
newline-before [] behind bytes fits is = let no : ⊥ = cc in absurd no
newline-before (Blank byte ∷ script) behind bytes fits is = let head : byte ≡ 10 = cc in (text (before_word script ++ behind), ap (λ (b : ℕ). b ∷ text (before_word script ++ behind)) head)
newline-before (Comment comment ∷ script) behind bytes fits is = let no : ⊥ = cc in absurd no
newline-before (Wordly piece pieces ∷ script) behind bytes fits is =
    let parts = fit-parts (Wordly piece pieces) script fits in
    let here = and_parts (fit_pieces (piece ∷ pieces)) (is_over_or is_whitespace (text script)) parts.0 in
    absurd (true≢false (sym (word-begins piece pieces (text script) bytes 10 here.0 is)))

pub first-widened : (line : List ℕ) (breaks : Bool) (plain layout script : List Item) (bytes : List ℕ) → has_break plain ≡ false → fit script [] ≡ true → text script ≡ 10 ∷ bytes
    → (after : List ℕ) × (text (widened_from breaks plain layout (Comment line ∷ script)) ≡ 35 ∷ (line ++ 10 ∷ after))
first-widened line breaks plain [] script bytes begins fits is =
    let found = newline-before script [] bytes fits is in
    (found.0, ap (λ (more : List ℕ). 35 ∷ (line ++ more)) (ap text (sym (append-nil (before_word script))) ∙ found.1))
first-widened line breaks plain (Blank byte ∷ layout) script bytes begins fits is = first-widened line (breaks || (byte == 10)) plain layout script bytes begins fits is
first-widened line breaks plain (Comment comment ∷ layout) script bytes begins fits is = first-widened line breaks plain layout script bytes begins fits is
first-widened line breaks plain (Wordly piece pieces ∷ layout) script bytes begins fits is =
    let found = newline-before script (Wordly piece pieces ∷ widened_from false (past_word plain) layout (past_word script)) bytes fits is in (
      found.0,
      ap (λ (ends : Bool). text (gap_at (is_added ends breaks) (Comment line ∷ script)
          ++ (Wordly piece pieces ∷ widened_from false (left_at (is_added ends breaks) plain) layout (left_at (is_added ends breaks) (Comment line ∷ script))))) begins
          ∙ ap (λ (more : List ℕ). 35 ∷ (line ++ more)) found.1,
    )

-- ---- where no word is added

-- a gap is over before a word and at the end
gap-before : (seam : Seam) (follow : Follow) (distance : Distance) (script behind : List Item) → ((s : Seam) (f : Follow) (d : Distance) → gap_layout s f d behind ≡ blanks (last s f d))
    → gap_layout seam follow distance (before_word script ++ behind) ≡ gap_layout seam follow distance script
gap-before seam follow distance [] behind stops = stops seam follow distance
gap-before seam follow distance (Blank byte ∷ script) behind stops = gap-before seam follow (further distance byte) script behind stops
gap-before seam follow distance (Comment bytes ∷ script) behind stops =
    ap (λ (items : List Item). blanks (lead seam follow distance) ++ (Comment bytes ∷ items)) (gap-before (broken seam) follow BehindComment script behind stops)
gap-before seam follow distance (Wordly piece pieces ∷ script) behind stops = stops seam follow distance

past-before : (script : List Item) (piece : Piece) (pieces : List Piece) (behind : List Item) → past_word (before_word script ++ (Wordly piece pieces ∷ behind)) ≡ behind
past-before [] piece pieces behind = refl
past-before (Blank byte ∷ script) piece pieces behind = past-before script piece pieces behind
past-before (Comment bytes ∷ script) piece pieces behind = past-before script piece pieces behind
past-before (Wordly first others ∷ script) piece pieces behind = refl

past-from : (items : List Item) → past_word (from_word items) ≡ past_word items
past-from [] = refl
past-from (Blank byte ∷ items) = past-from items
past-from (Comment bytes ∷ items) = past-from items
past-from (Wordly piece pieces ∷ items) = refl

-- the layout is at the same place as the plain one
own-count : (breaks : Bool) (plain layout : List Item) → (breaks || has_break layout) ≡ has_break plain → from_word layout ≡ from_word plain → count_own breaks plain layout ≡ count_words layout
own-count breaks plain [] ends words = refl
own-count breaks plain (Blank byte ∷ layout) ends words = own-count (breaks || (byte == 10)) plain layout (or-parts breaks (byte == 10) (has_break layout) ∙ ends) words
own-count breaks plain (Comment bytes ∷ layout) ends words = own-count breaks plain layout ends words
own-count breaks plain (Wordly piece pieces ∷ layout) ends words =
    let left : layout ≡ past_word plain = ap past_word words ∙ past-from plain in
    let none : is_added (has_break plain) breaks ≡ false = ap (λ (e : Bool). is_added e breaks) (sym ends ∙ or-none breaks) ∙ none-added breaks in
    ap (λ (added : Bool). count_at added (count_own false (left_at added plain) layout)) none
    ∙ ap suc (own-count false (past_word plain) layout (ap has_break left) (ap from_word left))

pub same-fits : (layout script : List Item) → fit layout [] ≡ true → fit script [] ≡ true → count_words layout ≡ count_words script → fit (widened_from false layout layout script) [] ≡ true
same-fits layout script fits script_fits same =
    widened-fits false layout layout script (λ added. absurd (true≢false (sym added ∙ none-added (has_break layout)))) fits script_fits (own-count false layout layout refl refl ∙ same)

pub kept-widened : (seam : Seam) (breaks : Bool) (plain layout script : List Item) → (breaks || has_break layout) ≡ has_break plain → from_word layout ≡ from_word plain
    → kept_from seam layout (widened_from breaks plain layout script) ≡ kept_from seam layout script
kept-widened seam breaks plain [] script ends words =
    ap (gap_layout seam End SameLine) (sym (append-nil (before_word script))) ∙ gap-before seam End SameLine script [] (λ s f d. refl)
kept-widened seam breaks plain (Blank byte ∷ layout) script ends words =
    kept-widened (over_all seam (byte ∷ [])) (breaks || (byte == 10)) plain layout script (or-parts breaks (byte == 10) (has_break layout) ∙ ends) words
kept-widened seam breaks plain (Comment bytes ∷ layout) script ends words = kept-widened (over_all seam (35 ∷ bytes)) breaks plain layout script ends words
kept-widened seam breaks plain (Wordly piece pieces ∷ layout) script ends words =
    let follow = follow_of (pieces_text (piece ∷ pieces)) in
    let left : layout ≡ past_word plain = ap past_word words ∙ past-from plain in
    let behind = widened_from false (past_word plain) layout (past_word script) in
    let none : is_added (has_break plain) breaks ≡ false = ap (λ (e : Bool). is_added e breaks) (sym ends ∙ or-none breaks) ∙ none-added breaks in
    ap (λ (added : Bool). kept_from seam (Wordly piece pieces ∷ layout) (gap_at added script ++ (Wordly piece pieces ∷ widened_from false (left_at added plain) layout (left_at added script)))) none
    ∙ ap₂ (λ (front more : List Item). front ++ (Wordly piece pieces ∷ kept_from (behind_word seam) layout more))
    (gap-before seam follow SameLine script (Wordly piece pieces ∷ behind) (λ s f d. refl)) (past-before script piece pieces behind)
    ∙ ap (λ (more : List Item). gap_layout seam follow SameLine script ++ (Wordly piece pieces ∷ more))
    (kept-widened (behind_word seam) false (past_word plain) layout (past_word script) (ap has_break left) (ap from_word left))
