-- What is said of whole texts.
use Rattle.std.proofs.Common.{◌≡◌, ℕ, suc, ◌+◌, true, List, [], ◌∷◌, ◌++◌, refl, sym, ap, ap₂, ◌∙◌, arith, append-nil, length, true≢false}
use Rattle.std.proofs.lemmas.Bool.{and_parts}
use Rattle.el_lex.specs.declared.token.Token.{Token}
use Rattle.el_lex.specs.Bytes.{is_whitespace, is_over_or, begins_with}
use Rattle.el_lex.specs.Pieces.{pieces_text, fit_pieces}
use Rattle.el_lex.specs.Reading.{Item, Blank, Comment, Wordly, text, fit, is_comment, newlines_in, tokens_from}
use Rattle.el_blocks.specs.Tokens.{TokenShape, shapes_of}
use Rattle.el_keep.specs.declared.seam.Seam.{Seam}
use Rattle.el_keep.specs.declared.seam.Seam.TheVariants.{Top, Below}
use Rattle.el_keep.specs.declared.seam.Follow.{Follow}
use Rattle.el_keep.specs.declared.seam.Follow.TheVariants.{End}
use Rattle.el_keep.specs.declared.distance.Distance.TheVariants.{BehindComment}
use Rattle.el_keep.specs.Seams.{over_all, behind_word, follow_of}
use Rattle.el_keep.specs.Kept.{gap_layout, past_word, kept_from, kept}
use Rattle.el_keep.specs.Widened.{count_words}
use Rattle.el_keep.specs.Texts.{kept_text}
use Rattle.el_keep.specs.Laws.{AreAlike, HasComments, HasFewBreaks}
use Rattle.el_keep.proofs.Words.{fit-parts}
use Rattle.el_keep.proofs.Loops.{text-kept}
use Rattle.el_keep.proofs.Tokens.{kept-tokens}
use Rattle.el_keep.proofs.Comments.{kept-comments}
use Rattle.el_keep.proofs.Again.{kept-again}
use Rattle.el_keep.proofs.Fits.{is_newline, kept-fits, newline-gap}
use Rattle.el_keep.proofs.Few.{kept-few}
use Rattle.el_keep.proofs.OneReading.{one-list, one-comment, word-begins}

-- ---- what is kept

-- the text of the items, for texts that are alike
out-is : {layout script : List ℕ} (alike : AreAlike layout script) → kept_text layout script ≡ text (kept alike.layout_reads.items alike.script_reads.items)
out-is alike =
    ap₂ kept_text (sym alike.layout_reads.is_text) (sym alike.script_reads.is_text)
    ∙ text-kept alike.layout_reads.items alike.script_reads.items alike.layout_reads.fits alike.script_reads.fits

-- they fit
out-fits : {layout script : List ℕ} (alike : AreAlike layout script) → fit (kept alike.layout_reads.items alike.script_reads.items) [] ≡ true
out-fits alike = kept-fits Top alike.layout_reads.items alike.script_reads.items alike.layout_reads.fits alike.script_reads.fits

-- ---- tokens

pub tokens-stay : (layout script : List ℕ) → AreAlike layout script → AreAlike layout (kept_text layout script)
tokens-stay layout script alike =
    let items = kept alike.layout_reads.items alike.script_reads.items in
    record {
      layout_tokens = alike.layout_tokens;
      script_tokens = tokens_from 1 items;
      layout_reads = alike.layout_reads;
      script_reads = record { items = items; fits = out-fits alike; is_text = sym (out-is alike); are_tokens = refl };
      are_same = ap shapes_of (sym alike.layout_reads.are_tokens) ∙ sym (kept-tokens Top alike.layout_reads.items alike.script_reads.items 1);
    }

-- ---- comments

shapes-count : (line : ℕ) (items : List Item) → length (shapes_of (tokens_from line items)) ≡ count_words items
shapes-count line [] = refl
shapes-count line (Blank byte ∷ items) = shapes-count (line + newlines_in (byte ∷ [])) items
shapes-count line (Comment bytes ∷ items) = shapes-count line items
shapes-count line (Wordly piece pieces ∷ items) = ap suc (shapes-count (line + newlines_in (pieces_text (piece ∷ pieces))) items)

-- they have as many words
pub same-count : {layout script : List ℕ} (alike : AreAlike layout script) → count_words alike.layout_reads.items ≡ count_words alike.script_reads.items
same-count alike =
    sym (shapes-count 1 alike.layout_reads.items)
    ∙ ap (λ (tokens : List Token). length (shapes_of tokens)) alike.layout_reads.are_tokens
    ∙ ap (λ (shapes : List TokenShape). length shapes) alike.are_same
    ∙ ap (λ (tokens : List Token). length (shapes_of tokens)) (sym alike.script_reads.are_tokens)
    ∙ shapes-count 1 alike.script_reads.items

pub comments-stay : (layout script : List ℕ) (comments : List (List (List ℕ))) → AreAlike layout script → HasComments script comments → HasComments (kept_text layout script) comments
comments-stay layout script comments alike has = record {
  items = kept alike.layout_reads.items alike.script_reads.items;
  fits = out-fits alike;
  is_text = sym (out-is alike);
  are_comments = kept-comments Top alike.layout_reads.items alike.script_reads.items (same-count alike)
      ∙ one-list alike.script_reads.items has.items [] alike.script_reads.fits has.fits (alike.script_reads.is_text ∙ sym has.is_text) ∙ has.are_comments;
}

-- ---- empty lines

pub few-breaks : (layout script : List ℕ) → AreAlike layout script → HasFewBreaks (kept_text layout script)
few-breaks layout script alike = record {
  items = kept alike.layout_reads.items alike.script_reads.items;
  fits = out-fits alike;
  is_text = sym (out-is alike);
  are_few = kept-few Top alike.layout_reads.items alike.script_reads.items;
}

-- ---- once more

pub second-time : (layout script : List ℕ) → AreAlike layout script → kept_text layout (kept_text layout script) ≡ kept_text layout script
second-time layout script alike =
    let laid = alike.layout_reads in
    let items = kept laid.items alike.script_reads.items in
    ap₂ kept_text (sym laid.is_text) (out-is alike) ∙ text-kept laid.items items laid.fits (out-fits alike)
    ∙ ap text (kept-again Top laid.items alike.script_reads.items) ∙ sym (out-is alike)

-- ---- the first line

-- nothing stands before the first word
over-top : (gap : List ℕ) → over_all Top gap ≡ Top
over-top [] = refl
over-top (byte ∷ gap) = over-top gap

-- a text that begins with a newline
newline-after : (bytes : List ℕ) → begins_with is_newline bytes ≡ true → (after : List ℕ) × (bytes ≡ 10 ∷ after)
newline-after [] begins = let no : ⊥ = cc in absurd no
newline-after (byte ∷ bytes) begins = let same : byte ≡ 10 = grind (arith, begins) in (bytes, ap (λ (b : ℕ). b ∷ bytes) same)

-- behind the first comment
first-gap : (line : List ℕ) (follow : Follow) (script behind : List Item)
    → (after : List ℕ) × (text ((Comment line ∷ gap_layout (Below 0) follow BehindComment script) ++ behind) ≡ 35 ∷ (line ++ 10 ∷ after))
first-gap line follow script behind =
    let found = newline-after (text (gap_layout (Below 0) follow BehindComment script ++ behind)) (newline-gap 0 follow BehindComment script behind tt) in
    (found.0, ap (λ (more : List ℕ). 35 ∷ (line ++ more)) found.1)

first-kept : (line : List ℕ) (layout script : List Item) → (after : List ℕ) × (text (kept_from Top layout (Comment line ∷ script)) ≡ 35 ∷ (line ++ 10 ∷ after))
first-kept line [] script =
    let found = first-gap line End script [] in
    (found.0, ap text (sym (append-nil (Comment line ∷ gap_layout (Below 0) End BehindComment script))) ∙ found.1)
first-kept line (Blank byte ∷ layout) script = first-kept line layout script
first-kept line (Comment bytes ∷ layout) script =
    let found = first-kept line layout script in
    (found.0, ap (λ (seam : Seam). text (kept_from seam layout (Comment line ∷ script))) (over-top (35 ∷ bytes)) ∙ found.1)
first-kept line (Wordly piece pieces ∷ layout) script =
    first-gap line (follow_of (pieces_text (piece ∷ pieces))) script (Wordly piece pieces ∷ kept_from (behind_word Top) layout (past_word script))

-- a script that begins so begins with this comment
pub first-item : (items : List Item) (line behind : List ℕ) → fit items [] ≡ true → is_comment line ≡ true → text items ≡ 35 ∷ (line ++ 10 ∷ behind) → (others : List Item) × (items ≡ Comment line ∷ others)
first-item [] line behind fits is same = let no : ⊥ = cc in absurd no
first-item (Blank byte ∷ items) line behind fits is same =
    let head : byte ≡ 35 = cc in
    absurd (true≢false (sym (fit-parts (Blank byte) items fits).0 ∙ ap is_whitespace head))
first-item (Comment bytes ∷ items) line behind fits is same =
    let parts = fit-parts (Comment bytes) items fits in
    let here = and_parts (is_comment bytes) (is_over_or is_newline (text items)) parts.0 in
    let tail : bytes ++ text items ≡ line ++ 10 ∷ behind = cc in
    (items, ap (λ (comment : List ℕ). Comment comment ∷ items) (one-comment bytes line (text items) (10 ∷ behind) here.0 is here.1 refl tail).0)
first-item (Wordly piece pieces ∷ items) line behind fits is same =
    let parts = fit-parts (Wordly piece pieces) items fits in
    let here = and_parts (fit_pieces (piece ∷ pieces)) (is_over_or is_whitespace (text items)) parts.0 in
    absurd (true≢false (sym (word-begins piece pieces (text items) (line ++ 10 ∷ behind) 35 here.0 same)))

pub first-line : (layout script line behind : List ℕ) → AreAlike layout script → is_comment line ≡ true → script ≡ 35 ∷ (line ++ 10 ∷ behind)
    → (after : List ℕ) × (kept_text layout script ≡ 35 ∷ (line ++ 10 ∷ after))
first-line layout script line behind alike comment begins =
    let reads = alike.script_reads in
    let first = first-item reads.items line behind reads.fits comment (reads.is_text ∙ begins) in
    let found = first-kept line alike.layout_reads.items first.0 in
    (found.0, out-is alike ∙ ap (λ (items : List Item). text (kept alike.layout_reads.items items)) first.1 ∙ found.1)
