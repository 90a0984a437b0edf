-- The tokens of a kept layout are those of the layout.
use Rattle.std.proofs.Common.{◌≡◌, ℕ, ◌+◌, Bool, true, false, List, [], ◌∷◌, ◌++◌, refl, sym, ap, ap₂, ◌∙◌, append_assoc, append-nil, if◌then◌else◌}
use Rattle.std.specs.Prelude.{◌==◌}
use Rattle.el_lex.specs.declared.token.Token.TheVariants.{Word as WordToken, Open, Close}
use Rattle.el_lex.specs.Pieces.{Piece, Plain, Escaped, Quoted, pieces_text}
use Rattle.el_lex.specs.Reading.{Item, Blank, Comment, Wordly, newlines_in, token_of, tokens_from}
use Rattle.el_blocks.specs.Tokens.{TokenShape, shape_of, shapes_of}
use Rattle.el_keep.specs.declared.seam.Seam.{Seam}
use Rattle.el_keep.specs.declared.seam.Follow.{Follow}
use Rattle.el_keep.specs.declared.seam.Follow.TheVariants.{End}
use Rattle.el_keep.specs.declared.distance.Distance.{Distance}
use Rattle.el_keep.specs.declared.distance.Distance.TheVariants.{SameLine, BehindComment}
use Rattle.el_keep.specs.Seams.{over_all, behind_word, follow_of, further, broken, lead, last}
use Rattle.el_keep.specs.Kept.{blanks, gap_layout, past_word, kept_from}

-- a token but for its line is the same on any line
shape-line : (piece : Piece) (pieces : List Piece) (line below : ℕ) → shape_of (token_of line piece pieces) ≡ shape_of (token_of below piece pieces)
shape-line (Plain byte) [] line below = by (byte == 123) (byte == 125)
  where
    by : (opens closes : Bool) → shape_of (if opens then Open line else (if closes then Close line else WordToken line (byte ∷ []))) ≡ shape_of (if opens then Open below else (if closes then Close below else WordToken below (byte ∷ [])))
    by true closes = refl
    by false true = refl
    by false false = refl
shape-line (Plain byte) (piece ∷ pieces) line below = refl
shape-line (Escaped byte) pieces line below = refl
shape-line (Quoted inners) pieces line below = refl

pub shapes-line : (items : List Item) (line below : ℕ) → shapes_of (tokens_from line items) ≡ shapes_of (tokens_from below items)
shapes-line [] line below = refl
shapes-line (Blank byte ∷ items) line below = shapes-line items (line + newlines_in (byte ∷ [])) (below + newlines_in (byte ∷ []))
shapes-line (Comment bytes ∷ items) line below = shapes-line items line below
shapes-line (Wordly piece pieces ∷ items) line below =
    ap₂ (λ (shape : TokenShape) (shapes : List TokenShape). shape ∷ shapes) (shape-line piece pieces line below)
    (shapes-line items (line + newlines_in (pieces_text (piece ∷ pieces))) (below + newlines_in (pieces_text (piece ∷ pieces))))

shapes-led : (bytes : List ℕ) (items : List Item) (line : ℕ) → shapes_of (tokens_from line (blanks bytes ++ items)) ≡ shapes_of (tokens_from line items)
shapes-led [] items line = refl
shapes-led (byte ∷ bytes) items line = shapes-led bytes items (line + newlines_in (byte ∷ [])) ∙ shapes-line items (line + newlines_in (byte ∷ [])) line

-- what is written between two words has no tokens
shapes-gap : (seam : Seam) (follow : Follow) (distance : Distance) (script behind : List Item) (line : ℕ)
    → shapes_of (tokens_from line (gap_layout seam follow distance script ++ behind)) ≡ shapes_of (tokens_from line behind)
shapes-gap seam follow distance [] behind line = shapes-led (last seam follow distance) behind line
shapes-gap seam follow distance (Blank byte ∷ script) behind line = shapes-gap seam follow (further distance byte) script behind line
shapes-gap seam follow distance (Comment bytes ∷ script) behind line =
    let gap = gap_layout (broken seam) follow BehindComment script in
    ap (λ (items : List Item). shapes_of (tokens_from line items)) (append_assoc (blanks (lead seam follow distance)) (Comment bytes ∷ gap) behind)
    ∙ shapes-led (lead seam follow distance) (Comment bytes ∷ (gap ++ behind)) line
    ∙ shapes-gap (broken seam) follow BehindComment script behind line
shapes-gap seam follow distance (Wordly piece pieces ∷ script) behind line = shapes-led (last seam follow distance) behind line

pub kept-tokens : (seam : Seam) (layout script : List Item) (line : ℕ) → shapes_of (tokens_from line (kept_from seam layout script)) ≡ shapes_of (tokens_from line layout)
kept-tokens seam [] script line =
    ap (λ (items : List Item). shapes_of (tokens_from line items)) (sym (append-nil (gap_layout seam End SameLine script))) ∙ shapes-gap seam End SameLine script [] line
kept-tokens seam (Blank byte ∷ layout) script line =
    kept-tokens (over_all seam (byte ∷ [])) layout script line ∙ shapes-line layout line (line + newlines_in (byte ∷ []))
kept-tokens seam (Comment bytes ∷ layout) script line = kept-tokens (over_all seam (35 ∷ bytes)) layout script line
kept-tokens seam (Wordly piece pieces ∷ layout) script line =
    let behind = kept_from (behind_word seam) layout (past_word script) in
    let below = line + newlines_in (pieces_text (piece ∷ pieces)) in
    shapes-gap seam (follow_of (pieces_text (piece ∷ pieces))) SameLine script (Wordly piece pieces ∷ behind) line
    ∙ ap (λ (shapes : List TokenShape). shape_of (token_of line piece pieces) ∷ shapes) (kept-tokens (behind_word seam) layout (past_word script) below)
