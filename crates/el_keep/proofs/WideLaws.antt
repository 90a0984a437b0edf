-- What is said of whole texts with a wider layout.
use Rattle.std.proofs.Common.{◌≡◌, ℕ, true, false, List, [], ◌∷◌, ◌++◌, refl, sym, ap, ap₂, ◌∙◌}
use Rattle.el_lex.specs.Reading.{Item, Comment, text, fit, is_comment, tokens_from}
use Rattle.el_blocks.specs.Tokens.{shapes_of}
use Rattle.el_keep.specs.declared.seam.Seam.TheVariants.{Top}
use Rattle.el_keep.specs.Widened.{count_words, count_own, spread_from, widened}
use Rattle.el_keep.specs.Texts.{kept_text, widened_text, kept_wider}
use Rattle.el_keep.specs.Laws.{AreAlike, HasComments, HasFewBreaks, IsWider, spread}
use Rattle.el_keep.proofs.Words.{fit-parts}
use Rattle.el_keep.proofs.Loops.{text-kept}
use Rattle.el_keep.proofs.OneReading.{one-list}
use Rattle.el_keep.proofs.Texts.{same-count, tokens-stay, comments-stay, few-breaks, second-time, first-item, first-line}
use Rattle.el_keep.proofs.WideItems.{widened-tokens, widened-comments, widened-whole, same-fits, first-widened, kept-widened}
use Rattle.el_keep.proofs.WideTexts.{text-widened}

same-behind : (line one other : List ℕ) → line ++ one ≡ line ++ other → one ≡ other
same-behind [] one other same = same
same-behind (byte ∷ line) one other same = let tail : line ++ one ≡ line ++ other = cc in same-behind line one other tail

-- what is behind the first line
behind-line : (items others : List Item) (line behind : List ℕ) → items ≡ Comment line ∷ others → fit items [] ≡ true → text items ≡ 35 ∷ (line ++ 10 ∷ behind) → (fit others [] ≡ true) × (text others ≡ 10 ∷ behind)
behind-line items others line behind is fits begins =
    let whole : 35 ∷ (line ++ text others) ≡ 35 ∷ (line ++ 10 ∷ behind) = ap text (sym is) ∙ begins in
    let tail : line ++ text others ≡ line ++ 10 ∷ behind = cc in
    ((fit-parts (Comment line) others (ap (λ (i : List Item). fit i []) (sym is) ∙ fits)).1, same-behind line (text others) (10 ∷ behind) tail)

module _ {plain layout script : List ℕ} (wider : IsWider plain layout script) where
  -- the script's words are those that aren't added
  own-count : count_own false wider.alike.layout_reads.items wider.reads.items ≡ count_words wider.alike.script_reads.items
  own-count = wider.as_many ∙ same-count wider.alike

  wide-is : widened_text plain layout script ≡ text (widened wider.alike.layout_reads.items wider.reads.items wider.alike.script_reads.items)
  wide-is =
      let alike = wider.alike in
      ap₂ (λ (one other : List ℕ). widened_text one other script) (sym alike.layout_reads.is_text) (sym wider.reads.is_text)
      ∙ ap (widened_text (text alike.layout_reads.items) (text wider.reads.items)) (sym alike.script_reads.is_text)
      ∙ text-widened alike.layout_reads.items wider.reads.items alike.script_reads.items alike.layout_reads.fits wider.reads.fits alike.script_reads.fits

  wide-fits : fit (widened wider.alike.layout_reads.items wider.reads.items wider.alike.script_reads.items) [] ≡ true
  wide-fits =
      let alike = wider.alike in
      widened-whole alike.layout_reads.items wider.reads.items alike.script_reads.items wider.begins wider.reads.fits alike.script_reads.fits own-count

  -- the layout and the widened script have the same words
  wide-alike : AreAlike layout (widened_text plain layout script)
  wide-alike =
      let items = widened wider.alike.layout_reads.items wider.reads.items wider.alike.script_reads.items in
      record {
        layout_tokens = wider.tokens;
        script_tokens = tokens_from 1 items;
        layout_reads = wider.reads;
        script_reads = record { items = items; fits = wide-fits; is_text = sym wide-is; are_tokens = refl };
        are_same = ap shapes_of (sym wider.reads.are_tokens)
            ∙ sym (widened-tokens false wider.alike.layout_reads.items wider.reads.items wider.alike.script_reads.items 1);
      }

  wide-comments : (comments : List (List (List ℕ))) → HasComments script comments → HasComments (widened_text plain layout script) (spread wider comments)
  wide-comments comments has =
      let alike = wider.alike in
      record {
        items = widened alike.layout_reads.items wider.reads.items alike.script_reads.items;
        fits = wide-fits;
        is_text = sym wide-is;
        are_comments = widened-comments false alike.layout_reads.items wider.reads.items alike.script_reads.items own-count
            ∙ ap (spread_from false alike.layout_reads.items wider.reads.items)
            (one-list alike.script_reads.items has.items [] alike.script_reads.fits has.fits (alike.script_reads.is_text ∙ sym has.is_text) ∙ has.are_comments);
      }

  wide-first : (line behind : List ℕ) → is_comment line ≡ true → script ≡ 35 ∷ (line ++ 10 ∷ behind) → (after : List ℕ) × (widened_text plain layout script ≡ 35 ∷ (line ++ 10 ∷ after))
  wide-first line behind comment begins =
      let alike = wider.alike in
      let first = first-item alike.script_reads.items line behind alike.script_reads.fits comment (alike.script_reads.is_text ∙ begins) in
      let others = behind-line alike.script_reads.items first.0 line behind first.1 alike.script_reads.fits (alike.script_reads.is_text ∙ begins) in
      let found = first-widened line false alike.layout_reads.items wider.reads.items first.0 behind wider.begins others.0 others.1 in
      (found.0, wide-is ∙ ap (λ (items : List Item). text (widened alike.layout_reads.items wider.reads.items items)) first.1 ∙ found.1)

pub wider-tokens : (plain layout script : List ℕ) → IsWider plain layout script → AreAlike layout (kept_wider plain layout script)
wider-tokens plain layout script wider = tokens-stay layout (widened_text plain layout script) (wide-alike wider)

pub wider-comments : (plain layout script : List ℕ) (comments : List (List (List ℕ))) (wider : IsWider plain layout script) → HasComments script comments
    → HasComments (kept_wider plain layout script) (spread wider comments)
wider-comments plain layout script comments wider has = comments-stay layout (widened_text plain layout script) (spread wider comments) (wide-alike wider) (wide-comments wider comments has)

pub wider-first : (plain layout script line behind : List ℕ) → IsWider plain layout script → is_comment line ≡ true → script ≡ 35 ∷ (line ++ 10 ∷ behind)
    → (after : List ℕ) × (kept_wider plain layout script ≡ 35 ∷ (line ++ 10 ∷ after))
wider-first plain layout script line behind wider comment begins =
    let found = wide-first wider line behind comment begins in
    first-line layout (widened_text plain layout script) line found.0 (wide-alike wider) comment found.1

pub wider-few : (plain layout script : List ℕ) → IsWider plain layout script → HasFewBreaks (kept_wider plain layout script)
wider-few plain layout script wider = few-breaks layout (widened_text plain layout script) (wide-alike wider)

pub nothing-wider : (layout script : List ℕ) → AreAlike layout script → kept_wider layout layout script ≡ kept_text layout script
nothing-wider layout script alike =
    let laid = alike.layout_reads in
    let own = alike.script_reads in
    let items = widened laid.items laid.items own.items in
    ap₂ (λ (one other : List ℕ). kept_text one (widened_text one one other)) (sym laid.is_text) (sym own.is_text)
    ∙ ap (kept_text (text laid.items)) (text-widened laid.items laid.items own.items laid.fits laid.fits own.fits)
    ∙ text-kept laid.items items laid.fits (same-fits laid.items own.items laid.fits own.fits (same-count alike))
    ∙ ap text (kept-widened Top false laid.items laid.items own.items refl refl)
    ∙ sym (text-kept laid.items own.items laid.fits own.fits)
    ∙ ap₂ kept_text laid.is_text own.is_text

pub wider-again : (plain layout script : List ℕ) → IsWider plain layout script → kept_wider layout layout (kept_wider plain layout script) ≡ kept_wider plain layout script
wider-again plain layout script wider =
    nothing-wider layout (kept_wider plain layout script) (wider-tokens plain layout script wider) ∙ second-time layout (widened_text plain layout script) (wide-alike wider)
