-- A kept layout has between its words what is written there again.
use Rattle.std.proofs.Common.{◌≡◌, ℕ, suc, Bool, true, false, List, [], ◌∷◌, ◌++◌, refl, sym, ap, ap₂, ◌∙◌, append_assoc, append-nil, if◌then◌else◌}
use Rattle.std.specs.Prelude.{◌==◌}
use Rattle.el_lex.specs.Pieces.{pieces_text}
use Rattle.el_lex.specs.Reading.{Item, Blank, Comment, Wordly}
use Rattle.el_keep.specs.declared.seam.Seam.{Seam}
use Rattle.el_keep.specs.declared.seam.Seam.TheVariants.{Top, Within, Below}
use Rattle.el_keep.specs.declared.seam.Follow.{Follow}
use Rattle.el_keep.specs.declared.seam.Follow.TheVariants.{Word, Close, End}
use Rattle.el_keep.specs.declared.distance.Distance.{Distance}
use Rattle.el_keep.specs.declared.distance.Distance.TheVariants.{SameLine, BehindComment, NextLine, BlankLine}
use Rattle.el_keep.specs.Seams.{over_all, behind_word, follow_of, further, spaces, indent_of, comment_indent, broken, line_start, lead, last}
use Rattle.el_keep.specs.Kept.{blanks, gap_layout, past_word, kept_from}

-- the distance behind whitespace
abbrev far : Distance → List ℕ → Distance
far distance [] = distance
far distance (byte ∷ bytes) = far (further distance byte) bytes

far-spaces : (distance : Distance) (count : ℕ) → far distance (spaces count) ≡ distance
far-spaces distance Prim.Native.Nat.zero = refl
far-spaces SameLine (suc count) = far-spaces SameLine count
far-spaces BehindComment (suc count) = far-spaces BehindComment count
far-spaces NextLine (suc count) = far-spaces NextLine count
far-spaces BlankLine (suc count) = far-spaces BlankLine count

gap-led : (seam : Seam) (follow : Follow) (distance : Distance) (bytes : List ℕ) (items : List Item) → gap_layout seam follow distance (blanks bytes ++ items) ≡ gap_layout seam follow (far distance bytes) items
gap-led seam follow distance [] items = refl
gap-led seam follow distance (byte ∷ bytes) items = gap-led seam follow (further distance byte) bytes items

-- ---- what is written before a word and before a comment

-- the distances at which nothing stands on the line of a word
abbrev pub IsApart : Distance → Type 0
IsApart SameLine = ⊥
IsApart _ = Unit {0}

pub apart-further : (distance : Distance) (byte : ℕ) → IsApart distance → IsApart (further distance byte)
apart-further SameLine byte apart = absurd apart
apart-further BehindComment byte apart = by (byte == 10)
  where
    by : (breaks : Bool) → IsApart (if breaks then NextLine else BehindComment)
    by true = tt
    by false = tt
apart-further NextLine byte apart = by (byte == 10)
  where
    by : (breaks : Bool) → IsApart (if breaks then BlankLine else NextLine)
    by true = tt
    by false = tt
apart-further BlankLine byte apart = tt

-- where a gap is read from: behind a word, or behind a comment
data Start : Distance → Type 0 where
  of_word : Start SameLine
  of_comment : Start BehindComment

-- the distance of what stands behind a line's beginning
abbrev shown : Distance → Distance
shown BlankLine = BlankLine
shown _ = NextLine

far-line : (from : Distance) → Start from → (distance : Distance) (indent : ℕ) → far from (line_start distance indent) ≡ shown distance
far-line from of_word BlankLine indent = far-spaces BlankLine indent
far-line from of_word _ indent = far-spaces NextLine indent
far-line from of_comment BlankLine indent = far-spaces BlankLine indent
far-line from of_comment _ indent = far-spaces NextLine indent

shown-line : (distance : Distance) (indent : ℕ) → line_start (shown distance) indent ≡ line_start distance indent
shown-line BlankLine indent = refl
shown-line _ indent = refl

last-again : (from : Distance) → Start from → (seam : Seam) (follow : Follow) (distance : Distance) → last seam follow (far from (last seam follow distance)) ≡ last seam follow distance
last-again from start Top follow distance = refl
last-again from start (Within indent) Word distance = refl
last-again from start (Within indent) Close distance = refl
last-again from start (Within indent) End distance = refl
last-again from start (Below indent) Word distance = ap (λ (d : Distance). line_start d indent) (far-line from start distance indent) ∙ shown-line distance indent
last-again from start (Below indent) Close distance = ap (λ (d : Distance). line_start d indent) (far-line from start distance indent) ∙ shown-line distance indent
last-again from start (Below indent) End distance = refl

lead-apart : (from : Distance) → Start from → (seam : Seam) (follow : Follow) (distance : Distance) → IsApart distance → lead seam follow (far from (lead seam follow distance)) ≡ lead seam follow distance
lead-apart from start Top follow distance apart = refl
lead-apart from start (Within indent) follow SameLine apart = absurd apart
lead-apart from start (Within indent) follow BehindComment apart = ap (lead (Within indent) follow) (far-line from start BehindComment (comment_indent (Within indent) follow))
lead-apart from start (Within indent) follow NextLine apart = ap (lead (Within indent) follow) (far-line from start NextLine (comment_indent (Within indent) follow))
lead-apart from start (Within indent) follow BlankLine apart = ap (lead (Within indent) follow) (far-line from start BlankLine (comment_indent (Within indent) follow))
lead-apart from start (Below indent) follow SameLine apart = absurd apart
lead-apart from start (Below indent) follow BehindComment apart = ap (lead (Below indent) follow) (far-line from start BehindComment (comment_indent (Below indent) follow))
lead-apart from start (Below indent) follow NextLine apart = ap (lead (Below indent) follow) (far-line from start NextLine (comment_indent (Below indent) follow))
lead-apart from start (Below indent) follow BlankLine apart = ap (lead (Below indent) follow) (far-line from start BlankLine (comment_indent (Below indent) follow))

lead-again : (seam : Seam) (follow : Follow) (distance : Distance) → lead seam follow (far SameLine (lead seam follow distance)) ≡ lead seam follow distance
lead-again Top follow distance = refl
lead-again (Within indent) follow SameLine = refl
lead-again (Within indent) follow BehindComment = lead-apart SameLine of_word (Within indent) follow BehindComment tt
lead-again (Within indent) follow NextLine = lead-apart SameLine of_word (Within indent) follow NextLine tt
lead-again (Within indent) follow BlankLine = lead-apart SameLine of_word (Within indent) follow BlankLine tt
lead-again (Below indent) follow SameLine = refl
lead-again (Below indent) follow BehindComment = lead-apart SameLine of_word (Below indent) follow BehindComment tt
lead-again (Below indent) follow NextLine = lead-apart SameLine of_word (Below indent) follow NextLine tt
lead-again (Below indent) follow BlankLine = lead-apart SameLine of_word (Below indent) follow BlankLine tt

-- ---- gaps

-- a gap ends before these items: they are none, or begin with a word
abbrev Stops : List Item → Type 0
Stops behind = (seam : Seam) (follow : Follow) (distance : Distance) → gap_layout seam follow distance behind ≡ blanks (last seam follow distance)

gap-ends : (from : Distance) → Start from → (seam : Seam) (follow : Follow) (distance : Distance) (behind : List Item) → Stops behind
    → gap_layout seam follow from (blanks (last seam follow distance) ++ behind) ≡ blanks (last seam follow distance)
gap-ends from start seam follow distance behind stops =
    gap-led seam follow from (last seam follow distance) behind ∙ stops seam follow (far from (last seam follow distance)) ∙ ap blanks (last-again from start seam follow distance)

-- up to a comment and from there on
gap-goes : (from : Distance) (seam : Seam) (follow : Follow) (distance : Distance) (bytes : List ℕ) (gap behind : List Item)
    → lead seam follow (far from (lead seam follow distance)) ≡ lead seam follow distance → gap_layout (broken seam) follow BehindComment (gap ++ behind) ≡ gap
    → gap_layout seam follow from ((blanks (lead seam follow distance) ++ (Comment bytes ∷ gap)) ++ behind) ≡ blanks (lead seam follow distance) ++ (Comment bytes ∷ gap)
gap-goes from seam follow distance bytes gap behind led again =
    ap (gap_layout seam follow from) (append_assoc (blanks (lead seam follow distance)) (Comment bytes ∷ gap) behind)
    ∙ gap-led seam follow from (lead seam follow distance) (Comment bytes ∷ (gap ++ behind))
    ∙ ap₂ (λ (front : List ℕ) (more : List Item). blanks front ++ (Comment bytes ∷ more)) led again

behind-again : (indent : ℕ) (follow : Follow) (distance : Distance) (script behind : List Item) → IsApart distance → Stops behind
    → gap_layout (Below indent) follow BehindComment (gap_layout (Below indent) follow distance script ++ behind) ≡ gap_layout (Below indent) follow distance script
behind-again indent follow distance [] behind apart stops = gap-ends BehindComment of_comment (Below indent) follow distance behind stops
behind-again indent follow distance (Blank byte ∷ script) behind apart stops = behind-again indent follow (further distance byte) script behind (apart-further distance byte apart) stops
behind-again indent follow distance (Comment bytes ∷ script) behind apart stops =
    gap-goes BehindComment (Below indent) follow distance bytes (gap_layout (Below indent) follow BehindComment script) behind
    (lead-apart BehindComment of_comment (Below indent) follow distance apart) (behind-again indent follow BehindComment script behind tt stops)
behind-again indent follow distance (Wordly piece pieces ∷ script) behind apart stops = gap-ends BehindComment of_comment (Below indent) follow distance behind stops

gap-again : (seam : Seam) (follow : Follow) (distance : Distance) (script behind : List Item) → Stops behind
    → gap_layout seam follow SameLine (gap_layout seam follow distance script ++ behind) ≡ gap_layout seam follow distance script
gap-again seam follow distance [] behind stops = gap-ends SameLine of_word seam follow distance behind stops
gap-again seam follow distance (Blank byte ∷ script) behind stops = gap-again seam follow (further distance byte) script behind stops
gap-again seam follow distance (Comment bytes ∷ script) behind stops =
    gap-goes SameLine seam follow distance bytes (gap_layout (broken seam) follow BehindComment script) behind
    (lead-again seam follow distance) (behind-again (indent_of seam) follow BehindComment script behind tt stops)
gap-again seam follow distance (Wordly piece pieces ∷ script) behind stops = gap-ends SameLine of_word seam follow distance behind stops

-- ---- layouts

past-led : (bytes : List ℕ) (items : List Item) → past_word (blanks bytes ++ items) ≡ past_word items
past-led [] items = refl
past-led (byte ∷ bytes) items = past-led bytes items

-- what is written between two words holds none
past-gap : (seam : Seam) (follow : Follow) (distance : Distance) (script behind : List Item) → past_word (gap_layout seam follow distance script ++ behind) ≡ past_word behind
past-gap seam follow distance [] behind = past-led (last seam follow distance) behind
past-gap seam follow distance (Blank byte ∷ script) behind = past-gap seam follow (further distance byte) script behind
past-gap seam follow distance (Comment bytes ∷ script) behind =
    let gap = gap_layout (broken seam) follow BehindComment script in
    ap past_word (append_assoc (blanks (lead seam follow distance)) (Comment bytes ∷ gap) behind) ∙ past-led (lead seam follow distance) (Comment bytes ∷ (gap ++ behind))
    ∙ past-gap (broken seam) follow BehindComment script behind
past-gap seam follow distance (Wordly piece pieces ∷ script) behind = past-led (last seam follow distance) behind

pub kept-again : (seam : Seam) (layout script : List Item) → kept_from seam layout (kept_from seam layout script) ≡ kept_from seam layout script
kept-again seam [] script =
    ap (gap_layout seam End SameLine) (sym (append-nil (gap_layout seam End SameLine script))) ∙ gap-again seam End SameLine script [] (λ s f d. refl)
kept-again seam (Blank byte ∷ layout) script = kept-again (over_all seam (byte ∷ [])) layout script
kept-again seam (Comment bytes ∷ layout) script = kept-again (over_all seam (35 ∷ bytes)) layout script
kept-again seam (Wordly piece pieces ∷ layout) script =
    let follow = follow_of (pieces_text (piece ∷ pieces)) in
    let gap = gap_layout seam follow SameLine script in
    let behind = kept_from (behind_word seam) layout (past_word script) in
    ap₂ (λ (front more : List Item). front ++ (Wordly piece pieces ∷ kept_from (behind_word seam) layout more))
    (gap-again seam follow SameLine script (Wordly piece pieces ∷ behind) (λ s f d. refl)) (past-gap seam follow SameLine script (Wordly piece pieces ∷ behind))
    ∙ ap (λ (more : List Item). gap ++ (Wordly piece pieces ∷ more)) (kept-again (behind_word seam) layout (past_word script))
