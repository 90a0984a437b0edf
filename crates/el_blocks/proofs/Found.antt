-- What the computed answer says of the tokens: it is their spelling or their first brace fault.
use Rattle.std.proofs.Common.{◌≡◌, ℕ, zero, suc, ◌+◌, ◌≤◌, nat_lt, true, false, List, [], ◌∷◌, ◌++◌, Result, Ok, Err, refl, sym, ap, subst, ◌∙◌, append_assoc, append-nil, length, arith, IfOk, IfErr, ◌↔◌}
use Rattle.el_words.specs.Args.{Args, nothing, word, group, spelled, indented}
use Rattle.el_lex.specs.declared.token.Token.{Token}
use Rattle.el_lex.specs.declared.token.Token.TheVariants.{Word as WordToken, Open as OpenToken, Close as CloseToken}
use Rattle.el_blocks.specs.declared.fault.SpellFault.{SpellFault}
use Rattle.el_blocks.specs.declared.fault.SpellFault.TheVariants.{StrayClose, TooDeep, Unclosed, NoMemory}
use Rattle.el_blocks.specs.Tokens.{TokenShape, Text, Open, Close, shapes_of, shapes_in, levels, Spells}
use Rattle.el_blocks.specs.Braces.{shapes_behind, open_shapes, AreWithin, IsUnclosed, IsBraceFault}
use Rattle.el_blocks.specs.Computed.{in_front, outermost_of, spelled_end, spelled_from, spelling_of, IsAnswer}
use Rattle.el_blocks.proofs.Runs.{spelling-answered, fault-answered}

-- the ends of open blocks, each with the items behind it in the level round it, and then other shapes
abbrev shapes_after : List Args → List TokenShape → List TokenShape
shapes_after [] shapes = shapes
shapes_after (items ∷ levels) shapes = Close ∷ (shapes_in items ++ shapes_after levels shapes)

-- the same, spelled, where the last of these levels has so many open blocks round it
abbrev words_after : (base : ℕ) → List Args → List (List ℕ) → List (List ℕ)
words_after base [] words = words
words_after base (items ∷ levels) words = indented (base + length levels) [] ∷ (spelled (base + length levels) items ++ words_after base levels words)

-- the items in open blocks, spelled
abbrev words_behind : (base : ℕ) → List Args → List (List ℕ)
words_behind base [] = []
words_behind base (items ∷ blocks) = spelled (suc base) items ++ words_behind (suc base) blocks

abbrev AreLeftWithin : (base : ℕ) → List Args → Type 0
AreLeftWithin base [] = Unit {0}
AreLeftWithin base (items ∷ behind) = (base + length behind + levels items ≤ 255) × AreLeftWithin base behind

-- The tokens before the others: behind `depth` open blocks they hold these items, close blocks down to `base`, each with
-- items behind it, and open blocks up to `end`.
record Leads (base depth end : ℕ) (tokens others : List Token) (words : List (List ℕ)) : Type 0 where
  first : Args
  left : List Args
  blocks : List Args
  before : List Token
  begins : base + length left ≡ depth
  ends : base + length blocks ≡ end
  first_within : depth + levels first ≤ 255
  left_within : AreLeftWithin base left
  blocks_within : AreWithin (suc base) blocks
  are_tokens : before ++ others ≡ tokens
  are_shapes : shapes_in first ++ shapes_after left (shapes_behind blocks) ≡ shapes_of before
  are_words : spelled depth first ++ words_after base left (words_behind base blocks) ≡ words

leads-nothing : (depth : ℕ) (tokens : List Token) → depth ≤ 255 → Leads depth depth depth tokens tokens []
leads-nothing depth tokens within = record {
  first = nothing;
  left = [];
  blocks = [];
  before = [];
  begins = omega arith;
  ends = omega arith;
  first_within = omega arith;
  left_within = tt;
  blocks_within = omega arith;
  are_tokens = refl;
  are_shapes = refl;
  are_words = refl;
}

leads-word : (base depth end : ℕ) (tokens others : List Token) (words : List (List ℕ)) (text : List ℕ) (line : ℕ)
    → Leads base depth end tokens others words → Leads base depth end (WordToken line text ∷ tokens) others (indented depth text ∷ words)
leads-word base depth end tokens others words text line leads = record {
  first = word text leads.first;
  left = leads.left;
  blocks = leads.blocks;
  before = WordToken line text ∷ leads.before;
  begins = leads.begins;
  ends = leads.ends;
  first_within = leads.first_within;
  left_within = leads.left_within;
  blocks_within = leads.blocks_within;
  are_tokens = ap (λ r. WordToken line text ∷ r) leads.are_tokens;
  are_shapes = ap (λ r. Text text ∷ r) leads.are_shapes;
  are_words = ap (λ r. indented depth text ∷ r) leads.are_words;
}

leads-close : (base depth end : ℕ) (tokens others : List Token) (words : List (List ℕ)) (line : ℕ) → suc depth ≤ 255
    → Leads base depth end tokens others words → Leads base (suc depth) end (CloseToken line ∷ tokens) others (indented depth [] ∷ words)
leads-close base depth end tokens others words line within leads = record {
  first = nothing;
  left = leads.first ∷ leads.left;
  blocks = leads.blocks;
  before = CloseToken line ∷ leads.before;
  begins = omega (arith, leads.begins);
  ends = leads.ends;
  first_within = omega arith;
  left_within = (omega (arith, leads.begins, leads.first_within), leads.left_within);
  blocks_within = leads.blocks_within;
  are_tokens = ap (λ r. CloseToken line ∷ r) leads.are_tokens;
  are_shapes = ap (λ r. Close ∷ r) leads.are_shapes;
  are_words = ap (λ n. indented n [] ∷ (spelled n leads.first ++ words_after base leads.left (words_behind base leads.blocks))) leads.begins
      ∙ ap (λ r. indented depth [] ∷ r) leads.are_words;
}

-- an Open whose block is closed among the tokens behind
leads-group : (base depth end : ℕ) (inside items : Args) (left blocks : List Args) (before tokens others : List Token) (words : List (List ℕ)) (line : ℕ)
    → base + length left ≡ depth → base + length blocks ≡ end → suc depth + levels inside ≤ 255 → depth + levels items ≤ 255 → AreLeftWithin base left → AreWithin (suc base) blocks
    → before ++ others ≡ tokens → shapes_in inside ++ (Close ∷ (shapes_in items ++ shapes_after left (shapes_behind blocks))) ≡ shapes_of before
    → spelled (suc depth) inside ++ (indented depth [] ∷ (spelled depth items ++ words_after base left (words_behind base blocks))) ≡ words
    → Leads base depth end (OpenToken line ∷ tokens) others words
leads-group base depth end inside items left blocks before tokens others words line begins ends inside_within items_within left_within blocks_within are_tokens are_shapes are_words = record {
  first = group inside items;
  left = left;
  blocks = blocks;
  before = OpenToken line ∷ before;
  begins = begins;
  ends = ends;
  first_within = omega arith;
  left_within = left_within;
  blocks_within = blocks_within;
  are_tokens = ap (λ r. OpenToken line ∷ r) are_tokens;
  are_shapes = ap (λ r. Open ∷ r) (append_assoc (shapes_in inside) (Close ∷ shapes_in items) (shapes_after left (shapes_behind blocks)) ∙ are_shapes);
  are_words = append_assoc (spelled (suc depth) inside) (indented depth [] ∷ spelled depth items) (words_after base left (words_behind base blocks)) ∙ are_words;
}

-- an Open: its block is closed among the tokens behind, or it stays open
data Behind_open (base depth end : ℕ) (tokens others : List Token) (words : List (List ℕ)) : Type 0 where
  closed : Leads base depth end tokens others words → Behind_open base depth end tokens others words
  stays : base ≡ suc depth → Leads depth depth end tokens others words → Behind_open base depth end tokens others words

leads-open : (base depth end : ℕ) (tokens others : List Token) (words : List (List ℕ)) (line : ℕ)
    → Leads base (suc depth) end tokens others words → Behind_open base depth end (OpenToken line ∷ tokens) others words
leads-open base depth end tokens others words line leads = by leads.left leads.begins leads.left_within leads.are_shapes leads.are_words
  where
    by : (left : List Args) → base + length left ≡ suc depth → AreLeftWithin base left
        → shapes_in leads.first ++ shapes_after left (shapes_behind leads.blocks) ≡ shapes_of leads.before
        → spelled (suc depth) leads.first ++ words_after base left (words_behind base leads.blocks) ≡ words
        → Behind_open base depth end (OpenToken line ∷ tokens) others words
    by [] begins left_within are_shapes are_words =
        let same : base ≡ suc depth = omega arith in
        stays same (record {
          first = nothing;
          left = [];
          blocks = leads.first ∷ leads.blocks;
          before = OpenToken line ∷ leads.before;
          begins = omega arith;
          ends = omega (arith, leads.ends);
          first_within = omega (arith, leads.first_within);
          left_within = tt;
          blocks_within = (leads.first_within, subst (λ n. AreWithin (suc n) leads.blocks) same leads.blocks_within);
          are_tokens = ap (λ r. OpenToken line ∷ r) leads.are_tokens;
          are_shapes = ap (λ r. Open ∷ r) are_shapes;
          are_words = ap (λ n. spelled (suc depth) leads.first ++ words_behind n leads.blocks) (sym same) ∙ are_words;
        })
    by (items ∷ left) begins left_within are_shapes are_words =
        let same : base + length left ≡ depth = omega arith in
        closed (leads-group base depth end leads.first items left leads.blocks leads.before tokens others words line
        same leads.ends leads.first_within (omega (arith, left_within.0)) left_within.1 leads.blocks_within leads.are_tokens are_shapes
        (ap (λ n. spelled (suc depth) leads.first ++ (indented n [] ∷ (spelled n items ++ words_after base left (words_behind base leads.blocks)))) (sym same) ∙ are_words))

-- ---- what an answer says of the tokens behind so many open blocks

record Led (base depth end : ℕ) (tokens others : List Token) : Type 0 where
  words : List (List ℕ)
  leads : Leads base depth end tokens others words

-- an Open is never closed: that of a line outside, or one among the tokens
data LeftOpen (depth outermost : ℕ) (tokens : List Token) (line : ℕ) : Type 0 where
  outside : (base end : ℕ) → line ≡ outermost → Led (suc base) depth end tokens [] → LeftOpen depth outermost tokens line
  among : (end : ℕ) (after : List Token) → Led 0 depth 0 tokens (OpenToken line ∷ after) → Led 1 1 end after [] → LeftOpen depth outermost tokens line

abbrev FoundSpelled : (depth outermost : ℕ) → List Token → Result (List (List ℕ)) SpellFault → Type 0
FoundSpelled depth outermost tokens (Ok words) = Leads 0 depth 0 tokens [] words
FoundSpelled depth outermost tokens (Err (StrayClose line)) = (after : List Token) × Led 0 depth 0 tokens (CloseToken line ∷ after)
FoundSpelled depth outermost tokens (Err (TooDeep line)) = (base : ℕ) × (after : List Token) × Led base depth 255 tokens (OpenToken line ∷ after)
FoundSpelled depth outermost tokens (Err (Unclosed line)) = LeftOpen depth outermost tokens line
FoundSpelled depth outermost tokens (Err NoMemory) = ⊥

led-word : (base depth end : ℕ) (tokens others : List Token) (text : List ℕ) (line : ℕ) → Led base depth end tokens others → Led base depth end (WordToken line text ∷ tokens) others
led-word base depth end tokens others text line led = record { words = indented depth text ∷ led.words; leads = leads-word base depth end tokens others led.words text line led.leads }

led-close : (base depth end : ℕ) (tokens others : List Token) (line : ℕ) → suc depth ≤ 255 → Led base depth end tokens others → Led base (suc depth) end (CloseToken line ∷ tokens) others
led-close base depth end tokens others line within led = record { words = indented depth [] ∷ led.words; leads = leads-close base depth end tokens others led.words line within led.leads }

-- all blocks that are open before are closed, and so is this one
leads-open-0 : (depth end : ℕ) (tokens others : List Token) (words : List (List ℕ)) (line : ℕ)
    → Leads 0 (suc depth) end tokens others words → Leads 0 depth end (OpenToken line ∷ tokens) others words
leads-open-0 depth end tokens others words line leads = by (leads-open 0 depth end tokens others words line leads)
  where
    by : Behind_open 0 depth end (OpenToken line ∷ tokens) others words → Leads 0 depth end (OpenToken line ∷ tokens) others words
    by (closed leads) = leads
    by (stays same leads) = absurd (omega arith)

led-open-0 : (depth end : ℕ) (tokens others : List Token) (line : ℕ) → Led 0 (suc depth) end tokens others → Led 0 depth end (OpenToken line ∷ tokens) others
led-open-0 depth end tokens others line led = record { words = led.words; leads = leads-open-0 depth end tokens others led.words line led.leads }

found-word : (depth outermost : ℕ) (tokens : List Token) (text : List ℕ) (line : ℕ) (answer : Result (List (List ℕ)) SpellFault)
    → FoundSpelled depth outermost tokens answer → FoundSpelled depth outermost (WordToken line text ∷ tokens) (in_front (indented depth text ∷ []) answer)
found-word depth outermost tokens text line (Ok words) leads = leads-word 0 depth 0 tokens [] words text line leads
found-word depth outermost tokens text line (Err (StrayClose at)) (after, led) = (after, led-word 0 depth 0 tokens (CloseToken at ∷ after) text line led)
found-word depth outermost tokens text line (Err (TooDeep at)) (base, after, led) = (base, after, led-word base depth 255 tokens (OpenToken at ∷ after) text line led)
found-word depth outermost tokens text line (Err (Unclosed at)) (outside base end same led) = outside base end same (led-word (suc base) depth end tokens [] text line led)
found-word depth outermost tokens text line (Err (Unclosed at)) (among end after led more) = among end after (led-word 0 depth 0 tokens (OpenToken at ∷ after) text line led) more
found-word depth outermost tokens text line (Err NoMemory) never = absurd never

found-close : (depth outermost : ℕ) (tokens : List Token) (line : ℕ) (answer : Result (List (List ℕ)) SpellFault) → suc depth ≤ 255
    → FoundSpelled depth outermost tokens answer → FoundSpelled (suc depth) outermost (CloseToken line ∷ tokens) (in_front (indented depth [] ∷ []) answer)
found-close depth outermost tokens line (Ok words) within leads = leads-close 0 depth 0 tokens [] words line within leads
found-close depth outermost tokens line (Err (StrayClose at)) within (after, led) = (after, led-close 0 depth 0 tokens (CloseToken at ∷ after) line within led)
found-close depth outermost tokens line (Err (TooDeep at)) within (base, after, led) = (base, after, led-close base depth 255 tokens (OpenToken at ∷ after) line within led)
found-close depth outermost tokens line (Err (Unclosed at)) within (outside base end same led) = outside base end same (led-close (suc base) depth end tokens [] line within led)
found-close depth outermost tokens line (Err (Unclosed at)) within (among end after led more) = among end after (led-close 0 depth 0 tokens (OpenToken at ∷ after) line within led) more
found-close depth outermost tokens line (Err NoMemory) within never = absurd never

deep-open : (base depth line at : ℕ) (tokens after : List Token) → Led base (suc depth) 255 tokens (OpenToken at ∷ after)
    → (base : ℕ) × (after : List Token) × Led base depth 255 (OpenToken line ∷ tokens) (OpenToken at ∷ after)
deep-open base depth line at tokens after led = by (leads-open base depth 255 tokens (OpenToken at ∷ after) led.words line led.leads)
  where
    by : Behind_open base depth 255 (OpenToken line ∷ tokens) (OpenToken at ∷ after) led.words
        → (base : ℕ) × (after : List Token) × Led base depth 255 (OpenToken line ∷ tokens) (OpenToken at ∷ after)
    by (closed leads) = (base, after, record { words = led.words; leads = leads })
    by (stays same leads) = (depth, after, record { words = led.words; leads = leads })

-- a block is left open that was open before this Open, or that this Open begins
left-open : (base depth end outermost line at : ℕ) (tokens : List Token) → depth ≤ 255 → at ≡ outermost_of depth outermost line → Led (suc base) (suc depth) end tokens []
    → LeftOpen depth outermost (OpenToken line ∷ tokens) at
left-open base zero end outermost line at tokens within same led =
    let only : base ≡ 0 = omega (arith, led.leads.begins) in
    let here : Led 0 0 0 (OpenToken line ∷ tokens) (OpenToken line ∷ tokens) = record { words = []; leads = leads-nothing 0 (OpenToken line ∷ tokens) (omega arith) } in
    among end tokens (subst (λ l. Led 0 0 0 (OpenToken line ∷ tokens) (OpenToken l ∷ tokens)) (sym same) here)
    (subst (λ n. Led (suc n) 1 end tokens []) only led)
left-open base (suc depth) end outermost line at tokens within same led = by (leads-open (suc base) (suc depth) end tokens [] led.words line led.leads)
  where
    by : Behind_open (suc base) (suc depth) end (OpenToken line ∷ tokens) [] led.words → LeftOpen (suc depth) outermost (OpenToken line ∷ tokens) at
    by (closed leads) = outside base end same (record { words = led.words; leads = leads })
    by (stays deeper leads) = outside depth end same (record { words = led.words; leads = leads })

found-open : (depth outermost : ℕ) (tokens : List Token) (line : ℕ) (answer : Result (List (List ℕ)) SpellFault) → depth ≤ 255
    → FoundSpelled (suc depth) (outermost_of depth outermost line) tokens answer → FoundSpelled depth outermost (OpenToken line ∷ tokens) answer
found-open depth outermost tokens line (Ok words) within leads = leads-open-0 depth 0 tokens [] words line leads
found-open depth outermost tokens line (Err (StrayClose at)) within (after, led) = (after, led-open-0 depth 0 tokens (CloseToken at ∷ after) line led)
found-open depth outermost tokens line (Err (TooDeep at)) within (base, after, led) = deep-open base depth line at tokens after led
found-open depth outermost tokens line (Err (Unclosed at)) within (outside base end same led) = left-open base depth end outermost line at tokens within same led
found-open depth outermost tokens line (Err (Unclosed at)) within (among end after led more) = among end after (led-open-0 depth 0 tokens (OpenToken at ∷ after) line led) more
found-open depth outermost tokens line (Err NoMemory) within never = absurd never

found-end : (depth outermost : ℕ) → depth ≤ 255 → FoundSpelled depth outermost [] (spelled_end depth outermost)
found-end zero outermost within = leads-nothing 0 [] within
found-end (suc depth) outermost within = outside depth (suc depth) refl (record { words = []; leads = leads-nothing (suc depth) [] within })

found : (tokens : List Token) (depth outermost : ℕ) → depth ≤ 255 → FoundSpelled depth outermost tokens (spelled_from depth outermost tokens)
found [] depth outermost within = found-end depth outermost within
found (WordToken line text ∷ tokens) depth outermost within =
    found-word depth outermost tokens text line (spelled_from depth outermost tokens) (found tokens depth outermost within)
found (OpenToken line ∷ tokens) depth outermost within =
    by (λ below. found tokens (suc depth) (outermost_of depth outermost line) below) (nat_lt depth 255) refl
  where
    by : (suc depth ≤ 255 → FoundSpelled (suc depth) (outermost_of depth outermost line) tokens (spelled_from (suc depth) (outermost_of depth outermost line) tokens))
        → (below : _) → nat_lt depth 255 ≡ below → FoundSpelled depth outermost (OpenToken line ∷ tokens) (spelled_from depth outermost (OpenToken line ∷ tokens))
    by behind true below = rw below (found-open depth outermost tokens line (spelled_from (suc depth) (outermost_of depth outermost line) tokens) within (behind (grind (arith, below))))
    by behind false full =
        let deep : 255 ≡ depth = grind (arith, full) in
        rw full (depth, tokens, record { words = []; leads = subst (λ n. Leads depth depth n (OpenToken line ∷ tokens) (OpenToken line ∷ tokens) []) (sym deep) (leads-nothing depth (OpenToken line ∷ tokens) within) })
found (CloseToken line ∷ tokens) zero outermost within =
    (tokens, record { words = []; leads = leads-nothing 0 (CloseToken line ∷ tokens) within })
found (CloseToken line ∷ tokens) (suc depth) outermost within =
    found-close depth outermost tokens line (spelled_from depth outermost tokens) within (found tokens depth outermost (omega arith))

-- ---- outside all blocks

-- tokens that lead from outside all blocks to there are whole items
record Whole (tokens others : List Token) (words : List (List ℕ)) : Type 0 where
  items : Args
  before : List Token
  are_tokens : before ++ others ≡ tokens
  are_shapes : shapes_in items ≡ shapes_of before
  within : levels items ≤ 255
  are_words : spelled 0 items ≡ words

whole : (tokens others : List Token) (words : List (List ℕ)) → Leads 0 0 0 tokens others words → Whole tokens others words
whole tokens others words leads = by leads.left leads.blocks leads.begins leads.ends leads.are_shapes leads.are_words
  where
    by : (left blocks : List Args) → 0 + length left ≡ 0 → 0 + length blocks ≡ 0
        → shapes_in leads.first ++ shapes_after left (shapes_behind blocks) ≡ shapes_of leads.before
        → spelled 0 leads.first ++ words_after 0 left (words_behind 0 blocks) ≡ words → Whole tokens others words
    by [] [] begins ends are_shapes are_words = record {
      items = leads.first;
      before = leads.before;
      are_tokens = leads.are_tokens;
      are_shapes = sym (append-nil (shapes_in leads.first)) ∙ are_shapes;
      within = omega (arith, leads.first_within);
      are_words = sym (append-nil (spelled 0 leads.first)) ∙ are_words;
    }
    by [] (items ∷ blocks) begins ends are_shapes are_words = absurd (omega arith)
    by (items ∷ left) blocks begins ends are_shapes are_words = absurd (omega arith)

-- tokens that lead out of no block open blocks alone
record Open_blocks (base end : ℕ) (tokens others : List Token) : Type 0 where
  items : Args
  blocks : List Args
  before : List Token
  are_tokens : before ++ others ≡ tokens
  are_shapes : open_shapes items blocks ≡ shapes_of before
  within : AreWithin base (items ∷ blocks)
  ends : base + length blocks ≡ end

open_blocks : (depth base end : ℕ) (tokens others : List Token) → base ≡ depth → Led base depth end tokens others → Open_blocks depth end tokens others
open_blocks depth base end tokens others same led = by led.leads.left led.leads.begins led.leads.are_shapes
  where
    by : (left : List Args) → base + length left ≡ depth → shapes_in led.leads.first ++ shapes_after left (shapes_behind led.leads.blocks) ≡ shapes_of led.leads.before
        → Open_blocks depth end tokens others
    by [] begins are_shapes = record {
      items = led.leads.first;
      blocks = led.leads.blocks;
      before = led.leads.before;
      are_tokens = led.leads.are_tokens;
      are_shapes = are_shapes;
      within = (led.leads.first_within, subst (λ n. AreWithin (suc n) led.leads.blocks) same led.leads.blocks_within);
      ends = omega (arith, led.leads.ends);
    }
    by (items ∷ left) begins are_shapes = absurd (omega arith)

found-spelling : (tokens : List Token) (words : List (List ℕ)) → FoundSpelled 0 0 tokens (Ok words) → Spells tokens words
found-spelling tokens words leads =
    let w = whole tokens [] words leads in
    record {
      args = w.items;
      are_tokens = w.are_shapes ∙ ap shapes_of (sym (append-nil w.before) ∙ w.are_tokens);
      within = w.within;
      are_words = w.are_words;
    }

found-unclosed : (tokens : List Token) (line : ℕ) → LeftOpen 0 0 tokens line → IsUnclosed tokens line
found-unclosed tokens line (outside base end same led) = absurd (omega (arith, led.leads.begins))
found-unclosed tokens line (among end after led more) =
    let w = whole tokens (OpenToken line ∷ after) led.words led.leads in
    let o = open_blocks 1 1 end after [] refl more in
    record {
      before = w.before;
      after = after;
      items = w.items;
      inside = o.items;
      blocks = o.blocks;
      are_tokens = w.are_tokens;
      closed = w.are_shapes;
      are_open = o.are_shapes ∙ ap shapes_of (sym (append-nil o.before) ∙ o.are_tokens);
      within = (omega (arith, w.within), o.within);
    }

found-fault : (tokens : List Token) (fault : SpellFault) → FoundSpelled 0 0 tokens (Err fault) → IsBraceFault tokens fault
found-fault tokens (StrayClose line) (after, led) =
    let w = whole tokens (CloseToken line ∷ after) led.words led.leads in
    record { before = w.before; after = after; items = w.items; are_tokens = w.are_tokens; closed = w.are_shapes; within = w.within }
found-fault tokens (TooDeep line) (base, after, led) =
    let o = open_blocks 0 base 255 tokens (OpenToken line ∷ after) (omega (arith, led.leads.begins)) led in
    record { before = o.before; after = after; items = o.items; blocks = o.blocks; are_tokens = o.are_tokens; are_open = o.are_shapes; deepest = omega (arith, o.ends); within = o.within }
found-fault tokens (Unclosed line) left = found-unclosed tokens line left
found-fault tokens NoMemory never = absurd never

computed-spelling : (tokens : List Token) (words : List (List ℕ)) → spelling_of tokens ≡ Ok words → Spells tokens words
computed-spelling tokens words is = found-spelling tokens words (subst (FoundSpelled 0 0 tokens) is (found tokens 0 0 (omega arith)))

computed-fault : (tokens : List Token) (fault : SpellFault) → spelling_of tokens ≡ Err fault → (fault ≡ NoMemory → ⊥) × IsBraceFault tokens fault
computed-fault tokens fault is =
    let at : FoundSpelled 0 0 tokens (Err fault) = subst (FoundSpelled 0 0 tokens) is (found tokens 0 0 (omega arith)) in
    (known fault at, found-fault tokens fault at)
  where
    known : (fault : SpellFault) → FoundSpelled 0 0 tokens (Err fault) → fault ≡ NoMemory → ⊥
    known fault at same = subst (λ f. FoundSpelled 0 0 tokens (Err f)) same at

pub spelling-computed : (tokens : List Token) (words : List (List ℕ)) → Spells tokens words ↔ (spelling_of tokens ≡ Ok words)
spelling-computed tokens words = (spelling-answered tokens words, computed-spelling tokens words)

pub fault-computed : (tokens : List Token) (fault : SpellFault) → ((fault ≡ NoMemory → ⊥) × IsBraceFault tokens fault) ↔ (spelling_of tokens ≡ Err fault)
fault-computed tokens fault = (λ (known, is). fault-answered tokens fault known is, computed-fault tokens fault)

-- ---- the clauses of `spell`

pub answer-ok : (tokens : List Token) (result : Result (List (List ℕ)) SpellFault) → IsAnswer (spelling_of tokens) result → IfOk result (Spells tokens)
answer-ok tokens (Ok words) is = computed-spelling tokens words is
answer-ok tokens (Err fault) is = tt

pub answer-fault : (tokens : List Token) (result : Result (List (List ℕ)) SpellFault) → IsAnswer (spelling_of tokens) result → IfErr result (IsBraceFault tokens)
answer-fault tokens (Ok words) is = tt
answer-fault tokens (Err (StrayClose line)) is = (computed-fault tokens (StrayClose line) is).1
answer-fault tokens (Err (TooDeep line)) is = (computed-fault tokens (TooDeep line) is).1
answer-fault tokens (Err (Unclosed line)) is = (computed-fault tokens (Unclosed line) is).1
answer-fault tokens (Err NoMemory) is = tt
