-- What the words, groups and open blocks of tokens are spelled as: of a spelling and of a brace fault the computed answer.
use Rattle.std.proofs.Common.{◌≡◌, ℕ, zero, suc, ◌+◌, ◌<◌, ◌≤◌, nat_lt, true, false, List, [], ◌∷◌, ◌++◌, Result, Ok, Err, refl, sym, ap, ◌∙◌, append_assoc, append-nil, length, arith}
use Rattle.el_words.specs.Args.{Args, nothing, word, group, spelled, indented}
use Rattle.el_lex.specs.declared.token.Token.{Token}
use Rattle.el_lex.specs.declared.token.Token.TheVariants.{Word as WordToken, Open as OpenToken, Close as CloseToken}
use Rattle.el_blocks.specs.declared.fault.SpellFault.{SpellFault}
use Rattle.el_blocks.specs.declared.fault.SpellFault.TheVariants.{StrayClose, TooDeep, Unclosed, NoMemory}
use Rattle.el_blocks.specs.Tokens.{TokenShape, Close, shapes_of, shapes_in, levels, Spells}
use Rattle.el_blocks.specs.Braces.{shapes_behind, open_shapes, AreWithin, IsBraceFault}
use Rattle.el_blocks.specs.Computed.{in_front, outermost_of, spelled_from, spelling_of}

abbrev Spelled : Type 0
Spelled = Result (List (List ℕ)) SpellFault

pub in_front-nothing : (answer : Result (List (List ℕ)) SpellFault) → in_front [] answer ≡ answer
in_front-nothing (Ok words) = refl
in_front-nothing (Err fault) = refl

pub in_front-append : (one other : List (List ℕ)) (answer : Result (List (List ℕ)) SpellFault) → in_front (one ++ other) answer ≡ in_front one (in_front other answer)
in_front-append one other (Ok words) = ap Ok (append_assoc one other words)
in_front-append one other (Err fault) = refl

pub in_front-err : (words : List (List ℕ)) (answer : Result (List (List ℕ)) SpellFault) (fault : SpellFault) → answer ≡ Err fault → in_front words answer ≡ Err fault
in_front-err words (Ok more) fault is = cc
in_front-err words (Err other) fault is = is

outermost_inside : (depth outermost line : ℕ) → 0 < depth → outermost_of depth outermost line ≡ outermost
outermost_inside zero outermost line inside = absurd (omega arith)
outermost_inside (suc depth) outermost line inside = refl

-- an Open within 255 levels
pub spelled-open : (depth outermost line : ℕ) (tokens : List Token) → depth < 255 → spelled_from depth outermost (OpenToken line ∷ tokens) ≡ spelled_from (suc depth) (outermost_of depth outermost line) tokens
spelled-open depth outermost line tokens below = let lt : nat_lt depth 255 ≡ true = grind arith in rw lt refl

-- tokens before others are spelled, up to the last ones of these shapes
record Ran (depth outermost : ℕ) (tokens others : List Token) (shapes : List TokenShape) (words : List (List ℕ)) : Type 0 where
  last : List Token
  new_outermost : ℕ
  are_last : shapes ≡ shapes_of last
  is : spelled_from depth outermost (tokens ++ others) ≡ in_front words (spelled_from depth new_outermost (last ++ others))
  kept : 0 < depth → new_outermost ≡ outermost

ran-nothing : (depth outermost : ℕ) (tokens others : List Token) (shapes : List TokenShape) → shapes ≡ shapes_of tokens → Ran depth outermost tokens others shapes []
ran-nothing depth outermost tokens others shapes are = record {
  last = tokens;
  new_outermost = outermost;
  are_last = are;
  is = sym (in_front-nothing (spelled_from depth outermost (tokens ++ others)));
  kept = λ inside. refl;
}

ran-word : (depth outermost : ℕ) (tokens others : List Token) (shapes : List TokenShape) (words : List (List ℕ)) (text said : List ℕ) (line : ℕ) → text ≡ said
    → Ran depth outermost tokens others shapes words → Ran depth outermost (WordToken line said ∷ tokens) others shapes (indented depth text ∷ words)
ran-word depth outermost tokens others shapes words text said line same ran = record {
  last = ran.last;
  new_outermost = ran.new_outermost;
  are_last = ran.are_last;
  is = ap (in_front (indented depth said ∷ [])) ran.is
      ∙ sym (in_front-append (indented depth said ∷ []) words (spelled_from depth ran.new_outermost (ran.last ++ others)))
      ∙ ap (λ t. in_front (indented depth t ∷ words) (spelled_from depth ran.new_outermost (ran.last ++ others))) (sym same);
  kept = ran.kept;
}

ran-group : (depth outermost line end : ℕ) (tokens behind others : List Token) (shapes : List TokenShape) (inside words : List (List ℕ)) (inner : ℕ) → depth < 255
    → spelled_from (suc depth) (outermost_of depth outermost line) (tokens ++ others) ≡ in_front inside (spelled_from (suc depth) inner (CloseToken end ∷ (behind ++ others)))
    → (0 < suc depth → inner ≡ outermost_of depth outermost line)
    → Ran depth inner behind others shapes words
    → Ran depth outermost (OpenToken line ∷ tokens) others shapes (inside ++ (indented depth [] ∷ words))
ran-group depth outermost line end tokens behind others shapes inside words inner below is kept ran = record {
  last = ran.last;
  new_outermost = ran.new_outermost;
  are_last = ran.are_last;
  is = spelled-open depth outermost line (tokens ++ others) below ∙ is
      ∙ ap (λ r. in_front inside (in_front (indented depth [] ∷ []) r)) ran.is
      ∙ ap (in_front inside) (sym (in_front-append (indented depth [] ∷ []) words (spelled_from depth ran.new_outermost (ran.last ++ others))))
      ∙ sym (in_front-append inside (indented depth [] ∷ words) (spelled_from depth ran.new_outermost (ran.last ++ others)));
  kept = λ deep. ran.kept deep ∙ kept (omega arith) ∙ outermost_inside depth outermost line deep;
}

-- items are spelled as they should be
run : (items : Args) (depth outermost : ℕ) (tokens others : List Token) (shapes : List TokenShape) → shapes_in items ++ shapes ≡ shapes_of tokens → depth + levels items ≤ 255
    → Ran depth outermost tokens others shapes (spelled depth items)
run nothing depth outermost tokens others shapes are within = ran-nothing depth outermost tokens others shapes are
run (word text rest) depth outermost [] others shapes are within = let no : ⊥ = cc in absurd no
run (word text rest) depth outermost (OpenToken line ∷ tokens) others shapes are within = let no : ⊥ = cc in absurd no
run (word text rest) depth outermost (CloseToken line ∷ tokens) others shapes are within = let no : ⊥ = cc in absurd no
run (word text rest) depth outermost (WordToken line said ∷ tokens) others shapes are within =
    ran-word depth outermost tokens others shapes (spelled depth rest) text said line (cc) (run rest depth outermost tokens others shapes (cc) within)
run (group inside rest) depth outermost [] others shapes are within = let no : ⊥ = cc in absurd no
run (group inside rest) depth outermost (WordToken line said ∷ tokens) others shapes are within = let no : ⊥ = cc in absurd no
run (group inside rest) depth outermost (CloseToken line ∷ tokens) others shapes are within = let no : ⊥ = cc in absurd no
run (group inside rest) depth outermost (OpenToken line ∷ tokens) others shapes are within =
    let behind : (shapes_in inside ++ (Close ∷ shapes_in rest)) ++ shapes ≡ shapes_of tokens = cc in
    let ran = run inside (suc depth) (outermost_of depth outermost line) tokens others (Close ∷ (shapes_in rest ++ shapes))
    (sym (append_assoc (shapes_in inside) (Close ∷ shapes_in rest) shapes) ∙ behind) (omega arith) in
    ending (λ inner last are_behind. run rest depth inner last others shapes are_behind (omega arith)) ran.last ran.new_outermost ran.are_last ran.is ran.kept
  where
    ending : ((inner : ℕ) (last : List Token) → shapes_in rest ++ shapes ≡ shapes_of last → Ran depth inner last others shapes (spelled depth rest))
        → (last : List Token) (inner : ℕ) → Close ∷ (shapes_in rest ++ shapes) ≡ shapes_of last
        → spelled_from (suc depth) (outermost_of depth outermost line) (tokens ++ others) ≡ in_front (spelled (suc depth) inside) (spelled_from (suc depth) inner (last ++ others))
        → (0 < suc depth → inner ≡ outermost_of depth outermost line)
        → Ran depth outermost (OpenToken line ∷ tokens) others shapes (spelled depth (group inside rest))
    ending next [] inner are_last is kept = let no : ⊥ = cc in absurd no
    ending next (WordToken end said ∷ last) inner are_last is kept = let no : ⊥ = cc in absurd no
    ending next (OpenToken end ∷ last) inner are_last is kept = let no : ⊥ = cc in absurd no
    ending next (CloseToken end ∷ last) inner are_last is kept =
        ran-group depth outermost line end tokens last others shapes (spelled (suc depth) inside) (spelled depth rest) inner (omega arith) is kept (next inner last (cc))

-- tokens that leave so many blocks open are spelled, and others behind them
record Opened (depth outermost more : ℕ) (tokens others : List Token) : Type 0 where
  words : List (List ℕ)
  new_outermost : ℕ
  is : spelled_from depth outermost (tokens ++ others) ≡ in_front words (spelled_from (depth + more) new_outermost others)
  kept : 0 < depth → new_outermost ≡ outermost

run-open : (blocks : List Args) (items : Args) (depth outermost : ℕ) (tokens others : List Token) → open_shapes items blocks ≡ shapes_of tokens → AreWithin depth (items ∷ blocks)
    → Opened depth outermost (length blocks) tokens others
run-open [] items depth outermost tokens others are within =
    let ran = run items depth outermost tokens others [] are within.0 in
    ending ran.last ran.new_outermost ran.are_last ran.is ran.kept
  where
    ending : (last : List Token) (inner : ℕ) → [] ≡ shapes_of last
        → spelled_from depth outermost (tokens ++ others) ≡ in_front (spelled depth items) (spelled_from depth inner (last ++ others))
        → (0 < depth → inner ≡ outermost) → Opened depth outermost 0 tokens others
    ending [] inner are_last is kept = record {
      words = spelled depth items;
      new_outermost = inner;
      is = is ∙ ap (λ n. in_front (spelled depth items) (spelled_from n inner others)) (omega arith);
      kept = kept;
    }
    ending (token ∷ last) inner are_last is kept = let no : ⊥ = cc in absurd no
run-open (inside ∷ blocks) items depth outermost tokens others are within =
    let ran = run items depth outermost tokens others (shapes_behind (inside ∷ blocks)) are within.0 in
    ending (λ line inner last are_behind. run-open blocks inside (suc depth) (outermost_of depth inner line) last others are_behind within.1) ran.last ran.new_outermost ran.are_last ran.is ran.kept
  where
    deeper : (depth : ℕ) → AreWithin (suc depth) (inside ∷ blocks) → depth < 255
    deeper depth within = let first = within.0 in omega arith

    ending : ((line inner : ℕ) (last : List Token) → open_shapes inside blocks ≡ shapes_of last → Opened (suc depth) (outermost_of depth inner line) (length blocks) last others)
        → (last : List Token) (inner : ℕ) → shapes_behind (inside ∷ blocks) ≡ shapes_of last
        → spelled_from depth outermost (tokens ++ others) ≡ in_front (spelled depth items) (spelled_from depth inner (last ++ others))
        → (0 < depth → inner ≡ outermost) → Opened depth outermost (suc (length blocks)) tokens others
    ending next [] inner are_last is kept = let no : ⊥ = cc in absurd no
    ending next (WordToken line said ∷ last) inner are_last is kept = let no : ⊥ = cc in absurd no
    ending next (CloseToken line ∷ last) inner are_last is kept = let no : ⊥ = cc in absurd no
    ending next (OpenToken line ∷ last) inner are_last is kept =
        let opened = next line inner last (cc) in
        record {
          words = spelled depth items ++ opened.words;
          new_outermost = opened.new_outermost;
          is = is ∙ ap (in_front (spelled depth items)) (spelled-open depth inner line (last ++ others) (deeper depth within.1) ∙ opened.is)
              ∙ sym (in_front-append (spelled depth items) opened.words (spelled_from (suc depth + length blocks) opened.new_outermost others))
              ∙ ap (λ n. in_front (spelled depth items ++ opened.words) (spelled_from n opened.new_outermost others)) (omega arith);
          kept = λ deep. opened.kept (omega arith) ∙ outermost_inside depth inner line deep ∙ kept deep;
        }

-- ---- what has a spelling or a brace fault is answered so

pub spelling-answered : (tokens : List Token) (words : List (List ℕ)) → Spells tokens words → spelling_of tokens ≡ Ok words
spelling-answered tokens words spells =
    let ran = run spells.args 0 0 tokens [] [] (append-nil (shapes_in spells.args) ∙ spells.are_tokens) (omega (arith, spells.within)) in
    ending ran.last ran.new_outermost ran.are_last ran.is
  where
    ending : (last : List Token) (inner : ℕ) → [] ≡ shapes_of last → spelled_from 0 0 (tokens ++ []) ≡ in_front (spelled 0 spells.args) (spelled_from 0 inner (last ++ [])) → spelling_of tokens ≡ Ok words
    ending [] inner are_last is = ap (spelled_from 0 0) (sym (append-nil tokens)) ∙ is ∙ ap Ok (append-nil (spelled 0 spells.args) ∙ spells.are_words)
    ending (token ∷ last) inner are_last is = let no : ⊥ = cc in absurd no

-- behind whole items, the answer is that of the tokens behind them
after-items : (items : Args) (before others : List Token) (fault : SpellFault) → shapes_in items ≡ shapes_of before → levels items ≤ 255
    → ((outermost : ℕ) → spelled_from 0 outermost others ≡ Err fault) → spelling_of (before ++ others) ≡ Err fault
after-items items before others fault closed within is =
    let ran = run items 0 0 before others [] (append-nil (shapes_in items) ∙ closed) (omega arith) in
    ending ran.last ran.new_outermost ran.are_last ran.is
  where
    ending : (last : List Token) (inner : ℕ) → [] ≡ shapes_of last → spelled_from 0 0 (before ++ others) ≡ in_front (spelled 0 items) (spelled_from 0 inner (last ++ others)) → spelling_of (before ++ others) ≡ Err fault
    ending [] inner are_last ran = ran ∙ in_front-err (spelled 0 items) (spelled_from 0 inner others) fault (is inner)
    ending (token ∷ last) inner are_last ran = let no : ⊥ = cc in absurd no

unclosed-answered : (inside : Args) (blocks : List Args) (line outermost : ℕ) (after : List Token) → open_shapes inside blocks ≡ shapes_of after → AreWithin 1 (inside ∷ blocks)
    → spelled_from 0 outermost (OpenToken line ∷ after) ≡ Err (Unclosed line)
unclosed-answered inside blocks line outermost after are_open within =
    let opened = run-open blocks inside 1 line after [] are_open within in
    spelled-open 0 outermost line after (omega arith)
    ∙ ap (spelled_from 1 line) (sym (append-nil after))
    ∙ opened.is
    ∙ in_front-err opened.words (spelled_from (1 + length blocks) opened.new_outermost []) (Unclosed line)
    (ending (1 + length blocks) opened.new_outermost (omega arith) (opened.kept (omega arith)))
  where
    ending : (depth inner : ℕ) → 0 < depth → inner ≡ line → spelled_from depth inner [] ≡ Err (Unclosed line)
    ending zero inner deep same = absurd (omega arith)
    ending (suc depth) inner deep same = ap (λ l. Err (Unclosed l)) same

too_deep-answered : (depth outermost line : ℕ) (after : List Token) → depth ≡ 255 → spelled_from depth outermost (OpenToken line ∷ after) ≡ Err (TooDeep line)
too_deep-answered depth outermost line after deep = let no_less : nat_lt depth 255 ≡ false = grind arith in rw no_less refl

pub fault-answered : (tokens : List Token) (fault : SpellFault) → (fault ≡ NoMemory → ⊥) → IsBraceFault tokens fault → spelling_of tokens ≡ Err fault
fault-answered tokens (StrayClose line) known is =
    ap spelling_of (sym is.are_tokens) ∙ after-items is.items is.before (CloseToken line ∷ is.after) (StrayClose line) is.closed is.within (λ outermost. refl)
fault-answered tokens (TooDeep line) known is =
    let opened = run-open is.blocks is.items 0 0 is.before (OpenToken line ∷ is.after) is.are_open is.within in
    ap spelling_of (sym is.are_tokens) ∙ opened.is
    ∙ in_front-err opened.words (spelled_from (0 + length is.blocks) opened.new_outermost (OpenToken line ∷ is.after)) (TooDeep line)
    (too_deep-answered (0 + length is.blocks) opened.new_outermost line is.after (omega (arith, is.deepest)))
fault-answered tokens (Unclosed line) known is =
    ap spelling_of (sym is.are_tokens)
    ∙ after-items is.items is.before (OpenToken line ∷ is.after) (Unclosed line) is.closed (omega (arith, is.within.0))
    (λ outermost. unclosed-answered is.inside is.blocks line outermost is.after is.are_open is.within.1)
fault-answered tokens NoMemory known is = absurd (known refl)

-- ---- the laws

pub one-spelling : (tokens : List Token) (one other : List (List ℕ)) → Spells tokens one → Spells tokens other → one ≡ other
one-spelling tokens one other here there = let a = spelling-answered tokens one here in let b = spelling-answered tokens other there in cc

pub one-fault : (tokens : List Token) (one other : SpellFault) → (one ≡ NoMemory → ⊥) → (other ≡ NoMemory → ⊥) → IsBraceFault tokens one → IsBraceFault tokens other → one ≡ other
one-fault tokens one other known also here there = let a = fault-answered tokens one known here in let b = fault-answered tokens other also there in cc

pub never-both : (tokens : List Token) (words : List (List ℕ)) (fault : SpellFault) → (fault ≡ NoMemory → ⊥) → Spells tokens words → IsBraceFault tokens fault → ⊥
never-both tokens words fault known here there = let a = spelling-answered tokens words here in let b = fault-answered tokens fault known there in cc
