-- The layout of a script's tree has the script's words, and that of the upgraded tree one more for each import, last on its line.
use Rattle.el_script.proofs.Vocabulary.{list_all, and_parts, Prog, Define, Import, name_text, HasNul, Args, nothing, word, group, ◌+++◌, words, Quoted, pieces_text, fits_piece, Item, Blank, Comment, Wordly, text, fit, tokens_from, Reads, differs, one-reading, shapes_of, PlaceKind, Name, Fixed, ProgramBlock, ValueBlock, NameBlock, DirectiveBlock, OptionalNumber, OptionalWord, shape_of, Tree, End, Command, Node, Places, unplaced, one_place, text_place, block_place, values_place, names_place, directives_place, Directives, undirected, directed, written, written_places, written_directives, IsFormed, HavePlaces, HasCommands, IsWellFormed, newer, newer_places, upgraded, upgraded_places}
use Rattle.std.proofs.Common.{◌≡◌, ℕ, suc, Bool, true, false, List, [], ◌∷◌, ◌++◌, refl, sym, ap, ◌∙◌, arith, append_assoc, append-nil, map, subst, true≢false, if◌then◌else◌}
use Rattle.std.specs.Prelude.{◌==◌, not}
use Rattle.el_lex.specs.Pieces.{Plain}
use Rattle.el_tree.specs.Upgrade.{twice}
use Rattle.el_layout.specs.Layout.{is_brace, is_bare_byte, is_bare, quoted, word_layout, inline_block, items_layout, words_layout, indent, line, indented_block, tree_layout, places_layout, directives_layout, layout}
use Rattle.el_layout.specs.ReadsBack.{HaveNoNul, HasNoNul}
use Rattle.el_layout.proofs.Layouts.{bytes-stand, Laid, nothing-laid, blank-laid, lines-then, tree-laid, script-no_nul}
use Rattle.el_keep.specs.Widened.{has_break}
use Rattle.el_keep.specs.Laws.{AreAlike, IsWider}
use Rattle.el_keep.proofs.Words.{fit-parts}
use Rattle.el_keep.proofs.OneReading.{word-begins, not_both}
use Rattle.el_upgrade.proofs.Layouts.{none-first, none-last}
use Rattle.el_app.specs.Comments.{ReadsAs}
use Rattle.el_app.proofs.WideParts.{Whole, Behind, Ending, nothing-behind, Part, nothing-part, join, ended, space, blank, line-end, lines, OneWord, word as word-part, word-twice}

-- ---- words

bare-fits : (byte : ℕ) → is_bare_byte byte ≡ true → fits_piece (Plain byte) ≡ true
bare-fits byte is = rw (other 0 refl, other 34 refl, other 92 refl, other 32 refl, other 9 refl, other 10 refl, other 13 refl) refl
  where
    other : (one : ℕ) → is_bare_byte one ≡ false → (one == byte) ≡ false
    other one isnt = let differ = differs is_bare_byte byte one is isnt in grind (arith, differ)

bare-text : (bytes : List ℕ) → list_all is_bare_byte bytes ≡ true → (pieces_text (map Plain bytes) ≡ bytes) × (list_all fits_piece (map Plain bytes) ≡ true)
bare-text [] all = (refl, refl)
bare-text (byte ∷ bytes) all =
    let parts = and_parts (is_bare_byte byte) (list_all is_bare_byte bytes) all in
    let rest = bare-text bytes parts.1 in
    (ap (λ (more : List ℕ). byte ∷ more) rest.0, rw (bare-fits byte parts.0, rest.1) refl)

bare-word : (text : List ℕ) → is_bare text ≡ true → OneWord text
bare-word [] is = let no : ⊥ = cc in absurd no
bare-word (byte ∷ bytes) is =
    let parts = and_parts (not (is_brace (byte ∷ bytes))) (list_all is_bare_byte (byte ∷ bytes)) is in
    let all = bare-text (byte ∷ bytes) parts.1 in
    let differ = differs is_bare_byte byte 35 (and_parts (is_bare_byte byte) (list_all is_bare_byte bytes) parts.1).0 refl in
    let no_comment : (byte == 35) ≡ false = grind (arith, differ) in
    record { piece = Plain byte; pieces = map Plain bytes; is_text = all.0; fits = rw (all.1, no_comment) refl }

one-word : (text : List ℕ) → (HasNul text → ⊥) → OneWord (word_layout text)
one-word text none = by (is_bare text) refl
  where
    by : (bare : Bool) → is_bare text ≡ bare → OneWord (if bare then text else quoted text)
    by true is = bare-word text is
    by false is =
        let stand = bytes-stand text none in
        record {
          piece = Quoted stand.inners;
          pieces = [];
          is_text = append-nil (34 ∷ (_ ++ 34 ∷ [])) ∙ ap (λ (inside : List ℕ). 34 ∷ (inside ++ 34 ∷ [])) stand.is_text;
          fits = rw (stand.fit (34 ∷ [])) refl;
        }

name-bare : (program : Prog) → is_bare (name_text program) ≡ true
unfolding name_text
name-bare Define = refl
name-bare _ = refl

name-word : (program : Prog) → OneWord (name_text program)
name-word program = bare-word (name_text program) (name-bare program)

open-word : OneWord (123 ∷ [])
open-word = record { piece = Plain 123; pieces = []; is_text = refl; fits = refl }

close-word : OneWord (125 ∷ [])
close-word = record { piece = Plain 125; pieces = []; is_text = refl; fits = refl }

same-word : {bytes : List ℕ} → OneWord bytes → Part Behind Whole bytes bytes
same-word one = word-part one one

-- ---- on one line

text-part : (text : List ℕ) {one other : List ℕ} → (HasNul text → ⊥) → Part Behind Behind one other → Part Behind Behind (32 ∷ (word_layout text ++ one)) (32 ∷ (word_layout text ++ other))
text-part text none behind = join space (join (same-word (one-word text none)) behind)

inline-block : {items : List ℕ} → Part Behind Behind items items → Part Behind Behind (inline_block items) (inline_block items)
inline-block items = join space (join (same-word open-word) (join items (join space (same-word close-word))))

items-part : (args : Args) → HaveNoNul args → Part Behind Behind (items_layout args) (items_layout args)
items-part nothing none = nothing-part
items-part (word text rest) none = text-part text none.0 (items-part rest none.1)
items-part (group inside rest) none = join (inline-block (items-part inside none.0)) (items-part rest none.1)

-- ---- lines

spaces-laid : (depth : ℕ) → Laid true (indent depth) []
spaces-laid Prim.Native.Nat.zero = nothing-laid
spaces-laid (suc depth) = lines-then (blank-laid 32 refl) (lines-then (blank-laid 32 refl) (spaces-laid depth))

indented-block : (depth : ℕ) {one other : List ℕ} → Part Whole Whole one other → Part Behind Behind (indented_block depth one) (indented_block depth other)
indented-block depth inside = join space (join (same-word open-word) (join (blank 10 refl) (join (join inside (lines (spaces-laid depth))) (same-word close-word))))

-- directives are laid out as programs are
abbrev as-tree : Directives → Tree
as-tree undirected = End
as-tree (directed program options places directives) = Node program options places (as-tree directives)

same-words : (directives : Directives) → written (as-tree directives) ≡ written_directives directives
same-words undirected = refl
same-words (directed program options places directives) = ap (λ (rest : Args). word (name_text program) (words options +++ (written_places places +++ rest))) (same-words directives)

same-lines : (depth : ℕ) (directives : Directives) → tree_layout depth (as-tree directives) ≡ directives_layout depth directives
same-lines depth undirected = refl
same-lines depth (directed program options places directives) = ap (λ (rest : List ℕ). line depth (name_text program ++ words_layout options ++ places_layout depth places) ++ rest) (same-lines depth directives)

directives-part : (depth : ℕ) (directives : Directives) → HaveNoNul (written_directives directives) → Part Whole Whole (directives_layout depth directives) (directives_layout depth directives)
directives-part depth directives none =
    subst (λ (t : List ℕ). Part Whole Whole t t) (same-lines depth directives) (lines (tree-laid depth (as-tree directives) (subst HaveNoNul (sym (same-words directives)) none)))

-- the word of an import stands last on its line, and once more behind itself for importas
twice-part : (depth : ℕ) (places : Places) (after : Args) → HaveNoNul (written_places places) → HavePlaces places (shape_of Import).places after
    → Part Ending Behind (places_layout depth places) (places_layout depth (twice (upgraded_places places)))
unfolding shape_of
twice-part depth (one_place (text_place text) unplaced) after none have = join space (word-twice (one-word text none.0))
twice-part depth (one_place (text_place text) _) after none have = absurd have.1
twice-part depth _ after none have = absurd have

newer-part : (depth : ℕ) (program : Prog) (places : Places) (after : Args) → HaveNoNul (written_places places) → HavePlaces places (shape_of program).places after
    → Part Behind Behind (places_layout depth places) (places_layout depth (upgraded_places places))
    → Part Ending Behind (places_layout depth places) (places_layout depth (newer_places program (upgraded_places places)))
newer-part depth Import places after none have part = twice-part depth places after none have
newer-part depth program places after none have part = ended part

mutual
  tree-part : (depth : ℕ) (tree : Tree) → HaveNoNul (written tree) → IsFormed tree → Part Whole Whole (tree_layout depth tree) (tree_layout depth (upgraded tree))
  tree-part depth End none formed = lines nothing-laid
  tree-part depth (Command args) none formed = lines (tree-laid depth (Command args) none)
  tree-part depth (Node program options places rest) none formed =
      let behind = none-last (words options) (written_places places +++ written rest) none.1 in
      let front = none-first (words options) (written_places places +++ written rest) none.1 in
      let inside = none-first (written_places places) (written rest) behind in
      let laid = newer-part depth program places (written rest) inside formed.2 (places-part depth places (shape_of program).places (written rest) inside formed.2) in
      let name = word-part (name-word program) (name-word (newer program)) in
      join (join (join (lines (spaces-laid depth)) (join (join name (items-part (words options) front)) laid)) line-end)
      (tree-part depth rest (none-last (written_places places) (written rest) behind) formed.4)

  places-part : (depth : ℕ) (places : Places) (kinds : List PlaceKind) (after : Args) → HaveNoNul (written_places places) → HavePlaces places kinds after
      → Part Behind Behind (places_layout depth places) (places_layout depth (upgraded_places places))
  places-part depth unplaced kinds after none have = nothing-part
  places-part depth (one_place (text_place text) places) (Name ∷ kinds) after none have = text-part text none.0 (places-part depth places kinds after none.1 have.1)
  places-part depth (one_place (text_place text) places) (Fixed ∷ kinds) after none have = text-part text none.0 (places-part depth places kinds after none.1 have)
  places-part depth (one_place (text_place text) places) (OptionalWord ∷ kinds) after none have = text-part text none.0 (places-part depth places kinds after none.1 have)
  places-part depth (one_place (text_place text) places) (OptionalNumber ∷ kinds) after none have = text-part text none.0 (places-part depth places kinds after none.1 have.3)
  places-part depth (one_place (block_place block) places) (ProgramBlock ∷ kinds) after none have =
      join (indented-block depth (tree-part (suc depth) block none.0 have.0)) (places-part depth places kinds after none.1 have.1)
  places-part depth (one_place (values_place values) places) (ValueBlock ∷ kinds) after none have = join (inline-block (items-part values none.0)) (places-part depth places kinds after none.1 have)
  places-part depth (one_place (names_place names) places) (NameBlock ∷ kinds) after none have = join (inline-block (items-part (words names) none.0)) (places-part depth places kinds after none.1 have.1)
  places-part depth (one_place (directives_place directives) places) (DirectiveBlock ∷ kinds) after none have =
      join (indented-block depth (directives-part (suc depth) directives none.0)) (places-part depth places kinds after none.1 have.1)
  places-part depth _ _ after none have = absurd have

-- ---- where a layout begins

no-break : {bytes : List ℕ} (one : OneWord bytes) (behind : List ℕ) (items : List Item) → fit items [] ≡ true → text items ≡ bytes ++ behind → has_break items ≡ false
no-break one behind [] fits is = refl
no-break one behind (Blank byte ∷ items) fits is =
    let begins = word-begins one.piece one.pieces behind (text items) byte one.fits (ap (λ (t : List ℕ). t ++ behind) one.is_text ∙ sym is) in
    absurd (not_both byte (fit-parts (Blank byte) items fits).0 begins)
no-break one behind (Comment bytes ∷ items) fits is =
    absurd (true≢false (sym (word-begins one.piece one.pieces behind (bytes ++ text items) 35 one.fits (ap (λ (t : List ℕ). t ++ behind) one.is_text ∙ sym is))))
no-break one behind (Wordly piece pieces ∷ items) fits is = refl

-- nothing stands before its first word
begins : (tree : Tree) → HasNoNul tree → HasCommands tree → (items : List Item) → fit items [] ≡ true → text items ≡ layout tree → has_break items ≡ false
begins End none has [] fits is = refl
begins End none has (Blank byte ∷ items) fits is = let no : ⊥ = cc in absurd no
begins End none has (Comment bytes ∷ items) fits is = let no : ⊥ = cc in absurd no
begins End none has (Wordly piece pieces ∷ items) fits is = refl
begins (Command nothing) none has items fits is = absurd has
begins (Command (word text rest)) none has items fits is =
    no-break (one-word text none.0) (items_layout rest ++ 10 ∷ []) items fits (is ∙ append_assoc (word_layout text) (items_layout rest) (10 ∷ []))
begins (Command (group inside rest)) none has items fits is = no-break open-word (_ ++ 10 ∷ []) items fits is
begins (Node program options places rest) none has items fits is =
    let front = name_text program ++ words_layout options in
    let back = places_layout 0 places in
    no-break (name-word program) (words_layout options ++ (back ++ (10 ∷ layout rest))) items fits
    (is ∙ append_assoc (front ++ back) (10 ∷ []) (layout rest) ∙ append_assoc front back (10 ∷ layout rest) ∙ append_assoc (name_text program) (words_layout options) (back ++ (10 ∷ layout rest)))

-- ---- a script and its layouts

pub layout-reads-as : (tree : Tree) → HasNoNul tree → ReadsAs (layout tree) tree
layout-reads-as tree none =
    let laid = tree-laid 0 tree none in
    record { tokens = tokens_from 1 laid.items; reads = record { items = laid.items; fits = laid.fits [] refl; is_text = laid.is_text; are_tokens = refl }; are_shapes = laid.are_shapes 1 }

pub layout-alike : (script : List ℕ) (tree : Tree) → ReadsAs script tree → AreAlike (layout tree) script
layout-alike script tree is =
    let laid = layout-reads-as tree (script-no_nul script is.tokens tree is.reads is.are_shapes) in
    record { layout_tokens = laid.tokens; script_tokens = is.tokens; layout_reads = laid.reads; script_reads = is.reads; are_same = laid.are_shapes ∙ sym is.are_shapes }

pub upgrade-wider : (script : List ℕ) (tree : Tree) → ReadsAs script tree → IsWellFormed tree → IsWider (layout tree) (layout (upgraded tree)) script
upgrade-wider script tree is well_formed =
    let none = script-no_nul script is.tokens tree is.reads is.are_shapes in
    let part = tree-part 0 tree none well_formed.formed in
    let whole = part.goes [] [] nothing-behind in
    let items = part.items ++ [] in
    let others = part.others ++ [] in
    let is_text : text items ≡ layout tree = ap text (append-nil part.items) ∙ part.is_text in
    let reads : Reads (layout tree) (tokens_from 1 items) = record { items = items; fits = whole.fits; is_text = is_text; are_tokens = refl } in
    let laid = layout-reads-as tree none in
    record {
      alike = record {
        layout_tokens = tokens_from 1 items;
        script_tokens = is.tokens;
        layout_reads = reads;
        script_reads = is.reads;
        are_same = ap shapes_of (one-reading (layout tree) (tokens_from 1 items) laid.tokens reads laid.reads) ∙ laid.are_shapes ∙ sym is.are_shapes;
      };
      tokens = tokens_from 1 others;
      reads = record { items = others; fits = whole.others_fit; is_text = ap text (append-nil part.others) ∙ part.are_text; are_tokens = refl };
      begins = begins tree none well_formed.commands items whole.fits is_text;
      as_many = whole.widens.counts false items refl refl;
    }
