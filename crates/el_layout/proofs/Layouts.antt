-- The layout of a tree is read back as its tokens, whose words hold no NUL.
use Rattle.el_script.proofs.Vocabulary.{is_ascii_control, list_all, and_parts, eqb-true, flat_map-append, HasNul, Prog, Define, name_text, spelled, Args, nothing, word, group, ◌+++◌, words, is_whitespace, is_over_or, is_one_of, is_digit, pieces_text, Quoted, pieces_value, fits_piece, Piece, fit_pieces, Item, Blank, Comment, Wordly, item_text, text, fits_item, fit, newlines_in, token_of, tokens_from, Lexes, Reads, differs, MAX_SCRIPT, Token, one-reading, Spells, levels, TokenShape, Open, Close, shapes_of, Text, shapes_in, Tree, End, Command, Node, Places, unplaced, one_place, text_place, block_place, values_place, names_place, directives_place, Directives, undirected, directed, written, written_places, written_directives, tokens_of, IsWellFormed, all-right}
use Rattle.std.proofs.Common.{◌≡◌, ◌≢◌, ℕ, suc, ◌+◌, ◌/◌, ◌%◌, ◌<◌, Bool, true, false, List, [], ◌∷◌, ◌++◌, refl, ap, ap₂, ◌∙◌, arith, codes, ◌||◌, subst, append_assoc, sym, append-nil, map, true≢false, drop, length, ◌≤◌}
use Rattle.std.specs.Prelude.{◌==◌, ◌&&◌, flat_map, not}
use Rattle.std.proofs.lemmas.Bool.{agree_below_at, cond_both}
use Rattle.std.proofs.lemmas.List.Folds.{list_all_at}
use Rattle.el_lex.specs.Bytes.{is_hexadecimal_digit, number_in}
use Rattle.el_lex.specs.Pieces.{Inner, Bare, Named, Hexadecimal, inner_text, inners_text, inner_value, inners_value, fits_inner, fit_inners, Plain, Escaped, piece_value, is_number_escape, escape_number, is_byte_value, begins_comment}
use Rattle.el_lex.proofs.Printed.{nor_parts}
use Rattle.el_blocks.specs.Tokens.{shape_of}
use Rattle.el_tree.proofs.Answered.{one-tree}
use Rattle.el_tree.proofs.Facts.{all-append, all-left, shapes-plus}
use Rattle.el_layout.specs.Layout.{hexadecimal_digit, escaped, is_brace, is_bare_byte, is_bare, quoted, word_layout, items_layout, words_layout, inline_block, indent, line, indented_block, tree_layout, places_layout, directives_layout, layout}
use Rattle.el_layout.specs.ReadsBack.{HaveNoNul, HasNoNul, LexesAs}

-- ---- one byte

-- the text is something in quotes that stands for the byte
record StandsFor (byte : ℕ) (text : List ℕ) : Type 0 where
  inner : Inner
  is_text : inner_text inner ≡ text
  is_value : inner_value inner ≡ byte ∷ []
  fits : (after : List ℕ) → fits_inner inner after ≡ true

abbrev two_digits : ℕ → List ℕ
two_digits byte = hexadecimal_digit (byte / 16) ∷ hexadecimal_digit (byte % 16) ∷ []

-- they are hexadecimal and write the byte
abbrev are_read : ℕ → Bool
are_read byte = list_all is_hexadecimal_digit (two_digits byte) && (number_in 16 (two_digits byte) == byte)

control-stands : (byte : ℕ) → byte ≢ 0 → is_ascii_control byte ≡ true → StandsFor byte (codes "\\0x" ++ two_digits byte)
control-stands byte nonzero control =
    let below : byte < 128 = grind (arith, control) in
    let value : is_byte_value byte ≡ true = grind (arith, nonzero, below) in
    let parts = and_parts (list_all is_hexadecimal_digit (two_digits byte)) (number_in 16 (two_digits byte) == byte) (agree_below_at are_read (λ byte. true) 128 byte refl below) in
    let number = eqb-true _ byte parts.1 in
    record { inner = Hexadecimal (two_digits byte); is_text = refl; is_value = ap (λ n. n ∷ []) number; fits = λ after. rw (parts.0, number, value) refl }

byte-stands : (byte : ℕ) → byte ≢ 0 → StandsFor byte (escaped byte)
byte-stands byte nonzero =
    cond_both (byte == 34) _ _ (StandsFor byte) (named_byte 34 34 refl refl)
    (λ q. cond_both (byte == 92) _ _ (StandsFor byte) (named_byte 92 92 refl refl)
    (λ s. cond_both (byte == 10) _ _ (StandsFor byte) (named_byte 110 10 refl refl)
    (λ _. cond_both (byte == 9) _ _ (StandsFor byte) (named_byte 116 9 refl refl)
    (λ _. cond_both (byte == 13) _ _ (StandsFor byte) (named_byte 114 13 refl refl)
    (λ _. cond_both (is_ascii_control byte) _ _ (StandsFor byte) (control-stands byte nonzero) (λ _. bare q s))))))
  where
    named_byte : (name number : ℕ) → inner_value (Named name) ≡ number ∷ [] → fits_inner (Named name) [] ≡ true → (byte == number) ≡ true → StandsFor byte (92 ∷ name ∷ [])
    named_byte name number value fits is = record { inner = Named name; is_text = refl; is_value = value ∙ ap (λ n. n ∷ []) (sym (eqb-true byte number is)); fits = λ after. fits }

    bare : (byte == 34) ≡ false → (byte == 92) ≡ false → StandsFor byte (byte ∷ [])
    bare q s =
        let plain : not (is_one_of (0 ∷ 34 ∷ 92 ∷ []) byte) ≡ true = grind (arith, nonzero, q, s) in
        record { inner = Bare byte; is_text = refl; is_value = refl; fits = λ after. plain }

-- ---- all bytes of a word

-- the text is what stands in quotes for these bytes
pub record StandFor (bytes text : List ℕ) : Type 0 where
  pub inners : List Inner
  pub is_text : inners_text inners ≡ text
  pub is_value : inners_value inners ≡ bytes
  pub fit : (after : List ℕ) → fit_inners inners after ≡ true

pub bytes-stand : (bytes : List ℕ) → (HasNul bytes → ⊥) → StandFor bytes (flat_map escaped bytes)
bytes-stand [] none = record { inners = []; is_text = refl; is_value = refl; fit = λ after. refl }
bytes-stand (byte ∷ bytes) none =
    let first = byte-stands byte (λ is. none (0, grind arith, is)) in
    let more = bytes-stand bytes (λ nul. let below = nul.1 in none (suc nul.0, omega (arith, below), nul.2)) in
    record {
      inners = first.inner ∷ more.inners;
      is_text = ap₂ (λ (one other : List ℕ). one ++ other) first.is_text more.is_text;
      is_value = ap₂ (λ (one other : List ℕ). one ++ other) first.is_value more.is_value;
      fit = λ after. rw (first.fits (inners_text more.inners ++ after), more.fit after) refl;
    }

-- The bytes are items with these tokens, which fit before whitespace and the end; whole lines fit before anything.
pub record Laid (whole : Bool) (bytes : List ℕ) (shapes : List TokenShape) : Type 0 where
  pub items : List Item
  pub is_text : text items ≡ bytes
  pub fits : (after : List ℕ) → (whole || is_over_or is_whitespace after) ≡ true → fit items after ≡ true
  pub are_shapes : (line : ℕ) → shapes_of (tokens_from line items) ≡ shapes

-- such bytes that stand behind a word: they begin with whitespace, or there are none
pub record LaidBehind (bytes : List ℕ) (shapes : List TokenShape) : Type 0 where
  pub laid : Laid false bytes shapes
  pub begins : is_over_or is_whitespace bytes ≡ true

-- ---- single items

pub nothing-laid : Laid true [] []
nothing-laid = record { items = []; is_text = refl; fits = λ after ok. refl; are_shapes = λ line. refl }

pub blank-laid : (byte : ℕ) → is_whitespace byte ≡ true → Laid true (byte ∷ []) []
blank-laid byte is = record { items = Blank byte ∷ []; is_text = refl; fits = λ after ok. rw is refl; are_shapes = λ line. refl }

-- a word by its pieces
word-item : {bytes : List ℕ} {shape : TokenShape} (piece : Piece) (pieces : List Piece) → pieces_text (piece ∷ pieces) ≡ bytes → fit_pieces (piece ∷ pieces) ≡ true
    → ((line : ℕ) → shape_of (token_of line piece pieces) ≡ shape) → Laid false bytes (shape ∷ [])
word-item piece pieces is_text fit is_shape = record {
  items = Wordly piece pieces ∷ [];
  is_text = append-nil (pieces_text (piece ∷ pieces)) ∙ is_text;
  fits = λ after over. rw (fit, over) refl;
  are_shapes = λ line. ap (λ shape. shape ∷ []) (is_shape line);
}

open-laid : Laid false (123 ∷ []) (Open ∷ [])
open-laid = word-item (Plain 123) [] refl refl (λ line. refl)

close-laid : Laid false (125 ∷ []) (Close ∷ [])
close-laid = word-item (Plain 125) [] refl refl (λ line. refl)

-- ---- joins

fit-append : (one other : List Item) (after : List ℕ) → fit one (text other ++ after) ≡ true → fit other after ≡ true → fit (one ++ other) after ≡ true
fit-append [] other after fits fit_other = fit_other
fit-append (item ∷ items) other after fits fit_other =
    let parts = and_parts (fits_item item (text items ++ (text other ++ after))) (fit items (text other ++ after)) fits in
    let same : text (items ++ other) ++ after ≡ text items ++ (text other ++ after) = ap (λ (t : List ℕ). t ++ after) (flat_map-append item_text items other) ∙ append_assoc (text items) (text other) after in
    rw (same, parts.0, fit-append items other after parts.1 fit_other) refl

shapes-append : (one other : List Item) (shapes : List TokenShape) → ((line : ℕ) → shapes_of (tokens_from line other) ≡ shapes)
    → (line : ℕ) → shapes_of (tokens_from line (one ++ other)) ≡ shapes_of (tokens_from line one) ++ shapes
shapes-append [] other shapes are line = are line
shapes-append (Blank byte ∷ items) other shapes are line = shapes-append items other shapes are (line + newlines_in (byte ∷ []))
shapes-append (Comment bytes ∷ items) other shapes are line = shapes-append items other shapes are line
shapes-append (Wordly piece pieces ∷ items) other shapes are line =
    ap (λ (more : List TokenShape). shape_of (token_of line piece pieces) ∷ more) (shapes-append items other shapes are (line + newlines_in (pieces_text (piece ∷ pieces))))

join : {whole behind : Bool} {one other : List ℕ} {shapes more : List TokenShape} → Laid whole one shapes → Laid behind other more
    → ((after : List ℕ) → (behind || is_over_or is_whitespace after) ≡ true → (whole || is_over_or is_whitespace (other ++ after)) ≡ true)
    → Laid behind (one ++ other) (shapes ++ more)
join {whole} {behind} {one} {other} {shapes} {more} laid next meets = record {
  items = laid.items ++ next.items;
  is_text = flat_map-append item_text laid.items next.items ∙ ap (λ (t : List ℕ). t ++ text next.items) laid.is_text ∙ ap (λ (t : List ℕ). one ++ t) next.is_text;
  fits = λ after ok.
      let same : text next.items ++ after ≡ other ++ after = ap (λ (t : List ℕ). t ++ after) next.is_text in
      fit-append laid.items next.items after (ap (fit laid.items) same ∙ laid.fits (other ++ after) (meets after ok)) (next.fits after ok);
  are_shapes = λ line. shapes-append laid.items next.items more next.are_shapes line ∙ ap (λ (s : List TokenShape). s ++ more) (laid.are_shapes line);
}

over-append : (one other : List ℕ) → is_over_or is_whitespace one ≡ true → is_over_or is_whitespace other ≡ true → is_over_or is_whitespace (one ++ other) ≡ true
over-append [] other begins over = over
over-append (byte ∷ bytes) other begins over = begins

-- whole lines before anything
pub lines-then : {behind : Bool} {one other : List ℕ} {shapes more : List TokenShape} → Laid true one shapes → Laid behind other more → Laid behind (one ++ other) (shapes ++ more)
lines-then laid next = join laid next (λ after ok. refl)

-- a word before what stands behind a word
word-then : {one other : List ℕ} {shapes more : List TokenShape} → Laid false one shapes → LaidBehind other more → Laid false (one ++ other) (shapes ++ more)
word-then {one} {other} laid next = join laid next.laid (λ after over. over-append other after next.begins over)

-- a word before a newline (10)
word-then-newline : {one : List ℕ} {shapes : List TokenShape} → Laid false one shapes → Laid true (one ++ 10 ∷ []) (shapes ++ [])
word-then-newline laid = join laid (blank-laid 10 refl) (λ after ok. refl)

-- a space (32) before a word
space-then : {one : List ℕ} {shapes : List TokenShape} → Laid false one shapes → LaidBehind (32 ∷ one) shapes
space-then laid = record { laid = lines-then (blank-laid 32 refl) laid; begins = refl }

behind-then : {one other : List ℕ} {shapes more : List TokenShape} → LaidBehind one shapes → LaidBehind other more → LaidBehind (one ++ other) (shapes ++ more)
behind-then {one} {other} laid next = record { laid = word-then laid.laid next; begins = over-append one other laid.begins next.begins }

pub nothing-behind : LaidBehind [] []
nothing-behind = record { laid = record { items = []; is_text = refl; fits = λ after ok. refl; are_shapes = λ line. refl }; begins = refl }

laid-same : {whole : Bool} {bytes : List ℕ} {shapes others : List TokenShape} → shapes ≡ others → Laid whole bytes shapes → Laid whole bytes others
laid-same {whole} {bytes} same laid = subst (Laid whole bytes) same laid

-- ---- bare words

bare-fits : (byte : ℕ) → is_bare_byte byte ≡ true → fits_piece (Plain byte) ≡ true
bare-fits byte is = rw (other 0 refl, other 34 refl, other 92 refl, other 32 refl, other 9 refl, other 10 refl, other 13 refl) refl
  where
    other : (one : ℕ) → is_bare_byte one ≡ false → (one == byte) ≡ false
    other one isnt = let no = differs is_bare_byte byte one is isnt in grind (arith, no)

-- bare bytes as pieces: their text, their value, and that they fit
bare-pieces : (bytes : List ℕ) → list_all is_bare_byte bytes ≡ true
    → (pieces_text (map Plain bytes) ≡ bytes) × (pieces_value (map Plain bytes) ≡ bytes) × (list_all fits_piece (map Plain bytes) ≡ true)
bare-pieces [] all = (refl, refl, refl)
bare-pieces (byte ∷ bytes) all =
    let parts = and_parts (is_bare_byte byte) (list_all is_bare_byte bytes) all in
    let rest = bare-pieces bytes parts.1 in
    (ap (λ (more : List ℕ). byte ∷ more) rest.0, ap (λ (more : List ℕ). byte ∷ more) rest.1, rw (bare-fits byte parts.0, rest.2) refl)

-- one byte that is no brace, or more bytes, are no brace
bare-token : (byte : ℕ) (bytes : List ℕ) (line : ℕ) → not (is_brace (byte ∷ bytes)) ≡ true → shape_of (token_of line (Plain byte) (map Plain bytes)) ≡ Text (pieces_value (map Plain (byte ∷ bytes)))
bare-token byte [] line is =
    let no_open : (byte == 123) ≡ false = grind (arith, is) in
    let no_close : (byte == 125) ≡ false = grind (arith, is) in
    rw (no_open, no_close) refl
bare-token byte (next ∷ bytes) line is = refl

bare-laid : (text : List ℕ) → is_bare text ≡ true → Laid false text (Text text ∷ [])
bare-laid [] is = let no : ⊥ = cc in absurd no
bare-laid (byte ∷ bytes) is =
    let parts = and_parts (not (is_brace (byte ∷ bytes))) (list_all is_bare_byte (byte ∷ bytes)) is in
    let pieces = bare-pieces (byte ∷ bytes) parts.1 in
    let no_comment_is = differs is_bare_byte byte 35 (and_parts (is_bare_byte byte) (list_all is_bare_byte bytes) parts.1).0 refl in
    let no_comment : (byte == 35) ≡ false = grind (arith, no_comment_is) in
    word-item (Plain byte) (map Plain bytes) pieces.0 (rw (pieces.2, no_comment) refl) (λ line. bare-token byte bytes line parts.0 ∙ ap Text pieces.1)

pub name-bare : (program : Prog) → is_bare (name_text program) ≡ true
unfolding name_text
name-bare Define = refl
name-bare _ = refl

-- ---- any word

word-laid : (text : List ℕ) → (HasNul text → ⊥) → Laid false (word_layout text) (Text text ∷ [])
word-laid text none = cond_both (is_bare text) text (quoted text) (λ bytes. Laid false bytes (Text text ∷ [])) (bare-laid text) (λ _.
    let stand = bytes-stand text none in
    word-item (Quoted stand.inners) [] (append-nil (34 ∷ (_ ++ 34 ∷ [])) ∙ ap (λ (inside : List ℕ). 34 ∷ (inside ++ 34 ∷ [])) stand.is_text)
    (rw (stand.fit (34 ∷ [])) refl) (λ line. ap Text (append-nil _ ∙ stand.is_value)))

-- ---- words and groups

no_nul-parts : (a b : Args) → HaveNoNul (a +++ b) → HaveNoNul a × HaveNoNul b
no_nul-parts nothing b none = (tt, none)
no_nul-parts (word text a) b none = let parts = no_nul-parts a b none.1 in ((none.0, parts.0), parts.1)
no_nul-parts (group inside a) b none = let parts = no_nul-parts a b none.1 in ((none.0, parts.0), parts.1)

-- ---- on one line

-- a block and what is behind it, as a group and what is behind that
group-then : {block more : List ℕ} {behind : List TokenShape} (inside : List TokenShape) → LaidBehind block (Open ∷ (inside ++ Close ∷ [])) → LaidBehind more behind → LaidBehind (block ++ more) (Open ∷ (inside ++ (Close ∷ behind)))
group-then {block} {more} {behind} inside laid next =
    subst (LaidBehind (block ++ more)) (ap (λ (shapes : List TokenShape). Open ∷ shapes) (append_assoc inside (Close ∷ []) behind)) (behind-then laid next)

inline_block-laid : {items : List ℕ} {shapes : List TokenShape} → LaidBehind items shapes → LaidBehind (inline_block items) (Open ∷ (shapes ++ Close ∷ []))
inline_block-laid laid = space-then (word-then open-laid (behind-then laid (space-then close-laid)))

items-laid : (args : Args) → HaveNoNul args → LaidBehind (items_layout args) (shapes_in args)
items-laid nothing none = nothing-behind
items-laid (word text rest) none = space-then (word-then (word-laid text none.0) (items-laid rest none.1))
items-laid (group inside rest) none = group-then (shapes_in inside) (inline_block-laid (items-laid inside none.0)) (items-laid rest none.1)

-- without the space before the first item
first-laid : (args : Args) → HaveNoNul args → Laid false (drop 1 (items_layout args)) (shapes_in args)
first-laid nothing none = nothing-behind.laid
first-laid (word text rest) none = word-then (word-laid text none.0) (items-laid rest none.1)
first-laid (group inside rest) none =
    laid-same (ap (λ (shapes : List TokenShape). Open ∷ shapes) (append_assoc (shapes_in inside) (Close ∷ []) (shapes_in rest)))
    (word-then (word-then open-laid (behind-then (items-laid inside none.0) (space-then close-laid))) (items-laid rest none.1))

-- ---- lines

spaces-laid : (depth : ℕ) → Laid true (indent depth) []
spaces-laid Prim.Native.Nat.zero = nothing-laid
spaces-laid (suc depth) = lines-then (blank-laid 32 refl) (lines-then (blank-laid 32 refl) (spaces-laid depth))

line-laid : (depth : ℕ) {text : List ℕ} {shapes : List TokenShape} → Laid false text shapes → Laid true (line depth text) shapes
line-laid depth {text} {shapes} laid = laid-same (append-nil shapes) (word-then-newline (lines-then (spaces-laid depth) laid))

indented_block-laid : (depth : ℕ) {lines : List ℕ} {shapes : List TokenShape} → Laid true lines shapes → LaidBehind (indented_block depth lines) (Open ∷ (shapes ++ Close ∷ []))
indented_block-laid depth {lines} {shapes} laid =
    let indented = laid-same (append-nil shapes) (lines-then laid (spaces-laid depth)) in
    space-then (word-then open-laid (record { laid = lines-then (blank-laid 10 refl) (lines-then indented close-laid); begins = refl }))

-- the line of a program or a directive, and what is below it
head-laid : (depth : ℕ) (program : Prog) (options : List (List ℕ)) (places rest : Args) {places_bytes below : List ℕ} → HaveNoNul (words options +++ (places +++ rest))
    → (HaveNoNul places → LaidBehind places_bytes (shapes_in places)) → (HaveNoNul rest → Laid true below (shapes_in rest))
    → Laid true (line depth (name_text program ++ words_layout options ++ places_bytes) ++ below) (shapes_in (word (name_text program) (words options +++ (places +++ rest))))
head-laid depth program options places rest none laid next =
    let parts = no_nul-parts (words options) (places +++ rest) none in
    let more = no_nul-parts places rest parts.1 in
    laid-same (sym (ap (λ (shapes : List TokenShape). Text (name_text program) ∷ shapes)
    (shapes-plus (words options) (places +++ rest) ∙ ap (λ (shapes : List TokenShape). shapes_in (words options) ++ shapes) (shapes-plus places rest)
    ∙ sym (append_assoc (shapes_in (words options)) (shapes_in places) (shapes_in rest)))))
    (lines-then (line-laid depth (word-then (word-then (bare-laid (name_text program) (name-bare program)) (items-laid (words options) parts.0)) (laid more.0))) (next more.1))

mutual
  pub tree-laid : (depth : ℕ) (tree : Tree) → HaveNoNul (written tree) → Laid true (tree_layout depth tree) (shapes_in (written tree))
  tree-laid depth End none = nothing-laid
  tree-laid depth (Command args) none = line-laid depth (first-laid args none)
  tree-laid depth (Node program options places rest) none = head-laid depth program options (written_places places) (written rest) none.1 (places-laid depth places) (tree-laid depth rest)

  places-laid : (depth : ℕ) (places : Places) → HaveNoNul (written_places places) → LaidBehind (places_layout depth places) (shapes_in (written_places places))
  places-laid depth unplaced none = nothing-behind
  places-laid depth (one_place (text_place text) places) none = space-then (word-then (word-laid text none.0) (places-laid depth places none.1))
  places-laid depth (one_place (block_place block) places) none = group-then (shapes_in (written block)) (indented_block-laid depth (tree-laid (suc depth) block none.0)) (places-laid depth places none.1)
  places-laid depth (one_place (values_place values) places) none = group-then (shapes_in values) (inline_block-laid (items-laid values none.0)) (places-laid depth places none.1)
  places-laid depth (one_place (names_place names) places) none = group-then (shapes_in (words names)) (inline_block-laid (items-laid (words names) none.0)) (places-laid depth places none.1)
  places-laid depth (one_place (directives_place directives) places) none = group-then (shapes_in (written_directives directives)) (indented_block-laid depth (directives-laid (suc depth) directives none.0)) (places-laid depth places none.1)

  directives-laid : (depth : ℕ) (directives : Directives) → HaveNoNul (written_directives directives) → Laid true (directives_layout depth directives) (shapes_in (written_directives directives))
  directives-laid depth undirected none = nothing-laid
  directives-laid depth (directed program options places directives) none = head-laid depth program options (written_places places) (written_directives directives) none.1 (places-laid depth places) (directives-laid depth directives)

-- ---- scripts

pub layout-reads : (tree : Tree) → HasNoNul tree → length (layout tree) ≤ MAX_SCRIPT → LexesAs (layout tree) (tokens_of tree)
layout-reads tree none short =
    let laid = tree-laid 0 tree none in
    record {
      tokens = tokens_from 1 laid.items;
      lexes = record { short = short; reads = record { items = laid.items; fits = laid.fits [] refl; is_text = laid.is_text; are_tokens = refl } };
      are_shapes = laid.are_shapes 1;
    }

-- a layout has no other tokens
pub layout-tokens : (tree : Tree) (tokens : List Token) → HasNoNul tree → Lexes (layout tree) tokens → shapes_of tokens ≡ tokens_of tree
layout-tokens tree tokens none lexes =
    let read = layout-reads tree none lexes.short in
    ap shapes_of (one-reading (layout tree) tokens read.tokens lexes.reads read.lexes.reads) ∙ read.are_shapes

-- ---- no word of a script that is read holds a NUL

abbrev is_not_nul : ℕ → Bool
is_not_nul byte = not (byte == 0)

-- no byte is NUL
abbrev are_not_nul : List ℕ → Bool
are_not_nul bytes = list_all is_not_nul bytes

no_nul : (bytes : List ℕ) → are_not_nul bytes ≡ true → HasNul bytes → ⊥
no_nul bytes are (k, below, is) = true≢false (sym are ∙ list_all_at is_not_nul bytes k 0 below (ap is_not_nul is))

-- ---- words without NUL

-- a byte that passes a test that NUL doesn't
byte-not_nul : (test : ℕ → Bool) (byte : ℕ) → test byte ≡ true → test 0 ≡ false → are_not_nul (byte ∷ []) ≡ true
byte-not_nul test byte is isnt = let nonzero = differs test byte 0 is isnt in let no : (byte == 0) ≡ false = grind (arith, nonzero) in rw no refl

abbrev is_unescaped_byte : ℕ → Bool
is_unescaped_byte byte = not (is_one_of (0 ∷ 34 ∷ 92 ∷ []) byte)

inner-are : (inner : Inner) (after : List ℕ) → fits_inner inner after ≡ true → are_not_nul (inner_value inner) ≡ true
inner-are (Bare byte) after fits = byte-not_nul is_unescaped_byte byte fits refl
inner-are (Named byte) after fits = let nonzero = (nor_parts (byte == 0) (is_digit byte) fits).0 in grind (arith, nonzero)
inner-are spelling after fits = byte-not_nul is_byte_value (escape_number spelling) (and_parts (is_number_escape spelling after) (is_byte_value (escape_number spelling)) fits).1 refl

inners-are : (inners : List Inner) (after : List ℕ) → fit_inners inners after ≡ true → are_not_nul (inners_value inners) ≡ true
inners-are [] after fits = refl
inners-are (inner ∷ inners) after fits =
    let parts = and_parts (fits_inner inner (inners_text inners ++ after)) (fit_inners inners after) fits in
    all-append is_not_nul (inner_value inner) (inners_value inners) (inner-are inner (inners_text inners ++ after) parts.0) (inners-are inners after parts.1)

piece-are : (piece : Piece) → fits_piece piece ≡ true → are_not_nul (piece_value piece) ≡ true
piece-are (Plain byte) fits = byte-not_nul is_unescaped_byte byte (nor_parts (is_one_of (0 ∷ 34 ∷ 92 ∷ []) byte) (is_whitespace byte) fits).0 refl
piece-are (Escaped byte) fits = rw fits refl
piece-are (Quoted inners) fits = inners-are inners (34 ∷ []) fits

pieces-are : (pieces : List Piece) → list_all fits_piece pieces ≡ true → are_not_nul (pieces_value pieces) ≡ true
pieces-are [] fits = refl
pieces-are (piece ∷ pieces) fits =
    let parts = and_parts (fits_piece piece) (list_all fits_piece pieces) fits in
    all-append is_not_nul (piece_value piece) (pieces_value pieces) (piece-are piece parts.0) (pieces-are pieces parts.1)

-- ---- tokens without NUL

-- the text of a token holds no NUL
abbrev is_safe : TokenShape → Bool
is_safe (Text bytes) = are_not_nul bytes
is_safe token = true

token-safe : (line : ℕ) (piece : Piece) (pieces : List Piece) → are_not_nul (pieces_value (piece ∷ pieces)) ≡ true → is_safe (shape_of (token_of line piece pieces)) ≡ true
token-safe line (Plain byte) [] are =
    let Safe : Token → Type 0 = λ token. is_safe (shape_of token) ≡ true in
    cond_both (byte == 123) _ _ Safe (λ _. refl) (λ _. cond_both (byte == 125) _ _ Safe (λ _. refl) (λ _. are))
token-safe line (Plain byte) (piece ∷ pieces) are = are
token-safe line piece pieces are = are

tokens-safe : (items : List Item) (after : List ℕ) (line : ℕ) → fit items after ≡ true → list_all is_safe (shapes_of (tokens_from line items)) ≡ true
tokens-safe [] after line fits = refl
tokens-safe (Blank byte ∷ items) after line fits = tokens-safe items after (line + newlines_in (byte ∷ [])) (and_parts (is_whitespace byte) (fit items after) fits).1
tokens-safe (Comment bytes ∷ items) after line fits = tokens-safe items after line (and_parts (fits_item (Comment bytes) (text items ++ after)) (fit items after) fits).1
tokens-safe (Wordly piece pieces ∷ items) after line fits =
    let parts = and_parts (fits_item (Wordly piece pieces) (text items ++ after)) (fit items after) fits in
    let word_fits = (and_parts (fit_pieces (piece ∷ pieces)) (is_over_or is_whitespace (text items ++ after)) parts.0).0 in
    let pieces_fit = (and_parts (list_all fits_piece (piece ∷ pieces)) (not (begins_comment (piece ∷ pieces))) word_fits).0 in
    rw (token-safe line piece pieces (pieces-are (piece ∷ pieces) pieces_fit), tokens-safe items after (line + newlines_in (pieces_text (piece ∷ pieces))) parts.1) refl

args-safe : (args : Args) → list_all is_safe (shapes_in args) ≡ true → HaveNoNul args
args-safe nothing safe = tt
args-safe (word bytes rest) safe = let parts = and_parts (are_not_nul bytes) (list_all is_safe (shapes_in rest)) safe in (no_nul bytes parts.0, args-safe rest parts.1)
args-safe (group inside rest) safe = (args-safe inside (all-left is_safe (shapes_in inside) (Close ∷ shapes_in rest) safe), args-safe rest (all-right is_safe (shapes_in inside) (Close ∷ shapes_in rest) safe))

-- a tree with the tokens of a script
pub script-no_nul : (script : List ℕ) (tokens : List Token) (tree : Tree) → Reads script tokens → shapes_of tokens ≡ tokens_of tree → HasNoNul tree
script-no_nul script tokens tree reads same =
    args-safe (written tree) (ap (list_all is_safe) (sym same ∙ ap shapes_of (sym reads.are_tokens)) ∙ tokens-safe reads.items [] 1 reads.fits)

-- ---- laws

pub layout-spells : (tree : Tree) (tokens : List Token) → HasNoNul tree → Lexes (layout tree) tokens → levels (written tree) ≤ 255 → Spells tokens (spelled 0 (written tree))
layout-spells tree tokens none lexes within = record { args = written tree; are_tokens = sym (layout-tokens tree tokens none lexes); within = within; are_words = refl }

-- what is read back from a layout has the tokens of the tree that was laid out
pub other-tokens : (tree other : Tree) → HasNoNul tree → LexesAs (layout tree) (tokens_of other) → tokens_of other ≡ tokens_of tree
other-tokens tree other none read = sym read.are_shapes ∙ layout-tokens tree read.tokens none read.lexes

pub other-tree : (tree other : Tree) → HasNoNul tree → IsWellFormed tree → IsWellFormed other → LexesAs (layout tree) (tokens_of other) → other ≡ tree
other-tree tree other none formed other_formed read = one-tree other tree other_formed formed (other-tokens tree other none read)

pub ruleset layouts = (layout-reads, layout-spells, other-tokens)
