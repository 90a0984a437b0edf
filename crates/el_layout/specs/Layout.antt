-- How a tree is laid out: a line for each program, each directive and each command.
use Rattle.el_script.specs.Vocabulary.{list_all, bytes_eq, name_text, Args, nothing, word, group, words, Tree, End, Command, Node, Places, unplaced, one_place, text_place, block_place, values_place, names_place, directives_place, Directives, undirected, directed}
use Rattle.std.specs.Prelude.{ℕ, zero, suc, ◌+◌, ◌-◌, ◌/◌, ◌%◌, Bool, false, ◌&&◌, ◌||◌, not, ◌==◌, nat_lt, List, [], ◌∷◌, ◌++◌, drop, codes, flat_map, if◌then◌else◌}
use Rattle.std.specs.Char.{is_ascii_alphanumeric, is_ascii_control}
use Rattle.el_lex.specs.Bytes.{is_one_of}

-- ---- words

-- `{` or `}`
abbrev pub is_brace : List ℕ → Bool
is_brace text = bytes_eq text (codes "{") || bytes_eq text (codes "}")

-- an ASCII letter or digit, or another byte that stands for itself in a word
abbrev pub is_bare_byte : ℕ → Bool
is_bare_byte byte = is_ascii_alphanumeric byte || is_one_of (codes "_-./=:,+@%!?*${}") byte

-- a word that is written as it is
abbrev pub is_bare : List ℕ → Bool
is_bare [] = false
is_bare (byte ∷ bytes) = not (is_brace (byte ∷ bytes)) && list_all is_bare_byte (byte ∷ bytes)

-- `0` (48) to `9` and `a` (97) to `f`
abbrev pub hexadecimal_digit : ℕ → ℕ
hexadecimal_digit number = if nat_lt number 10 then 48 + number else 97 + (number - 10)

-- a byte in quotes: quote (34), backslash (92), newline, tab, carriage return, another control byte, any other byte
abbrev pub escaped : ℕ → List ℕ
escaped byte =
    if byte == 34 then codes "\\\""
    else (if byte == 92 then codes "\\\\"
    else (if byte == 10 then codes "\\n"
    else (if byte == 9 then codes "\\t"
    else (if byte == 13 then codes "\\r"
    else (if is_ascii_control byte then codes "\\0x" ++ (hexadecimal_digit (byte / 16) ∷ hexadecimal_digit (byte % 16) ∷ [])
    else byte ∷ [])))))

-- a word in quotes
abbrev pub quoted : List ℕ → List ℕ
quoted text = codes "\"" ++ flat_map escaped text ++ codes "\""

-- a word as it is, or in quotes
abbrev pub word_layout : List ℕ → List ℕ
word_layout text = if is_bare text then text else quoted text

-- ---- what stands on one line

-- a block that stays on the line, by its items
abbrev pub inline_block : (items : List ℕ) → List ℕ
inline_block items = codes " {" ++ items ++ codes " }"

-- each item after one space
abbrev pub items_layout : Args → List ℕ
items_layout nothing = []
items_layout (word text rest) = codes " " ++ word_layout text ++ items_layout rest
items_layout (group inside rest) = inline_block (items_layout inside) ++ items_layout rest

-- words alone, each after one space
abbrev pub words_layout : List (List ℕ) → List ℕ
words_layout texts = items_layout (words texts)

-- ---- lines

-- two spaces for each block around
abbrev pub indent : (depth : ℕ) → List ℕ
indent zero = []
indent (suc depth) = codes "  " ++ indent depth

-- a line with its newline (10)
abbrev pub line : (depth : ℕ) → (text : List ℕ) → List ℕ
line depth text = indent depth ++ text ++ 10 ∷ []

-- a block of lines: the line goes on behind its `}`
abbrev pub indented_block : (depth : ℕ) → (lines : List ℕ) → List ℕ
indented_block depth lines = codes " {" ++ 10 ∷ lines ++ indent depth ++ codes "}"

-- a tree at a depth: each line, and what is below it
abbrev mutual
  -- a line for each program and for the command, where there are any
  pub tree_layout : (depth : ℕ) → Tree → List ℕ
  tree_layout depth End = []
  tree_layout depth (Command args) = line depth (drop 1 (items_layout args))
  tree_layout depth (Node program options places rest) = line depth (name_text program ++ words_layout options ++ places_layout depth places) ++ tree_layout depth rest

  -- places stand on the line of their program, but for the lines of program blocks and of directives
  pub places_layout : (depth : ℕ) → Places → List ℕ
  places_layout depth unplaced = []
  places_layout depth (one_place (text_place text) places) = codes " " ++ word_layout text ++ places_layout depth places
  places_layout depth (one_place (block_place block) places) = indented_block depth (tree_layout (suc depth) block) ++ places_layout depth places
  places_layout depth (one_place (values_place values) places) = inline_block (items_layout values) ++ places_layout depth places
  places_layout depth (one_place (names_place names) places) = inline_block (words_layout names) ++ places_layout depth places
  places_layout depth (one_place (directives_place directives) places) = indented_block depth (directives_layout (suc depth) directives) ++ places_layout depth places

  -- directives are lines as programs are
  pub directives_layout : (depth : ℕ) → Directives → List ℕ
  directives_layout depth undirected = []
  directives_layout depth (directed program options places directives) = line depth (name_text program ++ words_layout options ++ places_layout depth places) ++ directives_layout depth directives

-- a tree that stands in no block
abbrev pub layout : Tree → List ℕ
layout tree = tree_layout 0 tree
