-- Scripts as trees, and how trees are written.
use Rattle.std.specs.Prelude.{ℕ, List}
use Rattle.el_words.specs.declared.prog.Prog.{Prog}
use Rattle.el_words.specs.Prog.{name_text}
use Rattle.el_words.specs.Args.{Args, nothing, word, group, ◌+++◌, words}
use Rattle.el_blocks.specs.Tokens.{TokenShape, shapes_in}

mutual
  -- nothing; a command of words and groups; or a program with its option words, its places and its rest
  pub data Tree : Type 0 where
    End : Tree
    Command : Args → Tree
    Node : Prog → (options : List (List ℕ)) → Places → (rest : Tree) → Tree

  -- a place of a program: a word; a program block; a block of values, of names, of directives
  pub data Place : Type 0 where
    text_place : (text : List ℕ) → Place
    block_place : (block : Tree) → Place
    values_place : (values : Args) → Place
    names_place : (names : List (List ℕ)) → Place
    directives_place : Directives → Place

  -- the places of a program, one after the other
  pub data Places : Type 0 where
    unplaced : Places
    one_place : Place → (places : Places) → Places

  -- directives, one after the other, each with its option words and its places
  pub data Directives : Type 0 where
    undirected : Directives
    directed : Prog → (options : List (List ℕ)) → Places → (directives : Directives) → Directives

-- a tree as words and groups
abbrev mutual
  -- a program is its name, its option words, its places and its rest
  pub written : Tree → Args
  written End = nothing
  written (Command args) = args
  written (Node program options places rest) = word (name_text program) (words options +++ (written_places places +++ written rest))

  -- a word is itself, and a block one group
  pub written_places : Places → Args
  written_places unplaced = nothing
  written_places (one_place (text_place text) places) = word text (written_places places)
  written_places (one_place (block_place block) places) = group (written block) (written_places places)
  written_places (one_place (values_place values) places) = group values (written_places places)
  written_places (one_place (names_place names) places) = group (words names) (written_places places)
  written_places (one_place (directives_place directives) places) = group (written_directives directives) (written_places places)

  -- a directive is its name, its option words and its places
  pub written_directives : Directives → Args
  written_directives undirected = nothing
  written_directives (directed program options places directives) = word (name_text program) (words options +++ (written_places places +++ written_directives directives))

-- a tree as tokens without lines
abbrev pub tokens_of : Tree → List TokenShape
tokens_of tree = shapes_in (written tree)
