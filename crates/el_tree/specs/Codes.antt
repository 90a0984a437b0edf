-- Codes of trees: different trees have different ones. Only the code's contracts need it.
use Rattle.std.specs.Prelude.{◌≡◌, ℕ, List}
use Rattle.std.proofs.Common.{refl, ap, ap₂}
use Rattle.std.specs.Coded.{Coded, coded_ℕ, coded_list}
use base.Stored.{Gv, gnum, gcons}
use Rattle.el_words.specs.Args.{Args, nothing, word, group}
use Rattle.el_words.specs.declared.prog.Prog.{Prog}
use Rattle.el_words.specs.contracts.prog.Prog as prog
use Rattle.el_tree.specs.Trees.{Tree, End, Command, Node, Place, Places, unplaced, one_place, text_place, block_place, values_place, names_place, directives_place, Directives, undirected, directed}

-- the codes of programs
abbrev pub coded_prog : Coded Prog
coded_prog = prog.the_row.coded

abbrev coded_text : Coded (List ℕ)
coded_text = coded_list coded_ℕ

-- the codes of lists of words
abbrev pub coded_texts : Coded (List (List ℕ))
coded_texts = coded_list coded_text

-- ---- words and groups

-- the code of words and groups
abbrev pub args_code : Args → Gv
args_code nothing = gnum 0
args_code (word text rest) = gcons (gnum 1) (gcons (coded_text.code text) (args_code rest))
args_code (group inside rest) = gcons (gnum 2) (gcons (args_code inside) (args_code rest))

-- words and groups with one code are the same
pub args_same : (one other : Args) → args_code one ≡ args_code other → one ≡ other
args_same nothing nothing same = refl
args_same (word text rest) (word text' rest') same = ap₂ word (coded_text.inj text text' cc) (args_same rest rest' cc)
args_same (group inside rest) (group inside' rest') same = ap₂ group (args_same inside inside' cc) (args_same rest rest' cc)
args_same _ _ same = absurd cc

-- the codes of words and groups
abbrev pub args_coded : Coded Args
args_coded = record { code = args_code; inj = args_same }

-- ---- trees

abbrev mutual
  -- the code of a tree
  pub tree_code : Tree → Gv
  tree_code End = gnum 0
  tree_code (Command args) = gcons (gnum 1) (args_code args)
  tree_code (Node program options places rest) = gcons (gnum 2) (gcons (coded_prog.code program) (gcons (coded_texts.code options) (gcons (places_code places) (tree_code rest))))

  -- the code of places
  pub places_code : Places → Gv
  places_code unplaced = gnum 0
  places_code (one_place place places) = gcons (gnum 1) (gcons (place_code place) (places_code places))

  -- the code of a place
  place_code : Place → Gv
  place_code (text_place text) = gcons (gnum 1) (coded_text.code text)
  place_code (block_place block) = gcons (gnum 2) (tree_code block)
  place_code (values_place values) = gcons (gnum 3) (args_code values)
  place_code (names_place names) = gcons (gnum 4) (coded_texts.code names)
  place_code (directives_place directives) = gcons (gnum 5) (directives_code directives)

  -- the code of directives
  directives_code : Directives → Gv
  directives_code undirected = gnum 0
  directives_code (directed program options places directives) = gcons (gnum 1) (gcons (coded_prog.code program) (gcons (coded_texts.code options) (gcons (places_code places) (directives_code directives))))

mutual
  -- trees with one code are the same
  pub tree_same : (one other : Tree) → tree_code one ≡ tree_code other → one ≡ other
  tree_same End End same = refl
  tree_same (Command args) (Command args') same = ap Command (args_same args args' cc)
  tree_same (Node program options places rest) (Node program' options' places' rest') same =
      let programs : program ≡ program' = coded_prog.inj program program' cc in
      let all_options : options ≡ options' = coded_texts.inj options options' cc in
      let all_places : places ≡ places' = places_same places places' cc in
      let rests : rest ≡ rest' = tree_same rest rest' cc in
      cc
  tree_same _ _ same = absurd cc

  -- lists of places with one code are the same
  pub places_same : (one other : Places) → places_code one ≡ places_code other → one ≡ other
  places_same unplaced unplaced same = refl
  places_same (one_place place places) (one_place place' places') same = ap₂ one_place (place_same place place' cc) (places_same places places' cc)
  places_same _ _ same = absurd cc

  -- places with one code are the same
  place_same : (one other : Place) → place_code one ≡ place_code other → one ≡ other
  place_same (text_place text) (text_place text') same = ap text_place (coded_text.inj text text' cc)
  place_same (block_place block) (block_place block') same = ap block_place (tree_same block block' cc)
  place_same (values_place values) (values_place values') same = ap values_place (args_same values values' cc)
  place_same (names_place names) (names_place names') same = ap names_place (coded_texts.inj names names' cc)
  place_same (directives_place directives) (directives_place directives') same = ap directives_place (directives_same directives directives' cc)
  place_same _ _ same = absurd cc

  -- directives with one code are the same
  directives_same : (one other : Directives) → directives_code one ≡ directives_code other → one ≡ other
  directives_same undirected undirected same = refl
  directives_same (directed program options places directives) (directed program' options' places' directives') same =
      let programs : program ≡ program' = coded_prog.inj program program' cc in
      let all_options : options ≡ options' = coded_texts.inj options options' cc in
      let all_places : places ≡ places' = places_same places places' cc in
      let rests : directives ≡ directives' = directives_same directives directives' cc in
      cc
  directives_same _ _ same = absurd cc

-- the codes of trees
abbrev pub tree_coded : Coded Tree
tree_coded = record { code = tree_code; inj = tree_same }

-- the codes of places
abbrev pub places_coded : Coded Places
places_coded = record { code = places_code; inj = places_same }
