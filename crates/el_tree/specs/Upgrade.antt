-- Upgraded trees: importas stands for import.
use Rattle.el_words.specs.declared.prog.Prog.{Prog}
use Rattle.el_words.specs.declared.prog.Prog.TheVariants.{Importas, Import}
use Rattle.el_tree.specs.Trees.{Tree, End, Command, Node, Places, unplaced, one_place, text_place, block_place}

-- importas for import, and any other program as it is
abbrev pub newer : Prog → Prog
newer Import = Importas
newer program = program

-- the one word twice
abbrev pub twice : Places → Places
twice (one_place (text_place text) places) = one_place (text_place text) (one_place (text_place text) places)
twice places = places

-- importas has the name of an import at both its places
abbrev pub newer_places : Prog → Places → Places
newer_places Import places = twice places
newer_places program places = places

-- Each program has the same option words, and its rest and its program blocks are upgraded too. Commands, blocks of values and
-- directives stay.
abbrev mutual
  -- the tree with importas for each import
  pub upgraded : Tree → Tree
  upgraded End = End
  upgraded (Command args) = Command args
  upgraded (Node program options places rest) = Node (newer program) options (newer_places program (upgraded_places places)) (upgraded rest)

  -- in the program blocks among the places
  pub upgraded_places : Places → Places
  upgraded_places unplaced = unplaced
  upgraded_places (one_place (block_place block) places) = one_place (block_place (upgraded block)) (upgraded_places places)
  upgraded_places (one_place place places) = one_place place (upgraded_places places)
