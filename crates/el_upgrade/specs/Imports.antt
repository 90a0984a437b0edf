-- Trees without import.
use Rattle.el_script.specs.Vocabulary.{Prog, Import, Tree, End, Command, Node, Places, unplaced, one_place, block_place}
use Rattle.std.specs.Prelude.{◌≡◌, Bool, true, false}

-- the program is import
abbrev pub is_import : Prog → Bool
is_import Import = true
is_import program = false

-- No program is import, in program blocks neither. Of the words of commands nothing is said, and no directive is import.
abbrev mutual
  -- no program of the tree
  pub LacksImport : Tree → Type 0
  LacksImport End = Unit {0}
  LacksImport (Command args) = Unit {0}
  LacksImport (Node program options places rest) = (is_import program ≡ false) × PlacesLack places × LacksImport rest

  -- none in the program blocks among the places
  pub PlacesLack : Places → Type 0
  PlacesLack unplaced = Unit {0}
  PlacesLack (one_place (block_place block) places) = LacksImport block × PlacesLack places
  PlacesLack (one_place _ places) = PlacesLack places
