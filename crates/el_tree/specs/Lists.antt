-- The lists of the code as trees, places and directives. Only the code's contracts need it.
use Rattle.std.specs.Prelude.{List, [], ◌∷◌, ℕ, ◌++◌}
use Rattle.el_tree.specs.Trees.{Tree, End, Command, Node, Place as PlaceOf, Places, unplaced, one_place, text_place, block_place, values_place, names_place, directives_place, Directives, undirected, directed}
use Rattle.el_tree.specs.declared.tree.Last.{Last}
use Rattle.el_tree.specs.declared.tree.Last.TheVariants.{End as LastEnd, Command as LastCommand}
use Rattle.el_tree.specs.declared.tree.Node.{Node as NodeStruct}
use Rattle.el_tree.specs.declared.tree.Place.{Place}
use Rattle.el_tree.specs.declared.tree.Place.TheVariants.{Text, Block, Values, Names, Directives as DirectivesPlace}

-- ---- a chain

-- what stands behind the last program: nothing, or a command
abbrev pub last_tree : Last → Tree
last_tree LastEnd = End
last_tree (LastCommand args) = Command args

-- each program has those behind it as its rest
abbrev pub tree_of : List NodeStruct → Last → Tree
tree_of [] last = last_tree last
tree_of (node ∷ nodes) last = Node node.prog node.options node.places (tree_of nodes last)

-- ---- directives

-- directives from the code's list
abbrev pub directives_of : List NodeStruct → Directives
directives_of [] = undirected
directives_of (directive ∷ directives) = directed directive.prog directive.options directive.places (directives_of directives)

-- directives as the code's list
abbrev pub directive_list : Directives → List NodeStruct
directive_list undirected = []
directive_list (directed program options places directives) = record { prog = program; options = options; places = places } ∷ directive_list directives

-- ---- places

-- a place from the code's
abbrev pub place_of : Place → PlaceOf
place_of (Text text) = text_place text
place_of (Block block) = block_place block
place_of (Values values) = values_place values
place_of (Names names) = names_place names
place_of (DirectivesPlace directives) = directives_place (directives_of directives)

-- a place as the code's
abbrev pub held_place : PlaceOf → Place
held_place (text_place text) = Text text
held_place (block_place block) = Block block
held_place (values_place values) = Values values
held_place (names_place names) = Names names
held_place (directives_place directives) = DirectivesPlace (directive_list directives)

-- places from the code's list
abbrev pub places_of : List Place → Places
places_of [] = unplaced
places_of (place ∷ places) = one_place (place_of place) (places_of places)

-- places as the code's list
abbrev pub place_list : Places → List Place
place_list unplaced = []
place_list (one_place place places) = held_place place ∷ place_list places

infixr 60 ◌with_places◌
-- places and more places
abbrev pub ◌with_places◌ : Places → Places → Places
unplaced with_places more = more
one_place place places with_places more = one_place place (places with_places more)

-- ---- the last program or directive goes on

abbrev pub change_last : (NodeStruct → NodeStruct) → List NodeStruct → List NodeStruct
change_last change [] = []
change_last change (node ∷ []) = change node ∷ []
change_last change (node ∷ next ∷ nodes) = node ∷ change_last change (next ∷ nodes)

-- with one option word more
abbrev pub with_option : (text : List ℕ) → NodeStruct → NodeStruct
with_option text node = record node { options = node.options ++ text ∷ [] }

-- with one place more
abbrev pub with_one_place : (place : Places) → NodeStruct → NodeStruct
with_one_place place node = record node { places = node.places with_places place }
