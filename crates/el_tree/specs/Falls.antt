-- What stands inside is smaller, which recursions over trees need. Only the code's contracts need it.
use Rattle.std.specs.Prelude.{◌+◌, ◌≤◌, List, [], ◌∷◌}
use Rattle.std.proofs.Common.{arith}
use denote.Param.Weighed.{most}
use Rattle.el_tree.specs.declared.items.Arg.{Arg}
use Rattle.el_tree.specs.declared.items.Arg.TheVariants.{Word, Group}
use Rattle.el_tree.specs.declared.items.Group.TheDeep.{deep-Arg}
use Rattle.el_tree.specs.Items.{args_of, args_size}
use Rattle.el_tree.specs.declared.tree.Last.{Last}
use Rattle.el_tree.specs.declared.tree.Last.TheVariants.{End, Command}
use Rattle.el_tree.specs.declared.tree.Node.{Node}
use Rattle.el_tree.specs.declared.tree.Place.{Place}
use Rattle.el_tree.specs.declared.tree.Place.TheVariants.{Text, Block, Values, Names, Directives}
use Rattle.el_tree.specs.declared.tree.Nodes.TheDeep.{deep-Node, deep-Place}
use Rattle.el_tree.specs.Lists.{tree_of, places_of, directives_of}
use Rattle.el_tree.specs.Sizes.{tree_size, nodes_size, places_size, directives_size}

-- an item is at most as deep as all items are large
pub items_fall : (items : List Arg) → most deep-Arg items ≤ args_size (args_of items)
items_fall [] = omega arith
items_fall (Word text ∷ items) = omega (arith, items_fall items)
items_fall (Group inside ∷ items) = omega (arith, items_fall items)

-- a program is at most as deep as all programs are large
pub nodes_fall : (nodes : List Node) → most deep-Node nodes ≤ nodes_size nodes
nodes_fall [] = omega arith
nodes_fall (node ∷ nodes) = omega (arith, nodes_fall nodes)

-- directives are smaller as programs
pub directives_fall : (nodes : List Node) → nodes_size nodes + 1 ≤ directives_size (directives_of nodes)
directives_fall [] = omega arith
directives_fall (node ∷ nodes) = omega (arith, directives_fall nodes)

-- a place is at most as deep as all places are large
pub places_fall : (places : List Place) → most deep-Place places ≤ places_size (places_of places)
places_fall [] = omega arith
places_fall (Text text ∷ places) = omega (arith, places_fall places)
places_fall (Block block ∷ places) = omega (arith, places_fall places)
places_fall (Values values ∷ places) = omega (arith, places_fall places)
places_fall (Names names ∷ places) = omega (arith, places_fall places)
places_fall (Directives directives ∷ places) = omega (arith, directives_fall directives, nodes_fall directives, places_fall places)

-- the programs of a tree are smaller than the tree
pub tree_falls : (nodes : List Node) (last : Last) → nodes_size nodes + 1 ≤ tree_size (tree_of nodes last)
tree_falls [] End = omega arith
tree_falls [] (Command args) = omega arith
tree_falls (node ∷ nodes) last = omega (arith, tree_falls nodes last)
