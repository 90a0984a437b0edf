-- How large trees are, by which the proofs of recursions over them count. Only the code's contracts need it.
use Rattle.std.specs.Prelude.{ℕ, suc, ◌+◌, List, [], ◌∷◌}
use Rattle.el_tree.specs.Trees.{Tree, End, Command, Node, Places, unplaced, one_place, block_place, directives_place, Directives, undirected, directed}
use Rattle.el_tree.specs.declared.tree.Node.{Node as NodeStruct}

abbrev mutual
  -- the size of a tree; its places and its rest are smaller together
  pub tree_size : Tree → ℕ
  tree_size End = 1
  tree_size (Command args) = 1
  tree_size (Node program options places rest) = suc (places_size places + tree_size rest)

  -- the size of places; the trees and directives in them are smaller together
  pub places_size : Places → ℕ
  places_size unplaced = 1
  places_size (one_place (block_place block) places) = suc (tree_size block + places_size places)
  places_size (one_place (directives_place directives) places) = suc (directives_size directives + places_size places)
  places_size (one_place _ places) = suc (places_size places)

  -- the size of directives; their places are smaller together
  pub directives_size : Directives → ℕ
  directives_size undirected = 1
  directives_size (directed program options places directives) = suc (places_size places + directives_size directives)

-- the size of programs; their places are smaller together
abbrev pub nodes_size : List NodeStruct → ℕ
nodes_size [] = 0
nodes_size (node ∷ nodes) = suc (places_size node.places + nodes_size nodes)
