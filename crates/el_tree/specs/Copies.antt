-- Copies of trees, with the imports upgraded or as they are. Only the code's contracts need them.
use Rattle.std.specs.Prelude.{Bool, true, false}
use Rattle.el_words.specs.declared.prog.Prog.{Prog}
use Rattle.el_tree.specs.Trees.{Tree, Place, block_place, Places, unplaced, one_place}
use Rattle.el_tree.specs.declared.tree.Node.{Node}
use Rattle.el_tree.specs.Upgrade.{newer, newer_places, upgraded}

-- a tree, upgraded or as it is
abbrev pub copied : (upgrades : Bool) → Tree → Tree
copied true tree = upgraded tree
copied false tree = tree

-- a place: a program block is copied, and the others stay
abbrev pub copied_place : (upgrades : Bool) → Place → Place
copied_place upgrades (block_place block) = block_place (copied upgrades block)
copied_place upgrades place = place

-- places
abbrev pub copied_places : (upgrades : Bool) → Places → Places
copied_places upgrades unplaced = unplaced
copied_places upgrades (one_place place places) = one_place (copied_place upgrades place) (copied_places upgrades places)

-- a program's name
abbrev pub copied_program : (upgrades : Bool) → Prog → Prog
copied_program true program = newer program
copied_program false program = program

-- a program's places
abbrev pub own_places : (upgrades : Bool) → Prog → Places → Places
own_places true program places = newer_places program (copied_places true places)
own_places false program places = copied_places false places

-- a program of a chain
abbrev pub copied_node : (upgrades : Bool) → Node → Node
copied_node upgrades node = record { prog = copied_program upgrades node.prog; options = node.options; places = own_places upgrades node.prog node.places }
