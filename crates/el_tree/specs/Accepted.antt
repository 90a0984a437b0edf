-- Which trees are accepted under the marks of a first scope.
use Rattle.std.specs.Prelude.{◌≡◌, true, false, List}
use Rattle.el_subst.specs.Parts.{parts_of}
use Rattle.el_tree.specs.Trees.{Tree, End, Command, Node, Places, unplaced, one_place, text_place, block_place, directives_place, Directives, undirected, directed}
use Rattle.el_tree.specs.OptionWords.{letters_of}
use Rattle.el_tree.specs.WellFormed.{IsWellFormed}
use Rattle.el_tree.specs.Marks.{Member, keeps_one, member_of, adds_member, members_behind}

-- Each word at a place keeps one word under the members in force there. A name or a number does by itself, since it has no reference.
abbrev mutual
  -- a program's rest is tested under the members that are in force behind it
  pub KeepsWords : Tree → List Member → Type 0
  KeepsWords End members = Unit {0}
  KeepsWords (Command args) members = Unit {0}
  KeepsWords (Node program options places rest) members =
      PlacesKeep places members × KeepsWords rest (members_behind (adds_member program (letters_of program options)) members (member_of program (letters_of program options) places))

  -- a word at a place is tested itself, and a program block as a tree; blocks of values and of names aren't tested
  pub PlacesKeep : Places → List Member → Type 0
  PlacesKeep unplaced members = Unit {0}
  PlacesKeep (one_place (text_place text) places) members = (keeps_one false members (parts_of text) ≡ true) × PlacesKeep places members
  PlacesKeep (one_place (block_place block) places) members = KeepsWords block members × PlacesKeep places members
  PlacesKeep (one_place (directives_place directives) places) members = DirectivesKeep directives members × PlacesKeep places members
  PlacesKeep (one_place _ places) members = PlacesKeep places members

  -- a directive is tested under the members that are in force before its multisubstitute
  pub DirectivesKeep : Directives → List Member → Type 0
  DirectivesKeep undirected members = Unit {0}
  DirectivesKeep (directed program options places directives) members = PlacesKeep places members × DirectivesKeep directives members

-- a well-formed tree that passes the test of fixed places
pub record IsAccepted (members : List Member) (tree : Tree) : Type 0 where
  pub well_formed : IsWellFormed tree
  pub keeps : KeepsWords tree members
