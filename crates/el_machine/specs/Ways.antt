-- How a process may go on behind each program.
use Rattle.el_room.specs.Vocabulary.{list_all, Prog, Define, Importas, Import, Multidefine, Multisubstitute, Elgetpositionals, Backtick, Way, onward, under, into}
use Rattle.std.specs.Prelude.{◌≡◌, Bool, true, false, List}
use Rattle.el_options.specs.declared.place.PlaceKind.{PlaceKind}
use Rattle.el_options.specs.declared.place.PlaceKind.TheVariants.{ValueBlock, NameBlock}
use Rattle.el_options.specs.Shapes.{shape_of, Chain}

-- a place that isn't a block of values or of names
abbrev pub is_tree_kind : PlaceKind → Bool
is_tree_kind ValueBlock = false
is_tree_kind NameBlock = false
is_tree_kind _ = true

-- no block at these places is one of values or of names
abbrev pub have_trees_alone : List PlaceKind → Bool
have_trees_alone kinds = list_all is_tree_kind kinds

-- the programs that put values in their rest
abbrev pub puts_in : Prog → Bool
puts_in Define = true
puts_in Importas = true
puts_in Import = true
puts_in Multidefine = true
puts_in Multisubstitute = true
puts_in Elgetpositionals = true
puts_in Backtick = true
puts_in _ = false

-- A process goes on with the rest only where that is a chain, and with values in it only behind a program that puts them in; with a
-- block it goes on only behind a program that has none of values or of names.
abbrev pub MayGo : Prog → Way → Type 0
MayGo program (onward state) = (shape_of program).rest ≡ Chain
MayGo program (under pairs state) = ((shape_of program).rest ≡ Chain) × (puts_in program ≡ true)
MayGo program (into block state) = have_trees_alone (shape_of program).places ≡ true
