-- What is made of a script's tokens, where it is known what each is.
use Rattle.el_script.specs.Vocabulary.{Prog, Args, nothing, word, group, ◌+++◌, TokenShape, Text, Open, Close, ProgramBlock, NameBlock, DirectiveBlock, Tree, Places, unplaced, one_place, text_place, block_place, values_place, names_place, directives_place, tree_of, directives_of, with_option, with_one_place, Head, Fresh, Current, Level, Chained, Listed, Named, Directed, Beginning}
use Rattle.std.specs.Prelude.{ℕ, reverse, List, [], ◌∷◌, ◌++◌, map, Option, None, Some}
use Rattle.el_tree.specs.declared.tree.Last.{Last}
use Rattle.el_tree.specs.declared.tree.Last.TheVariants.{End, Command}
use Rattle.el_tree.specs.declared.tree.Node.{Node}
use Rattle.el_tree.specs.Items.{AreThere}
use Rattle.el_tree.specs.Lists.{change_last}
use Rattle.el_tree.specs.Beginnings.{Commanded, waiting_words}
use Rattle.el_reader.specs.declared.role.Role.{Role}
use Rattle.el_reader.specs.declared.role.Role.TheVariants as role
use Rattle.el_reader.specs.declared.role.Part.TheVariants.{Place as PlacePart, Block as BlockPart}
use Rattle.el_reader.specs.declared.builder.Builder.{Builder as BuilderStruct}
use Rattle.el_reader.specs.declared.builder.Made.{Made}
use Rattle.el_reader.specs.declared.builder.Made.TheVariants.{Chain, List as Items, Names, Directives as Directing}

-- ---- what is made

-- of a script: of the innermost level, and of those around it, from the inside outwards
pub record Built : Type 0 where
  pub made : Made
  pub around : List Made

-- ---- of a beginning

-- of the current program or directive, whose last option word may wait for its value
abbrev pub made_node : Head → Node
made_node head = record { prog = head.program; options = head.options ++ waiting_words head.waiting; places = head.places }

-- of a level
abbrev pub made_of : Level → Made
made_of (Chained nodes Fresh) = Chain nodes None
made_of (Chained nodes (Current head)) = Chain (nodes ++ made_node head ∷ []) None
made_of (Chained nodes (Commanded items)) = Chain nodes (Some items)
made_of (Listed items) = Items items
made_of (Named names) = Names names
made_of (Directed nodes None) = Directing nodes
made_of (Directed nodes (Some head)) = Directing (nodes ++ made_node head ∷ [])

-- of a beginning
abbrev pub built : Beginning → Built
built beginning = record { made = made_of beginning.level; around = map made_of beginning.around }

-- ---- one token more

-- behind the items that there are
abbrev pub more_items : Option Args → Args → Args
more_items None more = more
more_items (Some items) more = items +++ more

-- a program or directive of which only the name is read begins
abbrev pub begun : Prog → Made → Made
begun program (Chain nodes command) = Chain (nodes ++ record { prog = program; options = []; places = unplaced } ∷ []) command
begun program (Directing nodes) = Directing (nodes ++ record { prog = program; options = []; places = unplaced } ∷ [])
begun program made = made

-- the last one has become this
abbrev pub changed : (Node → Node) → Made → Made
changed change (Chain nodes command) = Chain (change_last change nodes) command
changed change (Directing nodes) = Directing (change_last change nodes)
changed change made = made

-- an item, or a name
abbrev pub with_item : (text : List ℕ) → Made → Made
with_item text (Chain nodes command) = Chain nodes (Some (more_items command (word text nothing)))
with_item text (Items items) = Items (items +++ word text nothing)
with_item text (Names names) = Names (names ++ text ∷ [])
with_item text (Directing nodes) = Directing nodes

-- a word, which is this
abbrev pub put_word : Role → (text : List ℕ) → Made → Made
put_word (role.Program program) text made = begun program made
put_word (role.Own PlacePart) text made = changed (with_one_place (one_place (text_place text) unplaced)) made
put_word (role.Own (BlockPart kind)) text made = made
put_word (role.Own part) text made = changed (with_option text) made
put_word role.Item text made = with_item text made
put_word _ text made = made

-- an Open, which is this: what is made of the level that it begins
abbrev pub made_inside : Role → Made
made_inside (role.Own (BlockPart ProgramBlock)) = Chain [] None
made_inside (role.Own (BlockPart NameBlock)) = Names []
made_inside (role.Own (BlockPart DirectiveBlock)) = Directing []
made_inside _ = Items nothing

-- and of the level around it: a group in a chain is one of a command
abbrev pub made_outside : Role → Made → Made
made_outside (role.Own part) made = made
made_outside _ (Chain nodes command) = Chain nodes (Some (more_items command nothing))
made_outside _ made = made

-- what stands behind the programs of a chain
abbrev pub command_last : Option Args → Last
command_last None = End
command_last (Some items) = Command items

-- a level as a place
abbrev pub made_place : Made → Places
made_place (Chain nodes command) = one_place (block_place (tree_of nodes (command_last command))) unplaced
made_place (Items items) = one_place (values_place items) unplaced
made_place (Names names) = one_place (names_place names) unplaced
made_place (Directing nodes) = one_place (directives_place (directives_of nodes)) unplaced

-- a group among the items; what isn't one changes nothing there
abbrev pub with_group : Args → Made → Args
with_group items (Items inside) = items +++ group inside nothing
with_group items _ = items

-- a level closed in the one around it: a group among items, or a block at the next place of the last program or directive
abbrev pub made_closed : (outer inner : Made) → Made
made_closed (Chain nodes (Some items)) inner = Chain nodes (Some (with_group items inner))
made_closed (Items items) inner = Items (with_group items inner)
made_closed outer inner = changed (with_one_place (made_place inner)) outer

-- a token, which is this, behind the others
abbrev pub put : Role → TokenShape → Built → Built
put is (Text text) built = record built { made = put_word is text built.made }
put is Open built = record { made = made_inside is; around = made_outside is built.made ∷ built.around }
put is Close built = put_close built.made built.around
  where
    put_close : Made → List Made → Built
    put_close made [] = record { made = made; around = [] }
    put_close made (outer ∷ around) = record { made = made_closed outer made; around = around }

-- the tree of a chain, as that of a script
abbrev pub made_tree : Made → Tree
made_tree (Chain nodes command) = tree_of nodes (command_last command)
made_tree made = tree_of [] End

-- ---- what the code holds

-- what the code has made of a script
abbrev pub builder_told : BuilderStruct → Built
builder_told builder = record { made = builder.made; around = reverse builder.around.items }

-- ---- what a tree can hold

-- what is made of a level may be closed: only a command without items mustn't be
abbrev pub IsClosableMade : Made → Type 0
IsClosableMade (Chain nodes (Some items)) = AreThere items
IsClosableMade _ = Unit {0}
