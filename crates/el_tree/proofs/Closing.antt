-- A level that is closed is a place as it must be, and a whole chain is a tree.
use Rattle.std.proofs.Common.{◌≡◌, ℕ, true, false, List, [], ◌∷◌, ◌++◌, take, drop, Option, Some, None, refl, sym, ap, ◌∙◌, subst, true≢false}
use Rattle.el_words.specs.declared.prog.Prog.{Prog}
use Rattle.el_words.specs.declared.prog.Prog.TheVariants.{Exit, Loopwhilex, Forx, Forstdin, Forbacktickx}
use Rattle.el_words.specs.Prog.{name_text}
use Rattle.el_words.specs.Args.{Args, nothing, word, group, ◌+++◌, words}
use Rattle.el_words.proofs.Truths.{left_of, right_of}
use Rattle.std.proofs.lemmas.Bool.{and_from}
use Rattle.el_options.specs.Fronts.{is_directive}
use Rattle.el_options.specs.declared.place.PlaceKind.{PlaceKind}
use Rattle.el_options.specs.declared.place.PlaceKind.TheVariants.{ProgramBlock, ValueBlock, NameBlock, DirectiveBlock, OptionalNumber, OptionalWord}
use Rattle.el_options.specs.Shapes.{shape_of}
use Rattle.el_tree.specs.declared.fault.PlacedFault.TheVariants.{Before}
use Rattle.el_tree.specs.declared.fault.Fault.TheVariants.{ArgumentMissing}
use Rattle.el_tree.specs.declared.tree.Node.{Node}
use Rattle.el_tree.specs.Trees.{Tree, End, Command, Node as node_tree, Places, unplaced, one_place, values_place, names_place, undirected, written, written_places, written_directives}
use Rattle.el_tree.specs.Lists.{directives_of, ◌with_places◌}
use Rattle.el_tree.specs.OptionWords.{StopsOptions}
use Rattle.el_tree.specs.WellFormed.{HavePlaces, AreDirectives, IsFormed, IsRest, IsCommand, HasTokens, HasCommands, HaveCommands, HasRestCommands, IsWellFormed}
use Rattle.el_tree.specs.Marks.{Member}
use Rattle.el_tree.specs.Accepted.{PlacesKeep, DirectivesKeep, KeepsWords}
use Rattle.el_tree.specs.Beginnings.{Head, Fresh, Current, Commanded, Tail, Level, Chained, Listed, Named, Directed, TestScope, WhereTested, KeepPlaces, KeepDirectives, KeepNodes, KeepsTail, KeepsLevel, scope_at, scope_behind_all, first_in, an_open, is_there, count, written_head, written_nodes, written_tail, written_level, IsHead, IsFinished, AreFinished, MayBegin, MayFollow, GoesOn, FollowsAll, all_directives, IsLevel, IsOfKind}
use Rattle.el_tree.specs.Faults.{Over, where_true, is_loop, kind_fault, level_fault}
use Rattle.el_tree.specs.Steps.{with_place, node_of, closed, closed_directives, tree_before, tail_tree}
use Rattle.el_tree.proofs.Facts.{never-some, all-append, plus-nothing, plus-assoc}
use Rattle.el_tree.proofs.HeadReadings.{head-of}
use Rattle.el_tree.proofs.Finished.{first-first, stops-same, finished-same, all-read}
use Rattle.el_tree.proofs.TreeReadings.{KeepTree, NoOptional}
use Rattle.el_tree.proofs.Rereadings.{there-open, never-open, nodes-plus}
use Rattle.el_tree.proofs.HeadsGrow.{all-less, head-finishes, HeadGrows, placed-grows, where-tested, always-keeps}

-- ---- a head that is over

-- it is written as a finished one, before what follows
head-node : (waiting : Option (List ℕ)) (program : Prog) (options : List (List ℕ)) (places : Places) (after : Args) → waiting ≡ None
    → written_nodes (record { prog = program; options = options; places = places } ∷ []) after ≡ written_head (head-of program options waiting places) +++ after
head-node None program options places after none = ap (word (name_text program)) (sym (plus-assoc (words options) (written_places places) after))
head-node (Some text) program options places after none = absurd (never-some none)

nodes-append : (nodes : List Node) (node : Node) (after : Args) → written_nodes (nodes ++ node ∷ []) after ≡ written_nodes nodes (written_nodes (node ∷ []) after)
nodes-append [] node after = refl
nodes-append (one ∷ nodes) node after = ap (λ x. word (name_text one.prog) (words one.options +++ (written_places one.places +++ x))) (nodes-append nodes node after)

-- so it is behind others
pub head-behind : (nodes : List Node) (head : Head) (after : Args) → head.waiting ≡ None → written_nodes (nodes ++ node_of head ∷ []) after ≡ written_nodes nodes (written_head head) +++ after
head-behind nodes head after still =
    nodes-append nodes (node_of head) after ∙ ap (written_nodes nodes) (head-node head.waiting head.program head.options head.places after still) ∙ nodes-plus nodes (written_head head) after

-- programs, and one more that begins with what they stand before
pub finished-append : (nodes : List Node) (node : Node) (after : Args) → AreFinished nodes (word (name_text node.prog) nothing) → IsFinished node.prog node.options node.places (first_in after) → AreFinished (nodes ++ node ∷ []) after
finished-append [] node after are is = (is, tt)
finished-append (one ∷ []) node after are is = (are.0, (is, tt))
finished-append (one ∷ next ∷ nodes) node after are is = (are.0, finished-append (next ∷ nodes) node after are.1 is)

-- a loop isn't over without a body
loop-kinds : (scope : TestScope) (program : Prog) (kinds : List PlaceKind) → NoOptional kinds → is_loop program ≡ true → kind_fault scope program false kinds Over ≡ None → ⊥
loop-kinds scope program [] must loop none = never-some (subst (λ b. where_true b (Before ArgumentMissing) ≡ None) loop none)
loop-kinds scope program (OptionalNumber ∷ kinds) must loop none = absurd must
loop-kinds scope program (OptionalWord ∷ kinds) must loop none = absurd must
loop-kinds scope program (_ ∷ kinds) must loop none = never-some none

over-rest : (scope : TestScope) (program : Prog) (n : ℕ) → kind_fault scope program false (drop n (shape_of program).places) Over ≡ None → IsRest program End
unfolding shape_of
over-rest scope Loopwhilex n none = loop-kinds scope Loopwhilex (drop n (shape_of Loopwhilex).places) (all-less n (shape_of Loopwhilex).places tt) refl none
over-rest scope Forx n none = loop-kinds scope Forx (drop n (shape_of Forx).places) (all-less n (shape_of Forx).places tt) refl none
over-rest scope Forstdin n none = loop-kinds scope Forstdin (drop n (shape_of Forstdin).places) (all-less n (shape_of Forstdin).places tt) refl none
over-rest scope Forbacktickx n none = loop-kinds scope Forbacktickx (drop n (shape_of Forbacktickx).places) (all-less n (shape_of Forbacktickx).places tt) refl none
over-rest scope Exit n none = tt
over-rest scope _ n none = tt

-- ---- programs before a rest

before-written : (nodes : List Node) (rest : Tree) → written (tree_before nodes rest) ≡ written_nodes nodes (written rest)
before-written [] rest = refl
before-written (node ∷ nodes) rest = ap (λ a. word (name_text node.prog) (words node.options +++ (written_places node.places +++ a))) (before-written nodes rest)

-- ---- what stands behind a program

-- a tail whose program doesn't wait for a value
abbrev TailStill : Tail → Type 0
TailStill (Current head) = head.waiting ≡ None
TailStill tail = Unit {0}

abbrev TailCommands : Tail → Type 0
TailCommands (Current head) = HaveCommands head.places
TailCommands tail = Unit {0}

tail-written : (tail : Tail) → TailStill tail → written (tail_tree tail) ≡ written_tail tail
tail-written (Current head) still = head-behind [] head nothing still ∙ plus-nothing (written_head head)
tail-written tail still = refl

-- a chain that is over: its tail doesn't wait, and is formed
record TailOver (tail : Tail) : Type 0 where
  still : TailStill tail
  formed : IsFormed (tail_tree tail)
  commands : TailCommands tail

tail-over : (scope : TestScope) (nodes : List Node) (tail : Tail) → IsLevel (Chained nodes tail) nothing → level_fault scope (Chained nodes tail) Over ≡ None → TailOver tail
tail-over scope nodes (Current head) is none =
    let ends = head-finishes scope head.program head.options head.waiting head.places false Over is.2 none tt in
    record { still = ends.still; formed = (ends.is.read, ends.is.stops, ends.is.placed, over-rest scope head.program (count head.places) ends.free, tt); commands = is.2.commanded }
tail-over scope nodes tail is none = record { still = tt; formed = tt; commands = tt }

command-first : (items : Args) → IsCommand (first_in (items +++ nothing)) → IsCommand items
command-first (group inside rest) is = tt
command-first a is = is

end-commands : (program : Prog) → HasRestCommands program End (Unit {0})
end-commands Exit = tt
end-commands _ = tt

begin-commands : (tail : Tail) → MayBegin tail nothing → TailCommands tail → HasCommands (tail_tree tail)
begin-commands Fresh begins commands = tt
begin-commands (Current head) begins commands = (commands, end-commands head.program)
begin-commands (Commanded items) begins commands = command-first items begins

exit-tokens : (items : Args) → is_there (items +++ nothing) ≡ true → HasTokens (Command items)
exit-tokens nothing is = absurd (true≢false (sym is))
exit-tokens a is = tt

-- this may be a program's rest, with its commands
abbrev MayBeRest : Prog → Tree → Type 0
MayBeRest program rest = IsRest program rest × HasRestCommands program rest (HasCommands rest)

tail-rest : (program : Prog) (tail : Tail) → MayFollow program tail nothing → TailCommands tail → MayBeRest program (tail_tree tail)
tail-rest Exit (Commanded items) follows commands = (tt, exit-tokens items follows)
tail-rest Exit tail follows commands = absurd follows
tail-rest _ Fresh follows commands = absurd follows
tail-rest _ (Current head) follows commands = (tt, (commands, end-commands head.program))
tail-rest _ (Commanded items) follows commands = (tt, command-first items follows)

node-rest : (program next : Prog) (options : List (List ℕ)) (places : Places) (rest : Tree) → GoesOn program → HasCommands (node_tree next options places rest) → MayBeRest program (node_tree next options places rest)
node-rest Exit next options places rest goes has = absurd goes
node-rest _ next options places rest goes has = (tt, has)

node-formed : (program : Prog) (options : List (List ℕ)) (places : Places) (after : Args) (rest : Tree) → first_in after ≡ first_in (written rest) → IsFinished program options places after → MayBeRest program rest → IsFormed rest → IsWellFormed (node_tree program options places rest)
node-formed program options places after rest same finished may formed =
    let is = finished-same program options places after (written rest) same finished in
    record { formed = (is.read, is.stops, is.placed, may.0, formed); commands = (is.commanded, may.1) }

-- programs before the tail of their chain
before-formed : (nodes : List Node) (tail : Tail) (after : Args) → first_in after ≡ first_in (written (tail_tree tail)) → AreFinished nodes after → FollowsAll nodes tail nothing → TailOver tail → IsWellFormed (tree_before nodes (tail_tree tail))
before-formed [] tail after same are follows over = record { formed = over.formed; commands = begin-commands tail follows over.commands }
before-formed (node ∷ []) tail after same are follows over =
    node-formed node.prog node.options node.places (first_in after) (tail_tree tail) (first-first after ∙ same) are.0 (tail-rest node.prog tail follows over.commands) over.formed
before-formed (node ∷ next ∷ nodes) tail after same are follows over =
    let rest = before-formed (next ∷ nodes) tail after same are.1 follows.1 over in
    node-formed node.prog node.options node.places (word (name_text next.prog) nothing) (tree_before (next ∷ nodes) (tail_tree tail)) refl are.0 (node-rest node.prog next.prog next.options next.places (tree_before nodes (tail_tree tail)) follows.0 rest.commands) rest.formed

-- ---- fixed places

members-keep : (nodes : List Node) (tail : Tail) (members : List Member) → KeepNodes (Some members) nodes → KeepsTail (scope_behind_all (Some members) nodes) tail → KeepsWords (tree_before nodes (tail_tree tail)) members
members-keep [] (Current head) members keep keeps = (keeps, tt)
members-keep [] tail members keep keeps = tt
members-keep (node ∷ nodes) tail members keep keeps = (keep.0, members-keep nodes tail _ keep.1 keeps)

tree-keeps : (scope : TestScope) (nodes : List Node) (tail : Tail) → KeepsLevel scope (Chained nodes tail) → KeepTree scope (tree_before nodes (tail_tree tail))
tree-keeps None nodes tail keeps = tt
tree-keeps (Some members) nodes tail keeps = members-keep nodes tail members keeps.0 keeps.1

-- ---- a whole chain

pub record IsClosedTree (scope : TestScope) (nodes : List Node) (tail : Tail) : Type 0 where
  pub is : IsWellFormed (tree_before nodes (tail_tree tail))
  pub keeps : KeepTree scope (tree_before nodes (tail_tree tail))
  pub are_written : written (tree_before nodes (tail_tree tail)) ≡ written_level (Chained nodes tail)

pub closed-tree : (scope : TestScope) (nodes : List Node) (tail : Tail) → IsLevel (Chained nodes tail) nothing → KeepsLevel scope (Chained nodes tail) → level_fault (scope_behind_all scope nodes) (Chained nodes tail) Over ≡ None → IsClosedTree scope nodes tail
closed-tree scope nodes tail is keeps none =
    let over = tail-over (scope_behind_all scope nodes) nodes tail is none in
    record {
      is = before-formed nodes tail (first_in (written_tail tail +++ nothing)) (first-first (written_tail tail +++ nothing) ∙ ap first_in (plus-nothing (written_tail tail) ∙ sym (tail-written tail over.still))) is.0 is.1 over;
      keeps = tree-keeps scope nodes tail keeps;
      are_written = before-written nodes (tail_tree tail) ∙ ap (written_nodes nodes) (tail-written tail over.still);
    }

-- ---- directives

directives-written : (nodes : List Node) → written_directives (directives_of nodes) ≡ written_nodes nodes nothing
directives-written [] = refl
directives-written (node ∷ nodes) = ap (λ a. word (name_text node.prog) (words node.options +++ (written_places node.places +++ a))) (directives-written nodes)

are-directives : (nodes : List Node) → AreFinished nodes nothing → all_directives nodes ≡ true → AreDirectives (directives_of nodes)
are-directives [] are direct = tt
are-directives (node ∷ nodes) are direct =
    let behind = written_nodes nodes nothing in
    let is = finished-same node.prog node.options node.places (first_in behind) (written_directives (directives_of nodes)) (first-first behind ∙ ap first_in (sym (directives-written nodes))) are.0 in
    (is.read, left_of (is_directive node.prog) (all_directives nodes) direct, is.stops, is.placed, are-directives nodes are.1 (right_of (is_directive node.prog) (all_directives nodes) direct))

pub all-direct : (nodes : List Node) (head : Head) → all_directives nodes ≡ true → is_directive head.program ≡ true → all_directives (nodes ++ node_of head ∷ []) ≡ true
all-direct nodes head direct is = all-append (λ node. is_directive node.prog) nodes (node_of head ∷ []) direct (and_from (is_directive head.program) true is refl)

pub record AreClosedDirectives (scope : TestScope) (nodes : List Node) (current : Option Head) : Type 0 where
  pub are : AreDirectives (directives_of (closed_directives nodes current))
  pub keeps : KeepDirectives scope (directives_of (closed_directives nodes current))
  pub are_written : written_directives (directives_of (closed_directives nodes current)) ≡ written_level (Directed nodes current)

members-direct : (nodes : List Node) (head : Head) (members : List Member) → DirectivesKeep (directives_of nodes) members → PlacesKeep head.places members → DirectivesKeep (directives_of (nodes ++ node_of head ∷ [])) members
members-direct [] head members keep keeps = (keeps, tt)
members-direct (node ∷ nodes) head members keep keeps = (keep.0, members-direct nodes head members keep.1 keeps)

pub directives-keep : (scope : TestScope) (nodes : List Node) (head : Head) → KeepDirectives scope (directives_of nodes) → KeepPlaces scope head.places → KeepDirectives scope (directives_of (nodes ++ node_of head ∷ []))
directives-keep scope nodes head keep keeps = where-tested scope (DirectivesKeep (directives_of nodes)) (PlacesKeep head.places) (DirectivesKeep (directives_of (nodes ++ node_of head ∷ []))) (members-direct nodes head) keep keeps

pub closed-directives : (scope : TestScope) (nodes : List Node) (current : Option Head) → IsLevel (Directed nodes current) nothing → KeepsLevel scope (Directed nodes current) → level_fault scope (Directed nodes current) Over ≡ None → AreClosedDirectives scope nodes current
closed-directives scope [] None is keeps none = record { are = tt; keeps = always-keeps scope (DirectivesKeep undirected) (λ members. tt); are_written = refl }
closed-directives scope (node ∷ nodes) None is keeps none = absurd is.1
closed-directives scope nodes (Some head) is keeps none =
    let ends = head-finishes scope head.program head.options head.waiting head.places true Over is.1.1 none tt in
    record {
      are = are-directives (nodes ++ node_of head ∷ []) (finished-append nodes (node_of head) nothing is.0 ends.is) (all-direct nodes head is.2 is.1.0);
      keeps = directives-keep scope nodes head keeps.0 keeps.1;
      are_written = directives-written (nodes ++ node_of head ∷ []) ∙ head-behind nodes head nothing ends.still ∙ plus-nothing (written_nodes nodes (written_head head));
    }

-- ---- a closed level as a place

pub record IsClosedPlace (scope : TestScope) (level : Level) (kinds : List PlaceKind) : Type 0 where
  pub have : HavePlaces (closed level) (take (count (closed level)) kinds) nothing
  pub commands : HaveCommands (closed level)
  pub keeps : KeepPlaces scope (closed level)
  pub are_written : written_places (closed level) ≡ group (written_level level) nothing

-- what keeps its words does as the one place
alone-keeps : (scope : TestScope) (keeps : List Member → Type 0) → WhereTested scope keeps → WhereTested scope (λ members. keeps members × Unit {0})
alone-keeps scope keeps keep = where-tested scope keeps keeps (λ members. keeps members × Unit {0}) (λ members keep _. (keep, tt)) keep keep

pub closed-place : (scope : TestScope) (level : Level) (kinds : List PlaceKind) → IsLevel level nothing → KeepsLevel scope level → level_fault (scope_at scope level) level Over ≡ None → IsOfKind level kinds → IsClosedPlace scope level kinds
closed-place scope (Chained nodes tail) (ProgramBlock ∷ kinds) is keeps none kind =
    let tree = closed-tree scope nodes tail is keeps none in
    record { have = (tree.is.formed, tt); commands = (tree.is.commands, tt); keeps = alone-keeps scope (KeepsWords _) tree.keeps; are_written = ap (λ a. group a nothing) tree.are_written }
closed-place scope (Listed items) (ValueBlock ∷ kinds) is keeps none kind = record { have = tt; commands = tt; keeps = always-keeps scope (PlacesKeep (one_place (values_place items) unplaced)) (λ members. tt); are_written = refl }
closed-place scope (Named names) (NameBlock ∷ kinds) is keeps none kind = record { have = (is, tt); commands = tt; keeps = always-keeps scope (PlacesKeep (one_place (names_place names) unplaced)) (λ members. tt); are_written = refl }
closed-place scope (Directed nodes current) (DirectiveBlock ∷ kinds) is keeps none kind =
    let are = closed-directives scope nodes current is keeps none in
    record { have = (are.are, tt); commands = tt; keeps = alone-keeps scope (DirectivesKeep _) are.keeps; are_written = ap (λ a. group a nothing) are.are_written }
closed-place scope _ _ is keeps none kind = absurd kind

-- ---- a block is closed at the next place of a head

pub closed-grows : (scope : TestScope) (program : Prog) (options : List (List ℕ)) (waiting : Option (List ℕ)) (places : Places) (level : Level) → IsHead (head-of program options waiting places) an_open → KeepPlaces scope places
    → IsClosedPlace scope level (drop (count places) (shape_of program).places) → HeadGrows scope (head-of program options waiting places) (with_place (head-of program options waiting places) (closed level)) (group (written_level level) nothing)
closed-grows scope program options (Some text) places level is keeps place = absurd (never-open (written_places places) is.waits.3)
closed-grows scope program options None places level is keeps place =
    subst (HeadGrows scope (head-of program options None places) (head-of program options None (places with_places closed level))) place.are_written
    (placed-grows scope program options places (closed level) an_open is (all-read is.read (there-open (written_places places)))
    (subst (λ a. StopsOptions (shape_of program).letters is.read.ended (written_places places +++ a)) (sym (plus-nothing (written_places (closed level)) ∙ place.are_written))
    (stops-same (shape_of program).letters is.read.ended places an_open (group (written_level level) nothing) (λ first. refl) is.stops))
    place.have place.commands keeps place.keeps)
