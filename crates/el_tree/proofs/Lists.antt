-- Items, places and programs as lists, and as the definitions have them.
use Rattle.std.proofs.Common.{◌≡◌, ap, refl, List, [], ◌∷◌, ◌++◌, ◌<◌, ◌-◌, ℕ, zero, suc, length, slice_index_or, slice_set, ap₂, ◌∙◌, arith, ◌+◌, ◌≤◌, subst}
use denote.Param.Weighed.{most}
use Rattle.el_words.specs.Args.{Args, nothing, word, group, ◌+++◌}
use Rattle.el_tree.specs.declared.items.Arg.{Arg}
use Rattle.el_tree.specs.declared.items.Arg.TheVariants.{Word, Group}
use Rattle.el_tree.specs.declared.tree.Place.{Place}
use Rattle.el_tree.specs.declared.tree.Place.TheVariants.{Directives}
use Rattle.el_tree.specs.declared.tree.Node.{Node}
use Rattle.el_tree.specs.declared.items.Group.TheDeep.{deep-Arg}
use Rattle.el_tree.specs.declared.tree.Nodes.TheDeep.{deep-Place}
use Rattle.el_tree.specs.Items.{args_of, items_of, AreThere, args_size}
use Rattle.el_tree.specs.Trees.{one_place, Place as PlaceOf, Places, unplaced, directives_place, Directives as DirectivesOf, undirected, directed}
use Rattle.el_tree.specs.Lists.{place_of, held_place, places_of, place_list, ◌with_places◌, directives_of, directive_list, change_last}
use Rattle.el_tree.specs.Sizes.{places_size}
use Rattle.el_tree.specs.Falls.{items_fall, places_fall}
use Rattle.el_tree.proofs.Facts.{plus-nothing}

-- ---- items

-- the items of words and groups that are these items
pub items-are : (items : List Arg) → items_of (args_of items) ≡ items
items-are [] = refl
items-are (Word text ∷ items) = ap (λ rest. Word text ∷ rest) (items-are items)
items-are (Group inside ∷ items) = ap (λ rest. Group inside ∷ rest) (items-are items)

-- more items behind
pub args-more : (items more : List Arg) → args_of (items ++ more) ≡ args_of items +++ args_of more
args-more [] more = refl
args-more (Word text ∷ items) more = ap (word text) (args-more items more)
args-more (Group inside ∷ items) more = ap (group inside) (args-more items more)

-- there is one where there was one
pub there-more : (items more : Args) → AreThere items → AreThere (items +++ more)
there-more nothing more there = absurd there
there-more items more there = tt

pub args-again : (args : Args) → args_of (items_of args) ≡ args
args-again nothing = refl
args-again (word text rest) = ap (word text) (args-again rest)
args-again (group inside rest) = ap (group inside) (args-again rest)

pub args-fall : (args : Args) → most deep-Arg (items_of args) ≤ args_size args
args-fall args = subst (λ a. most deep-Arg (items_of args) ≤ args_size a) (args-again args) (items_fall (items_of args))

-- ---- places and directives

directives-are : (directives : List Node) → directive_list (directives_of directives) ≡ directives
directives-are [] = refl
directives-are (directive ∷ directives) = ap (λ rest. directive ∷ rest) (directives-are directives)

place-is : (place : Place) → held_place (place_of place) ≡ place
place-is (Directives directives) = ap Directives (directives-are directives)
place-is place = refl

pub places-are : (places : List Place) → place_list (places_of places) ≡ places
places-are [] = refl
places-are (place ∷ places) = ap₂ (λ (one : Place) (rest : List Place). one ∷ rest) (place-is place) (places-are places)

pub places-more : (places more : List Place) → places_of (places ++ more) ≡ places_of places with_places places_of more
places-more [] more = refl
places-more (place ∷ places) more = ap (one_place (place_of place)) (places-more places more)

pub directives-again : (directives : DirectivesOf) → directives_of (directive_list directives) ≡ directives
directives-again undirected = refl
directives-again (directed program options places directives) = ap (directed program options places) (directives-again directives)

place-again : (place : PlaceOf) → place_of (held_place place) ≡ place
place-again (directives_place directives) = ap directives_place (directives-again directives)
place-again place = refl

pub places-again : (places : Places) → places_of (place_list places) ≡ places
places-again unplaced = refl
places-again (one_place place places) = ap₂ one_place (place-again place) (places-again places)

pub places-fall : (places : Places) → most deep-Place (place_list places) ≤ places_size places
places-fall places = subst (λ p. most deep-Place (place_list places) ≤ places_size p) (places-again places) (places_fall (place_list places))

-- ---- the last program or directive goes on

set-last : (change : Node → Node) (nodes : List Node) (place : ℕ) (default : Node) → suc place ≡ length nodes → slice_set nodes place (change (slice_index_or nodes place default)) ≡ change_last change nodes
set-last change [] place default is = absurd (omega arith)
set-last change (node ∷ []) zero default is = refl
set-last change (node ∷ []) (suc place) default is = absurd (omega arith)
set-last change (node ∷ next ∷ nodes) zero default is = absurd (omega arith)
set-last change (node ∷ next ∷ nodes) (suc place) default is = ap (λ rest. node ∷ rest) (set-last change (next ∷ nodes) place default (omega arith))

pub last-changed : (change : Node → Node) (nodes : List Node) (count : ℕ) (last new : Node) → count ≡ length nodes → 0 < count → last ≡ slice_index_or nodes (count - 1) last → new ≡ change last
    → slice_set nodes (count - 1) new ≡ change_last change nodes
last-changed change nodes count last new counts there at is =
    ap (slice_set nodes (count - 1)) (is ∙ ap change at) ∙ set-last change nodes (count - 1) last (omega arith)

unchanged : (nodes : List Node) → change_last (λ node. node) nodes ≡ nodes
unchanged (node ∷ next ∷ nodes) = ap (λ rest. node ∷ rest) (unchanged (next ∷ nodes))
unchanged nodes = refl

-- or stays
pub last-kept : (nodes : List Node) (count : ℕ) (last new : Node) → count ≡ length nodes → 0 < count → last ≡ slice_index_or nodes (count - 1) last → new ≡ last → slice_set nodes (count - 1) new ≡ nodes
last-kept nodes count last new counts there at is = last-changed (λ node. node) nodes count last new counts there at is ∙ unchanged nodes

-- ---- what the code needs

pub ruleset items = (items-are, args-more, there-more)

pub ruleset commands = (plus-nothing)

pub ruleset lists = (places-are, places-more, last-changed, last-kept)
