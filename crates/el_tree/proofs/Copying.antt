-- What the loops of copies need: chains, places, directives and items in turn, upgraded or as they are.
use Rattle.std.proofs.Common.{◌≡◌, ℕ, Bool, true, false, List, [], ◌∷◌, ◌++◌, append-nil, map, length, Some, refl, ap, ap₂, ◌∙◌, arith}
use Rattle.std.specs.Prelude.{slice_get}
use Rattle.el_words.specs.declared.prog.Prog.{Prog}
use Rattle.el_words.specs.declared.prog.Prog.TheVariants.{Import}
use Rattle.el_words.specs.Args.{Args, ◌+++◌}
use Rattle.el_tree.specs.Trees.{Places, unplaced, one_place, text_place, block_place, Node as NodeOf}
use Rattle.el_tree.specs.declared.tree.Node.{Node}
use Rattle.el_tree.specs.declared.tree.Last.{Last}
use Rattle.el_tree.specs.declared.tree.Last.TheVariants.{End, Command}
use Rattle.el_tree.specs.declared.tree.Place.{Place}
use Rattle.el_tree.specs.declared.tree.Place.TheVariants.{Text}
use Rattle.el_tree.specs.declared.items.Arg.{Arg}
use Rattle.el_tree.specs.Items.{args_of}
use Rattle.el_tree.specs.Lists.{tree_of, places_of, place_list, ◌with_places◌}
use Rattle.el_tree.specs.Falls.{nodes_fall, tree_falls, directives_fall}
use Rattle.el_tree.specs.Upgrade.{twice, newer_places, upgraded, upgraded_places}
use Rattle.el_tree.specs.Copies.{copied, copied_program, copied_places, copied_node}
use Rattle.el_tree.proofs.Facts.{plus-nothing, plus-assoc, with-assoc, with-unplaced}
use Rattle.el_tree.proofs.Lists.{args-again, args-fall, places-again, places-fall}

-- in places that are copied each program block is upgraded, or as it is
all-upgraded : (places : Places) → copied_places true places ≡ upgraded_places places
all-upgraded unplaced = refl
all-upgraded (one_place (block_place block) places) = ap (one_place (block_place (upgraded block))) (all-upgraded places)
all-upgraded (one_place place places) = ap (one_place place) (all-upgraded places)

all-same : (places : Places) → copied_places false places ≡ places
all-same unplaced = refl
all-same (one_place (block_place block) places) = ap (one_place (block_place block)) (all-same places)
all-same (one_place place places) = ap (one_place place) (all-same places)

-- a chain is copied program by program
chain-of : (upgrades : Bool) (nodes : List Node) (last : Last) → tree_of (map (copied_node upgrades) nodes) last ≡ copied upgrades (tree_of nodes last)
chain-of true [] End = refl
chain-of true [] (Command args) = refl
chain-of false [] last = refl
chain-of true (node ∷ nodes) last = ap₂ (NodeOf (copied_program true node.prog) node.options) (ap (newer_places node.prog) (all-upgraded node.places)) (chain-of true nodes last)
chain-of false (node ∷ nodes) last = ap₂ (NodeOf node.prog node.options) (all-same node.places) (chain-of false nodes last)

pub copied-chain : (upgrades : Bool) (made nodes : List Node) (other last : Last) → made ≡ map (copied_node upgrades) nodes → other ≡ last → tree_of made other ≡ copied upgrades (tree_of nodes last)
copied-chain upgrades made nodes other last is same = ap₂ tree_of is same ∙ chain-of upgrades nodes last

-- directives are copied as they are
pub as-they-are : (nodes : List Node) → map (copied_node false) nodes ≡ nodes
as-they-are [] = refl
as-they-are (node ∷ nodes) = ap₂ (λ (places : Places) (nodes : List Node). record node { places = places } ∷ nodes) (all-same node.places) (as-they-are nodes)

-- ---- where nothing is left to be copied

pub no-nodes : (copy : Node → Node) (made rest : List Node) → length rest ≡ 0 → made ++ map copy rest ≡ made
no-nodes copy made [] none = append-nil made
no-nodes copy made (node ∷ rest) none = absurd (omega (arith, none))

pub no-places : (upgrades : Bool) (made : Places) (rest : List Place) → length rest ≡ 0 → made with_places copied_places upgrades (places_of rest) ≡ made
no-places upgrades made [] none = with-unplaced made
no-places upgrades made (place ∷ rest) none = absurd (omega (arith, none))

pub no-items : (made : Args) (rest : List Arg) → length rest ≡ 0 → made +++ args_of rest ≡ made
no-items made [] none = plus-nothing made
no-items made (item ∷ rest) none = absurd (omega (arith, none))

-- ---- the name of an import

-- it stands before the places once more
pub name-twice : (places : Places) (name : List ℕ) → slice_get (place_list places) 0 ≡ Some (Text name) → one_place (text_place name) unplaced with_places copied_places true places ≡ twice (copied_places true places)
name-twice (one_place (text_place text) places) name is = let same : text ≡ name = cc in rw same refl
name-twice places name is = absurd (cc)

-- without a name they stay
pub no-name : (places : Places) → ((name : List ℕ) → slice_get (place_list places) 0 ≡ Some (Text name) → ⊥) → copied_places true places ≡ twice (copied_places true places)
no-name (one_place (text_place text) places) none = absurd (none text refl)
no-name places none = refl

-- the places of other programs stay
pub others-stay : (program : Prog) (places : Places) → (program ≡ Import → ⊥) → places ≡ newer_places program places
others-stay Import places other = absurd (other refl)
others-stay program places other = refl

pub ruleset copying = (as-they-are, no-nodes, no-places, no-items, name-twice, no-name, others-stay, plus-nothing, plus-assoc, with-assoc, with-unplaced, args-again, args-fall, places-again, places-fall, nodes_fall, tree_falls, directives_fall)
