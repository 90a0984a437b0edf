-- The meanings of a tree and of the upgraded one are alike.
use Rattle.el_script.proofs.Vocabulary.{Prog, Import, Args, Pairs, Scope, PlaceKind, Name, Fixed, ProgramBlock, ValueBlock, NameBlock, DirectiveBlock, OptionalNumber, OptionalWord, shape_of, Tree, End, Command, Node, Places, unplaced, one_place, text_place, block_place, values_place, names_place, directives_place, written, IsFormed, HavePlaces, newer_places, upgraded, upgraded_places}
use Rattle.el_room.proofs.Vocabulary.{State, index_of, Way, onward, under, into}
use Rattle.std.proofs.Common.{◌≡◌, ℕ, zero, suc, List, [], ◌∷◌, ◌++◌, refl, sym}
use Rattle.el_meaning.specs.Meaning.{going_on, meaning, block_meaning, whole_meaning}
use Rattle.el_upgrade.specs.Laws.{UpgradeMeansAlike}
use Rattle.el_upgrade.proofs.Tasks.{TasksAlike, alike-same, alike-as, alike-takes, alike-then}
use Rattle.el_upgrade.proofs.Effects.{effect-alike}

-- a word more at the places is no block
same-blocks : (program : Prog) (places : Places) (number : ℕ) (scope : Scope) (state : State) → block_meaning (newer_places program places) number scope state ≡ block_meaning places number scope state
same-blocks Import unplaced number scope state = refl
same-blocks Import (one_place (text_place text) places) number scope state = refl
same-blocks Import (one_place _ places) number scope state = refl
same-blocks program places number scope state = refl

node-alike : (program : Prog) (options : List (List ℕ)) (places : Places) (rest : Tree) (scope : Scope) (state : State) → HavePlaces places (shape_of program).places (written rest)
    → ((pairs : Pairs) (state : State) → TasksAlike (meaning rest (scope ++ pairs ∷ []) state) (meaning (upgraded rest) (scope ++ pairs ∷ []) state))
    → ((number : ℕ) (state : State) → TasksAlike (block_meaning places number scope state) (block_meaning (upgraded_places places) number scope state))
    → TasksAlike (meaning (Node program options places rest) scope state) (meaning (upgraded (Node program options places rest)) scope state)
node-alike program options places rest scope state h next blocks = alike-takes (alike-then (effect-alike program scope options places rest state (written rest) h) by)
  where
    by : (way : Way) → TasksAlike (going_on (λ pairs state. meaning rest (scope ++ pairs ∷ []) state) (λ nth state. block_meaning places (index_of nth) scope state) way)
        (going_on (λ pairs state. meaning (upgraded rest) (scope ++ pairs ∷ []) state) (λ nth state. block_meaning (newer_places program (upgraded_places places)) (index_of nth) scope state) way)
    by (onward state) = next [] state
    by (under pairs state) = next pairs state
    by (into nth state) = alike-as refl (sym (same-blocks program (upgraded_places places) (index_of nth) scope state)) (blocks (index_of nth) state)

mutual
  meaning-alike : (tree : Tree) (scope : Scope) (state : State) → IsFormed tree → TasksAlike (meaning tree scope state) (meaning (upgraded tree) scope state)
  meaning-alike End scope state h = alike-same
  meaning-alike (Command args) scope state h = alike-same
  meaning-alike (Node program options places rest) scope state h =
      node-alike program options places rest scope state h.2 (λ pairs state. meaning-alike rest (scope ++ pairs ∷ []) state h.4) (λ number state. blocks-alike places (shape_of program).places (written rest) number scope state h.2)

  blocks-alike : (places : Places) (kinds : List PlaceKind) (after : Args) (number : ℕ) (scope : Scope) (state : State) → HavePlaces places kinds after → TasksAlike (block_meaning places number scope state) (block_meaning (upgraded_places places) number scope state)
  blocks-alike unplaced kinds after number scope state h = alike-same
  blocks-alike (one_place (text_place text) places) (Name ∷ kinds) after number scope state h = blocks-alike places kinds after number scope state h.1
  blocks-alike (one_place (text_place text) places) (Fixed ∷ kinds) after number scope state h = blocks-alike places kinds after number scope state h
  blocks-alike (one_place (text_place text) places) (OptionalWord ∷ kinds) after number scope state h = blocks-alike places kinds after number scope state h
  blocks-alike (one_place (text_place text) places) (OptionalNumber ∷ kinds) after number scope state h = blocks-alike places kinds after number scope state h.3
  blocks-alike (one_place (block_place block) places) (ProgramBlock ∷ kinds) after zero scope state h = meaning-alike block scope state h.0
  blocks-alike (one_place (block_place block) places) (ProgramBlock ∷ kinds) after (suc number) scope state h = blocks-alike places kinds after number scope state h.1
  blocks-alike (one_place (values_place values) places) (ValueBlock ∷ kinds) after zero scope state h = alike-same
  blocks-alike (one_place (values_place values) places) (ValueBlock ∷ kinds) after (suc number) scope state h = blocks-alike places kinds after number scope state h
  blocks-alike (one_place (names_place names) places) (NameBlock ∷ kinds) after zero scope state h = alike-same
  blocks-alike (one_place (names_place names) places) (NameBlock ∷ kinds) after (suc number) scope state h = blocks-alike places kinds after number scope state h.1
  blocks-alike (one_place (directives_place directives) places) (DirectiveBlock ∷ kinds) after number scope state h = blocks-alike places kinds after number scope state h.1
  blocks-alike _ _ after number scope state h = absurd h

pub means-alike : UpgradeMeansAlike
unfolding whole_meaning
means-alike members tree scope state units found accepted meets =
    let well_formed = accepted.well_formed in
    let whole : TasksAlike (whole_meaning tree scope state) (whole_meaning (upgraded tree) scope state) = alike-then (meaning-alike tree scope state well_formed.formed) (λ left. alike-same) in
    whole.made_alike units found
