-- What a tree means starts processes for parts of the tree alone.
use Rattle.el_script.proofs.Vocabulary.{Prog, Args, spelled, Scope, scope_value, PlaceKind, Name, Fixed, ProgramBlock, ValueBlock, NameBlock, DirectiveBlock, OptionalNumber, OptionalWord, shape_of, Tree, End, Command, Node, Places, unplaced, one_place, text_place, block_place, values_place, names_place, directives_place, written, letters_of, HavePlaces, HasCommands, HasRestCommands, KeepsWords, PlacesKeep, Member, Meets, MeetsAll, member_of, IsAccepted, is_loop, fit-meets}
use Rattle.el_room.proofs.Vocabulary.{Ifte, Exit, Loopwhilex, Forx, Forstdin, Forbacktickx, Pairs, Found, made, and_then, State, Task, Left, blocks_of, Read, Way, onward, under, into}
use Rattle.std.proofs.Common.{◌≡◌, ◌≢◌, ◌⊎◌, inl, inr, ℕ, zero, suc, Bool, true, false, List, [], ◌∷◌, ◌++◌, slice_index_or, Option, Some, None, refl, sym, ap, ◌∙◌, subst}
use Rattle.el_options.specs.Shapes.{Chain}
use Rattle.el_tree.specs.WellFormed.{HaveCommands}
use Rattle.el_tree.specs.Marks.{adds_member, members_behind, puts_in_child, reaches_rest}
use Rattle.el_front.specs.Reads.{index_of}
use Rattle.el_loops.specs.Turns.{turn_words}
use Rattle.el_machine.specs.Commands.{last_command}
use Rattle.el_machine.specs.Effects.{effect}
use Rattle.el_machine.specs.Flat.{first_program}
use Rattle.el_machine.specs.Ways.{have_trees_alone}
use Rattle.el_machine.specs.Starts.{StartsBlock, StartsWith, StartsRest}
use Rattle.el_machine.proofs.Starting.{StartsOnly, only-made, only-weaker, only-then, effect-starts, last-starts}
use Rattle.el_check.specs.Operands.{tree_words, operands_in}
use Rattle.el_meaning.specs.Operands.{read_in}
use Rattle.el_meaning.specs.Meaning.{command_by, commanded, going_on, meaning, block_meaning}
use Rattle.el_meaning.specs.Turns.{turn_scope}
use Rattle.el_meaning.specs.Starts.{Part, IsBlock, IsTurn, IsRest, IsStarted, IsStartedInBlock, StartsPart, StartsAreOfTheTree}
use Rattle.el_meaning.proofs.Meets.{WayMeets, effect-meets}
use Rattle.el_meaning.proofs.Simulation.{meets-more}
use Rattle.el_meaning.proofs.Turns.{turn-words, turn-meets}

-- ---- blocks

-- a part that is a block, with what holds of it
record BlockOf (places : Places) (members : List Member) (scope : Scope) (words : List (List ℕ)) : Type 0 where
  part : Part
  block : IsBlock places members scope part
  accepted : IsAccepted part.members part.tree
  meets : MeetsAll part.scope part.members
  is : words ≡ tree_words part.scope part.tree

-- behind other places it still is one
block-later : {place : _} {places : Places} {members : List Member} {scope : Scope} {words : List (List ℕ)} → ((part : Part) → IsBlock places members scope part → IsBlock (one_place place places) members scope part) → BlockOf places members scope words
    → BlockOf (one_place place places) members scope words
block-later later h = record { part = h.part; block = later h.part h.block; accepted = h.accepted; meets = h.meets; is = h.is }

-- the words of a block are those of a tree at the places
block-found : (places : Places) (kinds : List PlaceKind) (members : List Member) (behind : Args) (scope : Scope) (k : ℕ) (words : List (List ℕ)) → have_trees_alone kinds ≡ true → HavePlaces places kinds behind → HaveCommands places → PlacesKeep places members
    → MeetsAll scope members → words ≢ [] → words ≡ slice_index_or (blocks_of (operands_in scope places)) k [] → BlockOf places members scope words
block-found unplaced kinds members behind scope k words t h c p m some is = absurd (some is)
block-found (one_place (block_place block) places) (ProgramBlock ∷ kinds) members behind scope zero words t h c p m some is =
    record { part = record { tree = block; members = members; scope = scope }; block = inl refl; accepted = record { well_formed = record { formed = h.0; commands = c.0 }; keeps = p.0 }; meets = m; is = is }
block-found (one_place (block_place block) places) (ProgramBlock ∷ kinds) members behind scope (suc k) words t h c p m some is =
    block-later (λ part block. inr block) (block-found places kinds members behind scope k words t h.1 c.1 p.1 m some is)
block-found (one_place (text_place text) places) (Name ∷ kinds) members behind scope k words t h c p m some is = block-later (λ part block. block) (block-found places kinds members behind scope k words t h.1 c p.1 m some is)
block-found (one_place (text_place text) places) (Fixed ∷ kinds) members behind scope k words t h c p m some is = block-later (λ part block. block) (block-found places kinds members behind scope k words t h c p.1 m some is)
block-found (one_place (text_place text) places) (OptionalWord ∷ kinds) members behind scope k words t h c p m some is = block-later (λ part block. block) (block-found places kinds members behind scope k words t h c p.1 m some is)
block-found (one_place (text_place text) places) (OptionalNumber ∷ kinds) members behind scope k words t h c p m some is = block-later (λ part block. block) (block-found places kinds members behind scope k words t h.3 c p.1 m some is)
block-found (one_place (values_place values) places) (ValueBlock ∷ kinds) members behind scope k words t h c p m some is = absurd (cc)
block-found (one_place (names_place names) places) (NameBlock ∷ kinds) members behind scope k words t h c p m some is = absurd (cc)
block-found (one_place (directives_place directives) places) (DirectiveBlock ∷ kinds) members behind scope k words t h c p m some is = block-later (λ part block. block) (block-found places kinds members behind scope k words t h.1 c p.1 m some is)
block-found _ _ members behind scope k words t h c p m some is = absurd h

-- ---- rests

-- a program that goes on with its rest has a rest with commands
chain-commands : (program : Prog) (rest : Tree) → (shape_of program).rest ≡ Chain → HasRestCommands program rest (HasCommands rest) → HasCommands rest
unfolding shape_of
chain-commands Exit rest chain h = let no : ⊥ = cc in absurd no
chain-commands _ rest chain h = h

-- a rest that is started as a whole has the words of a part
whole-rest : (options : List (List ℕ)) (places : Places) (rest : Tree) (members : List Member) (scope : Scope) (program : Prog) (words : List (List ℕ)) → IsAccepted members rest → MeetsAll scope members
    → IsRest program options places rest members scope (record { tree = rest; members = members; scope = scope }) → words ≡ tree_words scope rest → StartsPart (Node program options places rest) members scope words
whole-rest options places rest members scope program words accepted meets rested is =
    record { part = record { tree = rest; members = members; scope = scope }; started = inr (inl rested); accepted = accepted; meets = meets; is = is }

-- and so has a turn
turn-rest : (program : Prog) (options : List (List ℕ)) (places : Places) (rest : Tree) (members : List Member) (scope : Scope) (value : List ℕ) (words : List (List ℕ)) → is_loop program ≡ true → IsAccepted members (Node program options places rest) → HasCommands rest
    → MeetsAll scope members → ((part : Part) → IsTurn program options places rest members scope part → IsRest program options places rest members scope part) → words ≡ turn_words (read_in scope program options places rest) value
    → StartsPart (Node program options places rest) members scope words
turn-rest program options places rest members scope value words loops accepted commands meets rested is =
    let formed = accepted.well_formed.formed in
    let behind : List Member = members_behind (adds_member program (letters_of program options)) members (member_of program (letters_of program options) places) in
    let part : Part = record { tree = rest; members = behind; scope = turn_scope scope (read_in scope program options places rest) value } in
    record {
      part = part;
      started = inr (inl (rested part (value, refl)));
      accepted = record { well_formed = record { formed = formed.4; commands = commands }; keeps = accepted.keeps.1 };
      meets = turn-meets program options places rest members scope value loops accepted meets;
      is = is ∙ turn-words program options places rest scope value;
    }

-- what a program starts of its rest
rest-found : (program : Prog) (options : List (List ℕ)) (places : Places) (rest : Tree) (members : List Member) (scope : Scope) (words : List (List ℕ)) → IsAccepted members (Node program options places rest) → MeetsAll scope members
    → StartsRest program (read_in scope program options places rest) words → StartsPart (Node program options places rest) members scope words
unfolding shape_of
rest-found Ifte options places rest members scope words accepted meets starts =
    let formed = accepted.well_formed.formed in
    let commands = accepted.well_formed.commands in
    whole-rest options places rest members scope Ifte words (record { well_formed = record { formed = formed.4; commands = commands.1 }; keeps = accepted.keeps.1 }) meets refl starts
rest-found Loopwhilex options places rest members scope words accepted meets starts =
    let formed = accepted.well_formed.formed in
    let commands = accepted.well_formed.commands in
    whole-rest options places rest members scope Loopwhilex words (record { well_formed = record { formed = formed.4; commands = commands.1 }; keeps = accepted.keeps.1 }) meets refl starts
rest-found Forx options places rest members scope words accepted meets starts =
    let commands = accepted.well_formed.commands in turn-rest Forx options places rest members scope starts.0 words refl accepted commands.1 meets (λ part turn. turn) starts.1
rest-found Forstdin options places rest members scope words accepted meets starts =
    let commands = accepted.well_formed.commands in turn-rest Forstdin options places rest members scope starts.0 words refl accepted commands.1 meets (λ part turn. turn) starts.1
rest-found Forbacktickx options places rest members scope words accepted meets starts =
    let commands = accepted.well_formed.commands in turn-rest Forbacktickx options places rest members scope starts.0 words refl accepted commands.1 meets (λ part turn. turn) starts.1
rest-found program options places rest members scope words accepted meets starts = absurd starts

-- ---- one program

module _ (program : Prog) (options : List (List ℕ)) (places : Places) (rest : Tree) (members : List Member) (accepted : IsAccepted members (Node program options places rest)) where
  abbrev own : Member
  own = member_of program (letters_of program options) places

  -- the rest of a chain is accepted under one more member
  chain-accepted : (shape_of program).rest ≡ Chain → IsAccepted (members ++ own ∷ []) rest
  chain-accepted chain =
      let formed = accepted.well_formed.formed in
      let commands = accepted.well_formed.commands in
      record {
        well_formed = record { formed = formed.4; commands = chain-commands program rest chain commands.1 };
        keeps = subst (λ kind. KeepsWords rest (members_behind (reaches_rest kind (puts_in_child program (letters_of program options))) members own)) chain accepted.keeps.1;
      }

  -- all that it starts itself
  own-found : (scope : Scope) (words : List (List ℕ)) → MeetsAll scope members → StartsWith program (read_in scope program options places rest) words → StartsPart (Node program options places rest) members scope words
  own-found scope words meets starts = by starts.which
    where
      of : BlockOf places members scope words → StartsPart (Node program options places rest) members scope words
      of h = record { part = h.part; started = inl h.block; accepted = h.accepted; meets = h.meets; is = h.is }

      by : StartsBlock program (read_in scope program options places rest) words ⊎ StartsRest program (read_in scope program options places rest) words → StartsPart (Node program options places rest) members scope words
      by (inl block) =
          let formed = accepted.well_formed.formed in
          let commands = accepted.well_formed.commands in
          of (block-found places (shape_of program).places members (written rest) scope (index_of block.nth) words block.trees formed.2 commands.0 accepted.keeps.0 meets starts.some block.is)
      by (inr starts) = rest-found program options places rest members scope words accepted meets starts

  -- what its rest starts, the tree does
  rest-starts : (chain : (shape_of program).rest ≡ Chain) (pairs : Pairs) (scope : Scope) (words : List (List ℕ)) → Meets pairs own → StartsPart rest (members ++ own ∷ []) (scope ++ pairs ∷ []) words → StartsPart (Node program options places rest) members scope words
  rest-starts chain pairs scope words meets h = record { part = h.part; started = inr (inr (inr (chain, pairs, meets, h.started))); accepted = h.accepted; meets = h.meets; is = h.is }

-- ---- all trees

-- what a block starts, with what holds of it
record BlockStarts (places : Places) (members : List Member) (scope : Scope) (words : List (List ℕ)) : Type 0 where
  part : Part
  started : IsStartedInBlock places members scope part
  accepted : IsAccepted part.members part.tree
  meets : MeetsAll part.scope part.members
  is : words ≡ tree_words part.scope part.tree

in-block : {block : Tree} {places : Places} {members : List Member} {scope : Scope} (words : List (List ℕ)) → StartsPart block members scope words → BlockStarts (one_place (block_place block) places) members scope words
in-block words h = record { part = h.part; started = inl h.started; accepted = h.accepted; meets = h.meets; is = h.is }

in-blocks : {place : _} {places : Places} {members : List Member} {scope : Scope} → ((part : Part) → IsStartedInBlock places members scope part → IsStartedInBlock (one_place place places) members scope part) → (words : List (List ℕ)) → BlockStarts places members scope words
    → BlockStarts (one_place place places) members scope words
in-blocks later words h = record { part = h.part; started = later h.part h.started; accepted = h.accepted; meets = h.meets; is = h.is }

command-starts : (args : Args) (members : List Member) (scope : Scope) (state : State) (first : Option Prog) (ws : List (List ℕ)) → IsAccepted members (Command args) → MeetsAll scope members → ws ≡ tree_words scope (Command args)
    → StartsOnly (StartsPart (Command args) members scope) (command_by first ws state)
command-starts args members scope state None [] accepted meets is = tt
command-starts args members scope state None (word ∷ ws) accepted meets is =
    only-weaker (λ words same. record { part = record { tree = Command args; members = members; scope = scope }; started = refl; accepted = accepted; meets = meets; is = same ∙ is }) (last_command (word ∷ ws) state) (last-starts Left (word ∷ ws) state)
command-starts args members scope state (Some program) ws accepted meets is = tt

mutual
  pub starts : (tree : Tree) (members : List Member) (scope : Scope) (state : State) → IsAccepted members tree → MeetsAll scope members → StartsOnly (StartsPart tree members scope) (meaning tree scope state)
  starts End members scope state accepted meets = tt
  starts (Command args) members scope state accepted meets = command-starts args members scope state (first_program (scope_value scope (spelled 0 args))) (scope_value scope (spelled 0 args)) accepted meets refl
  starts (Node program options places rest) members scope state accepted meets =
      let formed = accepted.well_formed.formed in
      only-then (StartsPart (Node program options places rest) members scope) (WayMeets program (member_of program (letters_of program options) places)) (effect program (read_in scope program options places rest) state) _
      (only-weaker (λ words h. own-found program options places rest members accepted scope words meets h) (effect program (read_in scope program options places rest) state) (effect-starts program (read_in scope program options places rest) state))
      (effect-meets program options places (written rest) scope rest state formed.0 formed.2)
      (by (λ pairs state accepted meets. starts rest (members ++ member_of program (letters_of program options) places ∷ []) (scope ++ pairs ∷ []) state accepted meets)
      (λ state k trees. let commands = accepted.well_formed.commands in block-starts places (shape_of program).places members (written rest) scope state k trees formed.2 commands.0 accepted.keeps.0 meets))
    where
      own : Member
      own = member_of program (letters_of program options) places

      RestStarts : Type 0
      RestStarts = (pairs : Pairs) (state : State) → IsAccepted (members ++ own ∷ []) rest → MeetsAll (scope ++ pairs ∷ []) (members ++ own ∷ []) → StartsOnly (StartsPart rest (members ++ own ∷ []) (scope ++ pairs ∷ [])) (meaning rest (scope ++ pairs ∷ []) state)

      BlocksStart : Type 0
      BlocksStart = (state : State) (k : ℕ) → have_trees_alone (shape_of program).places ≡ true → StartsOnly (BlockStarts places members scope) (block_meaning places k scope state)

      behind : RestStarts → (chain : (shape_of program).rest ≡ Chain) (pairs : Pairs) (state : State) → Meets pairs own → StartsOnly (StartsPart (Node program options places rest) members scope) (meaning rest (scope ++ pairs ∷ []) state)
      behind of_rest chain pairs state fits =
          only-weaker (λ words h. rest-starts program options places rest members accepted chain pairs scope words fits h) (meaning rest (scope ++ pairs ∷ []) state)
          (of_rest pairs state (chain-accepted program options places rest members accepted chain) (meets-more scope members pairs own meets fits))

      by : RestStarts → BlocksStart → (way : Way) → WayMeets program own way
          → StartsOnly (StartsPart (Node program options places rest) members scope) (going_on (λ pairs state. meaning rest (scope ++ pairs ∷ []) state) (λ nth state. block_meaning places (index_of nth) scope state) way)
      by of_rest of_blocks (onward state) chain = behind of_rest chain [] state (fit-meets own [] tt)
      by of_rest of_blocks (under pairs state) k = behind of_rest k.0 pairs state k.1
      by of_rest of_blocks (into nth state) trees =
          only-weaker (λ words h. record { part = h.part; started = inr (inr (inl h.started)); accepted = h.accepted; meets = h.meets; is = h.is }) (block_meaning places (index_of nth) scope state) (of_blocks state (index_of nth) trees)

  block-starts : (places : Places) (kinds : List PlaceKind) (members : List Member) (behind : Args) (scope : Scope) (state : State) (k : ℕ) → have_trees_alone kinds ≡ true → HavePlaces places kinds behind → HaveCommands places → PlacesKeep places members → MeetsAll scope members
      → StartsOnly (BlockStarts places members scope) (block_meaning places k scope state)
  block-starts unplaced kinds members behind scope state k t h c p m = tt
  block-starts (one_place (block_place block) places) (ProgramBlock ∷ kinds) members behind scope state zero t h c p m =
      only-weaker (λ words h. in-block words h) (meaning block scope state) (starts block members scope state (record { well_formed = record { formed = h.0; commands = c.0 }; keeps = p.0 }) m)
  block-starts (one_place (block_place block) places) (ProgramBlock ∷ kinds) members behind scope state (suc k) t h c p m =
      only-weaker (λ words h. in-blocks (λ part started. inr started) words h) (block_meaning places k scope state) (block-starts places kinds members behind scope state k t h.1 c.1 p.1 m)
  block-starts (one_place (text_place text) places) (Name ∷ kinds) members behind scope state k t h c p m =
      only-weaker (λ words h. in-blocks (λ part started. started) words h) (block_meaning places k scope state) (block-starts places kinds members behind scope state k t h.1 c p.1 m)
  block-starts (one_place (text_place text) places) (Fixed ∷ kinds) members behind scope state k t h c p m =
      only-weaker (λ words h. in-blocks (λ part started. started) words h) (block_meaning places k scope state) (block-starts places kinds members behind scope state k t h c p.1 m)
  block-starts (one_place (text_place text) places) (OptionalWord ∷ kinds) members behind scope state k t h c p m =
      only-weaker (λ words h. in-blocks (λ part started. started) words h) (block_meaning places k scope state) (block-starts places kinds members behind scope state k t h c p.1 m)
  block-starts (one_place (text_place text) places) (OptionalNumber ∷ kinds) members behind scope state k t h c p m =
      only-weaker (λ words h. in-blocks (λ part started. started) words h) (block_meaning places k scope state) (block-starts places kinds members behind scope state k t h.3 c p.1 m)
  block-starts (one_place (values_place values) places) (ValueBlock ∷ kinds) members behind scope state k t h c p m = absurd (cc)
  block-starts (one_place (names_place names) places) (NameBlock ∷ kinds) members behind scope state k t h c p m = absurd (cc)
  block-starts (one_place (directives_place directives) places) (DirectiveBlock ∷ kinds) members behind scope state k t h c p m =
      only-weaker (λ words h. in-blocks (λ part started. started) words h) (block_meaning places k scope state) (block-starts places kinds members behind scope state k t h.1 c p.1 m)
  block-starts _ _ members behind scope state k t h c p m = absurd h

pub starts-are-of-the-tree : StartsAreOfTheTree
starts-are-of-the-tree tree members scope state units found accepted meets = only-made (StartsPart tree members scope) (meaning tree scope state) units found (starts tree members scope state accepted meets)
