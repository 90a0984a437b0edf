-- How trees, places and directives are read.
use Rattle.std.proofs.Common.{◌≡◌, ℕ, Bool, true, false, not, ◌&&◌, if◌then◌else◌, List, [], ◌∷◌, ◌++◌, append_assoc, append-nil, take, drop, Option, Some, None, refl, sym, ap, ◌∙◌, subst, true≢false}
use Rattle.std.specs.Prelude.{is_none, option_map}
use Rattle.std.specs.List.{list_any}
use Rattle.el_words.specs.declared.prog.Prog.{Prog}
use Rattle.el_words.specs.declared.prog.Prog.TheVariants.{Define, Importas, Multidefine, Elgetpositionals, Exit, Loopwhilex, Forx, Forstdin, Forbacktickx}
use Rattle.el_words.specs.Prog.{name_text, program_named}
use Rattle.el_words.specs.Args.{Args, nothing, word, group, ◌+++◌, words}
use Rattle.el_words.specs.Number.{number_of}
use Rattle.el_words.proofs.Truths.{left_of, right_of}
use Rattle.el_blocks.specs.Tokens.{TokenShape, Text, Open, Close, shapes_in}
use Rattle.el_subst.specs.Parts.{Part, parts_of}
use Rattle.el_options.specs.declared.table.Opt.{Opt}
use Rattle.el_options.specs.declared.place.PlaceKind.{PlaceKind}
use Rattle.el_options.specs.declared.place.PlaceKind.TheVariants.{Name, Fixed, ProgramBlock, ValueBlock, NameBlock, DirectiveBlock, OptionalNumber, OptionalWord}
use Rattle.el_options.specs.Reading.{Letter, LettersRead}
use Rattle.el_options.specs.Rules.{keep_rules}
use Rattle.el_options.specs.Shapes.{shape_of}
use Rattle.el_options.specs.Fronts.{options_of, is_directive}
use Rattle.el_tree.specs.declared.fault.PlacedFault.TheVariants.{At, Before}
use Rattle.el_tree.specs.declared.fault.Fault.{Fault}
use Rattle.el_tree.specs.declared.fault.Fault.TheVariants.{ArgumentMissing, ManyAfterValue, ManyWordsInOnePlace}
use Rattle.el_tree.specs.declared.tree.Node.{Node}
use Rattle.el_tree.specs.Trees.{Place, Tree, End, Command, Node as node_tree, Places, unplaced, one_place, text_place, block_place, values_place, names_place, directives_place, Directives, undirected, directed, written, written_places, written_directives}
use Rattle.el_tree.specs.Lists.{directives_of, directive_list, ◌with_places◌}
use Rattle.el_tree.specs.OptionWords.{is_literal, are_literal, StopsOptions, HasOptions}
use Rattle.el_tree.specs.WellFormed.{HavePlaces, AreDirectives, IsFormed, IsRest, HasCommands, HaveCommands, HasRestCommands}
use Rattle.el_tree.specs.Marks.{Member, keeps_one, has_many, puts_many, touches}
use Rattle.el_tree.specs.Accepted.{PlacesKeep, DirectivesKeep, KeepsWords}
use Rattle.el_tree.specs.Beginnings.{Head, Fresh, Current, Commanded, Tail, Level, Chained, Listed, Named, Directed, Beginning, TestScope, WhereTested, KeepPlaces, KeepDirectives, scope_at, scope_behind, scope_behind_all, scope_within, first_in, an_open, count, IsFinished, GoesOn}
use Rattle.el_tree.specs.Faults.{Next, Over, Text as NextText, Group, where_true, kind_fault, rest_fault, scope_fault, place_fault, directive_fault, names_directive, is_loop, is_unplaced, head_fault}
use Rattle.el_tree.specs.Steps.{Own, Foreign, with_place, text_at, text_for, opened_at, head_start, tail_named, tail_behind, chain_owned, chain_opened, directive_owned, directive_named, tree_before}
use Rattle.el_tree.specs.Readings.{ReadsTokens}
use Rattle.el_tree.proofs.Facts.{or-none, where-false, none-some, plus-nothing, plus-assoc, shapes-plus, with-assoc, with-unplaced, placed-more, next-kinds}
use Rattle.el_tree.proofs.HeadReadings.{at, reads-then, reads-to, Where, InChain, InDirectives, level-at, is-directive-at, scope-there, head-of, IsReadAs, own-text, own-block, options-read}
use Rattle.el_tree.proofs.Finished.{IsBare, stops-bare-text, bare-group-by, bare-over-by, next-args, place-free, place-owns, have-parts, left-over, first-first, finished-same, finished-kinds}
use Rattle.el_tree.proofs.Lists.{directives-again}
use Rattle.el_tree.proofs.References.{literal-keeps}
use Rattle.el_tree.proofs.Programs.{named as named-itself}

-- ---- words, groups and names

pub list-read : (scope : TestScope) (around : List Level) (items more : Args) → ReadsTokens scope (at (Listed items) around) (shapes_in more) (at (Listed (items +++ more)) around)
list-read scope around items nothing = ap (λ i. at (Listed i) around) (sym (plus-nothing items))
list-read scope around items (word text rest) =
    (refl, tt, reads-to scope _ _ _ (shapes_in rest) (list-read scope around (items +++ word text nothing) rest) (ap (λ i. at (Listed i) around) (plus-assoc items (word text nothing) rest)))
list-read scope around items (group inside rest) = (
  refl,
  tt,
  reads-then scope _ (at (Listed inside) (Listed items ∷ around)) _ (shapes_in inside) (Close ∷ shapes_in rest) (list-read scope (Listed items ∷ around) nothing inside)
      (refl, tt, reads-to scope _ _ _ (shapes_in rest) (list-read scope around (items +++ group inside nothing) rest) (ap (λ i. at (Listed i) around) (plus-assoc items (group inside nothing) rest))),
)

pub command-read : (scope : TestScope) (around : List Level) (nodes : List Node) (items more : Args) → ReadsTokens scope (at (Chained nodes (Commanded items)) around) (shapes_in more) (at (Chained nodes (Commanded (items +++ more))) around)
command-read scope around nodes items nothing = ap (λ i. at (Chained nodes (Commanded i)) around) (sym (plus-nothing items))
command-read scope around nodes items (word text rest) =
    (refl, tt, reads-to scope _ _ _ (shapes_in rest) (command-read scope around nodes (items +++ word text nothing) rest) (ap (λ i. at (Chained nodes (Commanded i)) around) (plus-assoc items (word text nothing) rest)))
command-read scope around nodes items (group inside rest) = (
  refl,
  tt,
  reads-then scope _ (at (Listed inside) (Chained nodes (Commanded items) ∷ around)) _ (shapes_in inside) (Close ∷ shapes_in rest) (list-read scope (Chained nodes (Commanded items) ∷ around) nothing inside)
      (refl, tt, reads-to scope _ _ _ (shapes_in rest) (command-read scope around nodes (items +++ group inside nothing) rest) (ap (λ i. at (Chained nodes (Commanded i)) around) (plus-assoc items (group inside nothing) rest))),
)

pub names-read : (scope : TestScope) (around : List Level) (before names : List (List ℕ)) → are_literal names ≡ true → ReadsTokens scope (at (Named before) around) (shapes_in (words names)) (at (Named (before ++ names)) around)
names-read scope around before [] literal = ap (λ (n : List (List ℕ)). at (Named n) around) (sym (append-nil before))
names-read scope around before (name ∷ names) literal = (
  where-false _ _ (ap not (left_of (is_literal name) (are_literal names) literal)),
  tt,
  reads-to scope _ _ _ (shapes_in (words names)) (names-read scope around (before ++ name ∷ []) names (right_of (is_literal name) (are_literal names) literal))
      (ap (λ (n : List (List ℕ)). at (Named n) around) (append_assoc before (name ∷ []) names)),
)

-- ---- fixed places

found-or : (fault : Fault) (b : Bool) (one : Bool) (other : Option Fault) → one ≡ is_none other → (not b && one) ≡ is_none (if b then Some fault else other)
found-or fault true one other same = refl
found-or fault false one other same = same

-- a fixed place has no fault exactly where it keeps one word
pub place-tested : (touched : Bool) (members : List Member) (parts : List Part) → keeps_one touched members parts ≡ is_none (place_fault touched members parts)
place-tested touched [] parts = refl
place-tested true (member ∷ members) parts = found-or ManyAfterValue (has_many member) _ _ (place-tested true members parts)
place-tested false (member ∷ members) parts = found-or ManyWordsInOnePlace (list_any (puts_many member) parts) _ _ (place-tested (list_any (touches member) parts) members parts)

is-none : {X : Type 0} (value : Option X) → is_none value ≡ true → value ≡ None
is-none None is = refl
is-none (Some value) is = absurd (true≢false (sym is))

pub scope-kept : (scope : TestScope) (text : List ℕ) (places : Places) → KeepPlaces scope (one_place (text_place text) places) → scope_fault scope text ≡ None
scope-kept None text places keeps = refl
scope-kept (Some members) text places keeps = ap (option_map At) (is-none _ (sym (place-tested false members (parts_of text)) ∙ keeps.0))

pub literal-kept : (scope : TestScope) (text : List ℕ) → is_literal text ≡ true → KeepPlaces scope (one_place (text_place text) unplaced)
literal-kept None text literal = tt
literal-kept (Some members) text literal = (literal-keeps members text literal, tt)

abbrev pub KeepTree : TestScope → Tree → Type 0
KeepTree scope tree = WhereTested scope (KeepsWords tree)

-- where both are tested, each is
pub both-tested : (scope : TestScope) (one other : List Member → Type 0) → WhereTested scope (λ members. one members × other members) → WhereTested scope one × WhereTested scope other
both-tested None one other both = (tt, tt)
both-tested (Some members) one other both = both

keep-node : (scope : TestScope) (program : Prog) (options : List (List ℕ)) (places : Places) (rest : Tree) → KeepTree scope (node_tree program options places rest)
    → KeepPlaces scope places × KeepTree (scope_behind scope (record { prog = program; options = options; places = places })) rest
keep-node None program options places rest keeps = (tt, tt)
keep-node (Some members) program options places rest keeps = (keeps.0, keeps.1)

-- ---- one place

-- a word that may stand at the next place, as one of the places to come
record IsNextText (scope : TestScope) (program : Prog) (in_directives : Bool) (kind : PlaceKind) (left : List PlaceKind) (text : List ℕ) (places : Places) : Type 0 where
  free : kind_fault scope program in_directives (kind ∷ left) (NextText text) ≡ None
  owned : (head : Head) → text_at head (kind ∷ left) text ≡ Own (with_place head (one_place (text_place text) unplaced))
  more : HavePlaces places (take (count places) left) nothing

next-text : (scope : TestScope) (program : Prog) (in_directives : Bool) (kind : PlaceKind) (left : List PlaceKind) (text : List ℕ) (places : Places) → HavePlaces (one_place (text_place text) places) (take (count (one_place (text_place text) places)) (kind ∷ left)) nothing
    → KeepPlaces scope (one_place (text_place text) places) → IsNextText scope program in_directives kind left text places
next-text scope program in_directives Name left text places have keeps = record { free = where-false _ _ (ap not have.0); owned = λ head. refl; more = have.1 }
next-text scope program in_directives Fixed left text places have keeps = record { free = scope-kept scope text places keeps; owned = λ head. refl; more = have }
next-text scope program in_directives OptionalWord left text places have keeps = record { free = scope-kept scope text places keeps; owned = λ head. refl; more = have }
next-text scope program in_directives OptionalNumber left text places have keeps = record {
  free = or-none _ _ (where-false _ _ (ap not have.2)) (where-false _ _ (ap (λ b. b && is_none (number_of text)) have.0 ∙ none-some (number_of text) have.1));
  owned = λ head. ap (λ b. if b then Own (with_place head (one_place (text_place text) unplaced)) else Foreign) have.0;
  more = have.3;
}
next-text scope program in_directives _ left text places have keeps = absurd have

module _ (scope : TestScope) (around : List Level) (place : Where) (program : Prog) (options : List (List ℕ)) (read : HasOptions program options) where
  -- with these places
  abbrev with-places : Places → Beginning
  with-places places = at (level-at place (head-of program options None places)) around

  abbrev here : TestScope
  here = scope-there (scope_within scope around) place

  -- these places are read behind others
  abbrev PlacesFollow : Places → Type 0
  PlacesFollow places = (before : Places) (left : List PlaceKind) (after : Args) → drop (count before) (shape_of program).places ≡ left
      → (is_unplaced before ≡ true → StopsOptions (shape_of program).letters read.ended (written_places places +++ after))
      → HavePlaces places (take (count places) left) nothing → HaveCommands places → KeepPlaces here places
      → ReadsTokens scope (with-places before) (shapes_in (written_places places)) (with-places (before with_places places))

  -- a place, and those behind it
  place-then : (before : Places) (kind : PlaceKind) (left : List PlaceKind) (one : Place) (more : Places) (tokens : List TokenShape) → PlacesFollow more → drop (count before) (shape_of program).places ≡ kind ∷ left
      → HavePlaces more (take (count more) left) nothing → HaveCommands more → KeepPlaces here more → ReadsTokens scope (with-places before) tokens (with-places (before with_places one_place one unplaced))
      → ReadsTokens scope (with-places before) (tokens ++ shapes_in (written_places more)) (with-places (before with_places one_place one more))
  place-then before kind left one more tokens follow kinds have commands keeps reads =
      reads-then scope _ (with-places (before with_places one_place one unplaced)) _ tokens (shapes_in (written_places more)) reads
      (reads-to scope _ _ _ (shapes_in (written_places more))
      (follow (before with_places one_place one unplaced) left nothing (next-kinds before one (shape_of program).places kind left kinds) (λ is. absurd (true≢false (sym is ∙ placed-more before one))) have commands keeps)
      (ap with-places (with-assoc before (one_place one unplaced) more)))

  text-places : (before : Places) (left : List PlaceKind) (text : List ℕ) (more : Places) (after : Args) → PlacesFollow more → drop (count before) (shape_of program).places ≡ left
      → (is_unplaced before ≡ true → StopsOptions (shape_of program).letters read.ended (written_places (one_place (text_place text) more) +++ after))
      → HavePlaces (one_place (text_place text) more) (take (count (one_place (text_place text) more)) left) nothing → HaveCommands more → KeepPlaces here (one_place (text_place text) more)
      → ReadsTokens scope (with-places before) (shapes_in (written_places (one_place (text_place text) more))) (with-places (before with_places one_place (text_place text) more))
  text-places before [] text more after follow kinds stops have commands keeps = absurd have
  text-places before (kind ∷ left) text more after follow kinds stops have commands keeps =
      let next = next-text here program (is-directive-at place) kind left text more have keeps in
      let bare = λ (is : is_unplaced before ≡ true). stops-bare-text (shape_of program).letters read.ended text (written_places more +++ after) (stops is) in
      place-then before kind left (text_place text) more (Text text ∷ []) follow kinds next.more commands (both-tested here (λ members. keeps_one false members (parts_of text) ≡ true) (PlacesKeep more) keeps).1
      (own-text scope around place (head-of program options None before) (head-of program options None (before with_places one_place (text_place text) unplaced)) text
      (place-free here program options before (is-directive-at place) (NextText text) read bare (ap (λ ks. kind_fault here program (is-directive-at place) ks (NextText text)) kinds ∙ next.free))
      (place-owns program options before text read bare ∙ ap (λ ks. text_at (head-of program options None before) ks text) kinds ∙ next.owned (head-of program options None before)))

  block-places : (before : Places) (kind : PlaceKind) (left : List PlaceKind) (block : Place) (more : Places) (start : Level) (tokens : List TokenShape) → PlacesFollow more → drop (count before) (shape_of program).places ≡ kind ∷ left
      → kind_fault here program (is-directive-at place) (kind ∷ left) Group ≡ None → opened_at (kind ∷ left) ≡ Some start
      → HavePlaces more (take (count more) left) nothing → HaveCommands more → KeepPlaces here more → IsReadAs scope (level-at place (head-of program options None before) ∷ around) start tokens block
      → ReadsTokens scope (with-places before) (Open ∷ (tokens ++ (Close ∷ shapes_in (written_places more)))) (with-places (before with_places one_place block more))
  block-places before kind left block more start tokens follow kinds none opens have commands keeps inner =
      subst (λ all. ReadsTokens scope (with-places before) (Open ∷ all) (with-places (before with_places one_place block more))) (append_assoc tokens (Close ∷ []) (shapes_in (written_places more)))
      (place-then before kind left block more (Open ∷ (tokens ++ Close ∷ [])) follow kinds have commands keeps
      (own-block scope around place (head-of program options None before) start tokens block
      (place-free here program options before (is-directive-at place) Group read (λ is not_ended. bare-group-by (shape_of program).letters read.ended) (ap (λ ks. kind_fault here program (is-directive-at place) ks Group) kinds ∙ none))
      (ap opened_at kinds ∙ opens) inner))

-- ---- option words from the first on

pub options-whole : (scope : TestScope) (around : List Level) (place : Where) (program : Prog) (options : List (List ℕ)) (opts : Option (List Opt)) → (shape_of program).letters ≡ opts → (letters : List Letter) (used : ℕ) (ended : Bool)
    → options_of opts options ≡ LettersRead letters used [] ended → are_literal options ≡ true → keep_rules (shape_of program).rule letters ≡ true
    → ReadsTokens scope (at (level-at place (head_start program)) around) (shapes_in (words options)) (at (level-at place (head-of program options None unplaced)) around)
options-whole scope around place program options None tables letters used ended read literal rules =
    let none : options ≡ [] = cc in
    subst (λ (o : List (List ℕ)). ReadsTokens scope (at (level-at place (head_start program)) around) (shapes_in (words o)) (at (level-at place (head-of program o None unplaced)) around)) (sym none) refl
options-whole scope around place program options (Some opts) tables letters used ended read literal rules = options-read scope around place program opts tables options used ended [] [] letters 1 refl read literal rules

-- ---- behind a finished program

-- a token before which the options stop is bare
bare-behind : (program : Prog) (ended : Bool) (places : Places) (next : Next) → StopsOptions (shape_of program).letters ended (written_places places +++ next-args next) → is_unplaced places ≡ true → IsBare program ended next
bare-behind program ended unplaced Over stops first = λ not_ended. bare-over-by (shape_of program).letters ended
bare-behind program ended unplaced Group stops first = λ not_ended. bare-group-by (shape_of program).letters ended
bare-behind program ended unplaced (NextText text) stops first = stops-bare-text (shape_of program).letters ended text nothing stops
bare-behind program ended places next stops first = absurd (true≢false (sym first))

behind-free : (scope : TestScope) (program : Prog) (options : List (List ℕ)) (places : Places) (in_directives : Bool) (next : Next) → IsFinished program options places (next-args next) → rest_fault program in_directives next ≡ None
    → head_fault scope (head-of program options None places) None in_directives next ≡ None
behind-free scope program options places in_directives next finished none =
    place-free scope program options places in_directives next finished.read (bare-behind program finished.read.ended places next finished.stops)
    (finished-kinds scope program in_directives (head-of program options None places) (drop (count places) (shape_of program).places) next (left-over places (shape_of program).places (next-args next) finished.placed) none).0

text-behind-foreign : (program : Prog) (options : List (List ℕ)) (places : Places) (text : List ℕ) → IsFinished program options places (word text nothing) → text_for (head-of program options None places) None text ≡ Foreign
text-behind-foreign program options places text finished =
    place-owns program options places text finished.read (bare-behind program finished.read.ended places (NextText text) finished.stops)
    ∙ (finished-kinds None program false (head-of program options None places) (drop (count places) (shape_of program).places) (NextText text) (left-over places (shape_of program).places (word text nothing) finished.placed) refl).1

-- a finished program or directive that begins here is read, and then what stands behind it
pub node-then : (scope : TestScope) (around : List Level) (from : Level) (place : Where) (program : Prog) (options : List (List ℕ)) (places : Places) (after rest : Args) (to : Beginning) (finished : IsFinished program options places after)
    → ReadsTokens scope (at from around) (Text (name_text program) ∷ []) (at (level-at place (head_start program)) around)
    → PlacesFollow scope around place program options finished.read places → KeepPlaces (scope-there (scope_within scope around) place) places
    → ReadsTokens scope (at (level-at place (head-of program options None places)) around) (shapes_in rest) to
    → ReadsTokens scope (at from around) (shapes_in (word (name_text program) (words options +++ (written_places places +++ rest)))) to
node-then scope around from place program options places after rest to finished enters follow keeps more =
    let read = finished.read in
    rw (shapes-plus (words options) (written_places places +++ rest), shapes-plus (written_places places) rest)
    (reads-then scope (at from around) (at (level-at place (head_start program)) around) to (Text (name_text program) ∷ []) _ enters
    (reads-then scope _ (at (level-at place (head-of program options None unplaced)) around) to (shapes_in (words options)) _
    (options-whole scope around place program options (shape_of program).letters refl read.letters read.used read.ended read.are_read read.literal read.in_rule)
    (reads-then scope _ (at (level-at place (head-of program options None places)) around) to (shapes_in (written_places places)) (shapes_in rest)
    (follow unplaced (shape_of program).places after refl (λ bare. finished.stops) (have-parts places (shape_of program).places after finished.placed).0 finished.commanded keeps) more)))

-- ---- behind the programs of a chain

-- nothing is read of a chain or of directives yet, or the last finished program or directive is the current one
pub data Standing : Type 0 where
  AtStart : Standing
  Behind : List Node → Node → Standing

abbrev pub standing-level : Standing → Level
standing-level AtStart = Chained [] Fresh
standing-level (Behind nodes node) = Chained nodes (Current (head-of node.prog node.options None node.places))

abbrev pub all-of : Standing → List Node
all-of AtStart = []
all-of (Behind nodes node) = nodes ++ node ∷ []

pub scope-append : (scope : TestScope) (nodes : List Node) (node : Node) → scope_behind_all scope (nodes ++ node ∷ []) ≡ scope_behind (scope_behind_all scope nodes) node
scope-append scope [] node = refl
scope-append scope (one ∷ nodes) node = scope-append (scope_behind scope one) nodes node

pub tree-append : (nodes : List Node) (node : Node) (rest : Tree) → tree_before (nodes ++ node ∷ []) rest ≡ tree_before nodes (node_tree node.prog node.options node.places rest)
tree-append [] node rest = refl
tree-append (one ∷ nodes) node rest = ap (node_tree one.prog one.options one.places) (tree-append nodes node rest)

goes-behind : (program : Prog) (text : List ℕ) → GoesOn program → tail_behind program text ≡ tail_named (program_named text) text
goes-behind Exit text goes = absurd goes
goes-behind _ text goes = refl

-- what stands behind this may begin with a program, or is a command with this text
abbrev pub StandsBefore : Standing → (after : Args) → Type 0
StandsBefore AtStart after = Unit {0}
StandsBefore (Behind nodes node) after = IsFinished node.prog node.options node.places after

abbrev pub StandingGoes : Standing → Type 0
StandingGoes AtStart = Unit {0}
StandingGoes (Behind nodes node) = GoesOn node.prog

abbrev pub tail-after : Standing → (text : List ℕ) → Tail
tail-after AtStart text = tail_named (program_named text) text
tail-after (Behind nodes node) text = tail_behind node.prog text

-- a word behind what stands there
pub text-enters : (scope : TestScope) (around : List Level) (standing : Standing) (text : List ℕ) → StandsBefore standing (word text nothing)
    → ReadsTokens scope (at (standing-level standing) around) (Text text ∷ []) (at (Chained (all-of standing) (tail-after standing text)) around)
text-enters scope around AtStart text before = (refl, tt, refl)
text-enters scope around (Behind nodes node) text before = (
  behind-free _ node.prog node.options node.places false (NextText text) before refl,
  tt,
  ap (λ owned. at (chain_owned nodes (head-of node.prog node.options None node.places) text owned) around) (text-behind-foreign node.prog node.options node.places text before),
)

-- an Open there begins a command
pub open-enters : (scope : TestScope) (around : List Level) (standing : Standing) → StandsBefore standing an_open
    → ReadsTokens scope (at (standing-level standing) around) (Open ∷ []) (at (Listed nothing) (Chained (all-of standing) (Commanded nothing) ∷ around))
open-enters scope around AtStart before = (refl, tt, refl)
open-enters scope around (Behind nodes node) before =
    let kinds = drop (count node.places) (shape_of node.prog).places in
    let head = head-of node.prog node.options None node.places in (
      behind-free _ node.prog node.options node.places false Group before refl,
      tt,
      ap (λ opened. at (chain_opened nodes head opened).inner ((chain_opened nodes head opened).outer ∷ around)) (finished-kinds None node.prog false head kinds Group (left-over node.places (shape_of node.prog).places an_open before.placed) refl).1,
    )

pub program-enters : (scope : TestScope) (around : List Level) (standing : Standing) (program : Prog) → StandsBefore standing (word (name_text program) nothing) → StandingGoes standing
    → ReadsTokens scope (at (standing-level standing) around) (Text (name_text program) ∷ []) (at (Chained (all-of standing) (Current (head_start program))) around)
program-enters scope around AtStart program before goes = reads-to scope (at (Chained [] Fresh) around) (at (Chained [] (tail_named (program_named (name_text program)) (name_text program))) around) _ (Text (name_text program) ∷ []) (text-enters scope around AtStart (name_text program) before) (ap (λ named. at (Chained [] (tail_named named (name_text program))) around) (named-itself program))
program-enters scope around (Behind nodes node) program before goes =
    reads-to scope (at (standing-level (Behind nodes node)) around) (at (Chained (nodes ++ node ∷ []) (tail_behind node.prog (name_text program))) around) _ (Text (name_text program) ∷ []) (text-enters scope around (Behind nodes node) (name_text program) before)
    (ap (λ tail. at (Chained (nodes ++ node ∷ []) tail) around) (goes-behind node.prog (name_text program) goes ∙ ap (λ named. tail_named named (name_text program)) (named-itself program)))

command-behind : (program : Prog) (text : List ℕ) (rest : Args) → HasRestCommands program (Command (word text rest)) (program_named text ≡ None) → tail_behind program text ≡ Commanded (word text nothing)
command-behind Exit text rest has = refl
command-behind _ text rest has = ap (λ named. tail_named named text) has

-- ---- trees

-- what follows may stand there
abbrev pub MayStand : Standing → Tree → Type 0
MayStand AtStart tree = HasCommands tree
MayStand (Behind nodes node) tree = IsFinished node.prog node.options node.places (first_in (written tree)) × IsRest node.prog tree × HasRestCommands node.prog tree (HasCommands tree)

-- a tree is read behind programs
abbrev pub ReadsTree : TestScope → List Level → Standing → Tree → Type 0
ReadsTree scope around standing tree = IsReadAs scope around (standing-level standing) (shapes_in (written tree)) (block_place (tree_before (all-of standing) tree))

loop-ends : (program : Prog) → IsRest program End → where_true (is_loop program) (Before ArgumentMissing) ≡ None
loop-ends Loopwhilex rest = absurd rest
loop-ends Forx rest = absurd rest
loop-ends Forstdin rest = absurd rest
loop-ends Forbacktickx rest = absurd rest
loop-ends _ rest = refl

end-read : (scope : TestScope) (around : List Level) (standing : Standing) → MayStand standing End → ReadsTree scope around standing End
end-read scope around AtStart may = record { end = Chained [] Fresh; reads = refl; is_closed = refl; over = refl }
end-read scope around (Behind nodes node) may = record {
  end = standing-level (Behind nodes node);
  reads = refl;
  is_closed = ap (λ tree. one_place (block_place tree) unplaced) (sym (tree-append nodes node End));
  over = behind-free _ node.prog node.options node.places false Over may.0 (loop-ends node.prog may.1);
}

pub words-read : (scope : TestScope) (around : List Level) (standing : Standing) (text : List ℕ) (rest : Args) → StandsBefore standing (word text nothing) → tail-after standing text ≡ Commanded (word text nothing)
    → ReadsTokens scope (at (standing-level standing) around) (Text text ∷ shapes_in rest) (at (Chained (all-of standing) (Commanded (word text rest))) around)
words-read scope around standing text rest before is =
    reads-then scope _ (at (Chained (all-of standing) (Commanded (word text nothing))) around) _ (Text text ∷ []) (shapes_in rest)
    (reads-to scope (at (standing-level standing) around) (at (Chained (all-of standing) (tail-after standing text)) around) _ (Text text ∷ []) (text-enters scope around standing text before) (ap (λ tail. at (Chained (all-of standing) tail) around) is))
    (command-read scope around (all-of standing) (word text nothing) rest)

pub groups-read : (scope : TestScope) (around : List Level) (standing : Standing) (inside rest : Args) → StandsBefore standing an_open
    → ReadsTokens scope (at (standing-level standing) around) (Open ∷ (shapes_in inside ++ (Close ∷ shapes_in rest))) (at (Chained (all-of standing) (Commanded (group inside rest))) around)
groups-read scope around standing inside rest before =
    reads-then scope _ (at (Listed nothing) (Chained (all-of standing) (Commanded nothing) ∷ around)) _ (Open ∷ []) (shapes_in inside ++ (Close ∷ shapes_in rest))
    (open-enters scope around standing before)
    (reads-then scope _ (at (Listed inside) (Chained (all-of standing) (Commanded nothing) ∷ around)) _ (shapes_in inside) (Close ∷ shapes_in rest)
    (list-read scope (Chained (all-of standing) (Commanded nothing) ∷ around) nothing inside)
    (refl, tt, command-read scope around (all-of standing) (group inside nothing) rest))

command-is : (scope : TestScope) (around : List Level) (standing : Standing) (args : Args) → ReadsTokens scope (at (standing-level standing) around) (shapes_in args) (at (Chained (all-of standing) (Commanded args)) around)
    → ReadsTree scope around standing (Command args)
command-is scope around standing args reads = record { end = Chained (all-of standing) (Commanded args); reads = reads; is_closed = refl; over = refl }

no-command : (program : Prog) → HasRestCommands program (Command nothing) ⊥ → ⊥
no-command Exit has = has
no-command _ has = has

pub command-read-as : (scope : TestScope) (around : List Level) (standing : Standing) (args : Args) → MayStand standing (Command args) → ReadsTree scope around standing (Command args)
command-read-as scope around AtStart nothing may = absurd may
command-read-as scope around AtStart (word text rest) may = command-is scope around AtStart _ (words-read scope around AtStart text rest tt (ap (λ named. tail_named named text) may))
command-read-as scope around (Behind nodes node) nothing may = absurd (no-command node.prog may.2)
command-read-as scope around (Behind nodes node) (word text rest) may = command-is scope around (Behind nodes node) _ (words-read scope around (Behind nodes node) text rest may.0 (command-behind node.prog text rest may.2))
command-read-as scope around AtStart (group inside rest) may = command-is scope around AtStart _ (groups-read scope around AtStart inside rest tt)
command-read-as scope around (Behind nodes node) (group inside rest) may = command-is scope around (Behind nodes node) _ (groups-read scope around (Behind nodes node) inside rest may.0)

-- a program goes on where another follows
goes-on : (node : Prog) (program : Prog) (options : List (List ℕ)) (places : Places) (rest : Tree) (commands : Type 0) → IsRest node (node_tree program options places rest) → HasRestCommands node (node_tree program options places rest) commands → GoesOn node × commands
goes-on Exit program options places rest commands is has = absurd is
goes-on _ program options places rest commands is has = (tt, has)

standing-node : (standing : Standing) (program : Prog) (options : List (List ℕ)) (places : Places) (rest : Tree) → MayStand standing (node_tree program options places rest)
    → StandsBefore standing (word (name_text program) nothing) × StandingGoes standing × HaveCommands places × HasRestCommands program rest (HasCommands rest)
standing-node AtStart program options places rest may = (tt, tt, may.0, may.1)
standing-node (Behind nodes node) program options places rest may =
    let goes = goes-on node.prog program options places rest (HasCommands (node_tree program options places rest)) may.1 may.2 in
    (may.0, goes.0, goes.1.0, goes.1.1)

-- ---- directives

-- a directive has no program block
abbrev NoPrograms : List PlaceKind → Type 0
NoPrograms [] = Unit {0}
NoPrograms (ProgramBlock ∷ kinds) = ⊥
NoPrograms (kind ∷ kinds) = NoPrograms kinds

-- no place may be missing
abbrev pub NoOptional : List PlaceKind → Type 0
NoOptional [] = Unit {0}
NoOptional (OptionalNumber ∷ kinds) = ⊥
NoOptional (OptionalWord ∷ kinds) = ⊥
NoOptional (kind ∷ kinds) = NoOptional kinds

pub directive-kinds : (program : Prog) → is_directive program ≡ true → NoPrograms (shape_of program).places × NoOptional (shape_of program).places
unfolding shape_of
directive-kinds Define is = (tt, tt)
directive-kinds Importas is = (tt, tt)
directive-kinds Multidefine is = (tt, tt)
directive-kinds Elgetpositionals is = (tt, tt)
directive-kinds _ is = absurd (true≢false (sym is))

no-programs : (places : Places) (kinds : List PlaceKind) (after : Args) → NoPrograms kinds → HavePlaces places kinds after → HaveCommands places
no-programs unplaced kinds after none have = tt
no-programs (one_place (text_place text) places) (Name ∷ kinds) after none have = no-programs places kinds after none have.1
no-programs (one_place (text_place text) places) (Fixed ∷ kinds) after none have = no-programs places kinds after none have
no-programs (one_place (text_place text) places) (OptionalWord ∷ kinds) after none have = no-programs places kinds after none have
no-programs (one_place (text_place text) places) (OptionalNumber ∷ kinds) after none have = no-programs places kinds after none have.3
no-programs (one_place (block_place block) places) (ProgramBlock ∷ kinds) after none have = absurd none
no-programs (one_place (values_place values) places) (ValueBlock ∷ kinds) after none have = no-programs places kinds after none have
no-programs (one_place (names_place names) places) (NameBlock ∷ kinds) after none have = no-programs places kinds after none have.1
no-programs (one_place (directives_place directives) places) (DirectiveBlock ∷ kinds) after none have = no-programs places kinds after none have.1
no-programs _ _ after none have = absurd have

pub directive-commands : (program : Prog) (places : Places) (after : Args) → is_directive program ≡ true → HavePlaces places (shape_of program).places after → HaveCommands places
directive-commands program places after is have = no-programs places (shape_of program).places after (directive-kinds program is).0 have

abbrev pub directing-level : Standing → Level
directing-level AtStart = Directed [] None
directing-level (Behind nodes node) = Directed nodes (Some (head-of node.prog node.options None node.places))

directive-free : (program : Prog) → is_directive program ≡ true → directive_fault (NextText (name_text program)) ≡ None
directive-free program is = where-false _ _ (ap (λ named. not (names_directive named)) (named-itself program) ∙ ap not is)

pub directive-enters : (scope : TestScope) (around : List Level) (standing : Standing) (program : Prog) → is_directive program ≡ true → StandsBefore standing (word (name_text program) nothing)
    → ReadsTokens scope (at (directing-level standing) around) (Text (name_text program) ∷ []) (at (Directed (all-of standing) (Some (head_start program))) around)
directive-enters scope around AtStart program is before = (directive-free program is, tt, ap (λ named. at (Directed [] (directive_named named)) around) (named-itself program))
directive-enters scope around (Behind nodes node) program is before = (
  behind-free _ node.prog node.options node.places true (NextText (name_text program)) before (directive-free program is),
  tt,
  ap (λ owned. at (directive_owned nodes (head-of node.prog node.options None node.places) (name_text program) owned) around) (text-behind-foreign node.prog node.options node.places (name_text program) before)
      ∙ ap (λ named. at (Directed (nodes ++ node ∷ []) (directive_named named)) around) (named-itself program),
)

-- directives are read behind others
abbrev ReadsDirectives : TestScope → List Level → Standing → Directives → Type 0
ReadsDirectives scope around standing directives =
    IsReadAs scope around (directing-level standing) (shapes_in (written_directives directives)) (directives_place (directives_of (all-of standing ++ directive_list directives)))

directives-over : (scope : TestScope) (around : List Level) (standing : Standing) → StandsBefore standing nothing → ReadsDirectives scope around standing undirected
directives-over scope around AtStart before = record { end = Directed [] None; reads = refl; is_closed = refl; over = refl }
directives-over scope around (Behind nodes node) before = record {
  end = directing-level (Behind nodes node);
  reads = refl;
  is_closed = ap (λ nodes. one_place (directives_place (directives_of nodes)) unplaced) (sym (append-nil (nodes ++ node ∷ [])));
  over = behind-free _ node.prog node.options node.places true Over before refl;
}

-- what is tested in the scope of a program or directive is so in the scope of its blocks
tested-there : (scope : TestScope) (place : Where) (head : Head) (keeps : List Member → Type 0) → WhereTested (scope-there scope place) keeps → WhereTested (scope_at scope (level-at place head)) keeps
tested-there scope (InChain nodes) head keeps tested = tested
tested-there scope (InDirectives directives) head keeps tested = tested

-- ---- all of it

are-finished : (program : Prog) (options : List (List ℕ)) (places : Places) (after : Args) (read : HasOptions program options) → StopsOptions (shape_of program).letters read.ended (written_places places +++ after)
    → HavePlaces places (shape_of program).places after → HaveCommands places → IsFinished program options places (first_in after)
are-finished program options places after read stops have commands =
    finished-same program options places after (first_in after) (sym (first-first after)) (record { read = read; stops = stops; placed = have; commanded = commands })

mutual
  -- places are read behind others
  pub places-read : (scope : TestScope) (around : List Level) (place : Where) (program : Prog) (options : List (List ℕ)) (read : HasOptions program options) (places : Places) → PlacesFollow scope around place program options read places
  places-read scope around place program options read unplaced before left after kinds stops have commands keeps = ap (λ p. at (level-at place (head-of program options None p)) around) (sym (with-unplaced before))
  places-read scope around place program options read (one_place (text_place text) places) before left after kinds stops have commands keeps =
      text-places scope around place program options read before left text places after (places-read scope around place program options read places) kinds stops have commands keeps
  places-read scope around place program options read (one_place (block_place block) places) before (ProgramBlock ∷ left) after kinds stops have commands keeps =
      let head = head-of program options None before in
      let kept = both-tested (scope-there (scope_within scope around) place) (KeepsWords block) (PlacesKeep places) keeps in
      block-places scope around place program options read before ProgramBlock left (block_place block) places (Chained [] Fresh) (shapes_in (written block)) (places-read scope around place program options read places) kinds refl refl have.1 commands.1 kept.1
      (tree-read scope (level-at place head ∷ around) AtStart block have.0 commands.0 (tested-there (scope_within scope around) place head (KeepsWords block) kept.0))
  places-read scope around place program options read (one_place (values_place values) places) before (ValueBlock ∷ left) after kinds stops have commands keeps =
      block-places scope around place program options read before ValueBlock left (values_place values) places (Listed nothing) (shapes_in values) (places-read scope around place program options read places) kinds refl refl have commands keeps
      (record { end = Listed values; reads = list-read scope (level-at place (head-of program options None before) ∷ around) nothing values; is_closed = refl; over = refl })
  places-read scope around place program options read (one_place (names_place names) places) before (NameBlock ∷ left) after kinds stops have commands keeps =
      block-places scope around place program options read before NameBlock left (names_place names) places (Named []) (shapes_in (words names)) (places-read scope around place program options read places) kinds refl refl have.1 commands keeps
      (record { end = Named names; reads = names-read scope (level-at place (head-of program options None before) ∷ around) [] names have.0; is_closed = refl; over = refl })
  places-read scope around place program options read (one_place (directives_place directives) places) before (DirectiveBlock ∷ left) after kinds stops have commands keeps =
      let head = head-of program options None before in
      let kept = both-tested (scope-there (scope_within scope around) place) (DirectivesKeep directives) (PlacesKeep places) keeps in
      block-places scope around place program options read before DirectiveBlock left (directives_place directives) places (Directed [] None) (shapes_in (written_directives directives)) (places-read scope around place program options read places) kinds refl refl have.1 commands kept.1
      (subst (λ block. IsReadAs scope (level-at place head ∷ around) (Directed [] None) (shapes_in (written_directives directives)) (directives_place block)) (directives-again directives)
      (directives-read scope (level-at place head ∷ around) AtStart directives have.0 tt (tested-there (scope_within scope around) place head (DirectivesKeep directives) kept.0)))
  places-read scope around place program options read _ before _ after kinds stops have commands keeps = absurd have

  -- a tree is read behind programs
  pub tree-read : (scope : TestScope) (around : List Level) (standing : Standing) (tree : Tree) → IsFormed tree → MayStand standing tree → KeepTree (scope_behind_all (scope_within scope around) (all-of standing)) tree
      → ReadsTree scope around standing tree
  tree-read scope around standing End formed may keeps = end-read scope around standing may
  tree-read scope around standing (Command args) formed may keeps = command-read-as scope around standing args may
  tree-read scope around standing (node_tree program options places rest) formed may keeps =
      let stands = standing-node standing program options places rest may in
      let here = scope_behind_all (scope_within scope around) (all-of standing) in
      let kept = keep-node here program options places rest keeps in
      let node : Node = record { prog = program; options = options; places = places } in
      let finished = are-finished program options places (written rest) formed.0 formed.1 formed.2 stands.2 in
      let more =
      tree-read scope around (Behind (all-of standing) node) rest formed.4 (finished, formed.3, stands.3)
      (subst (λ s. KeepTree s rest) (sym (scope-append (scope_within scope around) (all-of standing) node)) kept.1) in
      record {
        end = more.end;
        reads = node-then scope around (standing-level standing) (InChain (all-of standing)) program options places _ (written rest) _ finished (program-enters scope around standing program stands.0 stands.1)
            (places-read scope around (InChain (all-of standing)) program options finished.read places) kept.0 more.reads;
        is_closed = more.is_closed ∙ ap (λ tree. one_place (block_place tree) unplaced) (tree-append (all-of standing) node rest);
        over = more.over;
      }

  -- directives are read behind others
  pub directives-read : (scope : TestScope) (around : List Level) (standing : Standing) (directives : Directives) → AreDirectives directives → StandsBefore standing (first_in (written_directives directives)) → KeepDirectives (scope_within scope around) directives
      → ReadsDirectives scope around standing directives
  directives-read scope around standing undirected are may keeps = directives-over scope around standing may
  directives-read scope around standing (directed program options places directives) are may keeps =
      let kept = both-tested (scope_within scope around) (PlacesKeep places) (DirectivesKeep directives) keeps in
      let node : Node = record { prog = program; options = options; places = places } in
      let finished = are-finished program options places (written_directives directives) are.0 are.2 are.3 (directive-commands program places (written_directives directives) are.1 are.3) in
      let more = directives-read scope around (Behind (all-of standing) node) directives are.4 finished kept.1 in
      record {
        end = more.end;
        reads = node-then scope around (directing-level standing) (InDirectives (all-of standing)) program options places _ (written_directives directives) _ finished (directive-enters scope around standing program are.1 may)
            (places-read scope around (InDirectives (all-of standing)) program options finished.read places) kept.0 more.reads;
        is_closed = more.is_closed ∙ ap (λ nodes. one_place (directives_place (directives_of nodes)) unplaced) (append_assoc (all-of standing) (node ∷ []) (directive_list directives));
        over = more.over;
      }
