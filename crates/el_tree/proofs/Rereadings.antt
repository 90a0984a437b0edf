-- Each beginning is read from its own tokens.
use Rattle.std.proofs.Common.{◌≡◌, ℕ, Bool, true, false, not, List, [], ◌∷◌, ◌++◌, append_assoc, append-nil, take, drop, Option, Some, None, refl, sym, ap, ◌∙◌, subst, true≢false}
use Rattle.el_words.specs.declared.prog.Prog.{Prog}
use Rattle.el_words.specs.declared.prog.Prog.TheVariants.{Exit}
use Rattle.el_words.specs.Prog.{name_text}
use Rattle.el_words.specs.Args.{Args, nothing, word, group, ◌+++◌, words}
use Rattle.el_words.proofs.Truths.{left_of, right_of}
use Rattle.el_blocks.specs.Tokens.{TokenShape, Text, Open, shapes_in}
use Rattle.el_options.specs.declared.table.Opt.{Opt}
use Rattle.el_options.specs.declared.place.PlaceKind.{PlaceKind}
use Rattle.el_options.specs.declared.place.PlaceKind.TheVariants.{ProgramBlock, ValueBlock, NameBlock, DirectiveBlock}
use Rattle.el_options.specs.Reading.{Letter, LettersRead, Last, Letters}
use Rattle.el_options.specs.Shapes.{shape_of}
use Rattle.el_options.specs.Fronts.{options_of, is_directive}
use Rattle.el_tree.specs.declared.tree.Node.{Node}
use Rattle.el_tree.specs.Trees.{Places, unplaced, one_place, text_place, written_places}
use Rattle.el_tree.specs.Lists.{directives_of}
use Rattle.el_tree.specs.OptionWords.{is_literal, OptionsRead, StopsOptions}
use Rattle.el_tree.specs.WellFormed.{HavePlaces, HaveCommands}
use Rattle.el_tree.specs.Accepted.{PlacesKeep, DirectivesKeep}
use Rattle.el_tree.specs.Beginnings.{Head, Fresh, Current, Commanded, Tail, Level, Chained, Listed, Named, Directed, Beginning, at_start, TestScope, KeepPlaces, KeepDirectives, KeepNodes, KeepsTail, KeepsLevel, KeepAround, scope_behind_all, scope_within, first_in, an_open, is_there, count, kinds_left, waiting_words, written_head, written_nodes, written_tail, written_level, printed_in, printed, Waits, IsHead, AreFinished, MayBegin, MayFollow, GoesOn, FollowsAll, IsTail, all_directives, IsLevel, IsOfKind, MayOpen, AreAround, IsBeginning}
use Rattle.el_tree.specs.Faults.{Group, kind_fault, head_fault}
use Rattle.el_tree.specs.Steps.{head_start, tail_behind, tail_named, opened_at, chain_opened, directive_opened}
use Rattle.el_tree.specs.Readings.{ReadsTokens}
use Rattle.el_tree.proofs.Facts.{never-word, never-group, or-none, where-false, plus-assoc, shapes-plus}
use Rattle.el_tree.proofs.HeadReadings.{at, reads-then, reads-to, Where, InChain, InDirectives, level-at, scope-there, head-of, taken}
use Rattle.el_tree.proofs.Finished.{bare-group-by, place-free, first-first, all-read, there-placed}
use Rattle.el_tree.proofs.TreeReadings.{list-read, names-read, options-whole, Standing, AtStart, Behind, standing-level, all-of, scope-append, StandsBefore, StandingGoes, tail-after, open-enters, program-enters, words-read, groups-read, both-tested, node-then, directing-level, directive-enters, places-read}

-- ---- a program or directive so far

-- an open block is something
pub there-open : (a : Args) → is_there (a +++ an_open) ≡ true
there-open nothing = refl
there-open a = refl

pub waits-bare : (places : Places) (opened : Args) → written_places places +++ opened ≡ nothing → places ≡ unplaced
waits-bare unplaced opened is = refl
waits-bare (one_place (text_place text) places) opened is = absurd (never-word is)
waits-bare places opened is = absurd (never-group is)

-- the places so far are read; where there is one, the options were enough
places-so-far : (scope : TestScope) (around : List Level) (place : Where) (program : Prog) (options : List (List ℕ)) (opened : Args) (places : Places) (read : OptionsRead program options (is_there (written_places places +++ opened)))
    → StopsOptions (shape_of program).letters read.ended (written_places places +++ opened) → HavePlaces places (take (count places) (shape_of program).places) nothing → HaveCommands places
    → KeepPlaces (scope-there (scope_within scope around) place) places
    → ReadsTokens scope (at (level-at place (head-of program options None unplaced)) around) (shapes_in (written_places places)) (at (level-at place (head-of program options None places)) around)
places-so-far scope around place program options opened unplaced read stops placed commanded keeps = refl
places-so-far scope around place program options opened places read stops placed commanded keeps =
    places-read scope around place program options (all-read read (there-placed places opened refl)) places unplaced (shape_of program).places opened refl (λ is. stops) placed commanded keeps

-- the option word that waits for its value
waiting-so-far : (scope : TestScope) (around : List Level) (place : Where) (program : Prog) (options : List (List ℕ)) (text : List ℕ) (letters : List Letter) (used : ℕ) (opts : Option (List Opt)) → (shape_of program).letters ≡ opts
    → options_of opts options ≡ LettersRead letters used [] false → Waits opts text → is_literal text ≡ true
    → ReadsTokens scope (at (level-at place (head-of program options None unplaced)) around) (Text text ∷ []) (at (level-at place (head-of program options (Some text) unplaced)) around)
waiting-so-far scope around place program options text letters used None tables read waits literal = absurd waits
waiting-so-far scope around place program options text letters used (Some opts) tables read waits literal =
    taken scope around place program opts tables options text letters used (Letters (Last waits.0 waits.1 [])) (head-of program options (Some text) unplaced) read waits.2 (λ found. or-none _ _ (where-false _ _ (ap not literal)) refl) (λ owned. refl)

from-options : (scope : TestScope) (around : List Level) (place : Where) (program : Prog) (options : List (List ℕ)) (waiting : Option (List ℕ)) (places : Places) (opened : Args) (is : IsHead (head-of program options waiting places) opened)
    → KeepPlaces (scope-there (scope_within scope around) place) places
    → ReadsTokens scope (at (level-at place (head_start program)) around) (shapes_in (words options +++ (words (waiting_words waiting) +++ written_places places))) (at (level-at place (head-of program options waiting places)) around)
from-options scope around place program options None places opened is keeps =
    subst (λ tokens. ReadsTokens scope (at (level-at place (head_start program)) around) tokens (at (level-at place (head-of program options None places)) around)) (sym (shapes-plus (words options) (written_places places)))
    (reads-then scope _ (at (level-at place (head-of program options None unplaced)) around) _ (shapes_in (words options)) (shapes_in (written_places places))
    (options-whole scope around place program options (shape_of program).letters refl is.read.letters is.read.used is.read.ended is.read.are_read is.read.literal is.read.in_rule)
    (places-so-far scope around place program options opened places is.read is.stops is.placed is.commanded keeps))
from-options scope around place program options (Some text) places opened is keeps =
    subst (λ (p : Places). ReadsTokens scope (at (level-at place (head_start program)) around) (shapes_in (words options +++ word text (written_places p))) (at (level-at place (head-of program options (Some text) p)) around)) (sym (waits-bare places opened is.waits.3))
    (subst (λ tokens. ReadsTokens scope (at (level-at place (head_start program)) around) tokens (at (level-at place (head-of program options (Some text) unplaced)) around)) (sym (shapes-plus (words options) (word text nothing)))
    (reads-then scope _ (at (level-at place (head-of program options None unplaced)) around) _ (shapes_in (words options)) (Text text ∷ [])
    (options-whole scope around place program options (shape_of program).letters refl is.read.letters is.read.used is.read.ended is.read.are_read is.read.literal is.read.in_rule)
    (waiting-so-far scope around place program options text is.read.letters is.read.used (shape_of program).letters refl (is.read.are_read ∙ ap (LettersRead is.read.letters is.read.used []) is.waits.2) is.waits.0 is.waits.1)))

-- a current program or directive that begins here
head-read : (scope : TestScope) (around : List Level) (from : Level) (place : Where) (head : Head) (opened : Args) → ReadsTokens scope (at from around) (Text (name_text head.program) ∷ []) (at (level-at place (head_start head.program)) around)
    → IsHead head opened → KeepPlaces (scope-there (scope_within scope around) place) head.places → ReadsTokens scope (at from around) (shapes_in (written_head head)) (at (level-at place head) around)
head-read scope around from place head opened enters is keeps =
    reads-then scope _ (at (level-at place (head_start head.program)) around) _ (Text (name_text head.program) ∷ []) (shapes_in (words head.options +++ (words (waiting_words head.waiting) +++ written_places head.places))) enters
    (from-options scope around place head.program head.options head.waiting head.places opened is keeps)

-- ---- the start of a level, and its Open

-- what an Open begins where this level is opened
abbrev pub start-of : Level → Level
start-of (Chained nodes tail) = Chained [] Fresh
start-of (Listed items) = Listed nothing
start-of (Named names) = Named []
start-of (Directed nodes current) = Directed [] None

opens-kind : (scope : TestScope) (program : Prog) (in_directives : Bool) (inner : Level) (kinds : List PlaceKind) → IsOfKind inner kinds → (kind_fault scope program in_directives kinds Group ≡ None) × (opened_at kinds ≡ Some (start-of inner))
opens-kind scope program in_directives (Chained nodes tail) (ProgramBlock ∷ kinds) is = (refl, refl)
opens-kind scope program in_directives (Listed items) (ValueBlock ∷ kinds) is = (refl, refl)
opens-kind scope program in_directives (Named names) (NameBlock ∷ kinds) is = (refl, refl)
opens-kind scope program in_directives (Directed nodes current) (DirectiveBlock ∷ kinds) is = (refl, refl)
opens-kind scope program in_directives _ _ is = absurd is

-- a head in which a block is open doesn't wait
pub never-open : (a : Args) → a +++ an_open ≡ nothing → ⊥
never-open (word text a) is = never-word is
never-open a is = never-group is

open-fault : (scope : TestScope) (program : Prog) (options : List (List ℕ)) (waiting : Option (List ℕ)) (places : Places) (in_directives : Bool) (inner : Level) → IsHead (head-of program options waiting places) an_open
    → IsOfKind inner (drop (count places) (shape_of program).places) → head_fault scope (head-of program options waiting places) waiting in_directives Group ≡ None
open-fault scope program options (Some text) places in_directives inner is kind = absurd (never-open (written_places places) is.waits.3)
open-fault scope program options None places in_directives inner is kind =
    place-free scope program options places in_directives Group (all-read is.read (there-open (written_places places))) (λ bare not_ended. bare-group-by (shape_of program).letters is.read.ended) (opens-kind scope program in_directives inner _ kind).0

head-opens : (scope : TestScope) (around : List Level) (place : Where) (head : Head) (inner : Level) → IsHead head an_open → IsOfKind inner (kinds_left head)
    → ReadsTokens scope (at (level-at place head) around) (Open ∷ []) (at (start-of inner) (level-at place head ∷ around))
head-opens scope around (InChain nodes) head inner is kind = (
  open-fault _ head.program head.options head.waiting head.places false inner is kind,
  tt,
  ap (λ opened. at (chain_opened nodes head opened).inner ((chain_opened nodes head opened).outer ∷ around)) (opens-kind None head.program false inner (kinds_left head) kind).1,
)
head-opens scope around (InDirectives directives) head inner is kind = (
  open-fault _ head.program head.options head.waiting head.places true inner is kind,
  tt,
  ap (λ opened. at (directive_opened directives head opened).inner ((directive_opened directives head opened).outer ∷ around)) (opens-kind None head.program true inner (kinds_left head) kind).1,
)

-- ---- the programs of a chain

abbrev advance : Standing → List Node → Standing
advance standing [] = standing
advance standing (node ∷ nodes) = advance (Behind (all-of standing) node) nodes

all-advanced : (standing : Standing) (nodes : List Node) → all-of (advance standing nodes) ≡ all-of standing ++ nodes
all-advanced standing [] = sym (append-nil (all-of standing))
all-advanced standing (node ∷ nodes) = all-advanced (Behind (all-of standing) node) nodes ∙ append_assoc (all-of standing) (node ∷ []) nodes

pub nodes-plus : (nodes : List Node) (a b : Args) → written_nodes nodes (a +++ b) ≡ written_nodes nodes a +++ b
nodes-plus [] a b = refl
nodes-plus (node ∷ nodes) a b =
    ap (λ x. word (name_text node.prog) (words node.options +++ (written_places node.places +++ x))) (nodes-plus nodes a b)
    ∙ ap (λ x. word (name_text node.prog) (words node.options +++ x)) (sym (plus-assoc (written_places node.places) (written_nodes nodes a) b))
    ∙ ap (word (name_text node.prog)) (sym (plus-assoc (words node.options) (written_places node.places +++ written_nodes nodes a) b))

nodes-tokens : (nodes : List Node) (after : Args) → shapes_in (written_nodes nodes nothing) ++ shapes_in after ≡ shapes_in (written_nodes nodes after)
nodes-tokens nodes after = sym (shapes-plus (written_nodes nodes nothing) after) ∙ ap shapes_in (sym (nodes-plus nodes nothing after))

-- what stands before the tail, as the last program is followed by it
abbrev TailFollows : Standing → Tail → (opened : Args) → Type 0
TailFollows AtStart tail opened = MayBegin tail opened
TailFollows (Behind nodes node) tail opened = MayFollow node.prog tail opened

-- from what stands before them on, each program has behind it what may follow it
abbrev FollowFrom : Standing → List Node → Tail → (opened : Args) → Type 0
FollowFrom standing [] tail opened = TailFollows standing tail opened
FollowFrom standing (node ∷ nodes) tail opened = StandingGoes standing × FollowFrom (Behind (all-of standing) node) nodes tail opened

follow-behind : (before : List Node) (node : Node) (nodes : List Node) (tail : Tail) (opened : Args) → FollowsAll (node ∷ nodes) tail opened → FollowFrom (Behind before node) nodes tail opened
follow-behind before node [] tail opened follows = follows
follow-behind before node (next ∷ nodes) tail opened follows = (follows.0, follow-behind (before ++ node ∷ []) next nodes tail opened follows.1)

follow-all : (nodes : List Node) (tail : Tail) (opened : Args) → FollowsAll nodes tail opened → FollowFrom AtStart nodes tail opened
follow-all [] tail opened follows = follows
follow-all (node ∷ nodes) tail opened follows = (tt, follow-behind [] node nodes tail opened follows)

nodes-read : (scope : TestScope) (around : List Level) (standing : Standing) (nodes : List Node) (tail : Tail) (opened after : Args) → StandsBefore standing (first_in (written_nodes nodes after)) → FollowFrom standing nodes tail opened → AreFinished nodes after
    → KeepNodes (scope_behind_all (scope_within scope around) (all-of standing)) nodes
    → ReadsTokens scope (at (standing-level standing) around) (shapes_in (written_nodes nodes nothing)) (at (standing-level (advance standing nodes)) around) × StandsBefore (advance standing nodes) (first_in after) × TailFollows (advance standing nodes) tail opened
nodes-read scope around standing [] tail opened after before follows are keeps = (refl, before, follows)
nodes-read scope around standing (node ∷ nodes) tail opened after before follows are keeps =
    let is = are.0 in
    let more = nodes-read scope around (Behind (all-of standing) node) nodes tail opened after are.0 follows.1 are.1 (subst (λ s. KeepNodes s nodes) (sym (scope-append (scope_within scope around) (all-of standing) node)) keeps.1) in (
      node-then scope around (standing-level standing) (InChain (all-of standing)) node.prog node.options node.places _ (written_nodes nodes nothing) _ is (program-enters scope around standing node.prog before follows.0)
          (places-read scope around (InChain (all-of standing)) node.prog node.options is.read node.places) keeps.0 more.0,
      more.1,
      more.2,
    )

-- ---- the end of a chain

pub never-fresh : (program : Prog) (opened : Args) → MayFollow program Fresh opened → ⊥
never-fresh Exit opened follows = follows
never-fresh _ opened follows = follows

pub current-goes : (program : Prog) (head : Head) (opened : Args) → MayFollow program (Current head) opened → GoesOn program
current-goes Exit head opened follows = absurd follows
current-goes _ head opened follows = tt

standing-current : (standing : Standing) (head : Head) (opened : Args) → TailFollows standing (Current head) opened → StandingGoes standing
standing-current AtStart head opened follows = tt
standing-current (Behind nodes node) head opened follows = current-goes node.prog head opened follows

pub never-empty : (program : Prog) → MayFollow program (Commanded nothing) nothing → ⊥
never-empty Exit follows = true≢false (sym follows)
never-empty _ follows = follows

-- a command so far has an item
abbrev HasItem : Tail → Type 0
HasItem (Commanded nothing) = ⊥
HasItem tail = Unit {0}

has-item : (standing : Standing) (tail : Tail) → TailFollows standing tail nothing → HasItem tail
has-item AtStart (Commanded nothing) follows = follows
has-item (Behind nodes node) (Commanded nothing) follows = never-empty node.prog follows
has-item standing tail follows = tt

command-after : (standing : Standing) (text : List ℕ) (rest opened : Args) → TailFollows standing (Commanded (word text rest)) opened → tail-after standing text ≡ Commanded (word text nothing)
command-after AtStart text rest opened follows = ap (λ named. tail_named named text) follows
command-after (Behind nodes node) text rest opened follows = by node.prog follows
  where
    by : (program : Prog) → MayFollow program (Commanded (word text rest)) opened → tail_behind program text ≡ Commanded (word text nothing)
    by Exit follows = refl
    by _ follows = ap (λ named. tail_named named text) follows

-- the tail of a chain; a command has an item
tail-read : (scope : TestScope) (around : List Level) (standing : Standing) (tail : Tail) (opened : Args) → StandsBefore standing (first_in (written_tail tail +++ opened)) → TailFollows standing tail opened → IsTail tail opened → HasItem tail
    → KeepsTail (scope_behind_all (scope_within scope around) (all-of standing)) tail
    → ReadsTokens scope (at (standing-level standing) around) (shapes_in (written_tail tail)) (at (Chained (all-of standing) tail) around)
tail-read scope around AtStart Fresh opened before follows is has keeps = refl
tail-read scope around (Behind nodes node) Fresh opened before follows is has keeps = absurd (never-fresh node.prog opened follows)
tail-read scope around standing (Current head) opened before follows is has keeps = head-read scope around (standing-level standing) (InChain (all-of standing)) head opened (program-enters scope around standing head.program before (standing-current standing head opened follows)) is keeps
tail-read scope around standing (Commanded nothing) opened before follows is has keeps = absurd has
tail-read scope around standing (Commanded (word text rest)) opened before follows is has keeps = words-read scope around standing text rest before (command-after standing text rest opened follows)
tail-read scope around standing (Commanded (group inside rest)) opened before follows is has keeps = groups-read scope around standing inside rest before

-- ---- directives

directives-so-far : (scope : TestScope) (around : List Level) (standing : Standing) (nodes : List Node) (after : Args) → StandsBefore standing (first_in (written_nodes nodes after)) → all_directives nodes ≡ true → AreFinished nodes after
    → KeepDirectives (scope_within scope around) (directives_of nodes)
    → ReadsTokens scope (at (directing-level standing) around) (shapes_in (written_nodes nodes nothing)) (at (directing-level (advance standing nodes)) around) × StandsBefore (advance standing nodes) (first_in after)
directives-so-far scope around standing [] after before direct are keeps = (refl, before)
directives-so-far scope around standing (node ∷ nodes) after before direct are keeps =
    let is = are.0 in
    let kept = both-tested (scope_within scope around) (PlacesKeep node.places) (DirectivesKeep (directives_of nodes)) keeps in
    let more = directives-so-far scope around (Behind (all-of standing) node) nodes after are.0 (right_of (is_directive node.prog) (all_directives nodes) direct) are.1 kept.1 in (
      node-then scope around (directing-level standing) (InDirectives (all-of standing)) node.prog node.options node.places _ (written_nodes nodes nothing) _ is
          (directive-enters scope around standing node.prog (left_of (is_directive node.prog) (all_directives nodes) direct) before)
          (places-read scope around (InDirectives (all-of standing)) node.prog node.options is.read node.places) kept.0 more.0,
      more.1,
    )

-- a block of directives with a current one
current-directive : (scope : TestScope) (around : List Level) (nodes : List Node) (head : Head) (opened : Args) → IsLevel (Directed nodes (Some head)) opened → KeepsLevel (scope_within scope around) (Directed nodes (Some head))
    → ReadsTokens scope (at (Directed [] None) around) (shapes_in (written_level (Directed nodes (Some head)))) (at (Directed nodes (Some head)) around)
current-directive scope around nodes head opened is keeps =
    let first = directives-so-far scope around AtStart nodes (first_in (written_head head +++ opened)) tt is.2 is.0 keeps.0 in
    let standing = advance AtStart nodes in
    subst (λ tokens. ReadsTokens scope (at (Directed [] None) around) tokens (at (Directed nodes (Some head)) around)) (nodes-tokens nodes (written_head head))
    (reads-then scope _ (at (directing-level standing) around) _ (shapes_in (written_nodes nodes nothing)) (shapes_in (written_head head)) first.0
    (reads-to scope _ (at (Directed (all-of standing) (Some head)) around) _ (shapes_in (written_head head))
    (head-read scope around (directing-level standing) (InDirectives (all-of standing)) head opened (directive-enters scope around standing head.program is.1.0 first.1) is.1.1 keeps.1)
    (ap (λ (n : List Node). at (Directed n (Some head)) around) (all-advanced AtStart nodes))))

-- ---- levels

-- a chain with such a tail
chain-read : (scope : TestScope) (around : List Level) (nodes : List Node) (tail : Tail) (opened : Args) → IsLevel (Chained nodes tail) opened → (TailFollows (advance AtStart nodes) tail opened → HasItem tail) → KeepsLevel (scope_within scope around) (Chained nodes tail)
    → ReadsTokens scope (at (Chained [] Fresh) around) (shapes_in (written_level (Chained nodes tail))) (at (Chained nodes tail) around)
chain-read scope around nodes tail opened is has keeps =
    let standing = advance AtStart nodes in
    let first = nodes-read scope around AtStart nodes tail opened (first_in (written_tail tail +++ opened)) tt (follow-all nodes tail opened is.1) is.0 keeps.0 in
    let all = all-advanced AtStart nodes in
    subst (λ tokens. ReadsTokens scope (at (Chained [] Fresh) around) tokens (at (Chained nodes tail) around)) (nodes-tokens nodes (written_tail tail))
    (reads-then scope _ (at (standing-level standing) around) _ (shapes_in (written_nodes nodes nothing)) (shapes_in (written_tail tail)) first.0
    (reads-to scope _ (at (Chained (all-of standing) tail) around) _ (shapes_in (written_tail tail))
    (tail-read scope around standing tail opened (subst (StandsBefore standing) (first-first (written_tail tail +++ opened)) first.1) first.2 is.2 (has first.2)
    (subst (λ n. KeepsTail (scope_behind_all (scope_within scope around) n) tail) (sym all) keeps.1))
    (ap (λ (n : List Node). at (Chained n tail) around) all)))

-- a level in which nothing is open
level-read : (scope : TestScope) (around : List Level) (level : Level) → IsLevel level nothing → KeepsLevel (scope_within scope around) level → ReadsTokens scope (at (start-of level) around) (shapes_in (written_level level)) (at level around)
level-read scope around (Listed items) is keeps = list-read scope around nothing items
level-read scope around (Named names) is keeps = names-read scope around [] names is
level-read scope around (Chained nodes tail) is keeps = chain-read scope around nodes tail nothing is (has-item (advance AtStart nodes) tail) keeps
level-read scope around (Directed [] None) is keeps = refl
level-read scope around (Directed (node ∷ nodes) None) is keeps = absurd is.1
level-read scope around (Directed nodes (Some head)) is keeps = current-directive scope around nodes head nothing is keeps

-- a level, and the Open of what is open in it
level-opens : (scope : TestScope) (around : List Level) (level inner : Level) → IsLevel level an_open → MayOpen level inner → KeepsLevel (scope_within scope around) level
    → ReadsTokens scope (at (start-of level) around) (shapes_in (written_level level) ++ Open ∷ []) (at (start-of inner) (level ∷ around))
level-opens scope around (Listed items) (Listed inside) is may keeps = reads-then scope _ (at (Listed items) around) _ (shapes_in items) (Open ∷ []) (list-read scope around nothing items) (refl, tt, refl)
level-opens scope around (Chained nodes (Current head)) inner is may keeps =
    reads-then scope _ (at (Chained nodes (Current head)) around) _ (shapes_in (written_nodes nodes (written_head head))) (Open ∷ []) (chain-read scope around nodes (Current head) an_open is (λ follows. tt) keeps) (head-opens scope around (InChain nodes) head inner is.2 may)
level-opens scope around (Chained nodes (Commanded nothing)) (Listed inside) is may keeps =
    let standing = advance AtStart nodes in
    let first = nodes-read scope around AtStart nodes (Commanded nothing) an_open an_open tt (follow-all nodes (Commanded nothing) an_open is.1) is.0 keeps.0 in
    reads-then scope _ (at (standing-level standing) around) _ (shapes_in (written_nodes nodes nothing)) (Open ∷ []) first.0
    (reads-to scope _ (at (Listed nothing) (Chained (all-of standing) (Commanded nothing) ∷ around)) _ (Open ∷ []) (open-enters scope around standing first.1)
    (ap (λ (n : List Node). at (Listed nothing) (Chained n (Commanded nothing) ∷ around)) (all-advanced AtStart nodes)))
level-opens scope around (Chained nodes (Commanded items)) (Listed inside) is may keeps =
    reads-then scope _ (at (Chained nodes (Commanded items)) around) _ (shapes_in (written_nodes nodes items)) (Open ∷ []) (chain-read scope around nodes (Commanded items) an_open is (λ follows. tt) keeps) (refl, tt, refl)
level-opens scope around (Directed nodes (Some head)) inner is may keeps =
    reads-then scope _ (at (Directed nodes (Some head)) around) _ (shapes_in (written_nodes nodes (written_head head))) (Open ∷ []) (current-directive scope around nodes head an_open is keeps) (head-opens scope around (InDirectives nodes) head inner is.1.1 may)
level-opens scope around level inner is may keeps = absurd may

-- ---- beginnings

-- what is read before a level that begins behind these
abbrev printed-before : List Level → List TokenShape
printed-before [] = []
printed-before (outer ∷ around) = printed_in outer around ++ Open ∷ []

printed-parts : (level : Level) (around : List Level) → printed-before around ++ shapes_in (written_level level) ≡ printed_in level around
printed-parts level [] = refl
printed-parts level (outer ∷ around) = append_assoc (printed_in outer around) (Open ∷ []) (shapes_in (written_level level))

level-reached : (scope : TestScope) (level : Level) (around : List Level) → AreAround level around → KeepAround scope around → ReadsTokens scope at_start (printed-before around) (at (start-of level) around)
level-reached scope (Chained nodes tail) [] are keep = refl
level-reached scope level [] are keep = absurd are
level-reached scope level (outer ∷ around) are keep =
    subst (λ tokens. ReadsTokens scope at_start tokens (at (start-of level) (outer ∷ around)))
    (sym (append_assoc (printed-before around) (shapes_in (written_level outer)) (Open ∷ [])) ∙ ap (λ (tokens : List TokenShape). tokens ++ Open ∷ []) (printed-parts outer around))
    (reads-then scope at_start (at (start-of outer) around) _ (printed-before around) (shapes_in (written_level outer) ++ Open ∷ []) (level-reached scope outer around are.2 keep.1) (level-opens scope around outer level are.0 are.1 keep.0))

-- the tokens of a beginning lead from the start to it
pub reread : (scope : TestScope) (beginning : Beginning) → IsBeginning scope beginning → ReadsTokens scope at_start (printed beginning) beginning
reread scope beginning is =
    subst (λ tokens. ReadsTokens scope at_start tokens beginning) (printed-parts beginning.level beginning.around)
    (reads-then scope at_start (at (start-of beginning.level) beginning.around) beginning (printed-before beginning.around) (shapes_in (written_level beginning.level))
    (level-reached scope beginning.level beginning.around is.outside is.keeps_outside) (level-read scope beginning.around beginning.level is.within is.keeps))
