-- Trees that are cut off: what of a script is read so far.
use Rattle.std.specs.Prelude.{◌≡◌, ℕ, suc, Bool, true, false, List, [], ◌∷◌, take, drop, ◌++◌, Option, None, Some}
use Rattle.std.specs.List.{list_all}
use Rattle.el_words.specs.declared.prog.Prog.{Prog}
use Rattle.el_words.specs.declared.prog.Prog.TheVariants.{Exit}
use Rattle.el_words.specs.Prog.{name_text}
use Rattle.el_words.specs.Args.{Args, nothing, word, group, ◌+++◌, words}
use Rattle.el_blocks.specs.Tokens.{TokenShape, Open, shapes_in}
use Rattle.el_options.specs.declared.table.Opt.{Opt}
use Rattle.el_options.specs.declared.place.PlaceKind.{PlaceKind}
use Rattle.el_options.specs.declared.place.PlaceKind.TheVariants.{ProgramBlock, ValueBlock, NameBlock, DirectiveBlock}
use Rattle.el_options.specs.Reading.{Last, Letters, shown}
use Rattle.el_options.specs.Shapes.{shape_of}
use Rattle.el_options.specs.Fronts.{is_directive}
use Rattle.el_tree.specs.Trees.{Places, unplaced, one_place, Directives, written_places}
use Rattle.el_tree.specs.Lists.{directives_of}
use Rattle.el_tree.specs.OptionWords.{is_literal, are_literal, letters_of, OptionsRead, HasOptions, StopsOptions}
use Rattle.el_tree.specs.WellFormed.{HavePlaces, HaveCommands, IsCommand}
use Rattle.el_tree.specs.Marks.{Member, member_of, adds_member, members_behind}
use Rattle.el_tree.specs.Accepted.{PlacesKeep, DirectivesKeep}
use Rattle.el_tree.specs.declared.tree.Node.{Node}

-- ---- beginnings

-- a program or directive as far as it is read: its option words, the one whose last letter waits for its value, its places
pub record Head : Type 0 where
  pub program : Prog
  pub options : List (List ℕ)
  pub waiting : Option (List ℕ)
  pub places : Places

-- what a chain ends in: nothing; its current program, up to the first token that isn't its own; the items of a command
pub data Tail : Type 0 where
  Fresh : Tail
  Current : Head → Tail
  Commanded : Args → Tail

-- An open level, but for what is open in it: a chain with its finished programs; a block of values or a group, with its items;
-- a block of names; a block of directives with the finished ones and the current one.
pub data Level : Type 0 where
  Chained : List Node → Tail → Level
  Listed : Args → Level
  Named : List (List ℕ) → Level
  Directed : List Node → Option Head → Level

-- a beginning: the innermost level, and those around it, from the inside outwards
pub record Beginning : Type 0 where
  pub level : Level
  pub around : List Level

-- nothing is read yet
abbrev pub at_start : Beginning
at_start = record { level = Chained [] Fresh; around = [] }

-- ---- as tokens

-- the option word that waits for its value, if there is one
abbrev pub waiting_words : Option (List ℕ) → List (List ℕ)
waiting_words None = []
waiting_words (Some text) = text ∷ []

-- a name, its option words, and the places so far
abbrev pub written_head : Head → Args
written_head head = word (name_text head.program) (words head.options +++ (words (waiting_words head.waiting) +++ written_places head.places))

-- programs before what follows them
abbrev pub written_nodes : List Node → (after : Args) → Args
written_nodes [] after = after
written_nodes (node ∷ nodes) after = word (name_text node.prog) (words node.options +++ (written_places node.places +++ written_nodes nodes after))

-- what was read behind the finished programs
abbrev pub written_tail : Tail → Args
written_tail Fresh = nothing
written_tail (Current head) = written_head head
written_tail (Commanded items) = items

-- what was read of the current directive, if there is one
abbrev pub written_current : Option Head → Args
written_current None = nothing
written_current (Some head) = written_head head

-- what was read in a level, without what is open in it
abbrev pub written_level : Level → Args
written_level (Chained nodes tail) = written_nodes nodes (written_tail tail)
written_level (Listed items) = items
written_level (Named names) = words names
written_level (Directed nodes current) = written_nodes nodes (written_current current)

-- each level but the outermost behind its Open
abbrev pub printed_in : Level → (around : List Level) → List TokenShape
printed_in level [] = shapes_in (written_level level)
printed_in level (outer ∷ around) = printed_in outer around ++ (Open ∷ shapes_in (written_level level))

-- the tokens that were read
abbrev pub printed : Beginning → List TokenShape
printed beginning = printed_in beginning.level beginning.around

-- ---- programs and directives that are right so far

-- the first token alone: where a program stops, this is what it stops before
abbrev pub first_in : Args → Args
first_in nothing = nothing
first_in (word text rest) = word text nothing
first_in (group inside rest) = group nothing nothing

-- a block that is open
abbrev pub an_open : Args
an_open = group nothing nothing

-- a word or a group stands there
abbrev pub is_there : Args → Bool
is_there nothing = false
is_there _ = true

-- how many places were read
abbrev pub count : Places → ℕ
count unplaced = 0
count (one_place place places) = suc (count places)

-- the places that are still to come
abbrev pub kinds_left : Head → List PlaceKind
kinds_left head = drop (count head.places) (shape_of head.program).places

-- the letter of an option word that takes the next word as its value
abbrev pub Waits : Option (List Opt) → (text : List ℕ) → Type 0
Waits None text = ⊥
Waits (Some opts) text = (flags : List ℕ) × (letter : ℕ) × (shown opts text ≡ Letters (Last flags letter []))

-- an option word that waits is literal, its last letter takes a value, and nothing stands behind it yet
abbrev pub IsWaiting : Prog → (waiting : Option (List ℕ)) → (ended : Bool) → (after : Args) → Type 0
IsWaiting program None ended after = Unit {0}
IsWaiting program (Some text) ended after = Waits (shape_of program).letters text × (is_literal text ≡ true) × (ended ≡ false) × (after ≡ nothing)

-- The current program is right so far, where this is open at its next place: its options are over where a place or an Open
-- follows them, and its places are the first ones that it has.
pub record IsHead (head : Head) (opened : Args) : Type 0 where
  pub read : OptionsRead head.program head.options (is_there (written_places head.places +++ opened))
  pub waits : IsWaiting head.program head.waiting read.ended (written_places head.places +++ opened)
  pub stops : StopsOptions (shape_of head.program).letters read.ended (written_places head.places +++ opened)
  pub placed : HavePlaces head.places (take (count head.places) (shape_of head.program).places) nothing
  pub commanded : HaveCommands head.places

-- a finished program or directive, before what follows
pub record IsFinished (program : Prog) (options : List (List ℕ)) (places : Places) (after : Args) : Type 0 where
  pub read : HasOptions program options
  pub stops : StopsOptions (shape_of program).letters read.ended (written_places places +++ after)
  pub placed : HavePlaces places (shape_of program).places after
  pub commanded : HaveCommands places

-- ---- levels that are right so far

-- each program is finished, before the token that stands behind it
abbrev pub AreFinished : List Node → (after : Args) → Type 0
AreFinished [] after = Unit {0}
AreFinished (node ∷ nodes) after = IsFinished node.prog node.options node.places (first_in (written_nodes nodes after)) × AreFinished nodes after

-- a command that doesn't stand behind exit begins with no program's name
abbrev pub MayBegin : Tail → (opened : Args) → Type 0
MayBegin (Commanded items) opened = IsCommand (first_in (items +++ opened))
MayBegin _ opened = Unit {0}

-- behind a program something follows, and behind exit the words that it ignores
abbrev pub MayFollow : Prog → Tail → (opened : Args) → Type 0
MayFollow Exit (Commanded items) opened = is_there (items +++ opened) ≡ true
MayFollow Exit _ opened = ⊥
MayFollow _ Fresh opened = ⊥
MayFollow _ tail opened = MayBegin tail opened

-- another program may stand behind this one: it isn't exit
abbrev pub GoesOn : Prog → Type 0
GoesOn Exit = ⊥
GoesOn _ = Unit {0}

-- each program has behind it what may follow it
abbrev pub FollowsAll : List Node → Tail → (opened : Args) → Type 0
FollowsAll [] tail opened = MayBegin tail opened
FollowsAll (node ∷ []) tail opened = MayFollow node.prog tail opened
FollowsAll (node ∷ next ∷ nodes) tail opened = GoesOn node.prog × FollowsAll (next ∷ nodes) tail opened

-- the current program is right so far, if there is one
abbrev pub IsTail : Tail → (opened : Args) → Type 0
IsTail (Current head) opened = IsHead head opened
IsTail _ opened = Unit {0}

-- each is a directive
abbrev pub all_directives : List Node → Bool
all_directives nodes = list_all (λ node. is_directive node.prog) nodes

-- the current directive is right so far; it is there unless no directive has begun
abbrev pub IsCurrentDirective : Option Head → (finished : List Node) → (opened : Args) → Type 0
IsCurrentDirective None [] opened = Unit {0}
IsCurrentDirective None (node ∷ nodes) opened = ⊥
IsCurrentDirective (Some head) nodes opened = (is_directive head.program ≡ true) × IsHead head opened

-- a level is right so far, where this is open in it
abbrev pub IsLevel : Level → (opened : Args) → Type 0
IsLevel (Chained nodes tail) opened = AreFinished nodes (first_in (written_tail tail +++ opened)) × FollowsAll nodes tail opened × IsTail tail opened
IsLevel (Listed items) opened = Unit {0}
IsLevel (Named names) opened = are_literal names ≡ true
IsLevel (Directed nodes current) opened = AreFinished nodes (first_in (written_current current +++ opened)) × IsCurrentDirective current nodes opened × (all_directives nodes ≡ true)

-- the block that a level is
abbrev pub block_kind : Level → PlaceKind
block_kind (Chained nodes tail) = ProgramBlock
block_kind (Listed items) = ValueBlock
block_kind (Named names) = NameBlock
block_kind (Directed nodes current) = DirectiveBlock

-- the next place is such a block
abbrev pub BeginWith : PlaceKind → List PlaceKind → Type 0
BeginWith ProgramBlock (ProgramBlock ∷ kinds) = Unit {0}
BeginWith ValueBlock (ValueBlock ∷ kinds) = Unit {0}
BeginWith NameBlock (NameBlock ∷ kinds) = Unit {0}
BeginWith DirectiveBlock (DirectiveBlock ∷ kinds) = Unit {0}
BeginWith _ _ = ⊥

-- what may be open at the next place of a program or directive: a block of its kind
abbrev pub IsOfKind : Level → List PlaceKind → Type 0
IsOfKind level kinds = BeginWith (block_kind level) kinds

-- a block that may be open in a level: at the next place of its program or directive, or a group among its items
abbrev pub MayHold : Level → PlaceKind → Type 0
MayHold (Chained nodes (Current head)) kind = BeginWith kind (kinds_left head)
MayHold (Chained nodes (Commanded items)) kind = BeginWith kind (ValueBlock ∷ [])
MayHold (Listed items) kind = BeginWith kind (ValueBlock ∷ [])
MayHold (Directed nodes (Some head)) kind = BeginWith kind (kinds_left head)
MayHold _ kind = ⊥

-- what may be open in a level
abbrev pub MayOpen : (outer inner : Level) → Type 0
MayOpen outer inner = MayHold outer (block_kind inner)

-- a level of programs, or of a command
abbrev pub IsChain : Level → Type 0
IsChain level = IsOfKind level (ProgramBlock ∷ [])

-- the levels around this one are right so far, and the outermost is a chain
abbrev pub AreAround : (inner : Level) → List Level → Type 0
AreAround inner [] = IsChain inner
AreAround inner (outer ∷ around) = IsLevel outer an_open × MayOpen outer inner × AreAround outer around

-- ---- which keep one word at each fixed place

-- the members in force, where fixed places are tested
abbrev pub TestScope : Type 0
TestScope = Option (List Member)

-- what is tested is so; without a scope nothing is tested
abbrev pub WhereTested : TestScope → (List Member → Type 0) → Type 0
WhereTested None keeps = Unit {0}
WhereTested (Some members) keeps = keeps members

-- each place that has one word keeps it
abbrev pub KeepPlaces : TestScope → Places → Type 0
KeepPlaces scope places = WhereTested scope (PlacesKeep places)

-- so do the places of directives
abbrev pub KeepDirectives : TestScope → Directives → Type 0
KeepDirectives scope directives = WhereTested scope (DirectivesKeep directives)

-- the scope for a program's rest
abbrev pub scope_behind : TestScope → Node → TestScope
scope_behind None node = None
scope_behind (Some members) node = Some (members_behind (adds_member node.prog (letters_of node.prog node.options)) members (member_of node.prog (letters_of node.prog node.options) node.places))

-- the scope behind several programs, one after the other
abbrev pub scope_behind_all : TestScope → List Node → TestScope
scope_behind_all scope [] = scope
scope_behind_all scope (node ∷ nodes) = scope_behind_all (scope_behind scope node) nodes

-- the scope in a level, from that around it
abbrev pub scope_at : TestScope → Level → TestScope
scope_at scope (Chained nodes tail) = scope_behind_all scope nodes
scope_at scope level = scope

-- the scope within levels, from that of the script
abbrev pub scope_within : TestScope → (around : List Level) → TestScope
scope_within scope [] = scope
scope_within scope (outer ∷ around) = scope_at (scope_within scope around) outer

-- the places of finished programs keep one word each, in the scope behind the programs before them
abbrev pub KeepNodes : TestScope → List Node → Type 0
KeepNodes scope [] = Unit {0}
KeepNodes scope (node ∷ nodes) = KeepPlaces scope node.places × KeepNodes (scope_behind scope node) nodes

-- so do those of the current program, if there is one
abbrev pub KeepsTail : TestScope → Tail → Type 0
KeepsTail scope (Current head) = KeepPlaces scope head.places
KeepsTail scope tail = Unit {0}

-- so do those of the current directive, if there is one
abbrev pub KeepsCurrent : TestScope → Option Head → Type 0
KeepsCurrent scope None = Unit {0}
KeepsCurrent scope (Some head) = KeepPlaces scope head.places

-- so do those in a level, where this scope is in force at its start
abbrev pub KeepsLevel : TestScope → Level → Type 0
KeepsLevel scope (Chained nodes tail) = KeepNodes scope nodes × KeepsTail (scope_behind_all scope nodes) tail
KeepsLevel scope (Listed items) = Unit {0}
KeepsLevel scope (Named names) = Unit {0}
KeepsLevel scope (Directed nodes current) = KeepDirectives scope (directives_of nodes) × KeepsCurrent scope current

-- so do those in the levels around, where this is the scope of the script
abbrev pub KeepAround : TestScope → List Level → Type 0
KeepAround scope [] = Unit {0}
KeepAround scope (outer ∷ around) = KeepsLevel (scope_within scope around) outer × KeepAround scope around

-- what is read so far; where there is a scope, each fixed place so far keeps one word
pub record IsBeginning (scope : TestScope) (beginning : Beginning) : Type 0 where
  pub within : IsLevel beginning.level nothing
  pub outside : AreAround beginning.level beginning.around
  pub keeps : KeepsLevel (scope_within scope beginning.around) beginning.level
  pub keeps_outside : KeepAround scope beginning.around
