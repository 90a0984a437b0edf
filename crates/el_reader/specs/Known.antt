-- What is known of a script that is being read: all that what comes next depends on.
use Rattle.el_script.specs.Vocabulary.{Prog, Define, Importas, Import, Forx, Forstdin, Forbacktickx, Backtick, Multidefine, Multisubstitute, TokenShape, Text, Open, Close, PlaceKind, ProgramBlock, NameBlock, DirectiveBlock, Letter, flag, Flags, Last, Shown, Plain, Dashes, Letters, shape_of, PlacedFault, At, Before, Places, unplaced, is_literal, letters_of, Member, both_members, directives_member, member_of, reads_positionals, Marked, directives_of, Head, Level, Chained, Listed, Named, Directed, Beginning, TestScope, Next, ◌or_else◌, name_fault, directive_fault, kind_fault, value_fault, unended_fault, text_in, shown_by, goes_on, next_shape}
use Rattle.std.specs.Prelude.{ℕ, suc, nat_lt, length, Bool, true, false, ◌&&◌, not, ◌==◌, ◌||◌, if◌then◌else◌, List, [], ◌∷◌, ◌++◌, drop, map, Option, None, Some, option_map, is_some, Result, Ok, Err, filter}
use Rattle.el_options.specs.Reading.{Cluster, Bad}
use Rattle.el_options.specs.Rules.{is_bad_number}
use Rattle.el_options.specs.Fronts.{options_of}
use Rattle.el_tree.specs.declared.fault.Fault.TheVariants.{BadOption, BadNumber, OptionNotLiteral}
use Rattle.el_tree.specs.declared.mark.Mark.{Mark}
use Rattle.el_tree.specs.declared.mark.Mark.TheVariants.{One, Many}
use Rattle.el_tree.specs.Marks.{empty_member}
use Rattle.el_tree.specs.Beginnings as beginnings
use Rattle.el_tree.specs.Beginnings.{count, scope_at, scope_within}
use Rattle.el_tree.specs.Faults.{Text as NextText, where_true, waiting_letter, ends_in}
use Rattle.el_reader.specs.declared.role.Role.{Role}
use Rattle.el_reader.specs.declared.role.Role.TheVariants as role
use Rattle.el_reader.specs.declared.role.Part.{Part}
use Rattle.el_reader.specs.declared.role.Part.TheVariants.{Value, Option as OptionPart, Waiting, Place as PlacePart, Block as BlockPart}
use Rattle.el_reader.specs.declared.seen.LettersSeen.{LettersSeen}
use Rattle.el_reader.specs.declared.head.Head.{Head as KnownHead}
use Rattle.el_reader.specs.declared.level.Level.{Level as KnownLevel}
use Rattle.el_reader.specs.declared.level.Level.TheVariants.{Fresh, Program, Items, Names, Directives}
use Rattle.el_reader.specs.Roles.{first_kind, nothing_seen, seen_letter, both_seen, seen_of, seen_in, part_at, bare_role, role_by}

-- ---- scopes

-- one member more
abbrev pub scope_with : TestScope → Member → TestScope
scope_with None member = None
scope_with (Some members) member = Some (members ++ member ∷ [])

-- it has no key
abbrev pub marks_nothing : Member → Bool
marks_nothing member = no_marked member.marked && not member.positional
  where
    no_marked : List Marked → Bool
    no_marked [] = true
    no_marked (marked ∷ more) = false

-- those that mark something
abbrev pub members_that_mark : List Member → List Member
members_that_mark members = filter (λ member. not (marks_nothing member)) members

-- the scope without the members that mark nothing
abbrev pub lean : TestScope → TestScope
lean None = None
lean (Some members) = Some (members_that_mark members)

-- ---- what is known

-- of an open level, and the members in force in it that mark something
pub record Scoped : Type 0 where
  pub level : KnownLevel
  pub scope : TestScope

-- of a script: of the innermost level, and of those around it, from the inside outwards
pub record Known : Type 0 where
  pub inner : Scoped
  pub around : List Scoped

-- ---- of a beginning

-- what a program or directive marks so far
abbrev pub marks_so_far : Prog → List Letter → Places → Member
marks_so_far program letters unplaced = record { marked = []; positional = reads_positionals program }
marks_so_far program letters places = member_of program letters places

-- the letter of an option word that waits for its value
abbrev pub letter_of : Prog → (text : List ℕ) → ℕ
letter_of program text = waiting_letter (shown_by (shape_of program).letters (NextText text))

-- its letters
abbrev pub seen_waiting : Prog → Option (List ℕ) → LettersSeen
seen_waiting program None = nothing_seen
seen_waiting program (Some text) = seen_in (shown_by (shape_of program).letters (NextText text))

-- of a program or directive
abbrev pub known_head : Head → KnownHead
known_head head = record {
  program = head.program;
  waiting = option_map (letter_of head.program) head.waiting;
  seen = both_seen (seen_of (letters_of head.program head.options)) (seen_waiting head.program head.waiting);
  ended = ends_in (options_of (shape_of head.program).letters head.options);
  count = count head.places;
  marks = marks_so_far head.program (letters_of head.program head.options) head.places;
}

-- a block of names marks each of them Many
abbrev pub names_member : List (List ℕ) → Member
names_member names = record { marked = map (λ name. (name, Many)) names; positional = false }

-- of a level
abbrev pub known_level : Level → KnownLevel
known_level (Chained nodes beginnings.Fresh) = Fresh
known_level (Chained nodes (beginnings.Current head)) = Program (known_head head)
known_level (Chained nodes (beginnings.Commanded items)) = Items
known_level (Listed items) = Items
known_level (Named names) = Names (names_member names)
known_level (Directed nodes current) = Directives (directives_member (directives_of nodes)) (option_map known_head current)

-- of a level, in this scope around it
abbrev pub scoped : TestScope → Level → Scoped
scoped around level = record { level = known_level level; scope = lean (scope_at around level) }

-- of the levels around, from the scope of the script
abbrev pub scoped_around : TestScope → List Level → List Scoped
scoped_around first [] = []
scoped_around first (outer ∷ around) = scoped (scope_within first around) outer ∷ scoped_around first around

-- of a beginning
abbrev pub known : TestScope → Beginning → Known
known first beginning = record { inner = scoped (scope_within first beginning.around) beginning.level; around = scoped_around first beginning.around }

-- ---- what may come next to a program

-- the places that are still to come
abbrev pub left : KnownHead → List PlaceKind
left head = drop head.count (shape_of head.program).places

-- nothing stands at its places
abbrev pub is_first : KnownHead → Bool
is_first head = head.count == 0

-- what comes next where options may be read, unless they ended
abbrev pub shown_at : Prog → (ended : Bool) → Next → Shown
shown_at program ended next = if ended then Plain else shown_by (shape_of program).letters next

-- what is wrong with what is no option, where this is wrong with it at its place
abbrev pub plain_fault : Prog → LettersSeen → (ended : Bool) → Next → (place : Option PlacedFault) → Option PlacedFault
plain_fault program seen ended next place =
    where_true ((shape_of program).needs_letter && not seen.any) (Before BadOption) or_else (place or_else unended_fault (shape_of program).letters ended next)

-- it is this, unless something is wrong with it
abbrev pub verdict : {A : Type 0} → Option PlacedFault → A → Result A PlacedFault
verdict None right = Ok right
verdict (Some found) right = Err found

-- ---- an option word, or what is wrong with it

-- letters of which the last one takes this as its value, or the next word where it is empty
abbrev pub value_judged : Prog → LettersSeen → (letter : ℕ) → (value : List ℕ) → Result Part PlacedFault
value_judged program seen letter [] = Ok (Waiting seen letter)
value_judged program seen letter value = verdict (where_true (is_bad_number ((shape_of program).rule letter) value) (At BadNumber)) (OptionPart seen false)

-- letters behind others
abbrev pub letters_judged : Prog → LettersSeen → Cluster → Result Part PlacedFault
letters_judged program seen (Flags letters) = Ok (OptionPart (both_seen seen (seen_of (map flag letters))) false)
letters_judged program seen (Last before letter value) = value_judged program (both_seen seen (both_seen (seen_of (map flag before)) (seen_letter letter))) letter value
letters_judged program seen (Bad letter) = Err (At BadOption)

-- a word; none where it is no option word
abbrev pub word_judged : Prog → (text : List ℕ) → Shown → Option (Result Part PlacedFault)
word_judged program text Plain = None
word_judged program text Dashes = Some (Ok (OptionPart nothing_seen true))
word_judged program text (Letters cluster) = Some (if is_literal text then letters_judged program nothing_seen cluster else Err (At OptionNotLiteral))

-- ---- what comes next to a program, or what is wrong with it

-- what is no option, where the word is judged so as an option
abbrev pub or_place : Option (Result Part PlacedFault) → Result (Option Part) PlacedFault → Result (Option Part) PlacedFault
or_place None place = place
or_place (Some (Ok part)) place = Ok (Some part)
or_place (Some (Err found)) place = Err found

-- before the first place, where a letter may wait
abbrev pub first_judged : TestScope → KnownHead → (waiting : Option ℕ) → (in_directives : Bool) → Next → Result (Option Part) PlacedFault
first_judged scope head (Some letter) in_directives next = verdict (value_fault head.program letter next) (Some Value)
first_judged scope head None in_directives next =
    or_place (word_judged head.program (text_in next) (shown_at head.program head.ended next))
    (verdict (plain_fault head.program head.seen head.ended next (kind_fault scope head.program in_directives (left head) next)) (part_at (first_kind (left head)) next))

-- anywhere
abbrev pub head_judged : TestScope → KnownHead → (in_directives : Bool) → Next → Result (Option Part) PlacedFault
head_judged scope head in_directives next =
    if is_first head then first_judged scope head head.waiting in_directives next else verdict (kind_fault scope head.program in_directives (left head) next) (part_at (first_kind (left head)) next)

-- ---- what a token is in a level, or what is wrong with it

-- by what it is to the program before it, or else this
abbrev pub role_judged : Result (Option Part) PlacedFault → (behind : Role) → Result Role PlacedFault
role_judged (Ok part) behind = Ok (role_by part behind)
role_judged (Err found) behind = Err found

-- what comes next
abbrev pub level_judged : TestScope → KnownLevel → Next → Result Role PlacedFault
level_judged scope Fresh next = Ok (bare_role true next)
level_judged scope (Program head) next = role_judged (head_judged scope head false next) (bare_role (goes_on head.program) next)
level_judged scope Items next = Ok (bare_role false next)
level_judged scope (Names member) next = verdict (name_fault next) (bare_role false next)
level_judged scope (Directives member None) next = verdict (directive_fault next) (bare_role true next)
level_judged scope (Directives member (Some head)) next = role_judged (head_judged scope head true next) (bare_role true next)

-- a token
abbrev pub judged : Known → TokenShape → Result Role PlacedFault
judged all token = level_judged all.inner.scope all.inner.level (next_shape token)

-- ---- what becomes of a program

-- only its name is read
abbrev pub started : Prog → KnownHead
started program = record { program = program; waiting = None; seen = nothing_seen; ended = not (is_some (shape_of program).letters); count = 0; marks = marks_so_far program [] unplaced }

-- any number of words, or exactly one
abbrev pub mark_of : (many : Bool) → Mark
mark_of many = if many then Many else One

-- how it marks the word at its first place, by the letters that were read
abbrev pub first_mark : Prog → LettersSeen → Option Mark
first_mark Define seen = Some (mark_of seen.split)
first_mark Importas seen = Some (mark_of (seen.split || not seen.default))
first_mark Import seen = Some (mark_of (seen.split || not seen.default))
first_mark Forx seen = if seen.puts then Some One else None
first_mark Forstdin seen = if seen.puts then Some One else None
first_mark Forbacktickx seen = if seen.puts then Some One else None
first_mark Backtick seen = if seen.puts then Some One else None
first_mark _ seen = None

-- one key more, if it is marked
abbrev pub with_key : Member → (key : List ℕ) → Option Mark → Member
with_key member key None = member
with_key member key (Some mark) = record member { marked = member.marked ++ (key, mark) ∷ [] }

-- one place more is read, if one is left
abbrev pub counted : (places : List PlaceKind) → (count : ℕ) → ℕ
counted places count = if nat_lt count (length places) then suc count else count

-- something stands at its next place
abbrev pub placed : KnownHead → KnownHead
placed head = record head { count = counted (shape_of head.program).places head.count }

-- a word that is this to it
abbrev pub taken : KnownHead → Part → (text : List ℕ) → KnownHead
taken head Value text = record head { waiting = None }
taken head (OptionPart seen ended) text = record head { seen = both_seen head.seen seen; ended = ended }
taken head (Waiting seen letter) text = record head { seen = both_seen head.seen seen; waiting = Some letter }
taken head PlacePart text = placed (record head { marks = if is_first head then with_key head.marks text (first_mark head.program head.seen) else head.marks })
taken head (BlockPart kind) text = head

-- what all directives of a block mark
abbrev pub all_marks : Member → (current : Option KnownHead) → Member
all_marks member None = member
all_marks member (Some head) = both_members member head.marks

-- it marks the names of its block
abbrev pub marks_names : Prog → Bool
marks_names Multidefine = true
marks_names _ = false

-- it marks what the directives of its block do
abbrev pub marks_directives : Prog → Bool
marks_directives Multisubstitute = true
marks_directives _ = false

-- what a program marks once a block at one of its places is read
abbrev pub block_marks : Prog → Member → (block : KnownLevel) → Member
block_marks program marks (Names member) = if marks_names program then member else marks
block_marks program marks (Directives member current) = if marks_directives program then all_marks member current else marks
block_marks program marks block = marks

-- a block stands at its next place
abbrev pub with_block : KnownHead → (block : KnownLevel) → KnownHead
with_block head block = placed (record head { marks = block_marks head.program head.marks block })

-- ---- what becomes of a level

-- what a program marks that is whole is in force, if it marks something
abbrev pub entered : TestScope → Member → TestScope
entered scope member = if marks_nothing member then scope else scope_with scope member

-- a program or directive begins, and the one before it is whole
abbrev pub begun : Prog → Scoped → Scoped
begun program before = by before.level
  where
    by : KnownLevel → Scoped
    by (Program head) = record { level = Program (started program); scope = entered before.scope head.marks }
    by (Directives member current) = record before { level = Directives (all_marks member current) (Some (started program)) }
    by level = record before { level = Program (started program) }

-- a command begins in a chain, or goes on, and the program before it is whole
abbrev pub commanded : Scoped → Scoped
commanded before = by before.level
  where
    by : KnownLevel → Scoped
    by Fresh = record before { level = Items }
    by (Program head) = record { level = Items; scope = entered before.scope head.marks }
    by level = before

-- behind a token that is this: what is no program's own is one of a command
abbrev pub level_outside : Role → Scoped → Scoped
level_outside (role.Own part) outer = outer
level_outside is outer = commanded outer

-- a level with a word of its last program or directive
abbrev pub owned : KnownLevel → Part → (text : List ℕ) → KnownLevel
owned (Program head) part text = Program (taken head part text)
owned (Directives member (Some head)) part text = Directives member (Some (taken head part text))
owned level part text = level

-- with an item
abbrev pub with_item : (text : List ℕ) → Scoped → Scoped
with_item text before = by before.level
  where
    by : KnownLevel → Scoped
    by (Names member) = record before { level = Names (with_key member text (Some Many)) }
    by level = commanded before

-- a word, which is this
abbrev pub with_word : Role → (text : List ℕ) → Scoped → Scoped
with_word (role.Program program) text before = begun program before
with_word (role.Own part) text before = record before { level = owned before.level part text }
with_word role.Item text before = with_item text before
with_word is text before = before

-- an Open, which is this: the level that it begins
abbrev pub level_inside : Role → KnownLevel
level_inside (role.Own (BlockPart ProgramBlock)) = Fresh
level_inside (role.Own (BlockPart NameBlock)) = Names empty_member
level_inside (role.Own (BlockPart DirectiveBlock)) = Directives empty_member None
level_inside _ = Items

-- a level with this one closed in it
abbrev pub level_closed : (outer block : KnownLevel) → KnownLevel
level_closed (Program head) block = Program (with_block head block)
level_closed (Directives member (Some head)) block = Directives member (Some (with_block head block))
level_closed outer block = outer

-- a script with one more token, which is this
abbrev pub behind_as : Role → Known → TokenShape → Known
behind_as is all (Text text) = record all { inner = with_word is text all.inner }
behind_as is all Open =
    let outer = level_outside is all.inner in
    record { inner = record { level = level_inside is; scope = outer.scope }; around = outer ∷ all.around }
behind_as is all Close = behind_close all.inner all.around
  where
    behind_close : Scoped → List Scoped → Known
    behind_close inner [] = record { inner = inner; around = [] }
    behind_close inner (outer ∷ around) = record { inner = record outer { level = level_closed outer.level inner.level }; around = around }

-- a script with one more token, which is this; one that is wrong changes nothing
abbrev pub behind_judged : Result Role PlacedFault → Known → TokenShape → Known
behind_judged (Ok is) all token = behind_as is all token
behind_judged (Err found) all token = all

-- a script with one more token
abbrev pub behind : Known → TokenShape → Known
behind all token = behind_judged (judged all token) all token
