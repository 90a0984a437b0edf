-- What comes next, as the code tells of it, and what it is, where it stands: what is judged once, and what is made of it follows.
use Rattle.el_script.specs.Vocabulary.{PlaceKind, Letter, flag, Flags, Last, Shown, Dashes, Letters, Plain, Next, Over, shown_by, Prog, program_named, TokenShape, ProgramBlock, NameBlock, DirectiveBlock, shape_of, Head, Fresh, Current, Level, Chained, Directed, Beginning, goes_on, next_shape}
use Rattle.std.specs.Prelude.{ℕ, Bool, true, false, List, [], Option, None, Some, if◌then◌else◌, ◌||◌, ◌==◌, ◌∷◌, map}
use Rattle.el_tree.specs.Faults.{Text as NextText, Group}
use Rattle.el_reader.specs.declared.next.Next.{Next as NextEnum}
use Rattle.el_reader.specs.declared.next.Next.TheVariants as coming
use Rattle.el_reader.specs.declared.seen.LettersSeen.{LettersSeen}
use Rattle.el_options.specs.declared.place.PlaceKind.TheVariants.{OptionalNumber, ValueBlock}
use Rattle.el_options.specs.Fronts.{is_number_text}
use Rattle.el_tree.specs.Beginnings.{kinds_left}
use Rattle.el_tree.specs.Steps.{reads_options}
use Rattle.el_reader.specs.declared.role.Role.{Role}
use Rattle.el_reader.specs.declared.role.Role.TheVariants as role
use Rattle.el_reader.specs.declared.role.Part.{Part}
use Rattle.el_reader.specs.declared.role.Part.TheVariants.{Value, Option as OptionPart, Waiting, Place as PlacePart, Block as BlockPart}

-- ---- what comes next

-- what comes next, as the code tells of it
abbrev pub next_told : NextEnum → Next
next_told coming.Over = Over
next_told (coming.Text text) = NextText text.now
next_told coming.Group = Group

-- what must stand at the next place; none behind the last one
abbrev pub first_kind : List PlaceKind → Option PlaceKind
first_kind [] = None
first_kind (kind ∷ kinds) = Some kind

-- ---- letters

-- no letter was read
abbrev pub nothing_seen : LettersSeen
nothing_seen = record { any = false; split = false; default = false; puts = false }

-- `s` (115), `i` (105) or `D` (68), and `E` (69)
abbrev pub seen_letter : ℕ → LettersSeen
seen_letter letter = record { any = true; split = letter == 115; default = (letter == 105) || (letter == 68); puts = letter == 69 }

-- what two of them say together
abbrev pub both_seen : LettersSeen → LettersSeen → LettersSeen
both_seen one more = record { any = one.any || more.any; split = one.split || more.split; default = one.default || more.default; puts = one.puts || more.puts }

-- what all letters say together
abbrev pub seen_of : List Letter → LettersSeen
seen_of [] = nothing_seen
seen_of (read ∷ letters) = both_seen (seen_letter read.letter) (seen_of letters)

-- what an option word says; a bad letter says nothing
abbrev pub seen_in : Shown → LettersSeen
seen_in (Letters (Flags letters)) = seen_of (map flag letters)
seen_in (Letters (Last before letter value)) = both_seen (seen_of (map flag before)) (seen_letter letter)
seen_in _ = nothing_seen

-- it ends the options
abbrev pub ends_options : Shown → Bool
ends_options Dashes = true
ends_options _ = false

-- ---- what comes next, to a program

-- at the next place, where this must stand, if anything; none of what isn't its own
abbrev pub part_at : Option PlaceKind → Next → Option Part
part_at (Some OptionalNumber) (NextText text) = if is_number_text text then Some PlacePart else None
part_at (Some kind) (NextText text) = Some PlacePart
part_at (Some ProgramBlock) Group = Some (BlockPart ProgramBlock)
part_at (Some ValueBlock) Group = Some (BlockPart ValueBlock)
part_at (Some NameBlock) Group = Some (BlockPart NameBlock)
part_at (Some DirectiveBlock) Group = Some (BlockPart DirectiveBlock)
part_at _ _ = None

-- where options are read
abbrev pub part_shown : Shown → (else_part : Option Part) → Option Part
part_shown Plain else_part = else_part
part_shown (Letters (Last before letter [])) else_part = Some (Waiting (seen_in (Letters (Last before letter []))) letter)
part_shown read else_part = Some (OptionPart (seen_in read) (ends_options read))

-- to a program, of which an option word may wait for its value
abbrev pub part_for : Head → (waiting : Option (List ℕ)) → Next → Option Part
part_for head (Some option) next = Some Value
part_for head None next =
    let place = part_at (first_kind (kinds_left head)) next in if reads_options head then part_shown (shown_by (shape_of head.program).letters next) place else place

-- ---- a token in a level

-- a word begins the program that it names, or else a command
abbrev pub begins : Option Prog → Role
begins None = role.Item
begins (Some program) = role.Program program

-- what comes next where it is no program's own, and a word may begin a program or not
abbrev pub bare_role : (may_begin : Bool) → Next → Role
bare_role may_begin Over = role.Close
bare_role may_begin (NextText text) = begins (if may_begin then program_named text else None)
bare_role may_begin Group = role.Group

-- a token by what it is to the program before it, or else this
abbrev pub role_by : Option Part → (behind : Role) → Role
role_by None behind = behind
role_by (Some part) behind = role.Own part

-- what comes next in a level
abbrev pub role_in : Level → Next → Role
role_in (Chained nodes Fresh) next = bare_role true next
role_in (Chained nodes (Current head)) next = role_by (part_for head head.waiting next) (bare_role (goes_on head.program) next)
role_in (Directed directives None) next = bare_role true next
role_in (Directed directives (Some head)) next = role_by (part_for head head.waiting next) (bare_role true next)
role_in _ next = bare_role false next

-- a token behind a beginning
abbrev pub role_of : Beginning → TokenShape → Role
role_of beginning token = role_in beginning.level (next_shape token)
