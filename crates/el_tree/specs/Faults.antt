-- What is wrong with the token after a beginning.
use Rattle.std.specs.Prelude.{ℕ, Bool, true, false, ◌&&◌, not, List, [], ◌∷◌, nat_lt, Option, None, Some, is_none, option_map, if◌then◌else◌}
use Rattle.std.specs.Bool.{then_some}
use Rattle.std.specs.List.{list_any}
use Rattle.el_words.specs.declared.prog.Prog.{Prog}
use Rattle.el_words.specs.declared.prog.Prog.TheVariants.{Loopwhilex, Forx, Forstdin, Forbacktickx}
use Rattle.el_words.specs.Prog.{program_named}
use Rattle.el_words.specs.Number.{number_of}
use Rattle.el_subst.specs.Parts.{Part, parts_of}
use Rattle.el_options.specs.declared.table.Opt.{Opt}
use Rattle.el_options.specs.declared.place.PlaceKind.{PlaceKind}
use Rattle.el_options.specs.declared.place.PlaceKind.TheVariants.{Name, Fixed, OptionalNumber, OptionalWord}
use Rattle.el_options.specs.Reading.{Letter, Reading, LettersRead, Flags, Last, Bad, Shown, Plain, Dashes, Letters, shown}
use Rattle.el_options.specs.Rules.{is_wrong_use, is_bad_number}
use Rattle.el_options.specs.Shapes.{shape_of, lacks_letter}
use Rattle.el_options.specs.Fronts.{options_of, is_directive, is_number_text}
use Rattle.el_tree.specs.declared.fault.Fault.{Fault}
use Rattle.el_tree.specs.declared.fault.Fault.TheVariants.{BlockMissing, BlockNotLiteral, OptionNotLiteral, NameNotLiteral, BadOption, BadNumber, BadDirective, ArgumentMissing, ManyWordsInOnePlace, ManyAfterValue, OptionFromValue}
use Rattle.el_tree.specs.declared.fault.PlacedFault.{PlacedFault}
use Rattle.el_tree.specs.declared.fault.PlacedFault.TheVariants.{At, Before}
use Rattle.el_tree.specs.Trees.{Places, unplaced}
use Rattle.el_tree.specs.OptionWords.{is_literal, letters_in}
use Rattle.el_tree.specs.Marks.{Member, has_many, puts_many, touches}
use Rattle.el_tree.specs.Beginnings.{Head, Current, Level, Chained, Listed, Named, Directed, Beginning, kinds_left, TestScope, scope_at, scope_within}

-- ---- the first of two, by kind

-- where several things are wrong with one token, the kind with the least number is told
abbrev pub rank : Fault → ℕ
rank BlockMissing = 0
rank BlockNotLiteral = 1
rank OptionNotLiteral = 2
rank NameNotLiteral = 3
rank BadOption = 4
rank BadNumber = 5
rank BadDirective = 6
rank ArgumentMissing = 7
rank ManyWordsInOnePlace = 8
rank ManyAfterValue = 9
rank OptionFromValue = 10

-- the kind, whichever token gives its line
abbrev pub fault_of : PlacedFault → Fault
fault_of (At fault) = fault
fault_of (Before fault) = fault

infixr 50 ◌or_else◌
-- of two faults the one whose kind comes first
abbrev pub ◌or_else◌ : Option PlacedFault → Option PlacedFault → Option PlacedFault
None or_else other = other
Some found or_else None = Some found
Some found or_else Some other = if nat_lt (rank (fault_of other)) (rank (fault_of found)) then Some other else Some found

-- the fault, where this holds
abbrev pub where_true : Bool → PlacedFault → Option PlacedFault
where_true holds found = then_some holds found

-- ---- the next token

-- no token is left, or the open level is closed; a word; an Open
pub data Next : Type 0 where
  Over : Next
  Text : List ℕ → Next
  Group : Next

-- ---- names and directives

-- a name or a block of names, where literal words alone may stand
abbrev pub name_fault : Next → Option PlacedFault
name_fault Over = None
name_fault (Text text) = where_true (not (is_literal text)) (At NameNotLiteral)
name_fault Group = Some (At NameNotLiteral)

-- a word names a program that may be a directive; one that names no program doesn't
abbrev pub names_directive : Option Prog → Bool
names_directive None = false
names_directive (Some program) = is_directive program

-- where a directive may begin
abbrev pub directive_fault : Next → Option PlacedFault
directive_fault Over = None
directive_fault (Text text) = where_true (not (names_directive (program_named text))) (At BadDirective)
directive_fault Group = Some (At BadDirective)

-- ---- places

-- the test of a fixed place: what `keeps_one` refuses, by its name
abbrev pub place_fault : (touched : Bool) → List Member → List Part → Option Fault
place_fault touched [] parts = None
place_fault true (member ∷ members) parts = if has_many member then Some ManyAfterValue else place_fault true members parts
place_fault false (member ∷ members) parts = if list_any (puts_many member) parts then Some ManyWordsInOnePlace else place_fault (list_any (touches member) parts) members parts

-- a word at a fixed place; without a scope nothing is tested
abbrev pub scope_fault : TestScope → (text : List ℕ) → Option PlacedFault
scope_fault None text = None
scope_fault (Some members) text = option_map At (place_fault false members (parts_of text))

-- a loop, whose body may not be missing
abbrev pub is_loop : Prog → Bool
is_loop Loopwhilex = true
is_loop Forx = true
is_loop Forstdin = true
is_loop Forbacktickx = true
is_loop _ = false

-- behind the places: in directives the next one begins, and a loop's body may be missing
abbrev pub rest_fault : Prog → (in_directives : Bool) → Next → Option PlacedFault
rest_fault program true next = directive_fault next
rest_fault program false Over = where_true (is_loop program) (Before ArgumentMissing)
rest_fault program false next = None

-- where a block must stand
abbrev pub block_fault : Next → Option PlacedFault
block_fault Over = Some (Before BlockMissing)
block_fault (Text text) = Some (At (if is_literal text then BlockMissing else BlockNotLiteral))
block_fault Group = None

-- where a number may stand a word must be literal, and one of digits must be of 64 bits
abbrev pub number_fault : Next → Option PlacedFault
number_fault (Text text) = where_true (not (is_literal text)) (At OptionNotLiteral) or_else where_true (is_number_text text && is_none (number_of text)) (At BadNumber)
number_fault _ = None

-- at the next place
abbrev pub kind_fault : TestScope → Prog → (in_directives : Bool) → List PlaceKind → Next → Option PlacedFault
kind_fault scope program in_directives [] next = rest_fault program in_directives next
kind_fault scope program in_directives (Name ∷ kinds) Over = Some (Before ArgumentMissing)
kind_fault scope program in_directives (Name ∷ kinds) next = name_fault next
kind_fault scope program in_directives (Fixed ∷ kinds) Over = Some (Before ArgumentMissing)
kind_fault scope program in_directives (Fixed ∷ kinds) (Text text) = scope_fault scope text
kind_fault scope program in_directives (Fixed ∷ kinds) Group = Some (At ManyWordsInOnePlace)
kind_fault scope program in_directives (OptionalWord ∷ kinds) Over = None
kind_fault scope program in_directives (OptionalWord ∷ kinds) (Text text) = scope_fault scope text
kind_fault scope program in_directives (OptionalWord ∷ kinds) Group = Some (At ManyWordsInOnePlace)
kind_fault scope program in_directives (OptionalNumber ∷ kinds) next = number_fault next
kind_fault scope program in_directives (_ ∷ kinds) next = block_fault next

-- ---- options

-- the text has no bytes
abbrev pub is_empty : List ℕ → Bool
is_empty [] = true
is_empty (byte ∷ bytes) = false

-- a word that is taken as an option
abbrev pub option_fault : Prog → (text : List ℕ) → Shown → Option PlacedFault
option_fault program text Plain = None
option_fault program text Dashes = None
option_fault program text (Letters (Flags letters)) = where_true (not (is_literal text)) (At OptionNotLiteral)
option_fault program text (Letters (Bad letter)) = where_true (not (is_literal text)) (At OptionNotLiteral) or_else Some (At BadOption)
option_fault program text (Letters (Last flags letter value)) =
    where_true (not (is_literal text)) (At OptionNotLiteral) or_else where_true (not (is_empty value) && is_bad_number ((shape_of program).rule letter) value) (At BadNumber)

-- the next token as the value of a letter
abbrev pub value_fault : Prog → (letter : ℕ) → Next → Option PlacedFault
value_fault program letter Over = Some (Before BadOption)
value_fault program letter (Text text) =
    where_true (not (is_literal text)) (At OptionNotLiteral)
    or_else (where_true (is_wrong_use ((shape_of program).rule letter) text) (Before BadOption) or_else where_true (is_bad_number ((shape_of program).rule letter) text) (At BadNumber))
value_fault program letter Group = Some (At OptionNotLiteral)

-- what the next token is where options are read; a block or the end is no option
abbrev pub shown_by : Option (List Opt) → Next → Shown
shown_by (Some opts) (Text text) = shown opts text
shown_by _ next = Plain

-- the first token that is no option, where no `--` was read
abbrev pub unended_fault : Option (List Opt) → (ended : Bool) → Next → Option PlacedFault
unended_fault (Some opts) false (Text text) = where_true (not (is_literal text)) (At OptionFromValue)
unended_fault _ ended next = None

-- the next word; empty where there is none
abbrev pub text_in : Next → List ℕ
text_in (Text text) = text
text_in _ = []

-- where options are read: an option word, or the first token that is none
abbrev pub options_fault : Prog → List Letter → (ended : Bool) → Shown → Next → (place : Option PlacedFault) → Option PlacedFault
options_fault program letters false (Letters cluster) next place = option_fault program (text_in next) (Letters cluster)
options_fault program letters false Dashes next place = None
options_fault program letters ended _ next place =
    where_true (lacks_letter (shape_of program) letters) (Before BadOption) or_else (place or_else unended_fault (shape_of program).letters ended next)

-- the letter that waits for its value
abbrev pub waiting_letter : Shown → ℕ
waiting_letter (Letters (Last flags letter value)) = letter
waiting_letter _ = 0

-- behind no place yet
abbrev pub is_unplaced : Places → Bool
is_unplaced unplaced = true
is_unplaced _ = false

-- `--` was read
abbrev pub ends_in : Reading → Bool
ends_in (LettersRead letters used rest ended) = ended
ends_in _ = false

-- ---- all of it

-- in a program or directive: at the value that a letter waits for, at its options, or at its next place
abbrev pub head_fault : TestScope → Head → (waiting : Option (List ℕ)) → (in_directives : Bool) → Next → Option PlacedFault
head_fault scope head (Some text) in_directives next = value_fault head.program (waiting_letter (shown_by (shape_of head.program).letters (Text text))) next
head_fault scope head None in_directives next =
    let read = options_of (shape_of head.program).letters head.options in
    let place = kind_fault scope head.program in_directives (kinds_left head) next in
    if is_unplaced head.places then options_fault head.program (letters_in read) (ends_in read) (shown_by (shape_of head.program).letters next) next place else place

-- in a level, where this scope is in force
abbrev pub level_fault : TestScope → Level → Next → Option PlacedFault
level_fault scope (Chained nodes (Current head)) next = head_fault scope head head.waiting false next
level_fault scope (Chained nodes _) next = None
level_fault scope (Listed items) next = None
level_fault scope (Named names) next = name_fault next
level_fault scope (Directed directives None) next = directive_fault next
level_fault scope (Directed directives (Some head)) next = head_fault scope head head.waiting true next

-- what is wrong with the token after a beginning, where this is the scope of the script
abbrev pub fault_after : TestScope → Beginning → Next → Option PlacedFault
fault_after scope beginning next = level_fault (scope_at (scope_within scope beginning.around) beginning.level) beginning.level next
