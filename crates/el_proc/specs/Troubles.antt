-- What a process complains of, and how.
use Rattle.std.specs.Prelude.{◌≡◌, ℕ, List, [], ◌∷◌, ◌++◌, Option, None, Some, is_some, true, codes}
use Rattle.std.specs.Fmt.{decimal}
use Rattle.el_world.specs.declared.event.Handle.{Handle}
use Rattle.el_world.specs.declared.finish.Finish.{Finish}
use Rattle.el_world.specs.declared.finish.Finish.TheVariants.{Status, Spent, NoMemory}
use Rattle.el_world.specs.World.{Seen}
use Rattle.el_world.specs.Acts.{Act, gives, and_do, write_act}
use Rattle.el_world.specs.Plans.{ends, and_go_on}
use Rattle.el_world.specs.Runs.{Done}
use Rattle.el_world.specs.States.{State, Task}
use Rattle.el_world.specs.States as end
use Rattle.el_proc.specs.Descriptors.{held_in}
use Rattle.el_proc.specs.declared.next.Next.{Next}
use Rattle.el_proc.specs.declared.next.Next.TheVariants.{Go, End, Spent as NextSpent, NoMemory as NextNoMemory}
use Rattle.el_proc.specs.declared.kind.Kind.{Kind}
use Rattle.el_proc.specs.declared.kind.Kind.TheVariants.{TooLong, Nul, EndAfterBackslash, BadNumber as BadScriptNumber, ByteTooLarge, NulEscape, OpenQuote, StrayClose, TooDeep, Unclosed, BlockMissing, BlockNotLiteral, OptionNotLiteral, NameNotLiteral, BadOption, BadDirective as BadScriptDirective, ArgumentMissing, ManyWordsInOnePlace, ManyAfterValue, OptionFromValue}
use Rattle.el_proc.specs.declared.trouble.TheConstants.{WRONG_USE, FAILED_CALL, NOT_STARTABLE, NOT_FOUND}
use Rattle.el_proc.specs.declared.trouble.Trouble.{Trouble}
use Rattle.el_proc.specs.declared.trouble.Trouble.TheVariants.{Unknown, NoValue, Usage, BadNumber, Missing, Unterminated, Unquoted, BadName, BadDirective, OutOfRange, NotSet, NoFrame, FrameTooDeep, BadNetstring, BadLine, NulInput, UnknownProgram, Script, NotOpen, Failed, NotStartable, NotFound}

-- the name of a script's fault
unfoldable pub kind_text : Kind → List ℕ
kind_text TooLong = codes "TooLong"
kind_text Nul = codes "Nul"
kind_text EndAfterBackslash = codes "EndAfterBackslash"
kind_text BadScriptNumber = codes "BadNumber"
kind_text ByteTooLarge = codes "ByteTooLarge"
kind_text NulEscape = codes "NulEscape"
kind_text OpenQuote = codes "OpenQuote"
kind_text StrayClose = codes "StrayClose"
kind_text TooDeep = codes "TooDeep"
kind_text Unclosed = codes "Unclosed"
kind_text BlockMissing = codes "BlockMissing"
kind_text BlockNotLiteral = codes "BlockNotLiteral"
kind_text OptionNotLiteral = codes "OptionNotLiteral"
kind_text NameNotLiteral = codes "NameNotLiteral"
kind_text BadOption = codes "BadOption"
kind_text BadScriptDirective = codes "BadDirective"
kind_text ArgumentMissing = codes "ArgumentMissing"
kind_text ManyWordsInOnePlace = codes "ManyWordsInOnePlace"
kind_text ManyAfterValue = codes "ManyAfterValue"
kind_text OptionFromValue = codes "OptionFromValue"

-- the text of a trouble
unfoldable pub trouble_text : Trouble → List ℕ
trouble_text (Unknown letter) = codes "unknown option -" ++ letter ∷ []
trouble_text (NoValue letter) = codes "option -" ++ letter ∷ [] ++ codes " needs a value"
trouble_text Usage = codes "wrong usage"
trouble_text BadNumber = codes "bad number"
trouble_text Missing = codes "argument missing"
trouble_text Unterminated = codes "unterminated block"
trouble_text Unquoted = codes "unquoted word in block"
trouble_text BadName = codes "bad variable name"
trouble_text BadDirective = codes "bad directive"
trouble_text OutOfRange = codes "descriptor out of range"
trouble_text NotSet = codes "variable not set"
trouble_text NoFrame = codes "no positional parameters"
trouble_text FrameTooDeep = codes "frame too deep"
trouble_text BadNetstring = codes "bad netstring"
trouble_text BadLine = codes "bad line"
trouble_text NulInput = codes "NUL in input"
trouble_text UnknownProgram = codes "unknown program"
trouble_text (Script line kind) = codes "line " ++ decimal line ++ codes ": " ++ kind_text kind
trouble_text NotOpen = codes "descriptor not open"
trouble_text Failed = codes "system call failed"
trouble_text NotStartable = codes "command not startable"
trouble_text NotFound = codes "command not found"

-- the status with which a process ends after it
unfoldable pub trouble_status : Trouble → ℕ
trouble_status NotOpen = FAILED_CALL
trouble_status Failed = FAILED_CALL
trouble_status NotStartable = NOT_STARTABLE
trouble_status NotFound = NOT_FOUND
trouble_status _ = WRONG_USE

-- a message: a name, a colon and a space, the text, and a newline (10)
unfoldable pub message : (name : List ℕ) → Trouble → List ℕ
message name trouble = name ++ codes ": " ++ trouble_text trouble ++ 10 ∷ []

-- one write to a handle, whatever comes of it; none where there is no handle
abbrev pub written_to : Option Handle → List ℕ → Act (Unit {0})
written_to None text = gives tt
written_to (Some handle) text = and_do (write_act handle text) (λ _. gives tt)

-- one write of the message to number 2, where it holds a handle, whatever comes of it
unfoldable pub complaint : (fds : List (Option Handle)) → (name : List ℕ) → Trouble → Act (Unit {0})
complaint fds name trouble = written_to (held_in fds 2) (message name trouble)

-- the message, and the end with the trouble's status
unfoldable pub refused : {A : Type 0} → State → (name : List ℕ) → Trouble → Task A
refused state name trouble = and_go_on (complaint state.fds name trouble) (λ _. ends (end.Status (trouble_status trouble) state))

-- a message is due where one is told: number 2 holds a handle
abbrev pub IsHeard : (fds : List (Option Handle)) → Type 0
IsHeard fds = is_some (held_in fds 2) ≡ true

-- ---- how the code tells of it

-- whether the message was written, by how the code ends the process; want of memory cuts it off
abbrev pub told_by : Finish → Option (Unit {0})
told_by (Status code) = Some tt
told_by Spent = None
told_by NoMemory = None

-- the end has the trouble's status, unless memory was wanting
abbrev pub IsEndOf : Trouble → Finish → Type 0
IsEndOf trouble (Status code) = code ≡ trouble_status trouble
IsEndOf trouble Spent = ⊥
IsEndOf trouble NoMemory = Unit {0}

-- between two states of a world the message was written, and the process is to end so
pub record Refuses (old new : Seen) (fds : List (Option Handle)) (name : List ℕ) (trouble : Trouble) (finish : Finish) : Type 0 where
  pub done : Done old new (complaint fds name trouble) (told_by finish)
  pub ending : IsEndOf trouble finish

-- the finish that a program's answer tells of; a program that goes on has none
abbrev pub finish_in : Next → Option Finish
finish_in Go = None
finish_in (End code) = Some (Status code)
finish_in NextSpent = Some Spent
finish_in NextNoMemory = Some NoMemory
