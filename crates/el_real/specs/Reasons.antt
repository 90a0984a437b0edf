-- Why a call failed, in a line that is written before its message.
use Rattle.std.specs.Prelude.{◌≡◌, ◌⊎◌, ℕ, ◌-◌, Bool, ◌||◌, ◌==◌, Option, List, [], ◌++◌, length, take, drop, bytes_eq, Result, Ok, Err, if◌then◌else◌, codes}
use Rattle.el_world.specs.declared.event.Pid.{Pid}
use Rattle.el_world.specs.declared.event.StartFault.{StartFault}
use Rattle.el_world.specs.declared.event.StartFault.TheVariants.{NotFound, NotStartable}
use Rattle.el_world.specs.declared.event.Handle.{Handle}
use Rattle.el_real.specs.Shown.{shown, plain}
use Rattle.el_real.specs.Starts.{command_fault_of}
use Rattle.el_real.specs.Unstartable.{file_named, directory_line, IsUnfoundLine}
use Rattle.el_real.specs.declared.unstarted.Unstarted.{Unstarted}
use Rattle.el_real.specs.declared.unstarted.Unstarted.TheVariants.{Lacking, NoDirectory, Refused as RefusedStart}
use Rattle.el_real.specs.declared.lack.Lack.{Lack}
use Rattle.el_real.specs.declared.lack.Lack.TheVariants.{Refused, NotText, Failed, NoMemory}
use Rattle.el_real.specs.declared.reason.Call.{Call}
use Rattle.el_real.specs.declared.reason.Call.TheVariants.{Start, Wait, Open, Pipe, Feed, Read, Write, Output, Enter, Directory}

-- how the message of a failed call ends
unfoldable pub failed_text : List ℕ
failed_text = codes ": system call failed\n"

-- how the message of a command ends that the system doesn't run
unfoldable pub unstartable_text : List ℕ
unstartable_text = codes ": command not startable\n"

-- how the message of a command ends that isn't found
unfoldable pub unfound_text : List ℕ
unfound_text = codes ": command not found\n"

-- what is said where something that the system is to be told isn't UTF-8
unfoldable pub not_text : List ℕ
not_text = codes "bytes that aren't UTF-8"

-- the word for a call
unfoldable pub call_word : Call → List ℕ
call_word Start = codes "start"
call_word Wait = codes "wait"
call_word Open = codes "open"
call_word Pipe = codes "pipe"
call_word Feed = codes "temporary file in"
call_word Read = codes "read"
call_word Write = codes "write"
call_word Output = codes "write"
call_word Enter = codes "cd"
call_word Directory = codes "current directory"

-- a name behind that word; none where it is empty
abbrev pub named : List ℕ → List ℕ
named [] = []
named name = codes " " ++ shown name

-- the line: the call, its name and what the system said, as it is shown
abbrev pub reason_line : Call → (name text : List ℕ) → List ℕ
reason_line call name text = codes "execline: " ++ call_word call ++ named name ++ codes ": " ++ plain text ++ codes "\n"

-- the line tells of a call with this name what was wanting; it is empty where the system said nothing
abbrev pub IsReason : Call → (name : List ℕ) → Lack → (line : List ℕ) → Type 0
IsReason call name (Refused number) line = (text : List ℕ) × (line ≡ reason_line call name text)
IsReason call name NotText line = line ≡ reason_line call name not_text
IsReason call name Failed line = line ≡ []
IsReason call name NoMemory line = line ≡ []

-- the line is kept after a call that had no answer, unless there is no memory for it
abbrev pub IsKept : Call → (name : List ℕ) → Lack → (line : List ℕ) → Type 0
IsKept call name lack line = (line ≡ []) ⊎ IsReason call name lack line

-- and after any other call there is none
abbrev pub IsKeptOf : {T : Type 0} → Call → (name : List ℕ) → Result T Lack → (line : List ℕ) → Type 0
IsKeptOf call name (Ok value) line = line ≡ []
IsKeptOf call name (Err lack) line = IsKept call name lack line

-- the line kept of a command that the system doesn't run, by what its start answers: why it isn't found; that its name is that of a directory, or what
-- the system said; and what the system said of a failure
abbrev pub IsKeptOfCommand : StartFault → (path : Option (List ℕ)) → (dir program : List ℕ) → Lack → (line : List ℕ) → Type 0
IsKeptOfCommand NotFound path dir program lack line = (line ≡ []) ⊎ IsUnfoundLine path dir program line
IsKeptOfCommand NotStartable path dir program lack line = IsKept Start program lack line ⊎ (line ≡ directory_line (file_named dir program))
IsKeptOfCommand fault path dir program lack line = IsKept Start program lack line

-- the line kept of what wasn't started: this program in this directory, with this `PATH`
abbrev pub IsKeptOfUnstarted : (path : Option (List ℕ)) → (dir program : List ℕ) → Unstarted → (line : List ℕ) → Type 0
IsKeptOfUnstarted path dir program (Lacking lack) line = IsKept Start program lack line
IsKeptOfUnstarted path dir program (NoDirectory lack) line = IsKept Enter dir lack line
IsKeptOfUnstarted path dir program (RefusedStart lack) line = IsKeptOfCommand (command_fault_of lack) path dir program lack line

-- the line kept after a start
abbrev pub IsKeptOfStart : (path : Option (List ℕ)) → (dir program : List ℕ) → Result Pid Unstarted → (line : List ℕ) → Type 0
IsKeptOfStart path dir program (Ok pid) line = line ≡ []
IsKeptOfStart path dir program (Err unstarted) line = IsKeptOfUnstarted path dir program unstarted line

-- the bytes end with this text
abbrev pub ends_with : (bytes text : List ℕ) → Bool
ends_with bytes text = bytes_eq (drop (length bytes - length text) bytes) text

-- the bytes are the message of a failed call, or of a command that doesn't run
abbrev pub tells_of_call : (bytes : List ℕ) → Bool
tells_of_call bytes = ends_with bytes failed_text || (ends_with bytes unstartable_text || ends_with bytes unfound_text)

-- the lines that are due before a write: why the last call failed, if these bytes tell of that, and then what the bytes are about
abbrev pub line_before : (reason hint bytes : List ℕ) → List ℕ
line_before reason hint bytes = (if tells_of_call bytes then reason else []) ++ hint

-- where they go: to the same handle, or to standard error if the bytes are output and no message
abbrev pub place_before : (is_of_output : Bool) → Handle → Handle
place_before is_of_output handle = if is_of_output then record { number = 2 } else handle

-- a write to the process's own output is a call by itself
abbrev pub write_call : Handle → Call
write_call handle = if handle.number == 1 then Output else Write

-- the line that is due at the end of the process: why the last call failed, if that was to put something out
abbrev pub line_at_end : Call → (reason : List ℕ) → List ℕ
line_at_end Output reason = reason
line_at_end call reason = []

-- an error's text as the library shows it, without what it writes behind it
abbrev pub without_number : (shown number : List ℕ) → List ℕ
without_number shown number = if ends_with shown number then take (length shown - length number) shown else shown
