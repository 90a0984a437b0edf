-- A trace as lines for people: each call with its number and its answer, and how the run ended.
use Rattle.el_room.specs.Vocabulary.{decimal, Event, Start, Wait, Opened, Pipe, Feed, Write, Close, Enter, Handle, PipeEnds, Mode, Pid, Ended, Exited, Killed, Fault, StartFault, NotFound, NotStartable}
use Rattle.std.specs.Prelude.{ℕ, ◌+◌, ◌==◌, ◌||◌, nat_lt, List, [], ◌∷◌, ◌++◌, length, Option, None, Some, Result, Ok, Err, codes, if◌then◌else◌}
use Rattle.std.specs.FinMap as map
use Rattle.el_world.specs.declared.event.Event.TheVariants.{Read}
use Rattle.el_world.specs.declared.event.Mode.TheVariants as modes
use Rattle.el_world.specs.declared.event.StartFault.TheVariants.{Failed, NoMemory}
use Rattle.el_record.specs.declared.trace.RunEnd.{RunEnd}
use Rattle.el_record.specs.declared.trace.RunEnd.TheVariants.{Status, Spent}

-- ---- words and bytes

-- a control byte: a backslash (92), its number and a semicolon (59)
abbrev pub control_shown : (byte : ℕ) → List ℕ → List ℕ
control_shown byte rest = 92 ∷ (decimal byte ++ 59 ∷ rest)

-- a newline (10) is `\n`; a backslash and a quote (34) have a backslash before them; so is another control byte; every other byte stands for
-- itself
abbrev pub byte_shown : (byte : ℕ) → List ℕ → List ℕ
byte_shown byte rest =
    if byte == 10 then 92 ∷ 110 ∷ rest
    else if byte == 92 || byte == 34 then 92 ∷ byte ∷ rest
    else if nat_lt byte 32 || byte == 127 then control_shown byte rest
    else byte ∷ rest

-- bytes, one behind the other
abbrev pub bytes_shown : List ℕ → List ℕ → List ℕ
bytes_shown [] rest = rest
bytes_shown (byte ∷ bytes) rest = byte_shown byte (bytes_shown bytes rest)

-- bytes in quotes
abbrev pub quoted : List ℕ → List ℕ → List ℕ
quoted bytes rest = 34 ∷ bytes_shown bytes (34 ∷ rest)

-- a comma before each
abbrev pub others_shown : List (List ℕ) → List ℕ → List ℕ
others_shown [] rest = rest
others_shown (word ∷ words) rest = codes ", " ++ bytes_shown word (others_shown words rest)

-- words with commas between them
abbrev pub words_shown : List (List ℕ) → List ℕ → List ℕ
words_shown [] rest = rest
words_shown (word ∷ words) rest = bytes_shown word (others_shown words rest)

-- ---- what a process is started with

-- `, NAME=VALUE`
abbrev pub variable_shown : (name value : List ℕ) → List ℕ → List ℕ
variable_shown name value rest = codes ", " ++ bytes_shown name (61 ∷ bytes_shown value rest)

-- so is each
abbrev pub pairs_shown : List (List ℕ × List ℕ) → List ℕ → List ℕ
pairs_shown [] rest = rest
pairs_shown (pair ∷ pairs) rest = variable_shown pair.0 pair.1 (pairs_shown pairs rest)

-- `, N=H`
abbrev pub other_end_shown : (own : ℕ) → Handle → List ℕ → List ℕ
other_end_shown own handle rest = codes ", " ++ (decimal own ++ 61 ∷ (decimal handle.number ++ rest))

-- `, N=-`
abbrev pub no_end_shown : (own : ℕ) → List ℕ → List ℕ
no_end_shown own rest = codes ", " ++ (decimal own ++ (codes "=-" ++ rest))

-- the same where a descriptor isn't the process's own of this number, and `, N=-` for none
abbrev pub end_shown : (own : ℕ) → Option Handle → List ℕ → List ℕ
end_shown own None rest = no_end_shown own rest
end_shown own (Some handle) rest = if handle.number == own then rest else other_end_shown own handle rest

abbrev pub ends_shown : (own : ℕ) → List (Option Handle) → List ℕ → List ℕ
ends_shown own [] rest = rest
ends_shown own (end ∷ ends) rest = end_shown own end (ends_shown (own + 1) ends rest)

-- ---- answers

-- a value, or a failure
abbrev pub or_failed : {T : Type 0} → (T → List ℕ → List ℕ) → Result T Fault → List ℕ → List ℕ
or_failed shown (Ok value) rest = shown value rest
or_failed shown (Err fault) rest = codes "failed" ++ rest

abbrev pub started_shown : Result Pid StartFault → List ℕ → List ℕ
started_shown (Ok pid) rest = codes " as " ++ (decimal pid.number ++ rest)
started_shown (Err NotFound) rest = codes ": not found" ++ rest
started_shown (Err NotStartable) rest = codes ": not startable" ++ rest
started_shown (Err Failed) rest = codes ": failed" ++ rest
started_shown (Err NoMemory) rest = codes ": failed" ++ rest

abbrev pub ended_shown : Ended → List ℕ → List ℕ
ended_shown (Exited code) rest = decimal code ++ rest
ended_shown (Killed signal) rest = codes "signal " ++ (decimal signal ++ rest)

abbrev pub handle_shown : Handle → List ℕ → List ℕ
handle_shown handle rest = decimal handle.number ++ rest

abbrev pub pipe_shown : PipeEnds → List ℕ → List ℕ
pipe_shown ends rest = decimal ends.reader.number ++ (codes ", " ++ (decimal ends.writer.number ++ rest))

abbrev pub done_shown : Unit {0} → List ℕ → List ℕ
done_shown done rest = codes "done" ++ rest

abbrev pub mode_shown : Mode → List ℕ
mode_shown modes.Read = codes "reading"
mode_shown modes.Write = codes "writing"
mode_shown modes.Update = codes "update"
mode_shown modes.Append = codes "appending"
mode_shown modes.AppendOld = codes "appending to it"
mode_shown modes.Create = codes "creation"

-- ---- lines

-- an open, and a question for a directory, with their answers
abbrev pub opened_shown : (path : List ℕ) → Mode → Result Handle Fault → List ℕ → List ℕ
opened_shown path mode answer rest = codes "open " ++ bytes_shown path (codes " for " ++ (mode_shown mode ++ (codes ": " ++ or_failed handle_shown answer rest)))

abbrev pub entered_shown : (path : List ℕ) → Result (List ℕ) Fault → List ℕ → List ℕ
entered_shown path answer rest = codes "enter " ++ bytes_shown path (codes ": " ++ or_failed bytes_shown answer rest)

-- a call with its answer
abbrev pub event_shown : Event → List ℕ → List ℕ
event_shown (Start words env dir ends answer) rest = codes "start [" ++ words_shown words (codes "] in " ++ bytes_shown dir (pairs_shown (map.entries env) (ends_shown 0 ends (started_shown answer rest))))
event_shown (Wait pid answer) rest = codes "wait " ++ (decimal pid.number ++ (codes ": " ++ or_failed ended_shown answer rest))
event_shown (Opened dir path mode answer) rest = opened_shown path mode answer rest
event_shown (Pipe answer) rest = codes "pipe: " ++ or_failed pipe_shown answer rest
event_shown (Feed bytes answer) rest = codes "feed " ++ quoted bytes (codes ": " ++ or_failed handle_shown answer rest)
event_shown (Read handle answer) rest = codes "read " ++ (decimal handle.number ++ (codes ": " ++ or_failed quoted answer rest))
event_shown (Write handle bytes answer) rest = codes "write " ++ (decimal handle.number ++ 32 ∷ quoted bytes (codes ": " ++ or_failed done_shown answer rest))
event_shown (Close handle) rest = codes "close " ++ (decimal handle.number ++ rest)
event_shown (Enter dir path answer) rest = entered_shown path answer rest

-- its number, a blank (32), the call and a newline
abbrev pub shown_event : (number : ℕ) → Event → List ℕ → List ℕ
shown_event number event rest = decimal number ++ 32 ∷ event_shown event (10 ∷ rest)

-- such lines, numbered on
abbrev pub shown_events : (number : ℕ) → List Event → List ℕ → List ℕ
shown_events number [] rest = rest
shown_events number (event ∷ events) rest = shown_event number event (shown_events (number + 1) events rest)

-- how the run ended
abbrev pub end_line : RunEnd → List ℕ → List ℕ
end_line (Status code) rest = codes " end: " ++ (decimal code ++ 10 ∷ rest)
end_line Spent rest = codes " end: spent" ++ 10 ∷ rest

-- a whole trace; the end has the number behind the last
abbrev pub shown_trace : List Event → RunEnd → List ℕ
shown_trace events ending = shown_events 0 events (decimal (length events) ++ end_line ending [])
