-- What a reader answers. Only the code's contracts need it.
use Rattle.std.specs.Prelude.{◌≡◌, ℕ, ◌==◌, Bool, false, List, [], ◌∷◌, ◌++◌, length, drop, Option, Some, None, option_map, Result, Ok, Err}
use Rattle.std.specs.List.{take_while}
use Rattle.std.specs.Char.{is_ascii_digit}
use Rattle.std.specs.FinMap as map
use Rattle.el_env.specs.Vars.{Vars}
use Rattle.el_transform.specs.Computed.{length_of}
use Rattle.el_world.specs.declared.event.Event.{Event}
use Rattle.el_world.specs.declared.event.Ended.{Ended}
use Rattle.el_world.specs.declared.event.Ended.TheVariants.{Exited, Killed}
use Rattle.el_world.specs.declared.event.Handle.{Handle}
use Rattle.el_world.specs.declared.event.Pid.{Pid}
use Rattle.el_world.specs.declared.event.StartFault.{StartFault}
use Rattle.el_world.specs.declared.event.Fault.{Fault}
use Rattle.el_world.specs.declared.event.PipeEnds.{PipeEnds}
use Rattle.el_world.specs.World.{is_wait_status}
use Rattle.el_record.specs.declared.reader.ReadFault.{ReadFault}
use Rattle.el_record.specs.declared.reader.ReadFault.TheVariants.{Absent, NoMemory}
use Rattle.el_record.specs.declared.trace.RunEnd.{RunEnd}
use Rattle.el_record.specs.declared.trace.RunEnd.TheVariants.{Status}
use Rattle.el_record.specs.Reading.{and_read, byte_of, bytes_of_front}
use Rattle.el_record.specs.Recordable.{AreRecordable}
use Rattle.el_record.specs.TraceText.{events_before}
use Rattle.el_record.specs.TraceReading.{FrontRead, checked, number_below, handle_at, pid_at, pairs_at, are_variables, event_at, end_by, end_line}

-- what stands at the front was read, and the bytes behind it are left; or it doesn't stand there
abbrev pub IsRead : {T : Type 0} → FrontRead T → Result T ReadFault → (rest : List ℕ) → Type 0
IsRead found (Ok value) rest = found ≡ Some (value, rest)
IsRead found (Err Absent) rest = found ≡ None
IsRead found (Err NoMemory) rest = Unit {0}

-- a status with which a process ended
abbrev pub exited_at : List ℕ → FrontRead (Result Ended Fault)
exited_at bytes = and_read (number_below 256 bytes) (λ code rest. Some (Ok (Exited code), rest))

-- a signal
abbrev pub killed_at : List ℕ → FrontRead (Result Ended Fault)
killed_at bytes = and_read (number_below 256 bytes) (λ signal rest. checked (is_wait_status (Killed signal)) (Ok (Killed signal)) rest)

-- a handle that was given
abbrev pub opened_handle_at : List ℕ → FrontRead (Result Handle Fault)
opened_handle_at bytes = and_read (handle_at bytes) (λ handle rest. Some (Ok handle, rest))

-- the next byte is a dash
abbrev pub is_dash_next : List ℕ → Bool
is_dash_next [] = false
is_dash_next (byte ∷ rest) = byte == 45

-- a dash, for no handle at an end of a started process
abbrev pub no_end_at : List ℕ → FrontRead (Option Handle)
no_end_at bytes = and_read (byte_of bytes) (λ byte rest. Some (None, rest))

-- a handle at an end of a started process
abbrev pub some_end_at : List ℕ → FrontRead (Option Handle)
some_end_at bytes = and_read (handle_at bytes) (λ handle rest. Some (Some handle, rest))

-- a process that was started
abbrev pub started_pid_at : List ℕ → FrontRead (Result Pid StartFault)
started_pid_at bytes = and_read (pid_at bytes) (λ pid rest. Some (Ok pid, rest))

-- a status with which a run ended
abbrev pub status_at : List ℕ → FrontRead RunEnd
status_at bytes = and_read (number_below 256 bytes) (λ code rest. Some (Status code, rest))

-- the end behind its first letter
abbrev pub end_record : List ℕ → FrontRead RunEnd
end_record bytes = and_read (byte_of bytes) (λ letter rest. and_read (end_by letter rest) end_line)

-- both ends of a pipe
abbrev pub pipe_ends_at : List ℕ → FrontRead (Result PipeEnds Fault)
pipe_ends_at bytes = and_read (handle_at bytes) (λ reader rest. and_read (handle_at rest) (λ writer rest. Some (Ok (record { reader = reader; writer = writer }), rest)))

-- bytes that pass a test
abbrev pub passing_at : (List ℕ → Bool) → List ℕ → FrontRead (Result (List ℕ) Fault)
passing_at test bytes = and_read (bytes_of_front bytes) (λ bytes rest. checked (test bytes) (Ok bytes) rest)

-- so many variables, behind those that were read
unfoldable pub variables_at : (before : List (List ℕ × List ℕ)) → (count : ℕ) → List ℕ → FrontRead Vars
variables_at before count bytes = and_read (pairs_at count bytes) (λ pairs rest. checked (are_variables (before ++ pairs)) (map.from_sorted (before ++ pairs)) rest)

-- the records of these events are what stands before the rest, where no further one stands
pub record AreRead (text : List ℕ) (events : List Event) (rest : List ℕ) : Type 0 where
  pub filled : events_before events rest ≡ text
  pub events_are : AreRecordable events
  pub no_event : event_at rest ≡ None

-- the next event was read, or none stands there, and all is left
abbrev pub IsNext : List ℕ → Option Event → (rest : List ℕ) → Type 0
IsNext text (Some event) rest = event_at text ≡ Some (event, rest)
IsNext text None rest = (event_at text ≡ None) × (rest ≡ text)

-- the number that the digits at the front write, without leading zeros, and the bytes behind them
unfoldable pub leading_number : List ℕ → FrontRead ℕ
leading_number bytes = let digits = take_while is_ascii_digit bytes in option_map (λ n. (n, drop (length digits) bytes)) (length_of digits)
