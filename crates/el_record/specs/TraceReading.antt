-- What stands at the front of a trace's text, computed. Laws tie it to the text.
use Rattle.std.specs.Prelude.{ℕ, zero, suc, ◌^◌, Bool, true, false, ◌&&◌, nat_lt, ◌==◌, List, [], ◌∷◌, length, Option, Some, None, Result, Ok, Err, not, if◌then◌else◌}
use Rattle.std.specs.List.{list_any, list_all}
use Rattle.std.specs.FinMap as map
use Rattle.std.specs.Cmp.Lexicographic.{slice_cmp}
use Rattle.std.specs.Ordering.{nat_cmp}
use Rattle.el_env.specs.Vars.{Vars}
use Rattle.el_env.specs.Name.{is_good_name}
use Rattle.el_world.specs.declared.event.Event.{Event}
use Rattle.el_world.specs.declared.event.Event.TheVariants.{Start, Wait, Opened, Pipe, Feed, Read, Write, Close, Enter}
use Rattle.el_world.specs.declared.event.Handle.{Handle}
use Rattle.el_world.specs.declared.event.PipeEnds.{PipeEnds}
use Rattle.el_world.specs.declared.event.Mode.{Mode}
use Rattle.el_world.specs.declared.event.Mode.TheVariants as mode
use Rattle.el_world.specs.declared.event.Pid.{Pid}
use Rattle.el_world.specs.declared.event.Ended.{Ended}
use Rattle.el_world.specs.declared.event.Ended.TheVariants.{Exited, Killed}
use Rattle.el_world.specs.declared.event.Fault.{Fault}
use Rattle.el_world.specs.declared.event.Fault.TheVariants.{Failed}
use Rattle.el_world.specs.declared.event.StartFault.{StartFault}
use Rattle.el_world.specs.declared.event.StartFault.TheVariants.{NotFound, NotStartable, Failed as StartFailed}
use Rattle.el_world.specs.Lawful.{is_piece}
use Rattle.el_world.specs.World.{is_wait_status}
use Rattle.el_record.specs.declared.trace.RunEnd.{RunEnd}
use Rattle.el_record.specs.declared.trace.RunEnd.TheVariants.{Status, Spent}
use Rattle.el_record.specs.Reading.{and_read, byte_of, number_of_front, bytes_of_front}

-- something read, and the bytes behind it
abbrev pub FrontRead : Type 0 → Type 0
FrontRead A = Option (A × List ℕ)

-- what was read, where it passes a test
abbrev pub checked : {A : Type 0} → Bool → A → List ℕ → FrontRead A
checked true a rest = Some (a, rest)
checked false a rest = None

-- a number below a limit
unfoldable pub number_below : (limit : ℕ) → List ℕ → FrontRead ℕ
number_below limit bytes = and_read (number_of_front bytes) (λ n rest. checked (nat_lt n limit) n rest)

-- a handle
unfoldable pub handle_at : List ℕ → FrontRead Handle
handle_at bytes = and_read (number_of_front bytes) (λ n rest. Some (record { number = n }, rest))

-- no byte is NUL
abbrev pub is_word : List ℕ → Bool
is_word bytes = not (list_any (λ byte. byte == 0) bytes)

-- bytes without NUL
unfoldable pub word_at : List ℕ → FrontRead (List ℕ)
word_at bytes = and_read (bytes_of_front bytes) (λ word rest. checked (is_word word) word rest)

-- a process
unfoldable pub pid_at : List ℕ → FrontRead Pid
pid_at bytes = and_read (number_below (2 ^ 32) bytes) (λ n rest. Some (record { number = n }, rest))

-- how a process ended
abbrev pub ended_by : (letter : ℕ) → List ℕ → FrontRead (Result Ended Fault)
ended_by letter rest =
    if letter == 69 then and_read (number_below 256 rest) (λ code rest. Some (Ok (Exited code), rest))
    else if letter == 75 then and_read (number_below 256 rest) (λ signal rest. checked (is_wait_status (Killed signal)) (Ok (Killed signal)) rest)
    else if letter == 102 then Some (Err Failed, rest)
    else None

unfoldable pub ended_at : List ℕ → FrontRead (Result Ended Fault)
ended_at bytes = and_read (byte_of bytes) ended_by

-- a handle that was given, or a failure
abbrev pub given_by_letter : (letter : ℕ) → List ℕ → FrontRead (Result Handle Fault)
given_by_letter letter rest =
    if letter == 72 then and_read (handle_at rest) (λ handle rest. Some (Ok handle, rest))
    else if letter == 102 then Some (Err Failed, rest)
    else None

unfoldable pub given_at : List ℕ → FrontRead (Result Handle Fault)
given_at bytes = and_read (byte_of bytes) given_by_letter

-- a pipe, or a failure
abbrev pub piped_by_letter : (letter : ℕ) → List ℕ → FrontRead (Result PipeEnds Fault)
piped_by_letter letter rest =
    if letter == 72 then and_read (handle_at rest) (λ reader rest. and_read (handle_at rest) (λ writer rest. Some (Ok (record { reader = reader; writer = writer }), rest)))
    else if letter == 102 then Some (Err Failed, rest)
    else None

unfoldable pub piped_at : List ℕ → FrontRead (Result PipeEnds Fault)
piped_at bytes = and_read (byte_of bytes) piped_by_letter

-- bytes that pass a test, or a failure
abbrev pub found_by_letter : (List ℕ → Bool) → (letter : ℕ) → List ℕ → FrontRead (Result (List ℕ) Fault)
found_by_letter test letter rest =
    if letter == 66 then and_read (bytes_of_front rest) (λ bytes rest. checked (test bytes) (Ok bytes) rest)
    else if letter == 102 then Some (Err Failed, rest)
    else None

unfoldable pub found_at : (List ℕ → Bool) → List ℕ → FrontRead (Result (List ℕ) Fault)
found_at test bytes = and_read (byte_of bytes) (found_by_letter test)

-- all was written, or a failure
abbrev pub done_by_letter : (letter : ℕ) → List ℕ → FrontRead (Result (Unit {0}) Fault)
done_by_letter letter rest =
    if letter == 107 then Some (Ok tt, rest)
    else if letter == 102 then Some (Err Failed, rest)
    else None

unfoldable pub done_at : List ℕ → FrontRead (Result (Unit {0}) Fault)
done_at bytes = and_read (byte_of bytes) done_by_letter

-- a mode's letter
abbrev pub mode_by : (letter : ℕ) → List ℕ → FrontRead Mode
mode_by letter rest =
    if letter == 114 then Some (mode.Read, rest)
    else if letter == 119 then Some (mode.Write, rest)
    else if letter == 117 then Some (mode.Update, rest)
    else if letter == 97 then Some (mode.Append, rest)
    else if letter == 99 then Some (mode.AppendOld, rest)
    else if letter == 120 then Some (mode.Create, rest)
    else None

unfoldable pub mode_at : List ℕ → FrontRead Mode
mode_at bytes = and_read (byte_of bytes) mode_by

-- so many words
abbrev pub each_at : (count : ℕ) → List ℕ → FrontRead (List (List ℕ))
each_at zero bytes = Some ([], bytes)
each_at (suc count) bytes = and_read (word_at bytes) (λ word rest. and_read (each_at count rest) (λ words rest. Some (word ∷ words, rest)))

-- so many names and values
abbrev pub pairs_at : (count : ℕ) → List ℕ → FrontRead (List (List ℕ × List ℕ))
pairs_at zero bytes = Some ([], bytes)
pairs_at (suc count) bytes = and_read (word_at bytes) (λ name rest. and_read (word_at rest) (λ value rest. and_read (pairs_at count rest) (λ pairs rest. Some ((name, value) ∷ pairs, rest))))

-- words, of which there is one at least
unfoldable pub words_at : List ℕ → FrontRead (List (List ℕ))
words_at bytes = and_read (number_of_front bytes) (λ count rest. and_read (each_at count rest) (λ words rest. checked (nat_lt 0 (length words)) words rest))

-- good names that rise, with their values
abbrev pub are_variables : List (List ℕ × List ℕ) → Bool
are_variables pairs = map.is_sorted (slice_cmp nat_cmp) pairs && list_all (λ pair. is_good_name pair.0) pairs

-- variables
unfoldable pub env_at : List ℕ → FrontRead Vars
env_at bytes = and_read (number_of_front bytes) (λ count rest. and_read (pairs_at count rest) (λ pairs rest. checked (are_variables pairs) (map.from_sorted pairs) rest))

-- an end of a started process
abbrev pub end_at : List ℕ → FrontRead (Option Handle)
end_at [] = None
end_at (byte ∷ rest) = if byte == 45 then Some (None, rest) else and_read (handle_at (byte ∷ rest)) (λ handle rest. Some (Some handle, rest))

-- a process, or why there is none
abbrev pub started_by_letter : (letter : ℕ) → List ℕ → FrontRead (Result Pid StartFault)
started_by_letter letter rest =
    if letter == 80 then and_read (pid_at rest) (λ pid rest. Some (Ok pid, rest))
    else if letter == 110 then Some (Err NotFound, rest)
    else if letter == 120 then Some (Err NotStartable, rest)
    else if letter == 102 then Some (Err StartFailed, rest)
    else None

unfoldable pub started_at : List ℕ → FrontRead (Result Pid StartFault)
started_at bytes = and_read (byte_of bytes) started_by_letter

unfoldable pub start_at : List ℕ → FrontRead Event
start_at bytes =
    and_read (words_at bytes) (λ words rest. and_read (env_at rest) (λ env rest. and_read (word_at rest) (λ dir rest.
    and_read (end_at rest) (λ input rest. and_read (end_at rest) (λ output rest. and_read (end_at rest) (λ error rest.
    and_read (started_at rest) (λ answer rest. Some (Start words env dir (input ∷ output ∷ error ∷ []) answer, rest))))))))

-- a newline behind an event
unfoldable pub line_end : Event → List ℕ → FrontRead Event
line_end event bytes = and_read (byte_of bytes) (λ byte rest. checked (byte == 10) event rest)

-- ---- events behind their letters

unfoldable pub wait_at : List ℕ → FrontRead Event
wait_at bytes = and_read (pid_at bytes) (λ pid rest. and_read (ended_at rest) (λ answer rest. Some (Wait pid answer, rest)))

unfoldable pub opened_at : List ℕ → FrontRead Event
opened_at bytes = and_read (word_at bytes) (λ dir rest. and_read (word_at rest) (λ path rest. and_read (mode_at rest) (λ opened rest. and_read (given_at rest) (λ answer rest. Some (Opened dir path opened answer, rest)))))

unfoldable pub pipe_at : List ℕ → FrontRead Event
pipe_at bytes = and_read (piped_at bytes) (λ answer rest. Some (Pipe answer, rest))

unfoldable pub feed_at : List ℕ → FrontRead Event
feed_at bytes = and_read (bytes_of_front bytes) (λ fed rest. and_read (given_at rest) (λ answer rest. Some (Feed fed answer, rest)))

unfoldable pub read_at : List ℕ → FrontRead Event
read_at bytes = and_read (handle_at bytes) (λ handle rest. and_read (found_at is_piece rest) (λ answer rest. Some (Read handle answer, rest)))

unfoldable pub write_at : List ℕ → FrontRead Event
write_at bytes = and_read (handle_at bytes) (λ handle rest. and_read (bytes_of_front rest) (λ bytes rest. and_read (done_at rest) (λ answer rest. Some (Write handle bytes answer, rest))))

unfoldable pub close_at : List ℕ → FrontRead Event
close_at bytes = and_read (handle_at bytes) (λ handle rest. Some (Close handle, rest))

unfoldable pub enter_at : List ℕ → FrontRead Event
enter_at bytes = and_read (word_at bytes) (λ dir rest. and_read (word_at rest) (λ path rest. and_read (found_at is_word rest) (λ answer rest. Some (Enter dir path answer, rest))))

abbrev pub event_by : (letter : ℕ) → List ℕ → FrontRead Event
event_by letter rest =
    if letter == 83 then start_at rest
    else if letter == 87 then wait_at rest
    else if letter == 79 then opened_at rest
    else if letter == 80 then pipe_at rest
    else if letter == 70 then feed_at rest
    else if letter == 82 then read_at rest
    else if letter == 84 then write_at rest
    else if letter == 67 then close_at rest
    else if letter == 68 then enter_at rest
    else None

-- an event: its letter, what it holds, and a newline
unfoldable pub event_at : List ℕ → FrontRead Event
event_at bytes = and_read (byte_of bytes) (λ letter rest. and_read (event_by letter rest) line_end)

-- the end of a run behind its letters, and a newline
abbrev pub end_by : (letter : ℕ) → List ℕ → FrontRead RunEnd
end_by letter rest =
    if letter == 115 then and_read (number_below 256 rest) (λ code rest. Some (Status code, rest))
    else if letter == 108 then Some (Spent, rest)
    else None

abbrev pub end_line : RunEnd → List ℕ → FrontRead RunEnd
end_line end bytes = and_read (byte_of bytes) (λ byte rest. checked (byte == 10) end rest)

abbrev pub end_behind : (letter : ℕ) → List ℕ → FrontRead RunEnd
end_behind letter rest = if letter == 90 then and_read (byte_of rest) (λ letter rest. and_read (end_by letter rest) end_line) else None

-- the end record
unfoldable pub run_end_at : List ℕ → FrontRead RunEnd
run_end_at bytes = and_read (byte_of bytes) end_behind
