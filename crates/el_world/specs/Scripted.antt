-- A world that answers from a list. What a family of processes means stands on it.
use Rattle.std.specs.Prelude.{◌≡◌, refl, ◌≤◌, ℕ, ◌+◌, ◌-◌, ◌^◌, List, [], ◌∷◌, ◌++◌, length, drop, filter, map, Bool, true, false, Result, Ok, Err, None, Some, if◌then◌else◌, nat_lt, ◌&&◌, Option}
use Rattle.std.specs.List.{list_all}
use Rattle.el_world.specs.declared.answer.Answer.{Answer}
use Rattle.el_world.specs.declared.answer.Answer.TheVariants.{Plain, Fault as Faulty, NotFound as Missing, NotStartable as Unfit, Ended as EndedBy, Piece, Path}
use Rattle.el_world.specs.declared.event.Event.{Event}
use Rattle.el_world.specs.declared.event.Event.TheVariants.{Start, Wait, Opened, Pipe, Feed, Read, Write, Close, Enter}
use Rattle.el_world.specs.declared.event.Handle.{Handle}
use Rattle.el_world.specs.declared.event.PipeEnds.{PipeEnds}
use Rattle.el_world.specs.declared.event.Pid.{Pid}
use Rattle.el_world.specs.declared.event.Ended.{Ended}
use Rattle.el_world.specs.declared.event.Ended.TheVariants.{Exited}
use Rattle.el_world.specs.declared.event.Fault.{Fault}
use Rattle.el_world.specs.declared.event.Fault.TheVariants.{Failed}
use Rattle.el_world.specs.declared.event.StartFault.{StartFault}
use Rattle.el_world.specs.declared.event.StartFault.TheVariants.{NotFound, NotStartable, Failed as StartFailed}
use Rattle.el_world.specs.World.{Seen, answering, is_start_failed, is_failed, is_wait_status}
use Rattle.el_world.specs.Lawful.{is_piece}
use Rattle.el_world.specs.Handles.{is_given, without, opened_handles, piped_handles}
use Rattle.el_world.specs.Calls.{Call, AnswerOf, start, wait, open_file, pipe, feed, read, write, close, enter, call_of}

-- what a scripted world is seen as: the answers that it was made with, its events, the answers left, its faults, the handles
-- held, and the numbers of the next process and of the next handle
pub record Script : Type 0 where
  pub origin : List Answer
  pub log : List Event
  pub answers : List Answer
  pub faults : ℕ
  pub held : List Handle
  pub next_pid : ℕ
  pub next_handle : ℕ

-- it tells its log, and holds only what it gave
abbrev pub seen_of : Script → Seen
seen_of script = record { log = Some script.log; faults = script.faults; held = filter is_given script.held; next = script.next_handle; origin = answering script.origin }

-- a new one: no handle is given yet, the first process is 100, and the first handle is 3
abbrev pub begun : List Answer → Script
begun answers = record { origin = answers; log = []; answers = answers; faults = 0; held = []; next_pid = 100; next_handle = 3 }

-- ---- what a call answers, by the answer that it takes; one for another call counts as plain

-- the answer that the next call takes; after the list each is plain
abbrev pub due : List Answer → Answer
due [] = Plain
due (answer ∷ answers) = answer

-- an answer, or a plain one
abbrev pub or_plain : Option Answer → Answer
or_plain None = Plain
or_plain (Some answer) = answer

-- the next process, while there is a number for it
abbrev pub plain_start : ℕ → Result Pid StartFault
plain_start next = if nat_lt next (2 ^ 32) then Ok (record { number = next }) else Err StartFailed

-- what a start is answered; an answer that no start has counts as plain
abbrev pub start_reply : Answer → ℕ → Result Pid StartFault
start_reply Faulty next = Err StartFailed
start_reply Missing next = Err NotFound
start_reply Unfit next = Err NotStartable
start_reply answer next = plain_start next

-- a signal out of range counts as plain
abbrev pub wait_reply : Answer → Result Ended Fault
wait_reply Faulty = Err Failed
wait_reply (EndedBy ended) = if is_wait_status ended then Ok ended else Ok (Exited 0)
wait_reply answer = Ok (Exited 0)

-- the next handle, while there is a number for it and a next one
abbrev pub plain_open : ℕ → Result Handle Fault
plain_open next = if nat_lt (next + 1) (2 ^ 64) then Ok (record { number = next }) else Err Failed

-- what an open or a feed is answered: a failure, or a handle
abbrev pub open_reply : Answer → ℕ → Result Handle Fault
open_reply Faulty next = Err Failed
open_reply answer next = plain_open next

-- the next two handles, the reader first
abbrev pub plain_pipe : ℕ → Result PipeEnds Fault
plain_pipe next = if nat_lt (next + 2) (2 ^ 64) then Ok (record { reader = record { number = next }; writer = record { number = next + 1 } }) else Err Failed

-- what a pipe is answered: a failure, or its ends
abbrev pub pipe_reply : Answer → ℕ → Result PipeEnds Fault
pipe_reply Faulty next = Err Failed
pipe_reply answer next = plain_pipe next

-- a piece of more than `MAX_PIECE` bytes counts as plain, the end of input
abbrev pub read_reply : Answer → Result (List ℕ) Fault
read_reply Faulty = Err Failed
read_reply (Piece bytes) = if is_piece bytes then Ok bytes else Ok []
read_reply answer = Ok []

-- what a write is answered: a failure, or that all was written
abbrev pub write_reply : Answer → Result (Unit {0}) Fault
write_reply Faulty = Err Failed
write_reply answer = Ok tt

-- plain is the path itself
abbrev pub enter_reply : Answer → (path : List ℕ) → Result (List ℕ) Fault
enter_reply Faulty path = Err Failed
enter_reply (Path dir) path = Ok dir
enter_reply answer path = Ok path

-- ---- what a call leaves

-- a count of faults stands still at the last value of a counter
abbrev pub counted : Bool → ℕ → ℕ
counted failed faults = if failed && nat_lt faults (2 ^ 64 - 1) then faults + 1 else faults

-- one more event, one answer less, and one more fault where the call failed
abbrev pub noted : Script → Event → Bool → Script
noted old event failed = record old { log = old.log ++ event ∷ []; answers = drop 1 old.answers; faults = counted failed old.faults }

-- a started process takes a number
abbrev pub next_after : Result Pid StartFault → ℕ → ℕ
next_after (Ok pid) next = next + 1
next_after (Err fault) next = next

-- the next process has this number
abbrev pub numbered : Script → ℕ → Script
numbered old next = record old { next_pid = next }

-- these are held too, and the next number is this
abbrev pub holding : Script → List Handle → ℕ → Script
holding old handles next = record old { held = old.held ++ handles; next_handle = next }

-- given handles are held, and take their numbers
abbrev pub with_given : Script → List Handle → Script
with_given old handles = holding old handles (old.next_handle + length handles)

-- ---- calls

-- what a call is answered
abbrev pub reply_to : Script → (call : Call) → AnswerOf call
reply_to old (start words env dir ends) = start_reply (due old.answers) old.next_pid
reply_to old (wait pid) = wait_reply (due old.answers)
reply_to old (open_file dir path mode) = open_reply (due old.answers) old.next_handle
reply_to old pipe = pipe_reply (due old.answers) old.next_handle
reply_to old (feed bytes) = open_reply (due old.answers) old.next_handle
reply_to old (read handle) = read_reply (due old.answers)
reply_to old (write handle bytes) = write_reply (due old.answers)
reply_to old (close handle) = tt
reply_to old (enter dir path) = enter_reply (due old.answers) path

-- the world behind a call that was answered so; a close takes no answer and doesn't fail
abbrev pub left_by : Script → (call : Call) → AnswerOf call → Script
left_by old (start words env dir ends) answer = numbered (noted old (Start words env dir ends answer) (is_start_failed answer)) (next_after answer old.next_pid)
left_by old (wait pid) answer = noted old (Wait pid answer) (is_failed answer)
left_by old (open_file dir path mode) answer = with_given (noted old (Opened dir path mode answer) (is_failed answer)) (opened_handles answer)
left_by old pipe answer = with_given (noted old (Pipe answer) (is_failed answer)) (piped_handles answer)
left_by old (feed bytes) answer = with_given (noted old (Feed bytes answer) (is_failed answer)) (opened_handles answer)
left_by old (read handle) answer = noted old (Read handle answer) (is_failed answer)
left_by old (write handle bytes) answer = noted old (Write handle bytes answer) (is_failed answer)
left_by old (close handle) answer = record old { log = old.log ++ Close handle ∷ []; held = without old.held handle }
left_by old (enter dir path) answer = noted old (Enter dir path answer) (is_failed answer)

-- between two states a call was answered so
pub record Replied (old new : Script) (call : Call) (answer : AnswerOf call) : Type 0 where
  pub reply : answer ≡ reply_to old call
  pub state : new ≡ left_by old call answer

-- the world behind a call that is answered by what is due
abbrev pub after_call : Script → Call → Script
after_call old call = left_by old call (reply_to old call)

-- and behind many
abbrev pub after_calls : Script → List Call → Script
after_calls script [] = script
after_calls script (call ∷ calls) = after_calls (after_call script call) calls

-- A new world with the same answers comes to be this one by the calls in its log. So each answer in the log is the one that those answers give.
pub record Replays (script : Script) : Type 0 where
  pub replayed : script ≡ after_calls (begun script.origin) (map call_of script.log)

-- ---- inside

-- no more answers were taken than there are; the events of closing what is held are due; the handles held lie below the
-- next number, which is none of the process's own; and the log is what the answers give
pub record IsSound (script : Script) (taken closes : ℕ) : Type 0 where
  pub taken_within : taken ≤ length script.origin
  pub closes_due : length script.held ≤ closes
  pub own_below : 3 ≤ script.next_handle
  pub all_below : list_all (λ handle. nat_lt handle.number script.next_handle) script.held ≡ true
  pub replays : Replays script

-- a test is true of all that it leaves
pub all_filtered : (test : Handle → Bool) (handles : List Handle) → list_all test (filter test handles) ≡ true
all_filtered test [] = refl
all_filtered test (handle ∷ handles) = by (test handle) refl (all_filtered test handles)
  where
    by : (b : Bool) → test handle ≡ b → list_all test (filter test handles) ≡ true → list_all test (if b then handle ∷ filter test handles else filter test handles) ≡ true
    by true is rest = rw (is, rest) refl
    by false is rest = rest
