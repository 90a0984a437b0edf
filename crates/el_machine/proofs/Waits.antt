-- Starts, and waits that answered that a process exited with 111.
use Rattle.el_room.proofs.Vocabulary.{append_assoc, Vars, Ended, Exited, Killed, Event, Start, Wait, Fault, Handle, Pid, StartFault, NotFound, NotStartable, Started, Running, code_of, started_by, Read}
use Rattle.std.proofs.Common.{◌≡◌, ℕ, ◌+◌, ◌==◌, false, List, [], ◌∷◌, ◌++◌, Option, Result, Ok, Err, IfOk, refl, sym, ap, ◌∙◌, true≢false, arith}
use Rattle.el_world.specs.declared.event.StartFault.TheVariants.{Failed as StartFailed, NoMemory as NoStartMemory}
use Rattle.el_loops.specs.Turns.{turn_words}
use Rattle.el_machine.specs.Causes.{EndsByWait, HasStart, HasTurn}

-- a start is still there behind more calls, and so is such a wait
pub start_stays : {words : List (List ℕ)} {pid : Pid} {all : List Event} (events more : List Event) → all ≡ events ++ more → HasStart words pid events → HasStart words pid all
start_stays {words} {pid} events more is h = record {
  before = h.before;
  env = h.env;
  dir = h.dir;
  ends = h.ends;
  later = h.later ++ more;
  started = is ∙ ap (λ events. events ++ more) h.started ∙ append_assoc h.before (Start words h.env h.dir h.ends (Ok pid) ∷ h.later) more;
}

pub turn_stays : {read : Read} {all : List Event} (events more : List Event) → all ≡ events ++ more → HasTurn read events → HasTurn read all
turn_stays events more is h = record {
  value = h.value;
  before = h.before;
  pid = h.pid;
  later = h.later ++ more;
  waited = is ∙ ap (λ events. events ++ more) h.waited ∙ append_assoc h.before (Wait h.pid (Ok (Exited 111)) ∷ h.later) more;
  start = h.start;
}

-- what came of a start: a process that runs was started with these words
abbrev pub IsStarted : (words : List (List ℕ)) → (events : List Event) → Started → Type 0
IsStarted words events (Running pid) = HasStart words pid events
IsStarted words events _ = Unit {0}

pub starts_by : (before : List Event) (words : List (List ℕ)) (env : Vars) (dir : List ℕ) (ends : List (Option Handle)) (answer : Result Pid StartFault)
    → IfOk (started_by answer) (IsStarted words (before ++ Start words env dir ends answer ∷ []))
starts_by before words env dir ends (Ok pid) = record { before = before; env = env; dir = dir; ends = ends; later = []; started = refl }
starts_by before words env dir ends (Err NotFound) = tt
starts_by before words env dir ends (Err NotStartable) = tt
starts_by before words env dir ends (Err StartFailed) = tt
starts_by before words env dir ends (Err NoStartMemory) = tt

killed : (signal : ℕ) → 128 + signal ≡ 111 → ⊥
killed signal is = omega arith

-- an end has the code 111 by such a wait
pub ends_by : (before : List Event) (pid : Pid) (answer : Result Ended Fault) → IfOk answer (λ ended. code_of ended ≡ 111 → EndsByWait (before ++ Wait pid answer ∷ []))
ends_by before pid (Ok (Exited code)) = λ is. record { before = before; pid = pid; waited = ap (λ code. before ++ Wait pid (Ok (Exited code)) ∷ []) is }
ends_by before pid (Ok (Killed signal)) = λ is. absurd (killed signal is)
ends_by before pid (Err fault) = tt

-- and so has a turn's
pub turn_ends_by : (read : Read) (value : List ℕ) (before : List Event) (pid : Pid) (answer : Result Ended Fault) → HasStart (turn_words read value) pid before → IfOk answer (λ ended. code_of ended ≡ 111 → HasTurn read (before ++ Wait pid answer ∷ []))
turn_ends_by read value before pid (Ok (Exited code)) start = λ is. record { value = value; before = before; pid = pid; later = []; waited = ap (λ code. before ++ Wait pid (Ok (Exited code)) ∷ []) is; start = start }
turn_ends_by read value before pid (Ok (Killed signal)) start = λ is. absurd (killed signal is)
turn_ends_by read value before pid (Err fault) start = tt

-- another code isn't 111
pub other_code : (code : ℕ) → (code == 111) ≡ false → code ≡ 111 → ⊥
other_code code other is = true≢false (sym (ap (λ n. n == 111) is) ∙ other)
