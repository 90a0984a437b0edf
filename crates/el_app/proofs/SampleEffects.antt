-- What the four programs of a sample are played as, whatever comes behind them.
use Rattle.el_room.proofs.Vocabulary.{decimal, Vars, Event, Start, Wait, Pipe, Close, Exited, Handle, Pid, start_act, wait_act, pipe_act, close_act, and_do, ended, and_then, and_go_on, State, End, Task, starting, child_with, waited_for, unstarted_code, streams_in, given_handles, without_given, lost_handles, closing, is_at_some, Left, First, Read, has, block_at, Way, onward, on}
use Rattle.el_machine.proofs.Vocabulary.{tested, foreground, if_then, piped, started_at, starting_kid, pipeline, after_wait, waiting, running, last_command}
use Rattle.std.proofs.Common.{◌≡◌, ℕ, ◌+◌, ◌<◌, ◌≤◌, ◌==◌, nat_le, true, false, List, [], ◌∷◌, ◌++◌, replicate, Option, None, Some, Ok, refl, ap, ◌∙◌, codes, arith}
use Rattle.std.specs.FinMap as map
use Rattle.el_world.specs.States as end
use Rattle.el_proc.specs.Children as children
use Rattle.el_proc.specs.Kids.{env_with}
use Rattle.el_app.specs.declared.tallies.Numbers.{Numbers}
use Rattle.el_app.specs.Played.{Played, behind_event, behind_unit, played}

-- ---- where a line stands

-- at number 0 the handle with this number, and the process's own at 1 and 2
abbrev pub fds_with : (number : ℕ) → List (Option Handle)
fds_with number = Some (record { number = number }) ∷ Some (record { number = 1 }) ∷ Some (record { number = 2 }) ∷ replicate 61 None

abbrev pub standing : Vars → (number : ℕ) → (dir : List ℕ) → List Pid → State
standing env number dir kids = record { env = env; fds = fds_with number; dir = dir; kids = kids }

-- ---- handles

apart : (number next : ℕ) → number < next → (number == next) ≡ false
apart number next below = grind (arith, below)

above : (number small : ℕ) → 3 ≤ number → small < 3 → (number == small) ≡ false
above number small given less = grind (arith, given, less)

pub given-there : (number : ℕ) → nat_le 3 number ≡ true → given_handles (fds_with number) ≡ record { number = number } ∷ []
given-there number is = rw is refl

pub own-there : (number : ℕ) → nat_le 3 number ≡ false → given_handles (fds_with number) ≡ []
own-there number is = rw is refl

at-none : (number next : ℕ) → number < next → 3 ≤ number → is_at_some (fds_with next) (record { number = number }) ≡ false
at-none number next below given = rw (apart number next below, above number 1 given (omega arith), above number 2 given (omega arith)) refl

given-lost : (number next : ℕ) → nat_le 3 number ≡ true → number < next → lost_handles (fds_with number) (fds_with next) ≡ record { number = number } ∷ []
given-lost number next is below = rw (given-there number is) (rw (at-none number next below (grind (arith, is))) refl)

own-kept : (number next : ℕ) → nat_le 3 number ≡ false → lost_handles (fds_with number) (fds_with next) ≡ []
own-kept number next is = rw (own-there number is) refl

-- ---- events

-- the numbers behind a start, and behind a start and a pipe
abbrev pub more_process : Numbers → Numbers
more_process numbers = record numbers { process = numbers.process + 1 }

abbrev pub more_ends : Numbers → Numbers
more_ends numbers = record { process = numbers.process + 1; handle = numbers.handle + 2 }

abbrev pub pid_of : Numbers → Pid
pid_of numbers = record { number = numbers.process }

abbrev pub start_event : (words : List (List ℕ)) → Vars → (number : ℕ) → (dir : List ℕ) → Numbers → Event
start_event words env number dir numbers = Start words env dir (streams_in (fds_with number)) (Ok (pid_of numbers))

abbrev pub wait_event : Numbers → Event
wait_event numbers = Wait (pid_of numbers) (Ok (Exited 0))

abbrev pub pipe_event : Numbers → Event
pipe_event numbers = Pipe (Ok (record { reader = record { number = numbers.handle }; writer = record { number = numbers.handle + 1 } }))

-- the start of a block that writes to a pipe
abbrev pub block_event : (words : List (List ℕ)) → Vars → (number : ℕ) → (dir : List ℕ) → Numbers → Event
block_event words env number dir numbers = Start words env dir (Some (record { number = number }) ∷ Some (record { number = numbers.handle + 1 }) ∷ Some (record { number = 2 }) ∷ []) (Ok (pid_of numbers))

abbrev pub close_event : (number : ℕ) → Event
close_event number = Close (record { number = number })

-- ---- the programs

-- the variables behind a child, and behind the start of a kid
abbrev pub told_status : Vars → Vars
told_status env = map.insert env (codes "?") (decimal 0)

abbrev pub told_kid : Vars → Numbers → Vars
told_kid env numbers = env_with env (Some (pid_of numbers))

-- where the process goes on behind a pipe
abbrev pub standing_behind : Vars → (dir : List ℕ) → List Pid → Numbers → State
standing_behind env dir kids numbers = standing (told_kid env numbers) numbers.handle dir (kids ++ pid_of numbers ∷ [])

module _ (read : Read) (next : Way → Task ⊥) (env : Vars) (number : ℕ) (dir : List ℕ) (kids : List Pid) (numbers : Numbers) (word : List ℕ) (words : List (List ℕ)) (block : block_at First read ≡ word ∷ words) where
  abbrev now : State
  now = standing env number dir kids

  -- a child that ends with status 0
  abbrev child_before : Played End ⊥ → Played End ⊥
  child_before rest = behind_event (start_event (word ∷ words) env number dir numbers) (behind_event (wait_event numbers) rest)

  pub foreground-played : played (and_then (foreground read now) next) numbers ≡ child_before (played (next (onward (standing (told_status env) number dir kids))) (more_process numbers))
  unfolding foreground child_with children.running starting waited_for start_act wait_act and_do and_go_on and_then played
  foreground-played = rw block refl

  pub if-played : has (codes "n") read ≡ false → played (and_then (if_then read now) next) numbers ≡ child_before (played (next (onward now)) (more_process numbers))
  unfolding if_then tested child_with children.running starting waited_for start_act wait_act and_do and_go_on and_then played
  if-played none = rw (block, none) refl

  -- what comes behind the pipe, the block and the close of its writer
  abbrev taken_behind : List Handle → Played End ⊥
  taken_behind handles = played (and_then (and_go_on (closing handles) (λ _. on (standing_behind env dir kids numbers))) next) (more_ends numbers)

  abbrev pipe_before : Played End ⊥ → Played End ⊥
  pipe_before rest = behind_event (pipe_event numbers) (behind_event (block_event (word ∷ words) env number dir numbers) (behind_event (close_event (numbers.handle + 1)) rest))

  pipeline-taken : has (codes "w") read ≡ false → played (and_then (pipeline read now) next) numbers ≡ pipe_before (taken_behind (lost_handles (fds_with number) (fds_with numbers.handle)))
  unfolding pipeline piped started_at starting_kid starting unstarted_code pipe_act start_act close_act and_do and_go_on and_then played
  pipeline-taken none = rw (block, none) refl

  pub pipeline-played : has (codes "w") read ≡ false → nat_le 3 number ≡ false → played (and_then (pipeline read now) next) numbers ≡ pipe_before (played (next (onward (standing_behind env dir kids numbers))) (more_ends numbers))
  unfolding closing and_go_on and_then
  pipeline-played none own = pipeline-taken none ∙ ap (λ handles. pipe_before (taken_behind handles)) (own-kept number numbers.handle own)

  -- what was piped in is closed
  pub pipeline-closed : has (codes "w") read ≡ false → nat_le 3 number ≡ true → number < numbers.handle
      → played (and_then (pipeline read now) next) numbers ≡ pipe_before (behind_event (close_event number) (played (next (onward (standing_behind env dir kids numbers))) (more_ends numbers)))
  unfolding closing close_act and_do and_go_on and_then played
  pipeline-closed none given below = pipeline-taken none ∙ ap (λ handles. pipe_before (taken_behind handles)) (given-lost number numbers.handle given below)

-- ---- the last command

module _ (next : Left → Task ⊥) (env : Vars) (number : ℕ) (dir : List ℕ) (kids : List Pid) (numbers : Numbers) (word : List ℕ) (words : List (List ℕ)) where
  abbrev here : State
  here = standing env number dir kids

  abbrev left : State
  left = record here { fds = without_given (fds_with number) }

  -- what comes behind its start
  abbrev waited_behind : List Handle → Played End ⊥
  waited_behind handles = played (and_then (and_go_on (closing handles) (λ _. and_go_on (wait_act (pid_of numbers)) (after_wait left word))) next) (more_process numbers)

  abbrev start_before : Played End ⊥ → Played End ⊥
  start_before rest = behind_unit (behind_event (start_event (word ∷ words) env number dir numbers) rest)

  abbrev pub wait_alone : Played End ⊥
  wait_alone = record { events = wait_event numbers ∷ []; outcome = ended (end.Status 0 left); units = 0 }

  command-waited : played (and_then (last_command (word ∷ words) here) next) numbers ≡ start_before (waited_behind (given_handles (fds_with number)))
  unfolding last_command running waiting start_act and_go_on and_then played
  command-waited = refl

  pub command-played : nat_le 3 number ≡ false → played (and_then (last_command (word ∷ words) here) next) numbers ≡ start_before wait_alone
  unfolding closing wait_act and_go_on and_then played
  command-played own = command-waited ∙ ap (λ handles. start_before (waited_behind handles)) (own-there number own)

  -- what was piped in is closed
  pub command-closed : nat_le 3 number ≡ true → played (and_then (last_command (word ∷ words) here) next) numbers ≡ start_before (behind_event (close_event number) wait_alone)
  unfolding closing close_act wait_act and_do and_go_on and_then played
  command-closed given = command-waited ∙ ap (λ handles. start_before (waited_behind handles)) (given-there number given)
