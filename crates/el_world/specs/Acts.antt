-- Acts: calls that hang on each other's answers, and a result. An act takes no unit and ends no process.
use Rattle.std.specs.Prelude.{◌≡◌, ℕ, List, [], ◌∷◌, Option, Result}
use Rattle.el_env.specs.Vars.{Vars}
use Rattle.el_world.specs.declared.event.Event.{Event}
use Rattle.el_world.specs.declared.event.Handle.{Handle}
use Rattle.el_world.specs.declared.event.PipeEnds.{PipeEnds}
use Rattle.el_world.specs.declared.event.Mode.{Mode}
use Rattle.el_world.specs.declared.event.Pid.{Pid}
use Rattle.el_world.specs.declared.event.Ended.{Ended}
use Rattle.el_world.specs.declared.event.Fault.{Fault}
use Rattle.el_world.specs.declared.event.StartFault.{StartFault}
use Rattle.el_world.specs.Calls.{Call, AnswerOf, event_of, start, wait, open_file, pipe, feed, read, write, close, enter}

-- a result, or a call and what is done after each answer of it
pub data Act (A : Type 0) : Type 0 where
  gives : A → Act A
  calls : (call : Call) → (AnswerOf call → Act A) → Act A

module _ {A B : Type 0} where
  -- one act, and then another by the result of the first
  unfoldable pub and_do : Act A → (A → Act B) → Act B
  and_do (gives a) next = next a
  and_do (calls call after) next = calls call (λ answer. and_do (after answer) next)

module _ {A : Type 0} where
  -- the act makes these events on their answers, and gives this
  abbrev pub Does : Act A → List Event → A → Type 0
  Does (gives a) [] result = result ≡ a
  Does (gives a) (event ∷ events) result = ⊥
  Does (calls call after) [] result = ⊥
  Does (calls call after) (event ∷ events) result = (answer : AnswerOf call) × (event ≡ event_of call answer) × Does (after answer) events result

  -- the act begins with these events on their answers
  abbrev pub Begins : Act A → List Event → Type 0
  Begins act [] = Unit {0}
  Begins (gives a) (event ∷ events) = ⊥
  Begins (calls call after) (event ∷ events) = (answer : AnswerOf call) × (event ≡ event_of call answer) × Begins (after answer) events

-- ---- single calls

-- one start, with these words, variables, directory and ends
unfoldable pub start_act : List (List ℕ) → Vars → List ℕ → List (Option Handle) → Act (Result Pid StartFault)
start_act words env dir ends = calls (start words env dir ends) gives

-- one wait for a process
unfoldable pub wait_act : Pid → Act (Result Ended Fault)
wait_act pid = calls (wait pid) gives

-- one open of a file
unfoldable pub open_act : (dir path : List ℕ) → Mode → Act (Result Handle Fault)
open_act dir path mode = calls (open_file dir path mode) gives

-- one new pipe
unfoldable pub pipe_act : Act (Result PipeEnds Fault)
pipe_act = calls pipe gives

-- one handle from which these bytes can be read
unfoldable pub feed_act : List ℕ → Act (Result Handle Fault)
feed_act bytes = calls (feed bytes) gives

-- one read of a piece
unfoldable pub read_act : Handle → Act (Result (List ℕ) Fault)
read_act handle = calls (read handle) gives

-- one write of all of these bytes
unfoldable pub write_act : Handle → List ℕ → Act (Result (Unit {0}) Fault)
write_act handle bytes = calls (write handle bytes) gives

-- one close, which can't fail
unfoldable pub close_act : Handle → Act (Unit {0})
close_act handle = calls (close handle) gives

-- one question for the directory that a path means from another one
unfoldable pub enter_act : (dir path : List ℕ) → Act (Result (List ℕ) Fault)
enter_act dir path = calls (enter dir path) gives
