-- What a task starts processes with, whatever is answered.
use Rattle.el_room.proofs.Vocabulary.{Prog, Event, Start, Handle, Found, Call, AnswerOf, start, event_of, Plan, gives, ends, takes, calls, and_then, State, End, Task, AllGiven, Read}
use Rattle.std.proofs.Common.{◌≡◌, ℕ, suc, List, [], Option, Some, None, refl}
use Rattle.el_world.specs.Calls.{taken}
use Rattle.el_world.specs.Plans.{made, answered}
use Rattle.el_machine.specs.Commands.{last_command}
use Rattle.el_machine.specs.Effects.{effect}
use Rattle.el_machine.specs.Starts.{StartsWith, StartsAre, IsStart}
use Rattle.el_machine.proofs.Holds.{Now, Terms, Goes, MayCall, Holds, behind}
use Rattle.el_machine.proofs.HoldsRuns.{at_first}
use Rattle.el_machine.proofs.HoldsPrograms.{goes-effect}
use Rattle.el_machine.proofs.HoldsSteps.{goes-last}

-- it isn't known what is held, and these words may be started
abbrev pub starting_only : ((words : List (List ℕ)) → Type 0) → Terms
starting_only may = record { known = ⊥; may_start = may }

module _ (may : (words : List (List ℕ)) → Type 0) {A : Type 0} where
  -- a task starts processes with such words alone
  abbrev pub StartsOnly : Task A → Type 0
  StartsOnly (gives a) = Unit {0}
  StartsOnly (ends end) = Unit {0}
  StartsOnly (takes end task) = StartsOnly task
  StartsOnly (calls call after) = MayCall (starting_only may) call × ((answer : AnswerOf call) → StartsOnly (after answer))

  holds-only : (P : A → Now → Type 0) (N : End → Now → Type 0) (task : Task A) (now : Now) → Holds (starting_only may) now task P N → StartsOnly task
  holds-only P N (gives a) now h = tt
  holds-only P N (ends end) now h = tt
  holds-only P N (takes end task) now h = holds-only P N task now h.2
  holds-only P N (calls call after) now h = (h.0, λ answer. holds-only P N (after answer) (behind now (event_of call answer)) (h.1 answer (λ never. absurd never)))

  -- so do its events
  pub only-made : (task : Task A) (units : ℕ) (found : List Found) → StartsOnly task → StartsAre may (made task units found).events
  only-made (gives a) units found h = tt
  only-made (ends end) units found h = tt
  only-made (takes end task) Prim.Native.Nat.zero found h = tt
  only-made (takes end task) (suc units) found h = only-made task units found h
  only-made (calls call after) units found h = by (λ answer left. only-made (after answer) units left (h.1 answer)) (taken call found)
    where
      begun : (call : Call) → MayCall (starting_only may) call → (answer : AnswerOf call) → IsStart may (event_of call answer)
      begun (start words env dir streams) may answer = may
      begun _ may answer = tt

      by : ((answer : AnswerOf call) (left : List Found) → StartsAre may (made (after answer) units left).events) → (next : Option (AnswerOf call × List Found)) → StartsAre may (answered call (λ answer left. made (after answer) units left) units found next).events
      by rest None = tt
      by rest (Some next) = (begun call h.0 next.0, rest next.0 next.1)

module _ {one two : (words : List (List ℕ)) → Type 0} (weaker : (words : List (List ℕ)) → one words → two words) where
  call-weaker : (call : Call) → MayCall (starting_only one) call → MayCall (starting_only two) call
  call-weaker (start words env dir streams) may = weaker words may
  call-weaker _ may = tt

  pub only-weaker : {A : Type 0} (task : Task A) → StartsOnly one task → StartsOnly two task
  only-weaker (gives a) h = tt
  only-weaker (ends end) h = tt
  only-weaker (takes end task) h = only-weaker task h
  only-weaker (calls call after) h = (call-weaker call h.0, λ answer. only-weaker (after answer) (h.1 answer))

-- and a task behind a task, for each gift of the first
pub only-then : {A B : Type 0} (may : (words : List (List ℕ)) → Type 0) (Q : A → Type 0) (first : Task A) (next : A → Task B) → StartsOnly may first → AllGiven Q first → ((a : A) → Q a → StartsOnly may (next a)) → StartsOnly may (and_then first next)
unfolding and_then
only-then may Q (gives a) next h all f = f a all
only-then may Q (ends end) next h all f = tt
only-then may Q (takes end task) next h all f = only-then may Q task next h all f
only-then may Q (calls call after) next h all f = (h.0, λ answer. only-then may Q (after answer) next (h.1 answer) (all answer) f)

-- ---- programs and commands

-- a program starts what it may by what it read
pub effect-starts : (program : Prog) (read : Read) (state : State) → StartsOnly (StartsWith program read) (effect program read state)
effect-starts program read state =
    let goes = goes-effect {terms = starting_only (StartsWith program read)} {cause = λ _. Unit {0}} {base = []} {now = at_first []} state read program (λ words starts. starts) (λ _ _. tt) (λ number needed none now. tt) (record { exact = λ never. absurd never }) in
    holds-only (StartsWith program read) _ _ (effect program read state) (at_first []) goes.so

-- the last command starts itself
pub last-starts : (A : Type 0) (words : List (List ℕ)) (state : State) → StartsOnly (λ started. started ≡ words) (last_command {A = A} words state)
last-starts A words state =
    let goes : Goes {A = A} (starting_only (λ started. started ≡ words)) (λ _. Unit {0}) [] (at_first []) (λ _ _. Unit {0}) (last_command words state) = goes-last (λ _ _. tt) state words refl (record { exact = λ never. absurd never }) in
    holds-only (λ started. started ≡ words) _ _ (last_command words state) (at_first []) goes.so
