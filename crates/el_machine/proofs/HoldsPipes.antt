-- The programs of el_pipes, and what all that make a pipe share: both its ends are held while the block is started.
use Rattle.el_room.proofs.Vocabulary.{name_text, Prog, Pipeline, Backtick, shape_of, Ended, Exited, Fault, Handle, Pid, PipeEnds, close_act, and_then, State, Status, Task, Started, BadName, NotSet, NulInput, first_word, code_of, running_pid, closing, noted, kid_name, kid_text, refused, First, Read, has, block_at, on}
use Rattle.std.proofs.Common.{◌≡◌, ℕ, ◌<◌, ◌==◌, Bool, true, false, List, [], ◌∷◌, set, Option, Some, None, Result, Ok, Err, refl, true≢false, arith, codes, if◌then◌else◌, ◌≢◌}
use Rattle.el_world.specs.Plans as plan
use Rattle.el_pipes.specs.Putting.{puts_values, names_well}
use Rattle.el_pipes.specs.declared.side.Side.{Side}
use Rattle.el_pipes.specs.declared.side.Side.TheVariants.{Input, Output as OutputSide}
use Rattle.el_pipes.specs.Pipes.{number_at, end_at, other_side, after_pipe, closing_ends, giving_up, unless_failed, piped, started_at}
use Rattle.el_pipes.specs.Pipeline.{taking, block_side, starting_kid, pipeline}
use Rattle.el_pipes.specs.Backtick.{after_wait, waited_for, after_reads, read_from, is_trouble, word_of, default_of, ending_by, env_with, set_to, output_by, written_by, output_of, value_from, put_in, going_on, backtick}
use Rattle.el_machine.specs.Exact.{HoldsExactly}
use Rattle.el_machine.specs.Changes.{ChangesOne}
use Rattle.el_machine.specs.Causes.{EndsByWait}
use Rattle.el_machine.proofs.ExactNumbers.{put_takes}
use Rattle.el_machine.proofs.ChangesVariables.{only_set, one_set, one_removed}
use Rattle.el_machine.proofs.MayChanges.{other_variables}
use Rattle.el_machine.proofs.PipeEnds.{IsNew, AreNew, turned}
use Rattle.el_machine.proofs.Waits.{other_code}
use Rattle.el_machine.proofs.Holds.{Terms, Does, does-gives, does-do, goes-gives, goes-ends, goes-act, Now, Kept, Goes, goes-then}
use Rattle.el_machine.proofs.HoldsTasks.{CanStart, can-block, Answered, WasWaited, WasChild, IsTold, Piped, Passed, told_later, GoesOn, does-wait, does-pipe, does-starting, does-close, does-unstarted_code, goes-changed, goes-failed, goes-input, goes-on, goes-refused}

-- ---- both ends

-- both ends of a new pipe are held
pub record HasEnds (terms : Terms) (base : List Handle) (fds : List (Option Handle)) (ends : PipeEnds) (now : Now) : Type 0 where
  pub kept : Kept terms (ends.reader ∷ ends.writer ∷ base) fds now
  pub new : terms.known → AreNew base ends

module _ {terms : Terms} {base : List Handle} {now : Now} where
  -- the writer is closed
  pub does-close_writer : {fds : List (Option Handle)} (ends : PipeEnds) → (terms.known → AreNew base ends) → Kept terms (ends.reader ∷ ends.writer ∷ base) fds now → Does terms now (λ _. Passed terms (ends.reader ∷ base) fds now) (close_act ends.writer)
  does-close_writer ends new h = does-close ends.writer (λ s. let new = new s in let writer = new.writer in writer.apart) (record { exact = λ s. turned (h.exact s) })

  -- both are closed
  pub does-close_ends : {fds : List (Option Handle)} (ends : PipeEnds) → (terms.known → AreNew base ends) → Kept terms (ends.reader ∷ ends.writer ∷ base) fds now → Does terms now (λ _. Passed terms base fds now) (closing_ends ends)
  unfolding closing
  does-close_ends ends new h = does-do (does-close_writer ends new h) (λ _ mid p. does-do (does-close ends.reader (λ s. let new = new s in let reader = new.reader in reader.alone) p.kept)
      (λ _ now q. does-gives (record { kept = q.kept; later = λ is. q.later (p.later is) })))

module _ {terms : Terms} {cause : Now → Type 0} {base : List Handle} {now : Now} where
  pub goes-piped : (program : Prog) (state : State) → Kept terms base state.fds now → Goes terms cause base now (HasEnds terms base state.fds) (piped program state)
  unfolding piped
  goes-piped program state h = goes-act (does-pipe h) by
    where
      by : (answer : Result PipeEnds Fault) (now : Now) → Piped terms base state.fds answer now → Goes terms cause base now (HasEnds terms base state.fds) (after_pipe program state answer)
      by (Ok ends) now p = goes-gives (record { kept = p.kept; new = p.new })
      by (Err fault) now p = goes-failed state (name_text program) p.told p.kept

  -- and the process ends, since a call failed
  pub goes-given_up : {A : Type 0} {P : A → Now → Type 0} (program : Prog) (state : State) (ends : PipeEnds) → now.ok ≡ false → (terms.known → AreNew base ends) → Kept terms (ends.reader ∷ ends.writer ∷ base) state.fds now
      → Goes terms cause base now P (giving_up program state ends)
  goes-given_up program state ends failed new h = goes-act (does-close_ends ends new h) (λ _ now p. goes-failed state (name_text program) (p.later failed) p.kept)

module _ {terms : Terms} {cause : Now → Type 0} {base : List Handle} {now : Now} where
  -- a block is started at a side of it
  pub goes-started_at : (program : Prog) (state : State) (block : List (List ℕ)) → (block ≢ [] → terms.may_start block) → (side : Side) (ends : PipeEnds) → (terms.known → AreNew base ends) → Kept terms (ends.reader ∷ ends.writer ∷ base) state.fds now
      → Goes terms cause base now (λ _. Kept terms (ends.reader ∷ ends.writer ∷ base) state.fds) (started_at program state block side ends)
  unfolding started_at
  goes-started_at program state block can side ends new h = goes-act (does-starting h block can state.env state.dir _) by
    where
      by : (answer : Result Started Fault) (now : Now) → Answered terms (ends.reader ∷ ends.writer ∷ base) state.fds answer now
          → Goes terms cause base now (λ _. Kept terms (ends.reader ∷ ends.writer ∷ base) state.fds) (unless_failed program state ends answer)
      by (Ok started) now p = goes-gives p.kept
      by (Err fault) now p = goes-given_up program state ends p.told new p.kept

-- ---- pipeline

-- the ends as one has them who closes this side's, and then has the other one
record BySide (base : List Handle) (ends : PipeEnds) (side : Side) : Type 0 where
  this : IsNew base (end_at side ends) (end_at (other_side side) ends)
  other : IsNew base (end_at (other_side side) ends) (end_at side ends)
  holds : (held : List Handle) (fds : List (Option Handle)) → HoldsExactly (ends.reader ∷ ends.writer ∷ base) held fds → HoldsExactly (end_at side ends ∷ end_at (other_side side) ends ∷ base) held fds
  below : number_at (other_side side) < 64

by_side : {base : List Handle} (ends : PipeEnds) (side : Side) → AreNew base ends → BySide base ends side
by_side ends Input new = record { this = new.reader; other = new.writer; holds = λ held fds h. h; below = omega arith }
by_side ends OutputSide new = record { this = new.writer; other = new.reader; holds = λ held fds h. turned h; below = omega arith }

module _ {terms : Terms} {cause : Now → Type 0} {base : List Handle} where
  goes-kid : {now : Now} (state : State) (block : List (List ℕ)) → (block ≢ [] → terms.may_start block) → (side : Side) (ends : PipeEnds) → (terms.known → AreNew base ends) → Kept terms (ends.reader ∷ ends.writer ∷ base) state.fds now
      → Goes terms cause base now (λ _. Kept terms (end_at (other_side side) ends ∷ base) state.fds) (starting_kid state block side ends)
  unfolding starting_kid
  goes-kid state block can side ends new h = goes-then (goes-started_at Pipeline state block can side ends new h) (λ started now k.
      goes-act (does-close (end_at side ends) (λ s. let sides = by_side ends side (new s) in let this = sides.this in this.apart) (record { exact = λ s. let sides = by_side ends side (new s) in sides.holds now.held state.fds (k.exact s) }))
      (λ _ now p. goes-act (does-unstarted_code (first_word block) started p.kept) (λ code now p. goes-gives p.kept)))

  -- a number takes the process's end
  goes-taking : {now : Now} (state : State) (kid : Option Pid) (side : Side) (ends : PipeEnds) → (terms.known → AreNew base ends) → Kept terms (end_at (other_side side) ends ∷ base) state.fds now
      → GoesOn terms cause base now Pipeline state (taking (noted kid state) (other_side side) ends)
  unfolding shape_of
  goes-taking state kid side ends new h =
      goes-changed (end_at (other_side side) ends ∷ []) (noted kid state) (set state.fds (number_at (other_side side)) (Some (end_at (other_side side) ends))) on
      (λ s. let sides = by_side ends side (new s) in let other = sides.other in let exact = h.exact s in put_takes state.fds (number_at (other_side side)) (end_at (other_side side) ends) other.given other.alone sides.below exact.numbers)
      (record { exact = h.exact })
      (λ now k. goes-on refl (record { variables = only_set state.env kid_name (kid_text kid); directory = λ no. refl; descriptors = λ no. absurd (true≢false no); kids = λ no. absurd (true≢false no) }) k)

  pub goes-pipeline : {now : Now} (state : State) (read : Read) → CanStart terms Pipeline read → Kept terms base state.fds now → GoesOn terms cause base now Pipeline state (pipeline read state)
  unfolding pipeline shape_of
  goes-pipeline state read can h = goes-then (goes-piped Pipeline state h) (λ ends now p.
      goes-then (goes-kid state (block_at First read) (can-block terms Pipeline read can refl First) (block_side read) ends p.new p.kept) (λ kid now k. goes-taking state kid (block_side read) ends p.new k))

-- ---- backtick

-- what a block wrote, and how it ended; el_pipes keeps the type to itself
abbrev gift_type : {A B C : Type 0} → (A → B → Task C) → Type 0
gift_type {C = C} f = C

abbrev Output : Type 0
Output = gift_type output_of

-- behind the block's end
abbrev HasOutput : (terms : Terms) → List Handle → State → Output → Now → Type 0
HasOutput terms base state output now = WasChild terms base state.fds output.ended now

-- nothing was run
nothing : {terms : Terms} {base : List Handle} {fds : List (Option Handle)} {now : Now} → Kept terms base fds now → WasChild terms base fds (Exited 0) now
nothing h = record { kept = h; last = λ is. absurd (other_code 0 refl is) }

module _ {terms : Terms} {cause : Now → Type 0} {base : List Handle} (state : State) where
  goes-waited : {now : Now} (pid : Pid) → Kept terms base state.fds now → Goes terms cause base now (WasChild terms base state.fds) (waited_for state pid)
  unfolding waited_for
  goes-waited pid h = goes-act (does-wait h pid) by
    where
      by : (answer : Result Ended Fault) (now : Now) → WasWaited terms base state.fds answer now → Goes terms cause base now (WasChild terms base state.fds) (after_wait state answer)
      by (Ok ended) now p = goes-gives (record { kept = p.kept; last = p.last })
      by (Err fault) now p = goes-failed state (name_text Backtick) p.told p.kept

  -- all that the block writes is read
  goes-read : {now : Now} (ends : PipeEnds) (pid : Pid) → (terms.known → AreNew base ends) → Kept terms (ends.reader ∷ ends.writer ∷ base) state.fds now → Goes terms cause base now (HasOutput terms base state) (read_from state ends pid)
  unfolding read_from
  goes-read ends pid new h = goes-act (does-close_writer ends new h) (λ _ now p. goes-then (goes-input state ends.reader p.kept) (λ text now q.
      goes-act (does-close ends.reader (λ s. let new = new s in let reader = new.reader in reader.alone) q.kept) (λ _ now r. by text now r.kept (told_later text r.later q.told))))
    where
      by : (text : Option (List ℕ)) (now : Now) → Kept terms base state.fds now → IsTold now.ok text → Goes terms cause base now (HasOutput terms base state) (after_reads state pid text)
      by None now k told = goes-failed state (name_text Backtick) told k
      by (Some text) now k told = goes-then (goes-waited pid k) (λ ended now k. goes-gives k)

  goes-written : {now : Now} (block : List (List ℕ)) → (block ≢ [] → terms.may_start block) → Kept terms base state.fds now → Goes terms cause base now (HasOutput terms base state) (written_by state block)
  unfolding written_by
  goes-written block can h = goes-then (goes-piped Backtick state h) (λ ends now p. goes-then (goes-started_at Backtick state block can OutputSide ends p.new p.kept) (λ started now k. by ends p.new started (running_pid started) now k))
    where
      by : (ends : PipeEnds) → (terms.known → AreNew base ends) → (started : Started) (running : Option Pid) (now : Now) → Kept terms (ends.reader ∷ ends.writer ∷ base) state.fds now
          → Goes terms cause base now (HasOutput terms base state) (output_by state block ends started running)
      by ends new started (Some pid) now k = goes-read ends pid new k
      by ends new started None now k = goes-act (does-close_ends ends new k) (λ _ now p. goes-act (does-unstarted_code (first_word block) started p.kept)
          (λ code now p. goes-gives (record { kept = p.kept; last = λ is. absurd (other_code code p.other is) })))

  goes-output : {now : Now} (block : List (List ℕ)) → (block ≢ [] → terms.may_start block) → Kept terms base state.fds now → Goes terms cause base now (HasOutput terms base state) (output_of state block)
  unfolding output_of
  goes-output [] can h = goes-gives (nothing h)
  goes-output (word ∷ words) can h = goes-written (word ∷ words) can h

  goes-value : {now : Now} (read : Read) → ((now : Now) → (has (codes "i") read ≡ true) × EndsByWait now.told → cause now) → (output : Output) → HasOutput terms base state output now
      → Goes terms cause base now (λ _. Kept terms base state.fds) (value_from read state output)
  unfolding value_from
  goes-value {now} read own output h = by (is_trouble output) (has (codes "i") read) refl (has (codes "I") read)
    where
      ending : has (codes "i") read ≡ true → (zero : Bool) → Goes {A = Option (List ℕ)} terms cause base now (λ _. Kept terms base state.fds) (if zero then refused state (name_text Backtick) NulInput else plan.ends (Status (code_of output.ended) state))
      ending stops true = goes-refused state (name_text Backtick) NulInput tt h.kept
      ending stops false = goes-ends h.kept (λ _ is. own now (stops, h.last is))

      by : (trouble stops : Bool) → has (codes "i") read ≡ stops → (removes : Bool) → Goes terms cause base now (λ _. Kept terms base state.fds) (if trouble
          then (if stops then ending_by state output.ended else (if removes then plan.gives None else plan.gives (Some (default_of read output))))
          else plan.gives (Some (word_of read output)))
      by false stops is removes = goes-gives h.kept
      by true true is removes = ending is (code_of output.ended == 0)
      by true false is true = goes-gives h.kept
      by true false is false = goes-gives h.kept

  goes-valued : {now : Now} (read : Read) (value : Option (List ℕ)) → Kept terms base state.fds now → GoesOn terms cause base now Backtick state (going_on read state value)
  unfolding going_on shape_of
  goes-valued {now} read value h = by (puts_values read) value
    where
      changed : (value : Option (List ℕ)) → ChangesOne state.env (env_with read state.env value)
      changed None = one_removed state.env _
      changed (Some value) = one_set state.env _ value

      by : (puts : Bool) (value : Option (List ℕ)) → GoesOn terms cause base now Backtick state (if puts then put_in read state value else on (set_to read state value))
      by false value = goes-on refl (other_variables Backtick state _ (changed value)) (record { exact = h.exact })
      by true None = goes-refused (set_to read state None) (name_text Backtick) NotSet tt (record { exact = h.exact })
      by true (Some value) = goes-gives (record { kept = record { exact = h.exact }; may = other_variables Backtick state _ (changed None); go = (refl, refl) })

  -- its code is the block's
  pub goes-backtick : {now : Now} (read : Read) → CanStart terms Backtick read → ((now : Now) → (has (codes "i") read ≡ true) × EndsByWait now.told → cause now) → Kept terms base state.fds now → GoesOn terms cause base now Backtick state (backtick read state)
  unfolding backtick shape_of
  goes-backtick {now} read can own h = by (names_well read)
    where
      by : (good : Bool) → GoesOn terms cause base now Backtick state (if good then and_then (output_of state (block_at First read)) (λ output. and_then (value_from read state output) (going_on read state)) else refused state (name_text Backtick) BadName)
      by true = goes-then (goes-output (block_at First read) (can-block terms Backtick read can refl First) h) (λ output now k. goes-then (goes-value read own output k) (λ value now k. goes-valued read value k))
      by false = goes-refused state (name_text Backtick) BadName tt h
