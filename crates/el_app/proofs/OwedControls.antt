-- The programs of el_control and of el_pipes: what they start and wait for.
use Rattle.el_room.proofs.Vocabulary.{Prog, Foreground, Background, If, Ifelse, Ifte, Ifthenelse, Cd, Exit, Pipeline, Backtick, name_text, PipeEnds, Pid, Ended, Exited, Killed, Fault, State, Task, BadName, BadNumber, Failed, NotSet, NulInput, Started, Empty, Running, code_of, running_pid, first_word, streams_of, is_kid, without_pid, kids_with, noted, First, Read, has, the_text, text_at, block_at}
use Rattle.el_machine.proofs.Vocabulary.{NotFound, NotStartable, tested, foreground, background, if_then, ifelse, ifte, ifthenelse, branch, cd, exec, exit, exit_with, exit_code, Side, Output as OutputSide, piped, streams_with, started_at, block_side, starting_kid as starting_end, pipeline, output_by, written_by, output_of, value_from, put_in, going_on, backtick, puts_values, names_well}
use Rattle.std.proofs.Common.{◌≡◌, ℕ, ◌==◌, Bool, true, false, if◌then◌else◌, List, [], ◌∷◌, Option, Some, None, Result, Ok, Err, refl, sym, ◌∙◌, subst, codes}
use Rattle.el_words.specs.declared.prog.Prog.TheVariants.{Wait}
use Rattle.el_control.specs.Tests.{verdict}
use Rattle.el_control.specs.Background as kid
use Rattle.el_control.specs.Background.{starting_kid}
use Rattle.el_control.specs.If as if_
use Rattle.el_control.specs.Ifelse as ifelse_
use Rattle.el_control.specs.Cd.{after_enter}
use Rattle.el_control.specs.Wait as waited
use Rattle.el_control.specs.Wait.{wait, waiting_one, waiting_for, waiting, waiting_if, waited_numbers, are_numbers}
use Rattle.el_pipes.specs.Pipes.{after_pipe, unless_failed, end_at, other_side}
use Rattle.el_pipes.specs.Pipeline.{taking}
use Rattle.el_pipes.specs.Backtick as written
use Rattle.el_pipes.specs.Backtick.{waited_for, after_reads, read_from, is_trouble}
use Rattle.el_app.proofs.Owed.{Owed, more, less, Waits, Still, waits-gives, waits-ends, waits-act, waits-both, waits-behind, waits-after, waits-if, back, is-owed}
use Rattle.el_app.proofs.OwedKids.{AreKids, KeepsKids, more_by, joined, kid-owed, one_less}
use Rattle.el_app.proofs.OwedTasks.{StartsOne, MayStartOne, still-pipe, still-close, still-closing, still-enter, still-unstarted, waits-one, waits-starting, still-child, still-input, waits-refused}

-- from here on as much is owed as there
pub from : {A : Type 0} {P : A → Owed → Type 0} {task : Task A} {there here : Owed} → here ≡ there → Waits there P task → Waits here P task
from {P = P} {task} is one = subst (λ owed. Waits owed P task) (sym is) one

-- ---- children that are waited for

module _ {owed : Owed} (state : State) (read : Read) where
  still-tested : (program : Prog) (words : List (List ℕ)) → Waits owed (Still owed) (tested program words read state)
  unfolding tested
  still-tested program words = waits-after (still-child state (name_text program) words) by
    where
      by : (ended : Ended) → Waits owed (Still owed) (verdict read state ended)
      by (Exited code) = waits-gives refl
      by (Killed signal) = waits-if (has (codes "X") read) (waits-gives refl) waits-ends

module _ {owed : Owed} (state : State) (read : Read) (h : AreKids state.kids owed) where
  pub foreground-keeps : Waits owed KeepsKids (foreground read state)
  unfolding foreground
  foreground-keeps = waits-after (still-child state (name_text Foreground) (block_at First read)) (λ _. waits-gives (record { within = h.within }))

  pub if-keeps : Waits owed KeepsKids (if_then read state)
  unfolding if_then
  if-keeps = waits-after (still-tested state read If (block_at First read)) by
    where
      by : (holds : Bool) → Waits owed KeepsKids (if_.by_test read state holds)
      by true = waits-gives h
      by false = waits-ends

  pub ifelse-keeps : Waits owed KeepsKids (ifelse read state)
  unfolding ifelse
  ifelse-keeps = waits-after (still-tested state read Ifelse (block_at First read)) by
    where
      by : (holds : Bool) → Waits owed KeepsKids (ifelse_.by_test state holds)
      by true = waits-gives h
      by false = waits-gives h

  pub ifte-keeps : Waits owed KeepsKids (ifte read state)
  unfolding ifte
  ifte-keeps = waits-after (still-tested state read Ifte read.rest) (λ _. waits-gives h)

  pub ifthenelse-keeps : Waits owed KeepsKids (ifthenelse read state)
  unfolding ifthenelse
  ifthenelse-keeps = waits-after (still-tested state read Ifthenelse (block_at First read)) (λ holds. waits-after (still-child state (name_text Ifthenelse) (block_at (branch holds) read)) (λ _. waits-gives h))

  -- ---- programs without processes

  pub cd-keeps : Waits owed KeepsKids (cd read state)
  unfolding cd
  cd-keeps = waits-behind (still-enter state.dir (the_text First read)) by
    where
      by : (answer : Result (List ℕ) Fault) → Waits owed KeepsKids (after_enter state answer)
      by (Ok dir) = waits-gives (record { within = h.within })
      by (Err fault) = waits-refused state (name_text Cd) Failed

  pub exec-keeps : Waits owed KeepsKids (exec read state)
  unfolding exec
  exec-keeps = waits-gives (record { within = h.within })

  pub exit-keeps : Waits owed KeepsKids (exit read state)
  unfolding exit
  exit-keeps = by (exit_code (text_at First read))
    where
      by : (code : Option ℕ) → Waits owed KeepsKids (exit_with state code)
      by (Some code) = waits-ends
      by None = waits-refused state (name_text Exit) BadNumber

-- ---- kids

-- one that runs is owed
abbrev pub OwesKid : Owed → Option Pid → Owed → Type 0
OwesKid owed kid later = later ≡ more_by owed kid

kid-told : (owed : Owed) (started : Started) (later : Owed) → StartsOne owed started later → later ≡ more_by owed (running_pid started)
kid-told owed Empty later is = is
kid-told owed (Running pid) later is = is
kid-told owed NotFound later is = is
kid-told owed NotStartable later is = is

module _ {owed : Owed} (state : State) where
  kid-started : (block : List (List ℕ)) (answer : Result Started Fault) (later : Owed) → MayStartOne owed answer later → Waits later (OwesKid owed) (kid.after_start state block answer)
  kid-started block (Ok started) later is = waits-behind (still-unstarted state.fds (first_word block) started) (λ _. waits-gives (kid-told owed started later is))
  kid-started block (Err fault) later is = waits-refused state (name_text Background) Failed

  waits-kid : (block : List (List ℕ)) → Waits owed (OwesKid owed) (starting_kid state block)
  unfolding starting_kid
  waits-kid block = waits-act (waits-starting block state.env state.dir (streams_of state)) (kid-started block)

kid-joins : (owed later : Owed) (state : State) (kid : Option Pid) → AreKids state.kids owed → later ≡ more_by owed kid → AreKids (kids_with state.kids kid) later
kid-joins owed later state kid h is = subst (AreKids (kids_with state.kids kid)) (sym is) (joined kid h)

module _ {owed : Owed} (state : State) (read : Read) (h : AreKids state.kids owed) where
  pub background-keeps : Waits owed KeepsKids (background read state)
  unfolding background
  background-keeps = waits-both (waits-kid state (block_at First read)) (λ kid later is. let j = kid-joins owed later state kid h is in waits-gives (record { within = j.within }))

-- ---- wait

abbrev StateKids : State → Owed → Type 0
StateKids state later = AreKids state.kids later

kid-waited : {owed : Owed} (number : ℕ) (state : State) → AreKids state.kids owed → (there : Bool) → is_kid state.kids number ≡ there → Waits owed StateKids (waiting_for number state (if there then Some (record { number = number }) else None))
kid-waited {owed} number state h true there = waits-act (waits-one (record { number = number }) (kid-owed number h there)) (λ answer later is. from is (by answer))
  where
    left : State
    left = record state { kids = without_pid state.kids number }

    by : (answer : Result Ended Fault) → Waits (less owed (record { number = number })) StateKids (waited.after_wait left answer)
    by (Ok ended) = let k = one_less (record { number = number }) h in waits-gives (record { within = k.within })
    by (Err fault) = waits-refused left (name_text Wait) Failed
kid-waited number state h false there = waits-gives h

one-waited : {owed : Owed} (number : ℕ) (state : State) → AreKids state.kids owed → Waits owed StateKids (waiting_one number state)
unfolding waiting_one
one-waited number state h = kid-waited number state h (is_kid state.kids number) refl

all-waited : {owed : Owed} (numbers : List ℕ) (state : State) → AreKids state.kids owed → Waits owed StateKids (waiting numbers state)
unfolding waiting
all-waited [] state h = waits-gives h
all-waited (number ∷ numbers) state h = waits-both (one-waited number state h) (λ left later k. all-waited numbers left k)

pub wait-keeps : {owed : Owed} (state : State) (read : Read) → AreKids state.kids owed → Waits owed KeepsKids (wait read state)
unfolding wait
wait-keeps {owed} state read h = by (waited_numbers (block_at First read) state.kids) (are_numbers (block_at First read))
  where
    by : (numbers : List ℕ) (good : Bool) → Waits owed KeepsKids (waiting_if state numbers good)
    by numbers true = waits-both (all-waited numbers state h) (λ left later k. waits-gives k)
    by numbers false = waits-refused state (name_text Wait) BadNumber

-- ---- pipes

module _ {owed : Owed} where
  pub still-piped : (program : Prog) (state : State) → Waits owed (Still owed) (piped program state)
  unfolding piped
  still-piped program state = waits-behind still-pipe by
    where
      by : (answer : Result PipeEnds Fault) → Waits owed (Still owed) (after_pipe program state answer)
      by (Ok ends) = waits-gives refl
      by (Err fault) = waits-refused state (name_text program) Failed

  pub waits-started_at : (program : Prog) (state : State) (block : List (List ℕ)) (side : Side) (ends : PipeEnds) → Waits owed (StartsOne owed) (started_at program state block side ends)
  unfolding started_at
  waits-started_at program state block side ends = waits-act (waits-starting block state.env state.dir (streams_with state side ends)) by
    where
      by : (answer : Result Started Fault) (later : Owed) → MayStartOne owed answer later → Waits later (StartsOne owed) (unless_failed program state ends answer)
      by (Ok started) later is = waits-gives is
      by (Err fault) later is = waits-behind (still-closing _) (λ _. waits-refused state (name_text program) Failed)

module _ {owed : Owed} (state : State) where
  end-started : (block : List (List ℕ)) (side : Side) (ends : PipeEnds) → Waits owed (OwesKid owed) (starting_end state block side ends)
  unfolding starting_end
  end-started block side ends = waits-both (waits-started_at Pipeline state block side ends)
      (λ started later is. waits-behind (still-close (end_at side ends)) (λ _. waits-behind (still-unstarted state.fds (first_word block) started) (λ _. waits-gives (kid-told owed started later is))))

taking-keeps : {owed : Owed} (state : State) (side : Side) (ends : PipeEnds) → AreKids state.kids owed → Waits owed KeepsKids (taking state side ends)
taking-keeps state side ends h = waits-behind (still-closing _) (λ _. waits-gives (record { within = h.within }))

module _ {owed : Owed} (state : State) (read : Read) (h : AreKids state.kids owed) where
  pub pipeline-keeps : Waits owed KeepsKids (pipeline read state)
  unfolding pipeline
  pipeline-keeps = waits-after (still-piped Pipeline state) (λ ends. waits-both (end-started state (block_at First read) (block_side read) ends)
      (λ kid later is. let j = kid-joins owed later state kid h is in taking-keeps (noted kid state) (other_side (block_side read)) ends (record { within = j.within })))

-- ---- what a block writes

-- what is known of it
abbrev known_type : {A B C D : Type 0} → (A → B → C → D) → Type 0
known_type {C = C} of = C

abbrev Output : Type 0
Output = known_type value_from

module _ {owed : Owed} (state : State) where
  still-own : (pid : Pid) → Waits (more owed pid) (Still owed) (waited_for state pid)
  unfolding waited_for
  still-own pid = waits-act (waits-one pid (is-owed owed pid)) (λ answer later is. from (is ∙ back owed pid) (by answer))
    where
      by : (answer : Result Ended Fault) → Waits owed (Still owed) (written.after_wait state answer)
      by (Ok ended) = waits-gives refl
      by (Err fault) = waits-refused state (name_text Backtick) Failed

  read-told : (pid : Pid) (text : Option (List ℕ)) → Waits (more owed pid) (Still owed) (after_reads state pid text)
  read-told pid None = waits-refused state (name_text Backtick) Failed
  read-told pid (Some text) = waits-both (still-own pid) (λ ended later is. waits-gives is)

  still-read_from : (ends : PipeEnds) (pid : Pid) → Waits (more owed pid) (Still owed) (read_from state ends pid)
  unfolding read_from
  still-read_from ends pid = waits-behind (still-close ends.writer) (λ _. waits-after (still-input state ends.reader) (λ text. waits-behind (still-close ends.reader) (λ _. read-told pid text)))

  none-runs : (block : List (List ℕ)) (ends : PipeEnds) (started : Started) → Waits owed (Still owed) (output_by state block ends started None)
  none-runs block ends started = waits-behind (still-closing _) (λ _. waits-behind (still-unstarted state.fds (first_word block) started) (λ _. waits-gives refl))

  still-output_by : (block : List (List ℕ)) (ends : PipeEnds) (started : Started) (later : Owed) → StartsOne owed started later → Waits later (Still owed) (output_by state block ends started (running_pid started))
  still-output_by block ends Empty later is = from is (none-runs block ends Empty)
  still-output_by block ends (Running pid) later is = from is (still-read_from ends pid)
  still-output_by block ends NotFound later is = from is (none-runs block ends NotFound)
  still-output_by block ends NotStartable later is = from is (none-runs block ends NotStartable)

  still-output : (block : List (List ℕ)) → Waits owed (Still owed) (output_of state block)
  unfolding output_of written_by
  still-output [] = waits-gives refl
  still-output (word ∷ words) = waits-after (still-piped Backtick state) (λ ends. waits-both (waits-started_at Backtick state (word ∷ words) OutputSide ends) (still-output_by (word ∷ words) ends))

module _ {owed : Owed} (state : State) (read : Read) (h : AreKids state.kids owed) where
  still-value : (output : Output) → Waits owed (Still owed) (value_from read state output)
  unfolding value_from
  still-value output = waits-if (is_trouble output)
      (waits-if (has (codes "i") read) (waits-if (code_of output.ended == 0) (waits-refused state (name_text Backtick) NulInput) waits-ends) (waits-if (has (codes "I") read) (waits-gives refl) (waits-gives refl)))
      (waits-gives refl)

  put-keeps : (value : Option (List ℕ)) → Waits owed KeepsKids (put_in read state value)
  put-keeps None = waits-refused _ (name_text Backtick) NotSet
  put-keeps (Some value) = waits-gives (record { within = h.within })

  goes-keeps : (value : Option (List ℕ)) → Waits owed KeepsKids (going_on read state value)
  unfolding going_on
  goes-keeps value = waits-if (puts_values read) (put-keeps value) (waits-gives (record { within = h.within }))

  pub backtick-keeps : Waits owed KeepsKids (backtick read state)
  unfolding backtick
  backtick-keeps = waits-if (names_well read) (waits-after (still-output state (block_at First read)) (λ output. waits-after (still-value output) goes-keeps)) (waits-refused state (name_text Backtick) BadName)
