-- The programs of el_loops, which end the process: a loop over a pipe holds its reader besides, up to its last turn. Their codes are their own.
use Rattle.el_room.proofs.Vocabulary.{name_text, Prog, Loopwhilex, Forx, Forstdin, Forbacktickx, Vars, Ended, Event, Fault, Handle, Pid, PipeEnds, is_held, and_then, State, Status, Task, Started, Empty, Running, Trouble, Missing, BadName, NotOpen, NulInput, Failed, first_word, code_of, running_pid, handles_in, held_at, closing, most_units, has_nul, before_nul, refused, trouble_status, First, Read, block_at, Way}
use Rattle.std.proofs.Common.{◌≡◌, ℕ, suc, ◌==◌, Bool, true, false, List, [], ◌∷◌, ◌++◌, Option, Some, None, unwrap_or, Result, Ok, Err, refl, sym, ap, ◌∙◌, subst, true≢false, if◌then◌else◌, ◌≢◌, inr}
use Rattle.std.specs.Prelude.{IfSome}
use Rattle.el_world.specs.Plans as plan
use Rattle.el_proc.specs.declared.child.Started.TheVariants.{NotFound, NotStartable}
use Rattle.el_pipes.specs.Putting.{names_well}
use Rattle.el_pipes.specs.declared.side.Side.TheVariants.{Output}
use Rattle.el_loops.specs.Forstdin.{forstdin_loop, over_input, over_number, forstdin}
use Rattle.el_loops.specs.Forx.{forx_loop, forx}
use Rattle.el_loops.specs.Loopwhilex.{goes_on_behind, repeating, loopwhilex}
use Rattle.el_loops.specs.declared.turn.Turn.{Turn}
use Rattle.el_loops.specs.declared.turn.Turn.TheVariants.{Over, Pending}
use Rattle.el_loops.specs.Turns as loop
use Rattle.el_loops.specs.Turns.{turn_env, after_code, Looping, is_parallel, is_ending, needing_words, begun, breaking_off, turn_words, turn_by, started, turn_code, ending, after_started, turn, turns, or_first, first_ending, loop_end}
use Rattle.el_loops.specs.Values.{after_read, new_values, last_values, used, turns_behind, turns_over}
use Rattle.el_loops.specs.Forbacktickx as output
use Rattle.el_loops.specs.Forbacktickx.{waited_for, forbacktickx_loop, over_reader, over_started, over_pipe, over_block, forbacktickx}
use Rattle.el_machine.specs.Causes.{EndsByWait, HasStart, HasTurn}
use Rattle.el_machine.proofs.Waits.{start_stays, turn_stays, other_code}
use Rattle.el_machine.proofs.LacksHandles.{OnLack, first_needed}
use Rattle.el_machine.proofs.PipeEnds.{AreNew}
use Rattle.el_machine.proofs.Holds.{Terms, Grew, goes-act_since, goes-then_since, Does, does-gives, does-do, goes-gives, goes-ends, goes-spent, goes-takes, goes-act, Now, Kept, Goes, goes-then}
use Rattle.el_machine.proofs.HoldsTasks.{CanStart, can-block, Answered, Passed, WasWaited, TurnWaited, TurnStarted, sooner, other_status, does-wait, does-wait_turn, does-start_turn, does-unstarted_code, does-read, does-close, goes-refusal, goes-failed, goes-child, goes-refused}
use Rattle.el_machine.proofs.HoldsPipes.{does-close_writer, does-close_ends, goes-piped, goes-started_at}
use Rattle.el_options.specs.Shapes.{shape_of}

-- ---- the turns of a loop

-- what a loop holds besides the base while its turns go on
abbrev with_reader : (base : List Handle) → Looping → List Handle
with_reader base looping = handles_in looping.reader ++ base

abbrev Turning : (terms : Terms) → (base : List Handle) → Looping → Now → Type 0
Turning terms base looping now = Kept terms (with_reader base looping) looping.state.fds now

-- a turn that is over has another code than 111, and one that may still run was started with the words of its value
abbrev IsTurn : Read → (events : List Event) → Turn → Type 0
IsTurn read events (Over code) = (code == 111) ≡ false
IsTurn read events (Pending pid) = (value : List ℕ) × HasStart (turn_words read value) pid events

abbrev AreTurns : Read → (events : List Event) → List Turn → Type 0
AreTurns read events [] = Unit {0}
AreTurns read events (turn ∷ made) = IsTurn read events turn × AreTurns read events made

turns_joined : (read : Read) (events : List Event) (made : List Turn) (turn : Turn) → AreTurns read events made → IsTurn read events turn → AreTurns read events (made ++ turn ∷ [])
turns_joined read events [] turn all one = (one, tt)
turns_joined read events (first ∷ made) turn all one = (all.0, turns_joined read events made turn all.1 one)

-- they still are behind more calls
one_later : (read : Read) {before now : Now} (turn : Turn) → Grew before now → IsTurn read before.told turn → IsTurn read now.told turn
one_later read (Over code) grew other = other
one_later read {before} (Pending pid) grew one = (one.0, start_stays before.told grew.more grew.told one.1)

all_later : (read : Read) {before now : Now} (made : List Turn) → Grew before now → AreTurns read before.told made → AreTurns read now.told made
all_later read [] grew all = tt
all_later read (turn ∷ made) grew all = (one_later read turn grew all.0, all_later read made grew all.1)

-- so it is behind the start of a turn
record Began (terms : Terms) (base : List Handle) (looping : Looping) (turn : Turn) (now : Now) : Type 0 where
  kept : Turning terms base looping now
  one : IsTurn looping.read now.told turn

-- and behind turns, while these are held
record Made (terms : Terms) (base : List Handle) (fds : List (Option Handle)) (read : Read) (made : List Turn) (now : Now) : Type 0 where
  kept : Kept terms base fds now
  all : AreTurns read now.told made

abbrev Making : (terms : Terms) → (base : List Handle) → Looping → List Turn → Now → Type 0
Making terms base looping made now = Made terms (with_reader base looping) looping.state.fds looping.read made now

-- behind a turn's end, which has the code 111 by a wait alone
record IsOver (terms : Terms) (base : List Handle) (looping : Looping) (code : ℕ) (now : Now) : Type 0 where
  kept : Turning terms base looping now
  waits : code ≡ 111 → HasTurn looping.read now.told

-- 111 ends a loop
abbrev Ends111 : Read → Now → Type 0
Ends111 read now = (is_ending read 111 ≡ true) × HasTurn read now.told

-- behind the ends of turns
record FoundHandle (terms : Terms) (base : List Handle) (looping : Looping) (found : Option ℕ) (now : Now) : Type 0 where
  kept : Turning terms base looping now
  why : found ≡ Some 111 → Ends111 looping.read now

-- the code that was found first, behind one turn more
found_first : (read : Read) (before now : Now) (found : Option ℕ) (code : ℕ) → (found ≡ Some 111 → Ends111 read before) → (code ≡ 111 → HasTurn read now.told) → Grew before now
    → or_first read found code ≡ Some 111 → Ends111 read now
found_first read before now (Some first) code why waits grew is = let ends = why is in (ends.0, turn_stays before.told grew.more grew.told ends.1)
found_first read before now None code why waits grew is = by (is_ending read code) refl is
  where
    by : (ends : Bool) → is_ending read code ≡ ends → (if ends then Some code else None) ≡ Some 111 → Ends111 read now
    by true ends is = let same : code ≡ 111 = let e = is in cc in (subst (λ code. is_ending read code ≡ true) same ends, waits same)
    by false ends is = let no : ⊥ = let e = is in cc in absurd no

-- a turn may be started for each value
abbrev CanTurn : Terms → Read → Type 0
CanTurn terms read = (value : List ℕ) → turn_words read value ≢ [] → terms.may_start (turn_words read value)

-- its reader is none of the base
abbrev IsApart : (base : List Handle) → Looping → Type 0
IsApart base looping = IfSome looping.reader (λ handle. is_held base handle ≡ false)

module _ {terms : Terms} {base : List Handle} (looping : Looping) (apart : terms.known → IsApart base looping) where
  does-close_reader : {now : Now} → Turning terms base looping now → Does terms now (λ _. Passed terms base looping.state.fds now) (closing (handles_in looping.reader))
  unfolding closing
  does-close_reader {now} h = by looping.reader apart h
    where
      by : (reader : Option Handle) → (terms.known → IfSome reader (λ handle. is_held base handle ≡ false)) → Kept terms (handles_in reader ++ base) looping.state.fds now → Does terms now (λ _. Passed terms base looping.state.fds now) (closing (handles_in reader))
      by None alone h = does-gives (record { kept = h; later = λ is. is })
      by (Some handle) alone h = does-do (does-close handle alone h) (λ _ now p. does-gives p)

module _ {terms : Terms} {cause : Now → Type 0} {base : List Handle} (looping : Looping) (can_turn : CanTurn terms looping.read) (own : (now : Now) → Ends111 looping.read now → cause now) (apart : terms.known → IsApart base looping) where
  goes-broken : {A : Type 0} {P : A → Now → Type 0} {now : Now} (trouble : Trouble) → (now.ok ≡ true → trouble_status trouble ≡ 111 → ⊥) → Turning terms base looping now → Goes terms cause base now P (breaking_off looping trouble)
  unfolding breaking_off
  goes-broken {now = now} trouble never h = goes-act (does-close_reader looping apart h) (λ _ after p. goes-refusal looping.state (name_text looping.program) trouble (λ ok is. absurd (never (sooner now.ok after.ok p.later ok) is)) p.kept)

  -- a call failed
  goes-cut_off : {A : Type 0} {P : A → Now → Type 0} {now : Now} → now.ok ≡ false → Turning terms base looping now → Goes terms cause base now P (breaking_off looping Failed)
  goes-cut_off failed h = goes-broken Failed (λ ok _. true≢false (sym ok ∙ failed)) h

  goes-ending : {A : Type 0} {P : A → Now → Type 0} {now : Now} (code : ℕ) → is_ending looping.read code ≡ true → (code ≡ 111 → HasTurn looping.read now.told) → Turning terms base looping now → Goes terms cause base now P (ending looping code)
  unfolding ending
  goes-ending {now = now} code ends waits h = goes-act_since (does-close_reader looping apart h)
      (λ _ after grew p. goes-ends p.kept (λ _ is. own after (subst (λ code. is_ending looping.read code ≡ true) is ends, turn_stays now.told grew.more grew.told (waits is))))

  goes-started : {now : Now} (value : List ℕ) (vars : Vars) → Turning terms base looping now → Goes terms cause base now (Began terms base looping) (started looping (turn_words looping.read value) vars)
  unfolding started
  goes-started value vars h = goes-act (does-start_turn h words (can_turn value) vars looping.state.dir looping.streams) by
    where
      words : List (List ℕ)
      words = turn_words looping.read value

      over : (started : Started) (now : Now) → Turning terms base looping now → Goes terms cause base now (Began terms base looping) (turn_by looping words started None)
      over started now h = goes-act (does-unstarted_code (first_word words) started h) (λ code now p. goes-gives (record { kept = p.kept; one = p.other }))

      by : (answer : Result Started Fault) (now : Now) → TurnStarted terms (with_reader base looping) looping.state.fds words answer now → Goes terms cause base now (Began terms base looping) (loop.after_start looping words answer)
      by (Ok Empty) now p = over Empty now p.kept
      by (Ok (Running pid)) now p = goes-gives (record { kept = p.kept; one = (value, p.started) })
      by (Ok NotFound) now p = over NotFound now p.kept
      by (Ok NotStartable) now p = over NotStartable now p.kept
      by (Err fault) now p = goes-cut_off p.told p.kept

  goes-code : {now : Now} (turn : Turn) → IsTurn looping.read now.told turn → Turning terms base looping now → Goes terms cause base now (IsOver terms base looping) (turn_code looping turn)
  unfolding turn_code
  goes-code (Over code) other h = goes-gives (record { kept = h; waits = λ is. absurd (other_code code other is) })
  goes-code (Pending pid) start h = goes-act (does-wait_turn h looping.read start.0 pid start.1) by
    where
      by : (answer : Result Ended Fault) (now : Now) → TurnWaited terms (with_reader base looping) looping.state.fds looping.read answer now → Goes terms cause base now (IsOver terms base looping) (loop.after_wait looping answer)
      by (Ok ended) now p = goes-gives (record { kept = p.kept; waits = p.turn })
      by (Err fault) now p = goes-cut_off p.told p.kept

  goes-settled : {now : Now} (made : List Turn) (turn : Turn) → AreTurns looping.read now.told made → Began terms base looping turn now → Goes terms cause base now (Making terms base looping) (after_started looping made turn)
  unfolding after_started
  goes-settled {now} made turn all began = by (is_parallel looping.read)
    where
      ended : (code : ℕ) (after : Now) → Grew now after → IsOver terms base looping code after → (last : Bool) → is_ending looping.read code ≡ last → Goes terms cause base after (Making terms base looping) (if last then ending looping code else plan.gives made)
      ended code after grew p true is = goes-ending code is p.waits p.kept
      ended code after grew p false is = goes-gives (record { kept = p.kept; all = all_later looping.read made grew all })

      by : (parallel : Bool) → Goes terms cause base now (Making terms base looping) (if parallel then plan.gives (made ++ turn ∷ []) else and_then (turn_code looping turn) (after_code looping made))
      by true = goes-gives (record { kept = began.kept; all = turns_joined looping.read _ made turn all began.one })
      by false = goes-then_since (goes-code turn began.one began.kept) (λ code after grew p. ended code after grew p (is_ending looping.read code) refl)

  goes-one : {now : Now} (made : List Turn) (value : List ℕ) → Making terms base looping made now → Goes terms cause base now (Making terms base looping) (turn looping made value)
  unfolding turn
  goes-one made value h = goes-takes (goes-then_since (goes-started value (turn_env looping value) h.kept) (λ turn now grew began. goes-settled made turn (all_later looping.read made grew h.all) began))

  goes-turns : {now : Now} (made : List Turn) (values : List (List ℕ)) → Making terms base looping made now → Goes terms cause base now (Making terms base looping) (turns looping made values)
  unfolding turns
  goes-turns made [] h = goes-gives h
  goes-turns made (value ∷ values) h = goes-then (goes-one made value h) (λ made now h. goes-turns made values h)

  goes-found : {now : Now} (found : Option ℕ) (made : List Turn) → AreTurns looping.read now.told made → FoundHandle terms base looping found now → Goes terms cause base now (FoundHandle terms base looping) (first_ending looping found made)
  unfolding first_ending
  goes-found found [] all h = goes-gives h
  goes-found {now} found (turn ∷ made) all h = goes-then_since (goes-code turn all.0 h.kept) (λ code after grew p.
      goes-found (or_first looping.read found code) made (all_later looping.read made grew all.1) (record { kept = p.kept; why = found_first looping.read now after found code h.why p.waits grew }))

  -- ---- over an input

  goes-used : {now : Now} (made : List Turn) (values : List (List ℕ)) (nul : Bool) → Making terms base looping made now → Goes terms cause base now (Making terms base looping) (used looping made values nul)
  unfolding used
  goes-used made values nul h = goes-then (goes-turns made values h) (by nul)
    where
      by : (nul : Bool) (made : List Turn) (now : Now) → Making terms base looping made now → Goes terms cause base now (Making terms base looping) (if nul then breaking_off looping NulInput else plan.gives made)
      by true made now h = goes-broken NulInput (λ _ is. other_code (trouble_status NulInput) (other_status NulInput tt) is) h.kept
      by false made now h = goes-gives h

  goes-behind : (count : ℕ) (handle : Handle) (before : List ℕ) (made : List Turn) (now : Now) → Making terms base looping made now → Goes terms cause base now (Making terms base looping) (turns_behind count looping handle before made)
  unfolding turns_behind
  goes-behind Prim.Native.Nat.zero handle before made now h = goes-spent
  goes-behind (suc count) handle before made now h = goes-takes (goes-act_since (does-read h.kept handle) (λ answer after grew p. by (goes-behind count handle) answer after (all_later looping.read made grew h.all) p))
    where
      by : ((before : List ℕ) (made : List Turn) (now : Now) → Making terms base looping made now → Goes terms cause base now (Making terms base looping) (turns_behind count looping handle before made))
          → (answer : Result (List ℕ) Fault) (now : Now) → AreTurns looping.read now.told made → Answered terms (with_reader base looping) looping.state.fds answer now
          → Goes terms cause base now (Making terms base looping) (after_read looping (λ before made. turns_behind count looping handle before made) before made answer)
      by next (Ok []) now all p = goes-turns made (last_values looping.read before) (record { kept = p.kept; all = all })
      by next (Ok (byte ∷ bytes)) now all p =
          goes-then (goes-used made (new_values looping.read before (before_nul (byte ∷ bytes))) (has_nul (byte ∷ bytes)) (record { kept = p.kept; all = all })) (next (before ++ byte ∷ bytes))
      by next (Err fault) now all p = goes-cut_off p.told p.kept

  goes-over : {now : Now} (handle : Handle) → Turning terms base looping now → Goes terms cause base now (Making terms base looping) (turns_over looping handle)
  unfolding turns_over
  goes-over {now} handle h = goes-behind most_units handle [] [] now (record { kept = h; all = tt })

-- ---- the programs

module _ {terms : Terms} {cause : Now → Type 0} {base : List Handle} where
  goes-needing : {now : Now} (program : Prog) (words : List (List ℕ)) (state : State) → Kept terms base state.fds now → Goes terms cause base now (λ _. Kept terms base state.fds) (needing_words program words state)
  goes-needing program [] state h = goes-refused state (name_text program) Missing tt h
  goes-needing program (word ∷ words) state h = goes-gives h

  goes-begun : {now : Now} (program : Prog) (read : Read) (state : State) → Kept terms base state.fds now → Goes terms cause base now (λ _. Kept terms base state.fds) (begun program read state)
  unfolding begun
  goes-begun program read state h = goes-then (goes-needing program read.rest state h) (λ _ now k. by now k (names_well read))
    where
      by : (now : Now) → Kept terms base state.fds now → (good : Bool) → Goes terms cause base now (λ _. Kept terms base state.fds) (if good then plan.gives (tt {0}) else refused state (name_text program) BadName)
      by now k true = goes-gives k
      by now k false = goes-refused state (name_text program) BadName tt k

module _ {terms : Terms} {cause : Now → Type 0} {base : List Handle} (state : State) (read : Read) (can_turn : CanTurn terms read) (own : (now : Now) → Ends111 read now → cause now) where
  -- what a generator writes
  goes-generator : {now : Now} (pid : Pid) → Kept terms base state.fds now → Goes terms cause base now (λ _. Kept terms base state.fds) (waited_for state pid)
  unfolding waited_for
  goes-generator pid h = goes-act (does-wait h pid) by
    where
      by : (answer : Result Ended Fault) (now : Now) → WasWaited terms base state.fds answer now → Goes terms cause base now (λ _. Kept terms base state.fds) (output.after_wait state answer)
      by (Ok ended) now p = goes-gives p.kept
      by (Err fault) now p = goes-failed state (name_text Forbacktickx) p.told p.kept

  goes-reader : {now : Now} (reader : Handle) (pid : Pid) → (terms.known → is_held base reader ≡ false) → Kept terms (reader ∷ base) state.fds now → Goes terms cause base now (Made terms base state.fds read) (over_reader read state reader pid)
  unfolding over_reader
  goes-reader reader pid alone h = goes-then (goes-over (forbacktickx_loop read (Some reader) state) can_turn own alone reader h) (λ made now m.
      goes-act_since (does-close reader alone m.kept) (λ _ now one p. goes-then_since (goes-generator pid p.kept) (λ _ now two k. goes-gives (record { kept = k; all = all_later read made two (all_later read made one m.all) }))))

  goes-over_pipe : {now : Now} (block : List (List ℕ)) → (block ≢ [] → terms.may_start block) → Kept terms base state.fds now → Goes terms cause base now (Made terms base state.fds read) (over_pipe read state block)
  unfolding over_pipe
  goes-over_pipe block can h = goes-then (goes-piped Forbacktickx state h) (λ ends now p. goes-then (goes-started_at Forbacktickx state block can Output ends p.new p.kept) (λ started now k. by ends p.new started (running_pid started) now k))
    where
      by : (ends : PipeEnds) → (terms.known → AreNew base ends) → (started : Started) (running : Option Pid) (now : Now) → Kept terms (ends.reader ∷ ends.writer ∷ base) state.fds now
          → Goes terms cause base now (Made terms base state.fds read) (over_started read state block ends started running)
      by ends new started (Some pid) now k = goes-act (does-close_writer ends new k) (λ _ now p. goes-reader ends.reader pid (λ s. let new = new s in let reader = new.reader in reader.alone) p.kept)
      by ends new started None now k = goes-act (does-close_ends ends new k) (λ _ now p. goes-act (does-unstarted_code (first_word block) started p.kept) (λ code now p. goes-gives (record { kept = p.kept; all = tt })))

  goes-over_block : {now : Now} (block : List (List ℕ)) → (block ≢ [] → terms.may_start block) → Kept terms base state.fds now → Goes terms cause base now (Made terms base state.fds read) (over_block read state block)
  unfolding over_block
  goes-over_block [] can h = goes-gives (record { kept = h; all = tt })
  goes-over_block (word ∷ words) can h = goes-over_pipe (word ∷ words) can h

module _ {terms : Terms} {cause : Now → Type 0} {base : List Handle} {P : Way → Now → Type 0} (state : State) (read : Read) (can : CanStart terms Loopwhilex read) (own : (now : Now) → (goes_on_behind read 111 ≡ false) × EndsByWait now.told → cause now) where
  goes-repeating : (count : ℕ) (now : Now) → Kept terms base state.fds now → Goes terms cause base now P (repeating count read state)
  unfolding repeating
  goes-repeating Prim.Native.Nat.zero now h = goes-spent
  goes-repeating (suc count) now h = goes-takes (goes-then (goes-child state (name_text Loopwhilex) read.rest (λ some. can read.rest (record { some = some; which = inr refl })) h) (λ ended now p. by (goes-repeating count now p.kept) (code_of ended) p.last p.kept (goes_on_behind read (code_of ended)) refl))
    where
      by : {now : Now} {next : Task Way} → Goes terms cause base now P next → (code : ℕ) → (code ≡ 111 → EndsByWait now.told) → Kept terms base state.fds now → (goes : Bool) → goes_on_behind read code ≡ goes → Goes terms cause base now P (if goes then next else plan.ends (Status code state))
      by next code last k true is = next
      by {now} next code last k false is = goes-ends k (λ _ same. own now (subst (λ code. goes_on_behind read code ≡ false) same is, last same))

  pub goes-loopwhilex : {now : Now} → Kept terms base state.fds now → Goes terms cause base now P (loopwhilex read state)
  unfolding loopwhilex
  goes-loopwhilex h = goes-then (goes-needing Loopwhilex read.rest state h) (λ _ now k. goes-repeating most_units now k)

module _ {terms : Terms} {cause : Now → Type 0} {base : List Handle} {P : Way → Now → Type 0} (state : State) (read : Read) (own : (now : Now) → Ends111 read now → cause now) where
  -- a loop that holds no reader ends
  goes-loop_end : {now : Now} (can_turn : CanTurn terms read) (program : Prog) (streams : List (Option Handle)) (made : List Turn) → Made terms base state.fds read made now
      → Goes terms cause base now P (loop_end (record { program = program; read = read; streams = streams; reader = None; state = state }) made)
  unfolding loop_end
  goes-loop_end can_turn program streams made h =
      goes-then (goes-found (record { program = program; read = read; streams = streams; reader = None; state = state }) can_turn own (λ _. tt) None made h.all (record { kept = h.kept; why = λ is. none is }))
      (λ found now p. goes-ends p.kept (λ _ is. own now (p.why (by found is))))
    where
      none : {T : Type 0} → ◌≡◌ {A = Option ℕ} None (Some 111) → T
      none is = let no : ⊥ = let e = is in cc in absurd no

      by : (found : Option ℕ) → unwrap_or found 0 ≡ 111 → found ≡ Some 111
      by None is = absurd (other_code 0 refl is)
      by (Some code) is = ap Some is

  pub goes-forx : {now : Now} → CanStart terms Forx read → Kept terms base state.fds now → Goes terms cause base now P (forx read state)
  unfolding forx
  goes-forx can h = goes-then (goes-begun Forx read state h) (λ _ now k.
      goes-then (goes-turns (forx_loop read state) can_turn own (λ _. tt) [] (block_at First read) (record { kept = k; all = tt })) (λ made now k. goes-loop_end can_turn Forx _ made k))
    where
      can_turn : CanTurn terms read
      can_turn value some = can _ (record { some = some; which = inr (value, refl) })

  pub goes-forstdin : {now : Now} → CanStart terms Forstdin read → OnLack Forstdin read state cause → Kept terms base state.fds now → Goes terms cause base now P (forstdin read state)
  unfolding forstdin over_number
  goes-forstdin can lack h = goes-then (goes-begun Forstdin read state h) (λ _ now k. by now k (held_at state 0) refl)
    where
      can_turn : CanTurn terms read
      can_turn value some = can _ (record { some = some; which = inr (value, refl) })

      by : (now : Now) → Kept terms base state.fds now → (slot : Option Handle) → held_at state 0 ≡ slot → Goes terms cause base now P (over_input (forstdin_loop read state) slot)
      by now k None is = goes-refusal state (name_text Forstdin) NotOpen (λ _ _. lack 0 (first_needed 0 0 [] refl) is) k
      by now k (Some handle) is = goes-then (goes-over (forstdin_loop read state) can_turn own (λ _. tt) handle k) (λ made now k. goes-loop_end can_turn Forstdin _ made k)

  pub goes-forbacktickx : {now : Now} → CanStart terms Forbacktickx read → Kept terms base state.fds now → Goes terms cause base now P (forbacktickx read state)
  unfolding forbacktickx shape_of
  goes-forbacktickx can h = goes-then (goes-begun Forbacktickx read state h) (λ _ now k.
      goes-then (goes-over_block state read can_turn own (block_at First read) (can-block terms Forbacktickx read can refl First) k) (λ made now k. goes-loop_end can_turn Forbacktickx _ made k))
    where
      can_turn : CanTurn terms read
      can_turn value some = can _ (record { some = some; which = inr (value, refl) })
