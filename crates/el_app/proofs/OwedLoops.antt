-- The programs of el_loops: what they start and wait for.
use Rattle.el_machine.proofs.Vocabulary.{NotFound, NotStartable, Output, names_well, Looping, is_parallel, is_ending, needing_words, begun, breaking_off, turn_words, turn_by, started, turn_code, ending, after_started, turn, turns, or_first, first_ending, loop_end, Turn, Over, Pending, new_values, last_values, used, turns_behind, turns_over, goes_on_behind, repeating, loopwhilex, forx_loop, forx, forstdin_loop, over_input, over_number, forstdin, forbacktickx_loop, over_reader, over_started, over_pipe, over_block, forbacktickx}
use Rattle.el_room.proofs.Vocabulary.{Prog, Loopwhilex, Forx, Forstdin, Forbacktickx, name_text, Vars, Handle, PipeEnds, Ended, Fault, Pid, State, Missing, BadName, NotOpen, NulInput, Failed, Trouble, Started, Empty, Running, code_of, running_pid, first_word, held_at, most_units, has_nul, before_nul, First, Read, block_at}
use Rattle.std.proofs.Common.{ℕ, zero, suc, Bool, List, [], ◌∷◌, ◌++◌, Option, Some, None, Result, Ok, Err, refl}
use Rattle.el_loops.specs.Turns as loop
use Rattle.el_loops.specs.Turns.{turn_env}
use Rattle.el_loops.specs.Values.{after_read}
use Rattle.el_loops.specs.Forbacktickx as output
use Rattle.el_loops.specs.Forbacktickx.{waited_for}
use Rattle.el_app.proofs.Owed.{Owed, more, less, Waits, Still, waits-gives, waits-ends, waits-takes, waits-act, waits-both, waits-behind, waits-after, waits-if}
use Rattle.el_app.proofs.OwedKids.{KeepsKids, AreTurns, none, no_more, one_kept, kept_turn, turn_last, turn_over, turn_ended, turn_more, turn_less, turn-owed}
use Rattle.el_app.proofs.OwedTasks.{StartsOne, MayStartOne, still-read, still-close, still-closing, still-unstarted, waits-one, waits-starting, still-child, waits-refused}
use Rattle.el_app.proofs.OwedControls.{from, still-piped, waits-started_at}

module _ {owed : Owed} where
  still-needing : (program : Prog) (words : List (List ℕ)) (state : State) → Waits owed (Still owed) (needing_words program words state)
  still-needing program [] state = waits-refused state (name_text program) Missing
  still-needing program (word ∷ words) state = waits-gives refl

  still-begun : (program : Prog) (read : Read) (state : State) → Waits owed (Still owed) (begun program read state)
  unfolding begun
  still-begun program read state = waits-after (still-needing program read.rest state) (λ _. waits-if (names_well read) (waits-gives refl) (waits-refused state (name_text program) BadName))

  -- ---- loopwhilex

  repeats : (times : ℕ) (read : Read) (state : State) → Waits owed KeepsKids (repeating times read state)
  unfolding repeating
  repeats Prim.Native.Nat.zero read state = waits-ends
  repeats (suc times) read state = waits-takes (waits-after (still-child state (name_text Loopwhilex) read.rest) (λ ended. waits-if (goes_on_behind read (code_of ended)) (repeats times read state) waits-ends))

  pub loopwhilex-keeps : (state : State) (read : Read) → Waits owed KeepsKids (loopwhilex read state)
  unfolding loopwhilex
  loopwhilex-keeps state read = waits-after (still-needing Loopwhilex read.rest state) (λ _. repeats most_units read state)

-- ---- turns

module _ (looping : Looping) (base : Owed) where
  broken : {A : Type 0} {P : A → Owed → Type 0} {owed : Owed} (trouble : Trouble) → Waits owed P (breaking_off looping trouble)
  unfolding breaking_off
  broken trouble = waits-behind (still-closing _) (λ _. waits-refused looping.state (name_text looping.program) trouble)

  -- behind these turns, with one more
  abbrev OneMore : List Turn → Turn → Owed → Type 0
  OneMore made turn later = AreTurns base (turn ∷ made) later

  none-runs : {owed : Owed} (words : List (List ℕ)) (made : List Turn) (started : Started) → AreTurns base made owed → Waits owed (OneMore made) (turn_by looping words started None)
  none-runs words made started h = waits-behind (still-unstarted looping.state.fds (first_word words) started) (λ code. waits-gives (turn_over code h))

  turn-told : {owed : Owed} (words : List (List ℕ)) (made : List Turn) (started : Started) (later : Owed) → AreTurns base made owed → StartsOne owed started later → Waits later (OneMore made) (turn_by looping words started (running_pid started))
  turn-told words made Empty later h is = from is (none-runs words made Empty h)
  turn-told words made (Running pid) later h is = from is (waits-gives (turn_more pid h))
  turn-told words made NotFound later h is = from is (none-runs words made NotFound h)
  turn-told words made NotStartable later h is = from is (none-runs words made NotStartable h)

  turn-starts : {owed : Owed} (made : List Turn) (words : List (List ℕ)) (vars : Vars) → AreTurns base made owed → Waits owed (OneMore made) (started looping words vars)
  unfolding started
  turn-starts {owed} made words vars h = waits-act (waits-starting words vars looping.state.dir looping.streams) by
    where
      by : (answer : Result Started Fault) (later : Owed) → MayStartOne owed answer later → Waits later (OneMore made) (loop.after_start looping words answer)
      by (Ok one) later is = turn-told words made one later h is
      by (Err fault) later is = broken Failed

  -- behind a turn's end only the others are owed
  turn-ends : {owed : Owed} (made : List Turn) (turn : Turn) → AreTurns base (turn ∷ made) owed → Waits owed (λ code later. AreTurns base made later) (turn_code looping turn)
  unfolding turn_code
  turn-ends made (Over code) h = waits-gives (turn_ended code h)
  turn-ends {owed} made (Pending pid) h = waits-act (waits-one pid (turn-owed pid h)) (λ answer later is. from is (by answer))
    where
      by : (answer : Result Ended Fault) → Waits (less owed pid) (λ code later. AreTurns base made later) (loop.after_wait looping answer)
      by (Ok ended) = waits-gives (turn_less pid h)
      by (Err fault) = broken Failed

  -- these turns are owed
  abbrev pub Turning : List Turn → Owed → Type 0
  Turning made later = AreTurns base made later

  turn-settles : {owed : Owed} (made : List Turn) (turn : Turn) → AreTurns base (turn ∷ made) owed → Waits owed Turning (after_started looping made turn)
  unfolding after_started ending
  turn-settles made turn h = waits-if (is_parallel looping.read) (waits-gives (turn_last turn h))
      (waits-both (turn-ends made turn h) (λ code later k. waits-if (is_ending looping.read code) (waits-behind (still-closing _) (λ _. waits-ends)) (waits-gives k)))

  turns-keep : {owed : Owed} (made : List Turn) (values : List (List ℕ)) → AreTurns base made owed → Waits owed Turning (turns looping made values)
  unfolding turns turn
  turns-keep made [] h = waits-gives h
  turns-keep made (value ∷ values) h =
      waits-both (waits-takes (waits-both (turn-starts made (turn_words looping.read value) (turn_env looping value) h) (λ turn later k. turn-settles made turn k))) (λ made later k. turns-keep made values k)

  turns-end : {owed : Owed} (found : Option ℕ) (made : List Turn) → AreTurns base made owed → Waits owed (λ code later. AreTurns base [] later) (first_ending looping found made)
  unfolding first_ending
  turns-end found [] h = waits-gives h
  turns-end found (turn ∷ made) h = waits-both (turn-ends made turn h) (λ code later k. turns-end (or_first looping.read found code) made k)

  pub loop-ends : {owed : Owed} (made : List Turn) → AreTurns base made owed → Waits owed KeepsKids (loop_end looping made)
  unfolding loop_end
  loop-ends made h = waits-both (turns-end None made h) (λ found later k. waits-ends)

  used-keeps : {owed : Owed} (made : List Turn) (values : List (List ℕ)) (nul : Bool) → AreTurns base made owed → Waits owed Turning (used looping made values nul)
  unfolding used
  used-keeps made values nul h = waits-both (turns-keep made values h) (λ made later k. waits-if nul (broken NulInput) (waits-gives k))

  behind-keeps : {owed : Owed} (times : ℕ) (handle : Handle) (before : List ℕ) (made : List Turn) → AreTurns base made owed → Waits owed Turning (turns_behind times looping handle before made)
  unfolding turns_behind
  behind-keeps Prim.Native.Nat.zero handle before made h = waits-ends
  behind-keeps {owed} (suc times) handle before made h = waits-takes (waits-behind (still-read handle) (λ answer. by answer (λ before made later k. behind-keeps times handle before made k)))
    where
      by : (answer : Result (List ℕ) Fault) → ((before : List ℕ) (made : List Turn) (later : Owed) → AreTurns base made later → Waits later Turning (turns_behind times looping handle before made))
          → Waits owed Turning (after_read looping (λ before made. turns_behind times looping handle before made) before made answer)
      by (Ok []) next = turns-keep made (last_values looping.read before) h
      by (Ok (byte ∷ bytes)) next = waits-both (used-keeps made (new_values looping.read before (before_nul (byte ∷ bytes))) (has_nul (byte ∷ bytes)) h) (λ made later k. next (before ++ byte ∷ bytes) made later k)
      by (Err fault) next = broken Failed

  over-keeps : {owed : Owed} (handle : Handle) → AreTurns base [] owed → Waits owed Turning (turns_over looping handle)
  unfolding turns_over
  over-keeps handle h = behind-keeps most_units handle [] [] h

module _ {owed : Owed} (state : State) (read : Read) where
  pub forx-keeps : Waits owed KeepsKids (forx read state)
  unfolding forx
  forx-keeps = waits-after (still-begun Forx read state) (λ _. waits-both (turns-keep (forx_loop read state) none [] (block_at First read) no_more) (λ made later k. loop-ends (forx_loop read state) none made k))

  pub forstdin-keeps : Waits owed KeepsKids (forstdin read state)
  unfolding forstdin over_number
  forstdin-keeps = waits-after (still-begun Forstdin read state) (λ _. by (held_at state 0))
    where
      by : (slot : Option Handle) → Waits owed KeepsKids (over_input (forstdin_loop read state) slot)
      by None = waits-refused state (name_text Forstdin) NotOpen
      by (Some handle) = waits-both (over-keeps (forstdin_loop read state) none handle no_more) (λ made later k. loop-ends (forstdin_loop read state) none made k)

-- ---- forbacktickx

module _ (state : State) (read : Read) where
  generator-ends : {owed : Owed} (generator : Pid) (made : List Turn) → AreTurns none (Pending generator ∷ made) owed → Waits owed (λ _ later. AreTurns none made later) (waited_for state generator)
  unfolding waited_for
  generator-ends {owed} generator made h = waits-act (waits-one generator (turn-owed generator h)) (λ answer later is. from is (by answer))
    where
      by : (answer : Result Ended Fault) → Waits (less owed generator) (λ _ later. AreTurns none made later) (output.after_wait state answer)
      by (Ok ended) = waits-gives (turn_less generator h)
      by (Err fault) = waits-refused state (name_text Forbacktickx) Failed

  -- the generator is owed while the turns are made, and waited for behind them
  reader-keeps : {owed : Owed} (reader : Handle) (generator : Pid) → AreTurns (more none generator) [] owed → Waits owed (λ made later. AreTurns none made later) (over_reader read state reader generator)
  unfolding over_reader
  reader-keeps reader generator h =
      waits-both (over-keeps (forbacktickx_loop read (Some reader) state) (more none generator) reader h)
      (λ made later k. waits-behind (still-close reader) (λ _. waits-both (generator-ends generator made (kept_turn generator k)) (λ _ later k. waits-gives k)))

  nothing-runs : {owed : Owed} (block : List (List ℕ)) (ends : PipeEnds) (started : Started) → Waits owed (λ made later. AreTurns none made later) (over_started read state block ends started None)
  nothing-runs block ends started = waits-behind (still-closing _) (λ _. waits-behind (still-unstarted state.fds (first_word block) started) (λ _. waits-gives no_more))

  started-keeps : (owed : Owed) (block : List (List ℕ)) (ends : PipeEnds) (started : Started) (later : Owed) → StartsOne owed started later → Waits later (λ made later. AreTurns none made later) (over_started read state block ends started (running_pid started))
  started-keeps owed block ends Empty later is = nothing-runs block ends Empty
  started-keeps owed block ends (Running generator) later is = from is (waits-behind (still-close ends.writer) (λ _. reader-keeps ends.reader generator (one_kept owed generator)))
  started-keeps owed block ends NotFound later is = nothing-runs block ends NotFound
  started-keeps owed block ends NotStartable later is = nothing-runs block ends NotStartable

  block-keeps : {owed : Owed} (block : List (List ℕ)) → Waits owed (λ made later. AreTurns none made later) (over_block read state block)
  unfolding over_block over_pipe
  block-keeps [] = waits-gives no_more
  block-keeps {owed} (word ∷ words) = waits-after (still-piped Forbacktickx state) (λ ends. waits-both (waits-started_at Forbacktickx state (word ∷ words) Output ends) (started-keeps owed (word ∷ words) ends))

  pub forbacktickx-keeps : {owed : Owed} → Waits owed KeepsKids (forbacktickx read state)
  unfolding forbacktickx
  forbacktickx-keeps = waits-after (still-begun Forbacktickx read state) (λ _. waits-both (block-keeps (block_at First read)) (λ made later k. loop-ends (forbacktickx_loop read None state) none made k))
