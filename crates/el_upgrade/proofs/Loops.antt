-- Loops.
use Rattle.el_machine.proofs.Vocabulary.{Output, puts_values, value_pairs, Turn, Over, Pending, Looping, is_parallel, is_ending, needing_words, begun, breaking_off, turn_words, turn_by, started, turn_code, ending, after_started, turn, turns, or_first, first_ending, loop_end, new_values, used, turns_behind, turns_over, goes_on_behind, repeating, loopwhilex, forx_loop, forx, forstdin_loop, over_input, over_number, forstdin, forbacktickx_loop, over_reader, over_started, over_pipe, over_block, forbacktickx}
use Rattle.el_room.proofs.Vocabulary.{Prog, Loopwhilex, Forbacktickx, name_text, Vars, Pairs, words_value, Ended, Fault, Handle, Pid, PipeEnds, gives, ends, and_then, State, Status, Task, Started, code_of, running_pid, held_at, most_units, has_nul, before_nul, First, Read, block_at}
use Rattle.std.proofs.Common.{◌≡◌, ℕ, zero, suc, Bool, true, false, List, [], ◌∷◌, ◌++◌, Option, None, Some, Result, Ok, Err, refl, ap, if◌then◌else◌}
use Rattle.el_loops.specs.Turns.{after_start, after_wait, after_code}
use Rattle.el_loops.specs.Values.{after_read}
use Rattle.el_upgrade.proofs.Tasks.{TasksAlike, alike-same, alike-as, alike-takes, alike-then, acts-same, alike-act}
use Rattle.el_upgrade.proofs.Words.{HeadsAlike, WordsAlike}
use Rattle.el_upgrade.proofs.Children.{starting-alike, unstarted-code, child-alike}
use Rattle.el_upgrade.proofs.Readings.{with_words, ReadsAlike}
use Rattle.el_upgrade.proofs.Pipes.{started-at}

-- ---- turns

module _ (looping : Looping) (blocks : List (List (List ℕ))) (rest : List (List ℕ)) (alike : WordsAlike looping.read.rest rest) (put : (pairs : Pairs) → WordsAlike (words_value pairs looping.read.rest) (words_value pairs rest)) where
  -- the same loop with other words
  abbrev other : Looping
  other = record looping { read = with_words looping.read blocks rest }

  words-alike : (value : List ℕ) → WordsAlike (turn_words looping.read value) (turn_words other.read value)
  words-alike value = by (puts_values looping.read)
    where
      by : (puts : Bool) → WordsAlike (if puts then words_value (value_pairs looping.read value) looping.read.rest else looping.read.rest) (if puts then words_value (value_pairs looping.read value) rest else rest)
      by true = put (value_pairs looping.read value)
      by false = alike

  started-turn : (one like : List (List ℕ)) (vars : Vars) → WordsAlike one like → TasksAlike (started looping one vars) (started other like vars)
  unfolding started breaking_off
  started-turn one like vars h = alike-act (starting-alike vars looping.state.dir looping.streams h) after
    where
      by : (began : Started) (running : Option Pid) → TasksAlike (turn_by looping one began running) (turn_by other like began running)
      by began (Some pid) = alike-same
      by began None = alike-act (unstarted-code looping.state.fds began h) (λ code. alike-same)

      after : (answer : Result Started Fault) → TasksAlike (after_start looping one answer) (after_start other like answer)
      after (Ok began) = by began (running_pid began)
      after (Err fault) = alike-same

  code-alike : (turn : Turn) → TasksAlike (turn_code looping turn) (turn_code other turn)
  unfolding turn_code breaking_off
  code-alike (Over code) = alike-same
  code-alike (Pending pid) = alike-act acts-same after
    where
      after : (answer : Result Ended Fault) → TasksAlike (after_wait looping answer) (after_wait other answer)
      after (Ok ended) = alike-same
      after (Err fault) = alike-same

  after-started : (made : List Turn) (turn : Turn) → TasksAlike (after_started looping made turn) (after_started other made turn)
  unfolding after_started ending
  after-started made turn = by (is_parallel looping.read)
    where
      by : (is : Bool) → TasksAlike (if is then gives (made ++ turn ∷ []) else and_then (turn_code looping turn) (after_code looping made)) (if is then gives (made ++ turn ∷ []) else and_then (turn_code other turn) (after_code other made))
      by true = alike-same
      by false = alike-then (code-alike turn) (λ code. alike-same)

  turn-alike : (made : List Turn) (value : List ℕ) → TasksAlike (turn looping made value) (turn other made value)
  unfolding turn
  turn-alike made value = alike-takes (alike-then (started-turn _ _ _ (words-alike value)) (λ turn. after-started made turn))

  pub turns-alike : (made : List Turn) (values : List (List ℕ)) → TasksAlike (turns looping made values) (turns other made values)
  unfolding turns
  turns-alike made [] = alike-same
  turns-alike made (value ∷ values) = alike-then (turn-alike made value) (λ made. turns-alike made values)

  ending-alike : (found : Option ℕ) (made : List Turn) → TasksAlike (first_ending looping found made) (first_ending other found made)
  unfolding first_ending
  ending-alike found [] = alike-same
  ending-alike found (turn ∷ made) = alike-then (code-alike turn) (λ code. by found code (λ found. ending-alike found made))
    where
      by : (found : Option ℕ) (code : ℕ) → ((found : Option ℕ) → TasksAlike (first_ending looping found made) (first_ending other found made)) → TasksAlike (first_ending looping (or_first looping.read found code) made) (first_ending other (or_first other.read found code) made)
      by (Some first) code next = next (Some first)
      by None code next = next (if is_ending looping.read code then Some code else None)

  pub end-alike : (made : List Turn) → TasksAlike (loop_end looping made) (loop_end other made)
  unfolding loop_end
  end-alike made = alike-then (ending-alike None made) (λ found. alike-same)

  -- ---- values that are read

  used-alike : (made : List Turn) (values : List (List ℕ)) (nul : Bool) → TasksAlike (used looping made values nul) (used other made values nul)
  unfolding used breaking_off
  used-alike made values nul = alike-then (turns-alike made values) (λ made. alike-same)

  read-after : (next like : (before : List ℕ) → (made : List Turn) → Task (List Turn)) (before : List ℕ) (made : List Turn) (answer : Result (List ℕ) Fault)
      → ((before : List ℕ) (made : List Turn) → TasksAlike (next before made) (like before made)) → TasksAlike (after_read looping next before made answer) (after_read other like before made answer)
  unfolding breaking_off
  read-after next like before made (Ok []) h = turns-alike made _
  read-after next like before made (Ok (byte ∷ bytes)) h = alike-then (used-alike made (new_values looping.read before (before_nul (byte ∷ bytes))) (has_nul (byte ∷ bytes))) (λ made. h (before ++ byte ∷ bytes) made)
  read-after next like before made (Err fault) h = alike-same

  behind-alike : (reads : ℕ) (handle : Handle) (before : List ℕ) (made : List Turn) → TasksAlike (turns_behind reads looping handle before made) (turns_behind reads other handle before made)
  unfolding turns_behind
  behind-alike zero handle before made = alike-same
  behind-alike (suc reads) handle before made = alike-takes (alike-act acts-same (λ answer. read-after _ _ before made answer (λ before made. behind-alike reads handle before made)))

  pub over-alike : (handle : Handle) → TasksAlike (turns_over looping handle) (turns_over other handle)
  unfolding turns_over
  over-alike handle = behind-alike most_units handle [] []

-- ---- the loops

module _ {read : Read} {blocks : List (List (List ℕ))} {rest : List (List ℕ)} (alike : ReadsAlike read blocks rest) (state : State) where
  abbrev news : Read
  news = with_words read blocks rest

  needing-alike : (program : Prog) (one like : List (List ℕ)) → HeadsAlike one like → TasksAlike (needing_words program one state) (needing_words program like state)
  needing-alike program [] [] h = alike-same
  needing-alike program (word ∷ words) (name ∷ others) h = alike-same
  needing-alike program [] (name ∷ others) h = absurd h
  needing-alike program (word ∷ words) [] h = absurd h

  rest-needed : (program : Prog) → TasksAlike (needing_words program read.rest state) (needing_words program rest state)
  rest-needed program = let rests = alike.rests in needing-alike program read.rest rest rests.heads

  begun-alike : (program : Prog) → TasksAlike (begun program read state) (begun program news state)
  unfolding begun
  begun-alike program = alike-then (rest-needed program) (λ _. alike-same)

  repeating-alike : (turns : ℕ) → TasksAlike (repeating turns read state) (repeating turns news state)
  unfolding repeating
  repeating-alike zero = alike-same
  repeating-alike (suc turns) = alike-takes (alike-then (child-alike state (name_text Loopwhilex) alike.rests) (λ ended. by (goes_on_behind read (code_of ended)) (code_of ended) (repeating-alike turns)))
    where
      by : (goes : Bool) (code : ℕ) → TasksAlike (repeating turns read state) (repeating turns news state) → TasksAlike (if goes then repeating turns read state else ends (Status code state)) (if goes then repeating turns news state else ends (Status code state))
      by true code h = h
      by false code h = alike-same

  pub loopwhilex-alike : TasksAlike (loopwhilex read state) (loopwhilex news state)
  unfolding loopwhilex
  loopwhilex-alike = alike-then (rest-needed _) (λ _. repeating-alike most_units)

  pub forstdin-alike : TasksAlike (forstdin read state) (forstdin news state)
  unfolding forstdin over_number
  forstdin-alike = alike-then (begun-alike _) (λ _. by (held_at state 0))
    where
      by : (holds : Option Handle) → TasksAlike (over_input (forstdin_loop read state) holds) (over_input (forstdin_loop news state) holds)
      by None = alike-same
      by (Some handle) = alike-then (over-alike (forstdin_loop read state) blocks rest alike.rests alike.put handle) (λ made. end-alike (forstdin_loop read state) blocks rest alike.rests alike.put made)

  -- ---- forbacktickx

  reader-alike : (reader : Handle) (generator : Pid) → TasksAlike (over_reader read state reader generator) (over_reader news state reader generator)
  unfolding over_reader
  reader-alike reader generator = alike-then (over-alike (forbacktickx_loop read (Some reader) state) blocks rest alike.rests alike.put reader) (λ made. alike-same)

  generator-by : {one like : List (List ℕ)} (pipe : PipeEnds) (began : Started) (running : Option Pid) → WordsAlike one like → TasksAlike (over_started read state one pipe began running) (over_started news state like pipe began running)
  generator-by pipe began (Some generator) h = alike-act acts-same (λ _. reader-alike pipe.reader generator)
  generator-by pipe began None h = alike-act acts-same (λ _. alike-act (unstarted-code state.fds began h) (λ _. alike-same))

  pipe-alike : {one like : List (List ℕ)} → WordsAlike one like → TasksAlike (over_pipe read state one) (over_pipe news state like)
  unfolding over_pipe
  pipe-alike h = alike-then alike-same (λ pipe. alike-then (started-at Forbacktickx state Output pipe h) (λ began. generator-by pipe began (running_pid began) h))

  block-alike : (one like : List (List ℕ)) → WordsAlike one like → HeadsAlike one like → TasksAlike (over_block read state one) (over_block news state like)
  unfolding over_block
  block-alike [] [] h heads = alike-same
  block-alike (word ∷ words) (name ∷ others) h heads = pipe-alike h
  block-alike [] (name ∷ others) h heads = absurd heads
  block-alike (word ∷ words) [] h heads = absurd heads

  pub forbacktickx-alike : TasksAlike (forbacktickx read state) (forbacktickx news state)
  unfolding forbacktickx
  forbacktickx-alike = alike-then (begun-alike _) (λ _. let block = alike.each First in alike-then (block-alike (block_at First read) (block_at First news) block block.heads) (λ made. end-alike (forbacktickx_loop read None state) blocks rest alike.rests alike.put made))

  -- ---- forx, whose block is of values

  pub forx-alike : block_at First read ≡ block_at First news → TasksAlike (forx read state) (forx news state)
  unfolding forx
  forx-alike same = alike-then (begun-alike _) (λ _.
      alike-then (alike-as refl (ap (λ values. turns (forx_loop news state) [] values) same) (turns-alike (forx_loop read state) blocks rest alike.rests alike.put [] (block_at First read))) (λ made. end-alike (forx_loop read state) blocks rest alike.rests alike.put made))
