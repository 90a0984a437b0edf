-- The programs of el_pipes, and starts at a pipe.
use Rattle.el_room.proofs.Vocabulary.{Prog, Pipeline, Backtick, name_text, Pid, PipeEnds, and_then, State, Started, BadName, running_pid, refused, First, Read, block_at}
use Rattle.el_machine.proofs.Vocabulary.{Side, Output as OutputSide, streams_with, started_at, names_well, block_side, starting_kid, pipeline, output_by, written_by, output_of, value_from, going_on, backtick}
use Rattle.std.proofs.Common.{ℕ, Bool, true, false, List, [], ◌∷◌, Option, None, Some, if◌then◌else◌}
use Rattle.el_upgrade.proofs.Tasks.{TasksAlike, alike-same, alike-then, alike-act, acts-same}
use Rattle.el_upgrade.proofs.Words.{HeadsAlike, WordsAlike}
use Rattle.el_upgrade.proofs.Children.{starting-alike, unstarted-code}
use Rattle.el_upgrade.proofs.Readings.{with_words, ReadsAlike}

pub started-at : {one like : List (List ℕ)} (program : Prog) (state : State) (side : Side) (ends : PipeEnds) → WordsAlike one like → TasksAlike (started_at program state one side ends) (started_at program state like side ends)
unfolding started_at
started-at program state side ends h = alike-act (starting-alike state.env state.dir (streams_with state side ends) h) (λ answer. alike-same)

module _ {read : Read} {blocks : List (List (List ℕ))} {rest : List (List ℕ)} (alike : ReadsAlike read blocks rest) (state : State) where
  abbrev other : Read
  other = with_words read blocks rest

  -- ---- pipeline

  kid-alike : {one like : List (List ℕ)} (side : Side) (ends : PipeEnds) → WordsAlike one like → TasksAlike (starting_kid state one side ends) (starting_kid state like side ends)
  unfolding starting_kid
  kid-alike side ends h = alike-then (started-at Pipeline state side ends h) (λ started. alike-act acts-same (λ _. alike-act (unstarted-code state.fds started h) (λ _. alike-same)))

  pub pipeline-alike : TasksAlike (pipeline read state) (pipeline other state)
  unfolding pipeline
  pipeline-alike = alike-then alike-same (λ ends. alike-then (kid-alike (block_side read) ends (alike.each First)) (λ kid. alike-same))

  -- ---- backtick

  output-by : {one like : List (List ℕ)} (ends : PipeEnds) (started : Started) (running : Option Pid) → WordsAlike one like → TasksAlike (output_by state one ends started running) (output_by state like ends started running)
  output-by ends started (Some pid) h = alike-same
  output-by ends started None h = alike-act acts-same (λ _. alike-act (unstarted-code state.fds started h) (λ code. alike-same))

  written-alike : {one like : List (List ℕ)} → WordsAlike one like → TasksAlike (written_by state one) (written_by state like)
  unfolding written_by
  written-alike h = alike-then alike-same (λ ends. alike-then (started-at Backtick state OutputSide ends h) (λ started. output-by ends started (running_pid started) h))

  output-alike : (one like : List (List ℕ)) → WordsAlike one like → HeadsAlike one like → TasksAlike (output_of state one) (output_of state like)
  unfolding output_of
  output-alike [] [] h heads = alike-same
  output-alike (word ∷ words) (name ∷ others) h heads = written-alike h
  output-alike [] (name ∷ others) h heads = absurd heads
  output-alike (word ∷ words) [] h heads = absurd heads

  pub backtick-alike : TasksAlike (backtick read state) (backtick other state)
  unfolding backtick value_from going_on
  backtick-alike = by (names_well read)
    where
      by : (good : Bool)
          → TasksAlike (if good then and_then (output_of state (block_at First read)) (λ output. and_then (value_from read state output) (going_on read state)) else refused state (name_text Backtick) BadName)
          (if good then and_then (output_of state (block_at First other)) (λ output. and_then (value_from other state output) (going_on other state)) else refused state (name_text Backtick) BadName)
      by true = let block = alike.each First in alike-then (output-alike (block_at First read) (block_at First other) block block.heads) (λ output. alike-then alike-same (λ value. alike-same))
      by false = alike-same
