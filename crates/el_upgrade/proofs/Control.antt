-- The programs of el_control that run a block or the rest as a child.
use Rattle.el_room.proofs.Vocabulary.{Prog, Foreground, If, Ifelse, Ifte, Ifthenelse, name_text, Fault, State, Started, streams_of, First, Read}
use Rattle.el_machine.proofs.Vocabulary.{tested, foreground, background, if_then, ifelse, ifte, branch, ifthenelse}
use Rattle.std.proofs.Common.{ℕ, List, Result, Ok, Err}
use Rattle.el_control.specs.Background.{after_start, starting_kid}
use Rattle.el_upgrade.proofs.Tasks.{TasksAlike, alike-same, alike-then, alike-act}
use Rattle.el_upgrade.proofs.Words.{WordsAlike}
use Rattle.el_upgrade.proofs.Children.{starting-alike, unstarted-code, child-alike}
use Rattle.el_upgrade.proofs.Readings.{with_words, ReadsAlike}

module _ {read : Read} {blocks : List (List (List ℕ))} {rest : List (List ℕ)} (alike : ReadsAlike read blocks rest) (state : State) where
  abbrev other : Read
  other = with_words read blocks rest

  pub foreground-alike : TasksAlike (foreground read state) (foreground other state)
  unfolding foreground
  foreground-alike = alike-then (child-alike state (name_text Foreground) (alike.each First)) (λ ended. alike-same)

  tested-alike : {one like : List (List ℕ)} (program : Prog) → WordsAlike one like → TasksAlike (tested program one read state) (tested program like other state)
  unfolding tested
  tested-alike program h = alike-then (child-alike state (name_text program) h) (λ ended. alike-same)

  pub if-alike : TasksAlike (if_then read state) (if_then other state)
  unfolding if_then
  if-alike = alike-then (tested-alike If (alike.each First)) (λ holds. alike-same)

  pub ifelse-alike : TasksAlike (ifelse read state) (ifelse other state)
  unfolding ifelse
  ifelse-alike = alike-then (tested-alike Ifelse (alike.each First)) (λ holds. alike-same)

  pub ifte-alike : TasksAlike (ifte read state) (ifte other state)
  unfolding ifte
  ifte-alike = alike-then (tested-alike Ifte alike.rests) (λ holds. alike-same)

  pub ifthenelse-alike : TasksAlike (ifthenelse read state) (ifthenelse other state)
  unfolding ifthenelse
  ifthenelse-alike = alike-then (tested-alike Ifthenelse (alike.each First)) (λ holds. alike-then (child-alike state (name_text Ifthenelse) (alike.each (branch holds))) (λ ended. alike-same))

  kid-alike : {one like : List (List ℕ)} → WordsAlike one like → TasksAlike (starting_kid state one) (starting_kid state like)
  unfolding starting_kid
  kid-alike {one} {like} h = alike-act (starting-alike state.env state.dir (streams_of state) h) by
    where
      by : (answer : Result Started Fault) → TasksAlike (after_start state one answer) (after_start state like answer)
      by (Ok started) = alike-act (unstarted-code state.fds started h) (λ _. alike-same)
      by (Err fault) = alike-same

  pub background-alike : TasksAlike (background read state) (background other state)
  unfolding background
  background-alike = alike-then (kid-alike (alike.each First)) (λ kid. alike-same)
