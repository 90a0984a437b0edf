-- The table of programs: each waits only for processes that are owed. A new program has a line here. And the run of many.
use Rattle.el_room.proofs.Vocabulary.{Prog, Define, Importas, Import, Multidefine, Multisubstitute, Elgetpositionals, Export, Unexport, Emptyenv, Envfile, Withstdinas, Shift, Foreground, Background, If, Ifelse, Ifte, Ifthenelse, Cd, Exec, Exit, Loopwhilex, Forx, Forstdin, Forbacktickx, Pipeline, Backtick, Redirfd, Fdmove, Fdclose, Fdswap, Piperw, Heredoc, Ended, Fault, Pid, StartFault, State, Task, Failed, first_word, given_handles, without_given, streams_of, most_units, Left, Read}
use Rattle.el_machine.proofs.Vocabulary.{effect, start_trouble, after_wait, waiting, after_start, running, last_command, flat_step, first_program, run_by, flat_within, flat_run}
use Rattle.std.proofs.Common.{ℕ, suc, List, [], ◌∷◌, Option, Some, None, Result, Ok, Err}
use Rattle.el_words.specs.declared.prog.Prog.TheVariants.{Wait}
use Rattle.el_app.proofs.Owed.{Owed, more, Waits, waits-ends, waits-takes, waits-act, waits-both, waits-behind, is-owed}
use Rattle.el_app.proofs.OwedKids.{AreKids, KeepsKids}
use Rattle.el_app.proofs.OwedTasks.{LeftKids, OwesAnswer, still-closing, waits-start, waits-one, waits-refused, waits-entered}
use Rattle.el_app.proofs.OwedVariables.{alone-keeps, multisubstitute-keeps, import-keeps, export-keeps, unexport-keeps, emptyenv-keeps, envfile-keeps, withstdinas-keeps, shift-keeps, redirfd-keeps, fdmove-keeps, fdclose-keeps, fdswap-keeps, piperw-keeps, heredoc-keeps}
use Rattle.el_app.proofs.OwedControls.{from, foreground-keeps, background-keeps, if-keeps, ifelse-keeps, ifte-keeps, ifthenelse-keeps, wait-keeps, cd-keeps, exec-keeps, exit-keeps, pipeline-keeps, backtick-keeps}
use Rattle.el_app.proofs.OwedLoops.{loopwhilex-keeps, forx-keeps, forstdin-keeps, forbacktickx-keeps}

effect-keeps : {owed : Owed} (program : Prog) (state : State) (read : Read) → AreKids state.kids owed → Waits owed KeepsKids (effect program read state)
unfolding effect
effect-keeps Define state read h = alone-keeps state read h Define
effect-keeps Importas state read h = alone-keeps state read h Importas
effect-keeps Import state read h = import-keeps state read h
effect-keeps Multidefine state read h = alone-keeps state read h Multidefine
effect-keeps Multisubstitute state read h = multisubstitute-keeps state read h
effect-keeps Elgetpositionals state read h = alone-keeps state read h Elgetpositionals
effect-keeps Export state read h = export-keeps state read h
effect-keeps Unexport state read h = unexport-keeps state read h
effect-keeps Emptyenv state read h = emptyenv-keeps state read h
effect-keeps Envfile state read h = envfile-keeps state read h
effect-keeps Withstdinas state read h = withstdinas-keeps state read h
effect-keeps Shift state read h = shift-keeps state read h
effect-keeps Foreground state read h = foreground-keeps state read h
effect-keeps Background state read h = background-keeps state read h
effect-keeps If state read h = if-keeps state read h
effect-keeps Ifelse state read h = ifelse-keeps state read h
effect-keeps Ifte state read h = ifte-keeps state read h
effect-keeps Ifthenelse state read h = ifthenelse-keeps state read h
effect-keeps Wait state read h = wait-keeps state read h
effect-keeps Cd state read h = cd-keeps state read h
effect-keeps Exec state read h = exec-keeps state read h
effect-keeps Exit state read h = exit-keeps state read h
effect-keeps Loopwhilex state read h = loopwhilex-keeps state read
effect-keeps Forx state read h = forx-keeps state read
effect-keeps Forstdin state read h = forstdin-keeps state read
effect-keeps Forbacktickx state read h = forbacktickx-keeps state read
effect-keeps Pipeline state read h = pipeline-keeps state read h
effect-keeps Backtick state read h = backtick-keeps state read h
effect-keeps Redirfd state read h = redirfd-keeps state read h
effect-keeps Fdmove state read h = fdmove-keeps state read h
effect-keeps Fdclose state read h = fdclose-keeps state read h
effect-keeps Fdswap state read h = fdswap-keeps state read h
effect-keeps Piperw state read h = piperw-keeps state read h
effect-keeps Heredoc state read h = heredoc-keeps state read h

step-keeps : {owed : Owed} (program : Prog) (words : List (List ℕ)) (state : State) → AreKids state.kids owed → Waits owed LeftKids (flat_step program words state)
unfolding flat_step
step-keeps program words state h = waits-takes (waits-entered (effect program) program words state (λ read. effect-keeps program state read h))

-- ---- the last command

module _ {A : Type 0} {P : A → Owed → Type 0} (state : State) (name : List ℕ) where
  waits-end : {owed : Owed} (answer : Result Ended Fault) → Waits owed P (after_wait state name answer)
  waits-end (Ok ended) = waits-ends
  waits-end (Err fault) = waits-refused state name Failed

module _ {A : Type 0} {P : A → Owed → Type 0} (owed : Owed) where
  command-waits : (state : State) (name : List ℕ) (pid : Pid) → Waits (more owed pid) P (waiting state name pid)
  unfolding waiting
  command-waits state name pid = waits-behind (still-closing (given_handles state.fds)) (λ _. waits-act (waits-one pid (is-owed owed pid)) (λ answer later is. waits-end (record state { fds = without_given state.fds }) name answer))

  command-starts : (state : State) (name : List ℕ) (answer : Result Pid StartFault) (later : Owed) → OwesAnswer owed answer later → Waits later P (after_start state name answer)
  command-starts state name (Ok pid) later is = from is (command-waits state name pid)
  command-starts state name (Err fault) later is = waits-refused state name (start_trouble fault)

  last-waits : (words : List (List ℕ)) (state : State) → Waits owed P (last_command words state)
  unfolding last_command running
  last-waits words state = waits-takes (waits-act (waits-start words state.env state.dir (streams_of state)) (command-starts state (first_word words)))

-- ---- a run

module _ {P : ⊥ → Owed → Type 0} where
  by-keeps : {owed : Owed} (first : Option Prog) (words : List (List ℕ)) (state : State) (next : Left → Task ⊥) → AreKids state.kids owed → ((left : Left) (later : Owed) → AreKids left.state.kids later → Waits later P (next left)) → Waits owed P (run_by first words state next)
  by-keeps None [] state next h goes = waits-ends
  by-keeps {owed} None (word ∷ words) state next h goes = last-waits owed (word ∷ words) state
  by-keeps (Some program) words state next h goes = waits-both (step-keeps program words state h) goes

  within-keeps : {owed : Owed} (most : ℕ) (words : List (List ℕ)) (state : State) → AreKids state.kids owed → Waits owed P (flat_within most words state)
  unfolding flat_within
  within-keeps Prim.Native.Nat.zero words state h = waits-ends
  within-keeps (suc most) words state h = by-keeps (first_program words) words state (λ left. flat_within most left.words left.state) h (λ left later k. within-keeps most left.words left.state k)

  pub run-waits : {owed : Owed} (words : List (List ℕ)) (state : State) → AreKids state.kids owed → Waits owed P (flat_run words state)
  unfolding flat_run
  run-waits words state h = within-keeps most_units words state h
