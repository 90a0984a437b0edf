-- The programs of el_vars and of el_redir: none starts a process or waits for one.
use Rattle.el_room.proofs.Vocabulary.{list_all, Prog, Import, Export, Unexport, Envfile, Withstdinas, Shift, Multisubstitute, Fdclose, Fdmove, Fdswap, Piperw, Redirfd, Heredoc, name_text, is_good_name, positionals_of, Pairs, Handle, Fault, PipeEnds, State, Task, Trouble, BadName, BadNumber, NoFrame, BadLine, NotOpen, Usage, Failed, held_at, held_in, First, Second, Read, DirectiveRead, has, the_text, text_at, own_directive, Way}
use Rattle.el_machine.proofs.Vocabulary.{has_good_names, all_pairs, put_or_refused, substituting, multisubstitute, substitute_alone, as_importas, import, export, unexport, emptyenv, envfile, shift, withstdinas, one_number, two_numbers, found_or_refused, number_read, numbers_read, fdclose, fdmove, fdswap, heredoc, redirfd, piperw}
use Rattle.std.proofs.Common.{ℕ, ◌==◌, Bool, ◌&&◌, List, [], ◌∷◌, Option, Some, None, Result, Ok, Err, refl, codes}
use Rattle.std.specs.Prelude.{is_some}
use Rattle.el_world.specs.declared.event.Mode.TheVariants.{Read as ForReading}
use Rattle.el_vars.specs.Names.{if_good_name}
use Rattle.el_vars.specs.Envfile as lines
use Rattle.el_vars.specs.Envfile.{opened, after_open, are_good_lines, lines_in}
use Rattle.el_vars.specs.Shift.{shift_number, shift_by, shift_if_number}
use Rattle.el_vars.specs.Withstdinas as input
use Rattle.el_vars.specs.Withstdinas.{value_read, read_from}
use Rattle.el_redir.specs.Putting.{after_given}
use Rattle.el_redir.specs.Redirfd.{mode_of}
use Rattle.el_redir.specs.Piperw.{after_pipe}
use Rattle.el_app.proofs.Owed.{Owed, Waits, Still, waits-gives, waits-behind, waits-after, waits-if}
use Rattle.el_app.proofs.OwedKids.{AreKids, KeepsKids}
use Rattle.el_app.proofs.OwedTasks.{still-open, still-pipe, still-feed, still-close, still-closing, still-input, waits-refused}

-- what is found in two words
abbrev found_type : {A : Type 0} → (List ℕ → List ℕ → Result A Trouble) → Type 0
found_type {A} find = A

abbrev Numbers : Type 0
Numbers = found_type two_numbers

module _ {owed : Owed} (state : State) (read : Read) (h : AreKids state.kids owed) where
  -- ---- values that are put in

  substituting-keeps : (program : Prog) (directives : List DirectiveRead) → Waits owed KeepsKids (substituting program directives state)
  unfolding substituting
  substituting-keeps program directives = waits-if (list_all has_good_names directives) (by (all_pairs directives state.env)) (waits-refused state (name_text program) BadName)
    where
      by : (pairs : Result Pairs Trouble) → Waits owed KeepsKids (put_or_refused program directives state pairs)
      by (Ok pairs) = waits-gives (record { within = h.within })
      by (Err trouble) = waits-refused state (name_text program) trouble

  pub alone-keeps : (program : Prog) → Waits owed KeepsKids (substitute_alone program read state)
  unfolding substitute_alone
  alone-keeps program = substituting-keeps program (own_directive program read ∷ [])

  pub multisubstitute-keeps : Waits owed KeepsKids (multisubstitute read state)
  unfolding multisubstitute
  multisubstitute-keeps = substituting-keeps Multisubstitute read.directives

  pub import-keeps : Waits owed KeepsKids (import read state)
  unfolding import
  import-keeps = substituting-keeps Import (as_importas read ∷ [])

  -- ---- variables

  named-keeps : (program : Prog) (name : List ℕ) {task : Task Way} → Waits owed KeepsKids task → Waits owed KeepsKids (if_good_name program name state task)
  named-keeps program name one = waits-if (is_good_name name) one (waits-refused state (name_text program) BadName)

  pub export-keeps : Waits owed KeepsKids (export read state)
  unfolding export
  export-keeps = named-keeps Export (the_text First read) (waits-gives (record { within = h.within }))

  pub unexport-keeps : Waits owed KeepsKids (unexport read state)
  unfolding unexport
  unexport-keeps = named-keeps Unexport (the_text First read) (waits-gives (record { within = h.within }))

  pub emptyenv-keeps : Waits owed KeepsKids (emptyenv read state)
  unfolding emptyenv
  emptyenv-keeps = waits-gives (record { within = h.within })

  pub shift-keeps : Waits owed KeepsKids (shift read state)
  unfolding shift
  shift-keeps = by (shift_number (text_at First read))
    where
      among : (number : ℕ) (found : Option (List ℕ × List (List ℕ))) → Waits owed KeepsKids (shift_by number state found)
      among number None = waits-refused state (name_text Shift) NoFrame
      among number (Some found) = waits-gives (record { within = h.within })

      by : (number : Option ℕ) → Waits owed KeepsKids (shift_if_number state number)
      by None = waits-refused state (name_text Shift) BadNumber
      by (Some number) = among number (positionals_of state.env)

  -- ---- inputs

  pub envfile-keeps : Waits owed KeepsKids (envfile read state)
  unfolding envfile opened
  envfile-keeps = waits-behind (still-open state.dir (the_text First read) ForReading) by
    where
      goes : (text : Option (List ℕ)) → Waits owed KeepsKids (lines.after_read state text)
      goes None = waits-refused state (name_text Envfile) Failed
      goes (Some text) = waits-if (are_good_lines (lines_in text)) (waits-gives (record { within = h.within })) (waits-refused state (name_text Envfile) BadLine)

      by : (answer : Result Handle Fault) → Waits owed KeepsKids (after_open read state answer)
      by (Ok handle) = waits-after (still-input state handle) (λ text. waits-behind (still-close handle) (λ _. goes text))
      by (Err fault) = waits-if (has (codes "I") read) (waits-gives h) (waits-refused state (name_text Envfile) Failed)

  pub withstdinas-keeps : Waits owed KeepsKids (withstdinas read state)
  unfolding withstdinas value_read
  withstdinas-keeps = named-keeps Withstdinas (the_text First read) (waits-after (by (has (codes "N") read) (held_at state 0)) (λ value. waits-gives (record { within = h.within })))
    where
      after : (keeps : Bool) (text : Option (List ℕ)) → Waits owed (Still owed) (input.after_read keeps state text)
      after keeps None = waits-refused state (name_text Withstdinas) Failed
      after keeps (Some bytes) = waits-gives refl

      by : (keeps : Bool) (slot : Option Handle) → Waits owed (Still owed) (read_from keeps state slot)
      by keeps None = waits-refused state (name_text Withstdinas) NotOpen
      by keeps (Some handle) = waits-after (still-input state handle) (after keeps)

  -- ---- numbers

  still-found : {X : Type 0} (program : Prog) (result : Result X Trouble) → Waits owed (Still owed) (found_or_refused state program result)
  still-found program (Ok x) = waits-gives refl
  still-found program (Err trouble) = waits-refused state (name_text program) trouble

  still-number : (program : Prog) → Waits owed (Still owed) (number_read program read state)
  unfolding number_read
  still-number program = still-found program (one_number (the_text First read))

  still-numbers : (program : Prog) → Waits owed (Still owed) (numbers_read program read state)
  unfolding numbers_read
  still-numbers program = still-found program (two_numbers (the_text First read) (the_text Second read))

  pub fdclose-keeps : Waits owed KeepsKids (fdclose read state)
  unfolding fdclose
  fdclose-keeps = waits-after (still-number Fdclose) (λ number. waits-behind (still-closing _) (λ _. waits-gives (record { within = h.within })))

  pub fdmove-keeps : Waits owed KeepsKids (fdmove read state)
  unfolding fdmove
  fdmove-keeps = waits-after (still-numbers Fdmove)
      (λ numbers. waits-if (is_some (held_in state.fds numbers.other)) (waits-behind (still-closing _) (λ _. waits-gives (record { within = h.within }))) (waits-refused state (name_text Fdmove) NotOpen))

  pub fdswap-keeps : Waits owed KeepsKids (fdswap read state)
  unfolding fdswap
  fdswap-keeps = waits-after (still-numbers Fdswap)
      (λ numbers. waits-if (is_some (held_in state.fds numbers.one) && is_some (held_in state.fds numbers.other)) (waits-gives (record { within = h.within })) (waits-refused state (name_text Fdswap) NotOpen))

  given-keeps : (program : Prog) (number : ℕ) (answer : Result Handle Fault) → Waits owed KeepsKids (after_given program number state answer)
  given-keeps program number (Ok handle) = waits-behind (still-closing _) (λ _. waits-gives (record { within = h.within }))
  given-keeps program number (Err fault) = waits-refused state (name_text program) Failed

  pub redirfd-keeps : Waits owed KeepsKids (redirfd read state)
  unfolding redirfd
  redirfd-keeps = waits-after (still-number Redirfd) (λ number. waits-behind (still-open state.dir (the_text Second read) (mode_of read)) (given-keeps Redirfd number))

  pub heredoc-keeps : Waits owed KeepsKids (heredoc read state)
  unfolding heredoc
  heredoc-keeps = waits-after (still-number Heredoc) (λ number. waits-behind (still-feed (the_text Second read)) (given-keeps Heredoc number))

  pub piperw-keeps : Waits owed KeepsKids (piperw read state)
  unfolding piperw
  piperw-keeps = waits-after (still-numbers Piperw) (λ numbers. waits-if (numbers.one == numbers.other) (waits-refused state (name_text Piperw) Usage) (waits-behind still-pipe (by numbers)))
    where
      by : (numbers : Numbers) (answer : Result PipeEnds Fault) → Waits owed KeepsKids (after_pipe numbers state answer)
      by numbers (Ok ends) = waits-behind (still-closing _) (λ _. waits-behind (still-closing _) (λ _. waits-gives (record { within = h.within })))
      by numbers (Err fault) = waits-refused state (name_text Piperw) Failed
