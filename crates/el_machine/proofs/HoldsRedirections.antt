-- The programs of el_redir.
use Rattle.el_room.proofs.Vocabulary.{nat_tests, number_of, name_text, Prog, Fdclose, Fdmove, Fdswap, Redirfd, Heredoc, Piperw, shape_of, Chain, Fault, Handle, PipeEnds, pipe_act, and_go_on, State, Trouble, BadNumber, OutOfRange, NotOpen, Usage, held_in, copied, moved, swapped, refused, First, Second, Read, has, the_text, on}
use Rattle.std.proofs.Common.{◌≡◌, ℕ, ◌<◌, ◌&&◌, ◌==◌, Bool, true, false, not, List, [], ◌∷◌, length, set, Option, Some, None, is_some, unwrap_or, Result, Ok, Err, MatchResult, Contains, refl, arith, codes, if◌then◌else◌}
use Rattle.std.specs.Prelude.{nat_lt}
use Rattle.el_words.proofs.Truths.{none_there}
use Rattle.el_redir.specs.Fdclose.{fdclose}
use Rattle.el_redir.specs.Fdswap.{fdswap}
use Rattle.el_redir.specs.Heredoc.{heredoc}
use Rattle.el_redir.specs.Redirfd.{redirfd}
use Rattle.el_redir.specs.Numbers.{is_number, is_descriptor, number_or, one_number, two_numbers, found_or_refused, number_read, numbers_read}
use Rattle.el_redir.specs.Putting.{changed, after_given}
use Rattle.el_redir.specs.Fdmove.{moved_by, fdmove}
use Rattle.el_redir.specs.Piperw.{after_pipe, piperw}
use Rattle.el_machine.specs.Changes.{VariablesChange, changes_descriptors}
use Rattle.el_machine.specs.Causes.{needed_numbers}
use Rattle.el_machine.proofs.ExactChanges.{Takes}
use Rattle.el_machine.proofs.ExactNumbers.{put_takes, drop_takes, copy_takes, move_takes, swapped_exactly}
use Rattle.el_machine.proofs.LacksHandles.{OnLack, first_needed, second_needed}
use Rattle.el_machine.proofs.MayChanges.{other_numbers}
use Rattle.el_machine.proofs.Holds.{Terms, goes-gives, goes-act, Now, Kept, Goes, goes-then}
use Rattle.el_machine.proofs.HoldsTasks.{IsOther, Opened, Piped, GoesOn, does-open, does-pipe, does-feed, goes-changed, goes-refusal, goes-failed, goes-on, goes-refused}

-- ---- numbers, as they are read

-- two numbers, whose type el_redir keeps to itself
abbrev pub found_type : {A : Type 0} → (List ℕ → List ℕ → Result A Trouble) → Type 0
found_type {A} found = A

abbrev Numbers : Type 0
Numbers = found_type two_numbers

-- a descriptor's number
below_64 : (word : List ℕ) → is_descriptor word ≡ true → number_or 0 word < 64
below_64 word = by (number_of word)
  where
    by : (number : Option ℕ) → nat_lt (unwrap_or number 64) 64 ≡ true → unwrap_or number 0 < 64
    by None below = omega arith
    by (Some n) below = grind (arith, nat_tests)

one_is : (word : List ℕ) → MatchResult (one_number word) (λ number. number < 64) IsOther
one_is word = by (is_number word) (is_descriptor word) refl
  where
    by : (is in_range : Bool) → is_descriptor word ≡ in_range → MatchResult (if not is then Err BadNumber else (if in_range then Ok (number_or 0 word) else Err OutOfRange)) (λ number. number < 64) IsOther
    by false in_range e = tt
    by true false e = tt
    by true true e = below_64 word e

-- they are what the words write, and in range
record AreRead (word behind : List ℕ) (numbers : Numbers) : Type 0 where
  one : numbers.one < 64
  other : numbers.other < 64
  one_is : numbers.one ≡ number_or 0 word
  other_is : numbers.other ≡ number_or 0 behind

two_are : (word behind : List ℕ) → MatchResult (two_numbers word behind) (AreRead word behind) IsOther
two_are word behind = by (is_number word && is_number behind) (is_descriptor word) refl (is_descriptor behind) refl
  where
    by : (are first : Bool) → is_descriptor word ≡ first → (second : Bool) → is_descriptor behind ≡ second
        → MatchResult (if not are then Err BadNumber else (if first && second then Ok (record { one = number_or 0 word; other = number_or 0 behind }) else Err OutOfRange)) (AreRead word behind) IsOther
    by false first e second f = tt
    by true false e second f = tt
    by true true e false f = tt
    by true true e true f = record { one = below_64 word e; other = below_64 behind f; one_is = refl; other_is = refl }

-- what was read, while what is due is held
record Knows {X : Type 0} (terms : Terms) (base : List Handle) (fds : List (Option Handle)) (known : X → Type 0) (x : X) (now : Now) : Type 0 where
  kept : Kept terms base fds now
  is : known x

module _ {terms : Terms} {cause : Now → Type 0} {base : List Handle} where
  found : {X : Type 0} {now : Now} (known : X → Type 0) (state : State) (program : Prog) (result : Result X Trouble) → MatchResult result known IsOther → Kept terms base state.fds now
      → Goes terms cause base now (Knows terms base state.fds known) (found_or_refused state program result)
  found known state program (Ok x) is h = goes-gives (record { kept = h; is = is })
  found known state program (Err trouble) other h = goes-refused state (name_text program) trouble other h

  goes-number : {now : Now} (program : Prog) (read : Read) (state : State) → Kept terms base state.fds now → Goes terms cause base now (Knows terms base state.fds (λ number. number < 64)) (number_read program read state)
  unfolding number_read
  goes-number program read state h = found _ state program (one_number (the_text First read)) (one_is (the_text First read)) h

  goes-numbers : {now : Now} (program : Prog) (read : Read) (state : State) → Kept terms base state.fds now → Goes terms cause base now (Knows terms base state.fds (AreRead (the_text First read) (the_text Second read))) (numbers_read program read state)
  unfolding numbers_read
  goes-numbers program read state h = found _ state program (two_numbers (the_text First read) (the_text Second read)) (two_are (the_text First read) (the_text Second read)) h

module _ {terms : Terms} {cause : Now → Type 0} {base : List Handle} where
  pub goes-fdclose : {now : Now} (state : State) (read : Read) → Kept terms base state.fds now → GoesOn terms cause base now Fdclose state (fdclose read state)
  unfolding fdclose shape_of
  goes-fdclose state read h = goes-then (goes-number Fdclose read state h) (λ number now k.
      goes-changed [] state (set state.fds number None) on (λ s. let exact = k.kept.exact s in drop_takes state.fds exact.numbers number) k.kept (λ now k. goes-on refl (other_numbers Fdclose state _ refl refl) k))

  pub goes-fdmove : {now : Now} (state : State) (read : Read) → OnLack Fdmove read state cause → Kept terms base state.fds now → GoesOn terms cause base now Fdmove state (fdmove read state)
  unfolding fdmove shape_of
  goes-fdmove state read lack h = goes-then (goes-numbers Fdmove read state h) (λ numbers now k. by numbers k.is now k.kept (is_some (held_in state.fds numbers.other)) refl)
    where
      takes : (numbers : Numbers) → length state.fds ≡ 64 → (copies : Bool) → Takes [] base state.fds (if copies then copied state.fds numbers.one numbers.other else moved state.fds numbers.one numbers.other)
      takes numbers all true = copy_takes state.fds all numbers.one numbers.other
      takes numbers all false = move_takes state.fds all numbers.one numbers.other

      by : (numbers : Numbers) → AreRead (the_text First read) (the_text Second read) numbers → (now : Now) → Kept terms base state.fds now → (holds : Bool) → is_some (held_in state.fds numbers.other) ≡ holds
          → GoesOn terms cause base now Fdmove state (if holds then changed state (moved_by read state.fds numbers) on else refused state (name_text Fdmove) NotOpen)
      by numbers are now k true is = goes-changed [] state (moved_by read state.fds numbers) on (λ s. let exact = k.exact s in takes numbers exact.numbers (has (codes "c") read)) k (λ now k. goes-on refl (other_numbers Fdmove state _ refl refl) k)
      by numbers are now k false is = goes-refusal state (name_text Fdmove) NotOpen (λ _ _. lack numbers.other (first_needed numbers.other (number_or 0 (the_text Second read)) [] are.other_is) (none_there _ is)) k

  pub goes-fdswap : {now : Now} (state : State) (read : Read) → OnLack Fdswap read state cause → Kept terms base state.fds now → GoesOn terms cause base now Fdswap state (fdswap read state)
  unfolding fdswap shape_of
  goes-fdswap state read lack h =
      goes-then (goes-numbers Fdswap read state h) (λ numbers now k. by numbers k.is now k.kept (is_some (held_in state.fds numbers.one)) refl (is_some (held_in state.fds numbers.other)) refl)
    where
      lacks : (numbers : Numbers) (number : ℕ) (now : Now) → Kept terms base state.fds now → Contains (needed_numbers Fdswap read) number → is_some (held_in state.fds number) ≡ false → GoesOn terms cause base now Fdswap state (refused state (name_text Fdswap) NotOpen)
      lacks numbers number now k needed is = goes-refusal state (name_text Fdswap) NotOpen (λ _ _. lack number needed (none_there _ is)) k

      by : (numbers : Numbers) → AreRead (the_text First read) (the_text Second read) numbers → (now : Now) → Kept terms base state.fds now → (one : Bool) → is_some (held_in state.fds numbers.one) ≡ one
          → (other : Bool) → is_some (held_in state.fds numbers.other) ≡ other
          → GoesOn terms cause base now Fdswap state (if one && other then on (record state { fds = swapped state.fds numbers.one numbers.other }) else refused state (name_text Fdswap) NotOpen)
      by numbers are now k true e true f =
          goes-on refl (other_numbers Fdswap state _ refl refl) (record { exact = λ s. let exact = k.exact s in swapped_exactly state.fds numbers.one numbers.other exact.numbers are.one are.other exact })
      by numbers are now k true e false f = lacks numbers numbers.other now k (second_needed numbers.other (number_or 0 (the_text First read)) (number_or 0 (the_text Second read)) [] are.other_is) f
      by numbers are now k false e other f = lacks numbers numbers.one now k (first_needed numbers.one (number_or 0 (the_text First read)) (number_or 0 (the_text Second read) ∷ []) are.one_is) e

  -- ---- handles that are given

  goes-given : (program : Prog) (number : ℕ) → number < 64 → (state : State) → (shape_of program).rest ≡ Chain → changes_descriptors program ≡ true → VariablesChange program state.env state.env
      → (answer : Result Handle Fault) (now : Now) → Opened terms base state.fds answer now → GoesOn terms cause base now program state (after_given program number state answer)
  goes-given program number below state chain changes change (Ok handle) now p =
      goes-changed (handle ∷ []) state (set state.fds number (Some handle)) on
      (λ s. let fresh = p.fresh s in let exact = p.kept.exact s in put_takes state.fds number handle fresh.given fresh.apart below exact.numbers) p.kept (λ now k. goes-on chain (other_numbers program state _ changes change) k)
  goes-given program number below state chain changes change (Err fault) now p = goes-failed state (name_text program) p.told p.kept

  pub goes-redirfd : {now : Now} (state : State) (read : Read) → Kept terms base state.fds now → GoesOn terms cause base now Redirfd state (redirfd read state)
  unfolding redirfd shape_of
  goes-redirfd state read h = goes-then (goes-number Redirfd read state h) (λ number now k. goes-act (does-open k.kept _ _ _) (goes-given Redirfd number k.is state refl refl refl))

  pub goes-heredoc : {now : Now} (state : State) (read : Read) → Kept terms base state.fds now → GoesOn terms cause base now Heredoc state (heredoc read state)
  unfolding heredoc shape_of
  goes-heredoc state read h = goes-then (goes-number Heredoc read state h) (λ number now k. goes-act (does-feed k.kept _) (goes-given Heredoc number k.is state refl refl refl))

  -- the first number takes the reader, and then the second one the writer
  pub goes-piperw : {now : Now} (state : State) (read : Read) → Kept terms base state.fds now → GoesOn terms cause base now Piperw state (piperw read state)
  unfolding piperw shape_of
  goes-piperw state read h = goes-then (goes-numbers Piperw read state h) (λ numbers now k. by numbers k.is now k.kept (numbers.one == numbers.other))
    where
      given : (numbers : Numbers) → AreRead (the_text First read) (the_text Second read) numbers → (answer : Result PipeEnds Fault) (now : Now) → Piped terms base state.fds answer now → GoesOn terms cause base now Piperw state (after_pipe numbers state answer)
      given numbers are (Ok ends) now p =
          let first : List (Option Handle) = set state.fds numbers.one (Some ends.reader) in
          goes-changed {base = ends.writer ∷ base} (ends.reader ∷ []) state first (λ state. changed state (set state.fds numbers.other (Some ends.writer)) on)
          (λ s. let new = p.new s in let reader = new.reader in let exact = p.kept.exact s in put_takes state.fds numbers.one ends.reader reader.given reader.apart are.one exact.numbers) p.kept
          (λ now k. goes-changed (ends.writer ∷ []) (record state { fds = first }) (set first numbers.other (Some ends.writer)) on
          (λ s. let new = p.new s in let writer = new.writer in let exact = k.exact s in put_takes first numbers.other ends.writer writer.given writer.alone are.other exact.numbers) k
          (λ now k. goes-on refl (other_numbers Piperw state _ refl refl) k))
      given numbers are (Err fault) now p = goes-failed state (name_text Piperw) p.told p.kept

      by : (numbers : Numbers) → AreRead (the_text First read) (the_text Second read) numbers → (now : Now) → Kept terms base state.fds now → (same : Bool)
          → GoesOn terms cause base now Piperw state (if same then refused state (name_text Piperw) Usage else and_go_on pipe_act (after_pipe numbers state))
      by numbers are now k true = goes-refused state (name_text Piperw) Usage tt k
      by numbers are now k false = goes-act (does-pipe k) (given numbers are)
