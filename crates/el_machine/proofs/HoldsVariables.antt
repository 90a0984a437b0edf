-- The programs of el_vars.
use Rattle.el_room.proofs.Vocabulary.{list_all, bytes_eq, name_text, Prog, Importas, Import, Multisubstitute, Export, Unexport, Emptyenv, Envfile, Withstdinas, Shift, is_good_name, positionals_of, with_positionals, shape_of, Chain, Pairs, Fault, Handle, State, Task, Trouble, BadName, BadNumber, NoFrame, BadLine, NotOpen, Failed, held_at, refused, First, Read, DirectiveRead, has, the_text, text_at, own_directive, Way, on}
use Rattle.std.proofs.Common.{◌≡◌, ℕ, suc, ◌+◌, ◌-◌, Bool, true, false, List, [], ◌∷◌, Option, Some, None, Result, Ok, Err, IfErr, length, drop, refl, subst, arith, codes, if◌then◌else◌}
use Rattle.std.specs.Prelude.{min}
use Rattle.std.specs.FinMap as map
use Rattle.el_env.proofs.Arguments.{ArePositionals-read}
use Rattle.el_world.specs.declared.event.Mode.TheVariants.{Read as ForReading}
use Rattle.el_vars.specs.Emptyenv.{emptyenv}
use Rattle.el_vars.specs.Export.{export}
use Rattle.el_vars.specs.Import.{as_importas, import}
use Rattle.el_vars.specs.Unexport.{unexport}
use Rattle.el_vars.specs.Names.{if_good_name}
use Rattle.el_vars.specs.Numbered.{without_numbered}
use Rattle.el_vars.specs.Shift.{shift_number, shift_by, shift_if_number, shift}
use Rattle.el_vars.specs.Envfile as lines
use Rattle.el_vars.specs.Envfile.{opened, after_open, are_good_lines, lines_in, with_lines, envfile}
use Rattle.el_vars.specs.Withstdinas as input
use Rattle.el_vars.specs.Withstdinas.{value_read, read_from, withstdinas}
use Rattle.el_vars.specs.Multisubstitute.{all_left, has_good_names, all_pairs, put_or_refused, substituting, multisubstitute, substitute_alone}
use Rattle.el_machine.specs.Changes.{ChangesNumbered, RemovesOnly, VariablesChange}
use Rattle.el_machine.specs.Ways.{puts_in}
use Rattle.el_machine.proofs.OtherTroubles.{other_all}
use Rattle.el_machine.proofs.ChangesVariables.{one_set, one_removed, removes_all, removes_all_left, removes_others, keeps_all, keeps_lines, numbered_changed}
use Rattle.el_machine.proofs.LacksHandles.{OnLack, first_needed}
use Rattle.el_machine.proofs.MayChanges.{unchanged, other_variables}
use Rattle.el_machine.proofs.Holds.{Terms, goes-gives, goes-act, Now, Kept, Goes, goes-then}
use Rattle.el_machine.proofs.HoldsTasks.{Opened, WasRead, IsTold, IsOther, told_later, GoesOn, does-open, does-close, goes-refusal, goes-failed, goes-input, goes-on, goes-refused}

-- ---- values that are put in

module _ {terms : Terms} {cause : Now → Type 0} {base : List Handle} {now : Now} where
  goes-substituting : (program : Prog) (directives : List DirectiveRead) (state : State) → (shape_of program).rest ≡ Chain → puts_in program ≡ true → VariablesChange program state.env (all_left directives state.env) → Kept terms base state.fds now
      → GoesOn terms cause base now program state (substituting program directives state)
  unfolding substituting
  goes-substituting program directives state chain puts change h = by (list_all has_good_names directives)
    where
      found : (pairs : Result Pairs Trouble) → IfErr pairs IsOther → GoesOn terms cause base now program state (put_or_refused program directives state pairs)
      found (Ok pairs) other = goes-gives (record { kept = record { exact = h.exact }; may = other_variables program state _ change; go = (chain, puts) })
      found (Err trouble) other = goes-refused state (name_text program) trouble other h

      by : (good : Bool) → GoesOn terms cause base now program state (if good then put_or_refused program directives state (all_pairs directives state.env) else refused state (name_text program) BadName)
      by true = found (all_pairs directives state.env) (other_all directives state.env)
      by false = goes-refused state (name_text program) BadName tt h

  pub goes-multisubstitute : (state : State) (read : Read) → Kept terms base state.fds now → GoesOn terms cause base now Multisubstitute state (multisubstitute read state)
  unfolding multisubstitute shape_of
  goes-multisubstitute state read h = goes-substituting Multisubstitute read.directives state refl refl (removes_all_left read.directives state.env) h

  pub goes-alone : (program : Prog) (state : State) (read : Read) → (shape_of program).rest ≡ Chain → puts_in program ≡ true → VariablesChange program state.env (all_left (own_directive program read ∷ []) state.env) → Kept terms base state.fds now
      → GoesOn terms cause base now program state (substitute_alone program read state)
  unfolding substitute_alone
  goes-alone program state read chain puts change h = goes-substituting program (own_directive program read ∷ []) state chain puts change h

  pub goes-importas : (state : State) (read : Read) → Kept terms base state.fds now → GoesOn terms cause base now Importas state (substitute_alone Importas read state)
  unfolding shape_of
  goes-importas state read h = goes-alone Importas state read refl refl (removes_all_left (own_directive Importas read ∷ []) state.env) h

  pub goes-import : (state : State) (read : Read) → Kept terms base state.fds now → GoesOn terms cause base now Import state (import read state)
  unfolding import shape_of
  goes-import state read h = goes-substituting Import (as_importas read ∷ []) state refl refl (removes_all_left (as_importas read ∷ []) state.env) h

-- ---- variables that are set and removed

module _ {terms : Terms} {cause : Now → Type 0} {base : List Handle} {now : Now} where
  named : (program : Prog) (name : List ℕ) (state : State) (task : Task Way) → Kept terms base state.fds now → GoesOn terms cause base now program state task → GoesOn terms cause base now program state (if_good_name program name state task)
  named program name state task h goes = by (is_good_name name)
    where
      by : (good : Bool) → GoesOn terms cause base now program state (if good then task else refused state (name_text program) BadName)
      by true = goes
      by false = goes-refused state (name_text program) BadName tt h

  pub goes-export : (state : State) (read : Read) → Kept terms base state.fds now → GoesOn terms cause base now Export state (export read state)
  unfolding export shape_of
  goes-export state read h = named Export (the_text First read) state _ h (goes-on refl (other_variables Export state _ (one_set state.env _ _)) (record { exact = h.exact }))

  pub goes-unexport : (state : State) (read : Read) → Kept terms base state.fds now → GoesOn terms cause base now Unexport state (unexport read state)
  unfolding unexport shape_of
  goes-unexport state read h = named Unexport (the_text First read) state _ h (goes-on refl (other_variables Unexport state _ (one_removed state.env _)) (record { exact = h.exact }))

  pub goes-emptyenv : (state : State) (read : Read) → Kept terms base state.fds now → GoesOn terms cause base now Emptyenv state (emptyenv read state)
  unfolding emptyenv shape_of
  goes-emptyenv state read h = goes-on refl (other_variables Emptyenv state _ (by (has (codes "p") read))) (record { exact = h.exact })
    where
      by : (keeps : Bool) → RemovesOnly state.env (if keeps then map.retain_keys state.env (λ name. bytes_eq name (codes "PATH")) else map.empty)
      by true = removes_others state.env (codes "PATH")
      by false = removes_all state.env

  pub goes-shift : (state : State) (read : Read) → Kept terms base state.fds now → GoesOn terms cause base now Shift state (shift read state)
  unfolding shift shape_of
  goes-shift state read h = by (shift_number (text_at First read))
    where
      plus_one : (n : ℕ) → suc n ≡ n + 1
      plus_one n = omega arith

      among : (number : ℕ) (found : Option (List ℕ × List (List ℕ))) → positionals_of state.env ≡ found → GoesOn terms cause base now Shift state (shift_by number state found)
      among number None is = goes-refused state (name_text Shift) NoFrame tt h
      among number (Some found) is =
          goes-on refl (other_variables Shift state _
          (subst (λ from. ChangesNumbered state.env (with_positionals found.0 (drop (min number (length found.1)) found.1) (without_numbered (min number (length found.1)) from state.env)))
          (plus_one (length found.1 - min number (length found.1)))
          (numbered_changed state.env found.0 (drop (min number (length found.1)) found.1) (min number (length found.1)) (length found.1 - min number (length found.1)) (ArePositionals-read state.env found.0 found.1 is).zero_is_set)))
          (record { exact = h.exact })

      by : (number : Option ℕ) → GoesOn terms cause base now Shift state (shift_if_number state number)
      by None = goes-refused state (name_text Shift) BadNumber tt h
      by (Some number) = among number (positionals_of state.env) refl

-- ---- inputs

module _ {terms : Terms} {cause : Now → Type 0} {base : List Handle} where
  pub goes-envfile : {now : Now} (state : State) (read : Read) → Kept terms base state.fds now → GoesOn terms cause base now Envfile state (envfile read state)
  unfolding envfile opened shape_of
  goes-envfile state read h = goes-act (does-open h state.dir (the_text First read) ForReading) by
    where
      good : (text : List ℕ) (now : Now) → Kept terms base state.fds now → (are : Bool) → GoesOn terms cause base now Envfile state (if are then on (record state { env = with_lines (lines_in text) state.env }) else refused state (name_text Envfile) BadLine)
      good text now k true = goes-on refl (other_variables Envfile state _ (keeps_lines (lines_in text) state.env)) (record { exact = k.exact })
      good text now k false = goes-refused state (name_text Envfile) BadLine tt k

      goes : (text : Option (List ℕ)) (now : Now) → Kept terms base state.fds now → IsTold now.ok text → GoesOn terms cause base now Envfile state (lines.after_read state text)
      goes None now k told = goes-failed state (name_text Envfile) told k
      goes (Some text) now k told = good text now k (are_good_lines (lines_in text))

      fails : (now : Now) → Kept terms base state.fds now → now.ok ≡ false → (lenient : Bool) → GoesOn terms cause base now Envfile state (if lenient then on state else refused state (name_text Envfile) Failed)
      fails now k told true = goes-on refl (unchanged Envfile state (keeps_all state.env)) k
      fails now k told false = goes-failed state (name_text Envfile) told k

      by : (answer : Result Handle Fault) (now : Now) → Opened terms base state.fds answer now → GoesOn terms cause base now Envfile state (after_open read state answer)
      by (Ok handle) now p = goes-then (goes-input state handle p.kept) (λ text now q. goes-act (does-close handle (λ s. let fresh = p.fresh s in fresh.apart) q.kept) (λ _ now r. goes text now r.kept (told_later text r.later q.told)))
      by (Err fault) now p = fails now p.kept p.told (has (codes "I") read)

  -- number 0 must hold a handle
  goes-value : {now : Now} (keeps : Bool) (state : State) → (held_at state 0 ≡ None → (now : Now) → cause now) → Kept terms base state.fds now → Goes terms cause base now (λ _. Kept terms base state.fds) (value_read keeps state)
  unfolding value_read
  goes-value {now} keeps state lack h = by (held_at state 0) refl
    where
      after : (text : Option (List ℕ)) (now : Now) → WasRead terms base state.fds text now → Goes terms cause base now (λ _. Kept terms base state.fds) (input.after_read keeps state text)
      after None now p = goes-failed state (name_text Withstdinas) p.told p.kept
      after (Some bytes) now p = goes-gives p.kept

      by : (slot : Option Handle) → held_at state 0 ≡ slot → Goes terms cause base now (λ _. Kept terms base state.fds) (read_from keeps state slot)
      by None is = goes-refusal state (name_text Withstdinas) NotOpen (λ _ _. lack is) h
      by (Some handle) is = goes-then (goes-input state handle h) after

  pub goes-withstdinas : {now : Now} (state : State) (read : Read) → OnLack Withstdinas read state cause → Kept terms base state.fds now → GoesOn terms cause base now Withstdinas state (withstdinas read state)
  unfolding withstdinas shape_of
  goes-withstdinas state read lack h = named Withstdinas (the_text First read) state _ h
      (goes-then (goes-value (has (codes "N") read) state (lack 0 (first_needed 0 0 [] refl)) h) (λ value now k. goes-on refl (other_variables Withstdinas state _ (one_set state.env _ value)) (record { exact = k.exact })))
