-- The table of programs: each does only what it may, and exactly what is due is held behind it. A new program has a line here.
use Rattle.el_room.proofs.Vocabulary.{Prog, Define, Importas, Import, Multidefine, Multisubstitute, Elgetpositionals, Export, Unexport, Emptyenv, Envfile, Withstdinas, Shift, Foreground, Background, If, Ifelse, Ifte, Ifthenelse, Cd, Exec, Exit, Loopwhilex, Forx, Forstdin, Forbacktickx, Pipeline, Backtick, Redirfd, Fdmove, Fdclose, Fdswap, Piperw, Heredoc, shape_of, Event, Handle, State, AllGiven, Read}
use Rattle.std.proofs.Common.{◌⊎◌, inl, inr, ℕ, List, [], refl}
use Rattle.el_words.specs.declared.prog.Prog.TheVariants.{Wait}
use Rattle.el_machine.specs.Effects.{effect}
use Rattle.el_machine.specs.Flat.{flat_step}
use Rattle.el_machine.specs.Causes.{GivesOwn111, LacksHandle, EndsWith111}
use Rattle.el_machine.specs.Ways.{MayGo}
use Rattle.el_machine.proofs.LacksHandles.{OnLack}
use Rattle.el_machine.proofs.Holds.{Terms, knowing, goes-takes, Now, Kept, Goes}
use Rattle.el_machine.proofs.HoldsRuns.{holds-given, at_first}
use Rattle.el_machine.proofs.HoldsTasks.{CanStart, HasRead, GoesOn, LeftBehind, goes-entered}
use Rattle.el_machine.proofs.HoldsVariables.{goes-alone, goes-importas, goes-import, goes-multisubstitute, goes-export, goes-unexport, goes-emptyenv, goes-envfile, goes-withstdinas, goes-shift}
use Rattle.el_machine.proofs.HoldsControls.{goes-foreground, goes-background, goes-if, goes-ifelse, goes-ifte, goes-ifthenelse, goes-wait, goes-cd, goes-exec, goes-exit}
use Rattle.el_machine.proofs.HoldsLoops.{goes-loopwhilex, goes-forx, goes-forstdin, goes-forbacktickx}
use Rattle.el_machine.proofs.HoldsPipes.{goes-pipeline, goes-backtick}
use Rattle.el_machine.proofs.HoldsRedirections.{goes-redirfd, goes-fdmove, goes-fdclose, goes-fdswap, goes-piperw, goes-heredoc}

module _ {terms : Terms} {cause : Now → Type 0} {base : List Handle} {now : Now} (state : State) (read : Read) where
  -- The cause is there where 111 is a program's own code (`own`), and where one finds no handle that it must (`lack`).
  pub goes-effect : (program : Prog) → CanStart terms program read → ((now : Now) → GivesOwn111 program read now.told → cause now) → OnLack program read state cause → Kept terms base state.fds now → GoesOn terms cause base now program state (effect program read state)
  unfolding effect shape_of
  goes-effect Define can own lack h = goes-alone Define state read refl refl refl h
  goes-effect Importas can own lack h = goes-importas state read h
  goes-effect Import can own lack h = goes-import state read h
  goes-effect Multidefine can own lack h = goes-alone Multidefine state read refl refl refl h
  goes-effect Multisubstitute can own lack h = goes-multisubstitute state read h
  goes-effect Elgetpositionals can own lack h = goes-alone Elgetpositionals state read refl refl refl h
  goes-effect Export can own lack h = goes-export state read h
  goes-effect Unexport can own lack h = goes-unexport state read h
  goes-effect Emptyenv can own lack h = goes-emptyenv state read h
  goes-effect Envfile can own lack h = goes-envfile state read h
  goes-effect Withstdinas can own lack h = goes-withstdinas state read lack h
  goes-effect Shift can own lack h = goes-shift state read h
  goes-effect Foreground can own lack h = goes-foreground state read can h
  goes-effect Background can own lack h = goes-background state read can h
  goes-effect If can own lack h = goes-if state read can own h
  goes-effect Ifelse can own lack h = goes-ifelse state read can h
  goes-effect Ifte can own lack h = goes-ifte state read can h
  goes-effect Ifthenelse can own lack h = goes-ifthenelse state read can h
  goes-effect Wait can own lack h = goes-wait state read h
  goes-effect Cd can own lack h = goes-cd state read h
  goes-effect Exec can own lack h = goes-exec state read h
  goes-effect Exit can own lack h = goes-exit state read own h
  goes-effect Loopwhilex can own lack h = goes-loopwhilex state read can own h
  goes-effect Forx can own lack h = goes-forx state read own can h
  goes-effect Forstdin can own lack h = goes-forstdin state read own can lack h
  goes-effect Forbacktickx can own lack h = goes-forbacktickx state read own can h
  goes-effect Pipeline can own lack h = goes-pipeline state read can h
  goes-effect Backtick can own lack h = goes-backtick state read can own h
  goes-effect Redirfd can own lack h = goes-redirfd state read h
  goes-effect Fdmove can own lack h = goes-fdmove state read lack h
  goes-effect Fdclose can own lack h = goes-fdclose state read h
  goes-effect Fdswap can own lack h = goes-fdswap state read lack h
  goes-effect Piperw can own lack h = goes-piperw state read h
  goes-effect Heredoc can own lack h = goes-heredoc state read h

-- a step, for its cause of 111
pub goes-step : {terms : Terms} {cause : Now → Type 0} {base : List Handle} {now : Now} (program : Prog) (words : List (List ℕ)) (state : State) → ((read : Read) → HasRead program words state read → CanStart terms program read) → ((now : Now) → EndsWith111 program words state now.told → cause now) → Kept terms base state.fds now
    → Goes terms cause base now (LeftBehind terms base program state) (flat_step program words state)
unfolding flat_step
goes-step program words state can why h = goes-takes (goes-entered program words state (effect program) (λ read now has k. goes-effect state read program (can read has) (λ now own. why now (because read has now.told (inl own)))
    (λ number needed none now. why now (because read has now.told (inr (record { number = number; needed = needed; none = none })))) k) h)
  where
    because : (read : Read) → HasRead program words state read → (events : List Event) → GivesOwn111 program read events ⊎ LacksHandle program read state → EndsWith111 program words state events
    because read has events cause = record { warned = has.warned; read = read; told = has.told; cause = cause }

-- each way that a program may go
pub effect-ways : (program : Prog) (read : Read) (state : State) → AllGiven (MayGo program) (effect program read state)
effect-ways program read state =
    let goes : GoesOn (knowing ⊥) (λ _. Unit {0}) [] (at_first []) program state (effect program read state) = goes-effect state read program (λ words starts. tt) (λ _ _. tt) (λ number needed none now. tt) (record { exact = λ never. absurd never }) in
    holds-given _ _ (MayGo program) (effect program read state) (at_first []) (λ way now p. p.go) goes.so
