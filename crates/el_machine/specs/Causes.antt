-- Why a process ends with 111 though no call of it failed.
use Rattle.el_room.specs.Vocabulary.{Prog, Withstdinas, If, Exit, Loopwhilex, Forx, Forstdin, Forbacktickx, Backtick, Fdmove, Fdswap, Vars, Event, Start, Wait, Exited, Handle, Pid, Seen, has_fault, given, ended, Does, Added, State, Status, held_at, First, Second, Read, has, the_text, text_at}
use Rattle.std.specs.Prelude.{◌≡◌, ◌⊎◌, ℕ, zero, suc, true, false, List, [], ◌∷◌, ◌++◌, Contains, Option, None, Some, Ok, codes}
use Rattle.el_world.specs.World.{Rose}
use Rattle.el_front.specs.Fronts.{reads, strictness_of, front_told}
use Rattle.el_control.specs.If.{failed_status}
use Rattle.el_control.specs.Exit.{exit_code}
use Rattle.el_loops.specs.Loopwhilex.{goes_on_behind}
use Rattle.el_loops.specs.Turns.{is_ending, turn_words}
use Rattle.el_redir.specs.Numbers.{number_or}
use Rattle.el_machine.specs.Flat.{first_program, flat_step}

-- no call failed between two states of a world
abbrev pub NoneFailed : (old new : Seen) → Type 0
NoneFailed old new = Rose old.faults new.faults → ⊥

-- ---- waits

-- the last call is a wait, which answered that its process exited with 111
pub record EndsByWait (events : List Event) : Type 0 where
  pub before : List Event
  pub pid : Pid
  pub waited : events ≡ before ++ Wait pid (Ok (Exited 111)) ∷ []

-- a process was started with these words
pub record HasStart (words : List (List ℕ)) (pid : Pid) (events : List Event) : Type 0 where
  pub before : List Event
  pub env : Vars
  pub dir : List ℕ
  pub ends : List (Option Handle)
  pub later : List Event
  pub started : events ≡ before ++ Start words env dir ends (Ok pid) ∷ later

-- a wait among the calls answered so, for a process that had been started as a turn of a loop that read this
pub record HasTurn (read : Read) (events : List Event) : Type 0 where
  pub value : List ℕ
  pub before : List Event
  pub pid : Pid
  pub later : List Event
  pub waited : events ≡ before ++ Wait pid (Ok (Exited 111)) ∷ later
  pub start : HasStart (turn_words read value) pid before

-- ---- a program

-- 111 is a code that the program was given, or with which a process ended that it waited for: by what it read and the calls that it made
abbrev pub GivesOwn111 : Prog → Read → (events : List Event) → Type 0
GivesOwn111 If read events = failed_status read ≡ 111
GivesOwn111 Exit read events = exit_code (text_at First read) ≡ Some 111
GivesOwn111 Backtick read events = (has (codes "i") read ≡ true) × EndsByWait events
GivesOwn111 Loopwhilex read events = (goes_on_behind read 111 ≡ false) × EndsByWait events
GivesOwn111 Forx read events = (is_ending read 111 ≡ true) × HasTurn read events
GivesOwn111 Forstdin read events = (is_ending read 111 ≡ true) × HasTurn read events
GivesOwn111 Forbacktickx read events = (is_ending read 111 ≡ true) × HasTurn read events
GivesOwn111 _ read events = ⊥

-- the numbers at which a program must find a handle, by what it read
abbrev pub needed_numbers : Prog → Read → List ℕ
needed_numbers Withstdinas read = 0 ∷ []
needed_numbers Forstdin read = 0 ∷ []
needed_numbers Fdmove read = number_or 0 (the_text Second read) ∷ []
needed_numbers Fdswap read = number_or 0 (the_text First read) ∷ number_or 0 (the_text Second read) ∷ []
needed_numbers _ read = []

-- by what a program read, it must find a handle at a number that holds none
pub record LacksHandle (program : Prog) (read : Read) (state : State) : Type 0 where
  pub number : ℕ
  pub needed : Contains (needed_numbers program read) number
  pub none : held_at state number ≡ None

-- why a program ends with 111 by these calls, none of which failed: by what it reads in its words the code is its own, or it lacks a handle
pub record EndsWith111 (program : Prog) (words : List (List ℕ)) (state : State) (events : List Event) : Type 0 where
  pub warned : ℕ
  pub read : Read
  pub told : front_told (strictness_of state.env) program words ≡ reads warned read
  pub cause : GivesOwn111 program read events ⊎ LacksHandle program read state

-- ---- a run

-- where a run is: the words and the state, and the units and the events that are left
pub record Point : Type 0 where
  pub words : List (List ℕ)
  pub state : State
  pub units : ℕ
  pub events : List Event

-- a program that goes on leads from one point to the next
pub record LeadsTo (from next : Point) : Type 0 where
  pub program : Prog
  pub named : first_program from.words ≡ Some program
  pub added : List Event
  pub events : from.events ≡ added ++ next.events
  pub does : Does (flat_step program from.words from.state) from.units added (given (record { words = next.words; state = next.state })) next.units

-- so many programs lead from one point to another
abbrev pub Reaches : (programs : ℕ) → (from to : Point) → Type 0
Reaches zero from to = from ≡ to
Reaches (suc programs) from to = (next : Point) × LeadsTo from next × Reaches programs next to

-- the words begin with a program, which ends with 111, and why
pub record ProgramEnds (point : Point) : Type 0 where
  pub program : Prog
  pub named : first_program point.words ≡ Some program
  pub state : State
  pub left : ℕ
  pub does : Does (flat_step program point.words point.state) point.units point.events (ended (Status 111 state)) left
  pub cause : EndsWith111 program point.words point.state point.events

-- the words are the last command, and 111 is its own status
pub record CommandEnds (point : Point) : Type 0 where
  pub named : first_program point.words ≡ None
  pub last : EndsByWait point.events

-- Why a run from a point ends with 111 though none of its calls failed: it comes to a program whose own code that is, or to one that
-- must find a handle at a number that holds none, or to the last command, whose status it is.
pub record RunEndsWith111 (from : Point) : Type 0 where
  pub programs : ℕ
  pub point : Point
  pub reached : Reaches programs from point
  pub cause : ProgramEnds point ⊎ CommandEnds point

-- ---- two states of a world

-- between them calls were made of which this holds
pub record HasCause (old new : Seen) (Cause : (events : List Event) → Type 0) : Type 0 where
  pub events : List Event
  pub added : Added old new events
  pub cause : Cause events

-- and where none of these calls failed, this holds of them
abbrev pub HasCauseUnlessFailed : (old new : Seen) → (Cause : (events : List Event) → Type 0) → Type 0
HasCauseUnlessFailed old new Cause = HasCause old new (λ events. has_fault events ≡ false → Cause events)

-- why a run of words ends with 111 by these calls
abbrev pub RunCause : (words : List (List ℕ)) → State → (units : ℕ) → (events : List Event) → Type 0
RunCause words state units events = RunEndsWith111 (record { words = words; state = state; units = units; events = events })

-- so it is between two states of a world
abbrev pub HasCauseOf111 : (old new : Seen) → (words : List (List ℕ)) → State → (units : ℕ) → Type 0
HasCauseOf111 old new words state units = HasCause old new (RunCause words state units)
