-- The call of elgetopt, from outside.
use Rattle.el_room.specs.Vocabulary.{Vars, Finish, NoMemory, Seen, Plan, Outcome, ended, ends_as, Tells, State, End, standard_fds, FAILED_CALL, Trouble, Refuses, trouble_status}
use Rattle.std.specs.Prelude.{◌≡◌, ℕ, suc, List, [], Option, None, Some, Result, Ok, Err}
use Rattle.el_world.specs.declared.finish.Finish.TheVariants.{Status, Spent}
use Rattle.el_world.specs.States as end
use Rattle.el_proc.specs.declared.trouble.TheConstants.{WRONG_USE}
use Rattle.el_machine.specs.Flat.{flat_run}
use Rattle.el_machine.specs.Causes.{NoneFailed, HasCauseOf111}
use Rattle.el_getopt.specs.Parsing.{Parsed, elgetopt_name, parsed, elgetopt_run}

-- how a process ends, its state left aside: with a status, or where a unit is due and none is left
pub data Ending : Type 0 where
  status : (code : ℕ) → Ending
  spent : Ending

-- an end, its state left aside
abbrev pub ending_of : End → Ending
ending_of (end.Status code state) = status code
ending_of (end.Spent state) = spent

-- how a plan comes out where the answer is this; want of memory is no outcome
abbrev pub outcome_of : Finish → Option (Outcome Ending ⊥)
outcome_of (Status code) = Some (ended (status code))
outcome_of Spent = Some (ended spent)
outcome_of NoMemory = None

-- a process at its start: its variables, its own descriptors, its directory, and no children
abbrev pub first_state : Vars → (dir : List ℕ) → State
first_state env dir = record { env = env; fds = standard_fds; dir = dir; kids = [] }

-- elgetopt with these words, of which the first is its name
abbrev pub elgetopt_call : (words : List (List ℕ)) → Vars → (dir : List ℕ) → Plan Ending ⊥
elgetopt_call words env dir = ends_as ending_of (elgetopt_run words (first_state env dir))

-- the run of a list of words
abbrev pub run_call : (words : List (List ℕ)) → Vars → (dir : List ℕ) → Plan Ending ⊥
run_call words env dir = ends_as ending_of (flat_run words (first_state env dir))

-- what is refused ends with 100 behind its one message
pub record EndsRefused (old new : Seen) (trouble : Trouble) (result : Finish) : Type 0 where
  pub is_refused : Refuses old new standard_fds elgetopt_name trouble result
  pub is_wrong_use : trouble_status trouble ≡ WRONG_USE

-- What is done behind elgetopt's own unit. Where the words are parsed, the world is told exactly the events of the run of the rest with the
-- variables behind the parsing, and the answer is that run's; where they are refused, just the message.
abbrev pub DoesAsParsed : Result Parsed Trouble → (old new : Seen) → (dir : List ℕ) → (units : ℕ) → (result : Finish) → Type 0
DoesAsParsed (Ok parsed) old new dir units result = Tells old new (run_call parsed.rest parsed.env dir) units (outcome_of result)
DoesAsParsed (Err trouble) old new dir units result = EndsRefused old new trouble result

-- without a unit nothing is done
pub record DoesNothing (old new : Seen) (result : Finish) : Type 0 where
  pub is_spent : result ≡ Spent
  pub same : new ≡ old

-- the whole call: one unit first
abbrev pub ParsesAndRuns : (old new : Seen) → (words : List (List ℕ)) → Vars → (dir : List ℕ) → (units : ℕ) → (result : Finish) → Type 0
ParsesAndRuns old new words env dir Prim.Native.Nat.zero result = DoesNothing old new result
ParsesAndRuns old new words env dir (suc units) result = DoesAsParsed (parsed words env) old new dir units result

-- why an answer of 111 comes while no call fails: it is that of the run of the rest
pub record RunEndsWith111 (old new : Seen) (words : List (List ℕ)) (env : Vars) (dir : List ℕ) (units : ℕ) : Type 0 where
  pub outcome : Parsed
  pub is_parsed : parsed words env ≡ Ok outcome
  pub left : ℕ
  pub has_unit : units ≡ suc left
  pub cause : HasCauseOf111 old new outcome.rest (first_state outcome.env dir) left

-- an answer of 111 has a cause where no call failed
abbrev pub IsCaused : (old new : Seen) → (words : List (List ℕ)) → Vars → (dir : List ℕ) → (units : ℕ) → (result : Finish) → Type 0
IsCaused old new words env dir units result = result ≡ Status FAILED_CALL → NoneFailed old new → RunEndsWith111 old new words env dir units
