-- How the code tells of what it parsed. Only the code's contracts need it.
use Rattle.el_room.specs.Vocabulary.{Vars, Finish, Seen, State, Follows, Refuses, FAILED_CALL, Trouble}
use Rattle.std.specs.Prelude.{◌≡◌, ℕ, List, Result, Ok, Err}
use Rattle.el_world.specs.declared.finish.Finish.TheVariants.{Status}
use Rattle.el_machine.specs.Flat.{flat_run}
use Rattle.el_machine.specs.Causes.{NoneFailed, HasCauseOf111}
use Rattle.el_getopt.specs.declared.fault.ParseFault.{ParseFault}
use Rattle.el_getopt.specs.declared.fault.ParseFault.TheVariants.{Refused, NoMemory}
use Rattle.el_getopt.specs.Parsing.{Parsed, elgetopt_name}

-- the rest is what is run, and the new variables are those behind the parsing; what is refused leaves the variables; want of memory says nothing
abbrev pub IsParsedAs : Result Parsed Trouble → (old new : Vars) → Result (List (List ℕ)) ParseFault → Type 0
IsParsedAs parsed old new (Ok rest) = parsed ≡ Ok (record { rest = rest; env = new })
IsParsedAs parsed old new (Err (Refused trouble)) = (parsed ≡ Err trouble) × (new ≡ old)
IsParsedAs parsed old new (Err NoMemory) = Unit {0}

-- words were run from a state with so many units, and why they ended with 111 where no call failed
pub record RunsFrom (old new : Seen) (words : List (List ℕ)) (state : State) (units : ℕ) (result : Finish) : Type 0 where
  pub last : State
  pub left : ℕ
  pub follows : Follows {A = ⊥} {B = ⊥} old new (flat_run words state) units (Err result) (λ never. never) last left
  pub cause : result ≡ Status FAILED_CALL → NoneFailed old new → HasCauseOf111 old new words state units

-- what is done behind the unit: the rest is run with the variables behind the parsing, or the message is written
abbrev pub DoesFrom : Result Parsed Trouble → (old new : Seen) → State → (units : ℕ) → (result : Finish) → Type 0
DoesFrom (Ok parsed) old new state units result = RunsFrom old new parsed.rest (record state { env = parsed.env }) units result
DoesFrom (Err trouble) old new state units result = Refuses old new state.fds elgetopt_name trouble result
