-- What the call of elgetopt does, by what its words are parsed as.
use Rattle.el_room.proofs.Vocabulary.{Vars, Finish, Spent, NoMemory, Seen, takes, ends_as, outcome_as, Ran, RanWith, Tells, State, Task, finished, came_out, Follows, tells, ran-ends_as, unit_then, follows_spent, Trouble, trouble_status, follows_refused}
use Rattle.std.proofs.Common.{◌≡◌, ℕ, zero, suc, ◌-◌, ◌<◌, List, Result, Ok, Err, option_map, refl, sym, ap, ◌∙◌, subst, arith}
use Rattle.el_world.specs.declared.finish.Finish.TheVariants.{Status}
use Rattle.el_world.specs.States as end
use Rattle.el_world.proofs.Runs.{not_run, not_begun}
use Rattle.el_proc.specs.Troubles.{IsEndOf}
use Rattle.el_getopt.specs.Parsing.{Parsed, parsed, parsed_run, elgetopt_run}
use Rattle.el_getopt.specs.Calls.{ending_of, outcome_of, first_state, elgetopt_call, DoesAsParsed, ParsesAndRuns, IsCaused}
use Rattle.el_getopt.specs.Parses.{DoesFrom}
use Rattle.el_getopt.proofs.Parsed.{is_wrong_use}

module _ {old new : Seen} {run : Task ⊥} {units left : ℕ} {finish : Finish} {state : State} (p : Follows {A = ⊥} {B = ⊥} old new run units (Err finish) (λ never. never) state left) where
  pub call_ran : Ran old new (ends_as ending_of run) units (outcome_of finish) left
  unfolding came_out
  call_ran = by finish (ran-ends_as ending_of p.ran)
    where
      by : (finish : Finish) → Ran old new (ends_as ending_of run) units (option_map (outcome_as ending_of) (finished finish state)) left → Ran old new (ends_as ending_of run) units (outcome_of finish) left
      by (Status code) q = q
      by Spent q = q
      by NoMemory q = q

  pub call_tells : Tells old new (ends_as ending_of run) units (outcome_of finish)
  call_tells = tells call_ran

  pub call_run : RanWith old new (ends_as ending_of run) units (outcome_of finish)
  call_run = record { left = left; ran = call_ran }

  pub call_spent : finish ≡ Spent → Ran old new (ends_as ending_of run) units (outcome_of finish) 0
  call_spent is = subst (λ left. Ran old new (ends_as ending_of run) units (outcome_of finish) left) (p.spent (ap Err is)) call_ran

-- ---- want of memory before anything is done

pub nothing_done : (outcome : Result Parsed Trouble) (world : Seen) (state : State) (units : ℕ) → DoesFrom outcome world world state units NoMemory
unfolding came_out
nothing_done (Ok parsed) world state units = record { last = state; left = units; follows = record { ran = not_run; spent = λ is. absurd (cc) }; cause = λ is _. absurd (cc) }
nothing_done (Err trouble) world state units = record { done = not_begun; ending = tt }

-- ---- the call

-- all that the call says of itself
pub record Called (old new : Seen) (words : List (List ℕ)) (env : Vars) (dir : List ℕ) (units : ℕ) (result : Finish) : Type 0 where
  pub parses : ParsesAndRuns old new words env dir units result
  pub cause : IsCaused old new words env dir units result
  pub told : Tells old new (elgetopt_call words env dir) units (outcome_of result)
  pub run : RanWith old new (elgetopt_call words env dir) units (outcome_of result)
  pub spent : result ≡ Spent → Ran old new (elgetopt_call words env dir) units (outcome_of result) 0

followed : {old new : Seen} {words : List (List ℕ)} {env : Vars} {dir : List ℕ} {units left : ℕ} {result : Finish} {state : State} → ParsesAndRuns old new words env dir units result → IsCaused old new words env dir units result
    → Follows {A = ⊥} {B = ⊥} old new (elgetopt_run words (first_state env dir)) units (Err result) (λ never. never) state left → Called old new words env dir units result
followed parses cause p = record { parses = parses; cause = cause; told = call_tells p; run = call_run p; spent = call_spent p }

-- without a unit
pub called_spent : (world : Seen) (words : List (List ℕ)) (env : Vars) (dir : List ℕ) (units : ℕ) → units ≡ 0 → Called world world words env dir units Spent
unfolding elgetopt_run
called_spent world words env dir zero none =
    followed (record { is_spent = refl; same = refl }) (λ is _. absurd (cc)) (follows_spent {state = first_state env dir} none)
called_spent world words env dir (suc units) none = absurd (omega arith)

-- elgetopt's plan, by what its words are parsed as
abbrev elgetopt_as : Vars → (dir : List ℕ) → Result Parsed Trouble → Task ⊥
elgetopt_as env dir outcome = takes (end.Spent (first_state env dir)) (parsed_run outcome (first_state env dir))

module _ {old new : Seen} (words : List (List ℕ)) (env : Vars) (dir : List ℕ) where
  -- behind the unit, as the words are parsed
  by_outcome : (outcome : Result Parsed Trouble) → parsed words env ≡ outcome → (units : ℕ) (result : Finish) → DoesFrom outcome old new (first_state env dir) units result → Called old new words env dir (suc units) result
  unfolding elgetopt_run parsed_run
  by_outcome (Ok outcome) is units result does =
      followed
      (subst (λ (outcome : Result Parsed Trouble). DoesAsParsed outcome old new dir units result) (sym is) (call_tells does.follows))
      (λ ends none. record { outcome = outcome; is_parsed = is; left = units; has_unit = refl; cause = does.cause ends none })
      (subst (λ (outcome : Result Parsed Trouble). Follows {A = ⊥} {B = ⊥} old new (elgetopt_as env dir outcome) (suc units) (Err result) (λ never. never) does.last does.left) (sym is)
      (unit_then (end.Spent (first_state env dir)) (omega arith) (subst (λ (n : ℕ). Follows {A = ⊥} {B = ⊥} old new (parsed_run (Ok outcome) (first_state env dir)) n (Err result) (λ never. never) does.last does.left) one_less does.follows)))
    where
      one_less : units ≡ suc units - 1
      one_less = omega arith
  by_outcome (Err trouble) is units result does =
      followed
      (subst (λ (outcome : Result Parsed Trouble). DoesAsParsed outcome old new dir units result) (sym is) (record { is_refused = does; is_wrong_use = is_wrong_use words env trouble is }))
      (λ ends none. absurd (no_call (trouble_status trouble) (is_wrong_use words env trouble is) (by result does.ending ends)))
      (subst (λ (outcome : Result Parsed Trouble). Follows {A = ⊥} {B = ⊥} old new (elgetopt_as env dir outcome) (suc units) (Err result) (λ never. never) (first_state env dir) (suc units - 1)) (sym is)
      (unit_then (end.Spent (first_state env dir)) (omega arith) (follows_refused does)))
    where
      by : (result : Finish) → IsEndOf trouble result → result ≡ Status 111 → trouble_status trouble ≡ 111
      by (Status code) ending ends = let same : code ≡ 111 = cc in sym ending ∙ same
      by Spent ending ends = absurd ending
      by NoMemory ending ends = absurd (cc)

      no_call : (code : ℕ) → code ≡ 100 → code ≡ 111 → ⊥
      no_call code one other = omega arith

  pub called : (units : ℕ) (result : Finish) → 0 < units → DoesFrom (parsed words env) old new (first_state env dir) (units - 1) result → Called old new words env dir units result
  called zero result some does = absurd (omega arith)
  called (suc units) result some does = by_outcome (parsed words env) refl units result (subst (λ (n : ℕ). DoesFrom (parsed words env) old new (first_state env dir) n result) one_less does)
    where
      one_less : suc units - 1 ≡ units
      one_less = omega arith

  -- the same from a state that is the first one
  pub called_from : (units : ℕ) (result : Finish) (state : State) (left : ℕ) → 0 < units → state ≡ first_state env dir → left ≡ units - 1 → DoesFrom (parsed words state.env) old new state left result → Called old new words env dir units result
  called_from units result state left some first fewer does =
      called units result some
      (subst (λ (state : State). DoesFrom (parsed words state.env) old new state (units - 1) result) first
      (subst (λ (left : ℕ). DoesFrom (parsed words state.env) old new state left result) fewer does))
