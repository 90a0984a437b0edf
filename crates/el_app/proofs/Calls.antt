-- What the run of a process tells, its last state left aside.
use Rattle.el_room.proofs.Vocabulary.{Finish, Spent, NoMemory, Seen, Event, ends_as, outcome_as, ended, starved, Made, Ran, RanWith, Tells, AreEventsOf, State, Task, finished, came_out, Follows, tells, ran-ends_as}
use Rattle.std.proofs.Common.{◌≡◌, ◌⊎◌, inl, inr, ℕ, List, Err, option_map, refl, sym, ap, ◌∙◌, subst}
use Rattle.el_world.specs.declared.finish.Finish.TheVariants.{Status}
use Rattle.el_app.specs.Calls.{Ending, status, ending_of, outcome_of}

module _ {old new : Seen} {run : Task ⊥} {units left : ℕ} {finish : Finish} {state : State} (p : Follows {A = ⊥} {B = ⊥} old new run units (Err finish) (λ never. never) state left) where
  pub call_ran : Ran old new (ends_as ending_of run) units (outcome_of finish) left
  unfolding came_out
  call_ran = by finish (ran-ends_as ending_of p.ran)
    where
      by : (finish : Finish) → Ran old new (ends_as ending_of run) units (option_map (outcome_as ending_of) (finished finish state)) left → Ran old new (ends_as ending_of run) units (outcome_of finish) left
      by (Status code) q = q
      by Spent q = q
      by NoMemory q = q

  pub call_tells : Tells old new (ends_as ending_of run) units (outcome_of finish)
  call_tells = tells call_ran

  pub call_run : RanWith old new (ends_as ending_of run) units (outcome_of finish)
  call_run = record { left = left; ran = call_ran }

  pub call_spent : finish ≡ Spent → Ran old new (ends_as ending_of run) units (outcome_of finish) 0
  call_spent is = subst (λ left. Ran old new (ends_as ending_of run) units (outcome_of finish) left) (p.spent (ap Err is)) call_ran

-- ---- what is answered where a plan comes out so

-- where it ends with a status, that is the answer, or want of memory
pub answered : (result : Finish) (added : List Event) (makes : Made Ending ⊥) (code : ℕ) → AreEventsOf added makes (outcome_of result) → makes.outcome ≡ ended (status code) → (result ≡ Status code) ⊎ (result ≡ NoMemory)
answered (Status other) added makes code are ends = let both = sym are.1 ∙ ends in inl (let same : other ≡ code = cc in ap Status same)
answered Spent added makes code are ends = let both = sym are.1 ∙ ends in absurd (cc)
answered NoMemory added makes code are ends = inr refl

-- where an answer lacks, it is want of memory
pub answered-starved : {code : ℕ} (result : Finish) (added : List Event) (makes : Made Ending ⊥) → AreEventsOf added makes (outcome_of result) → makes.outcome ≡ starved → (result ≡ Status code) ⊎ (result ≡ NoMemory)
answered-starved (Status other) added makes are ends = let both = sym are.1 ∙ ends in absurd (cc)
answered-starved Spent added makes are ends = let both = sym are.1 ∙ ends in absurd (cc)
answered-starved NoMemory added makes are ends = inr refl
