-- What elcheck answers where a sample is asked for.
use Rattle.el_room.proofs.Vocabulary.{and_parts, number_of, Vars, elcheck_options, Finish, Seen, found_in, made, AreEventsOf, Tells, State, made_as, made-ends_as, BadNumber}
use Rattle.std.proofs.Common.{◌≡◌, ℕ, ◌≤◌, nat_le, Bool, true, false, ◌&&◌, if◌then◌else◌, List, [], ◌∷◌, drop, Option, None, Some, Ok, Err, refl, ap, ◌∙◌, subst, arith}
use Rattle.el_app.specs.Options.{asked}
use Rattle.el_app.specs.Output.{put_out}
use Rattle.el_app.specs.Elcheck.{most_lines, asks_for_sample, lines_in, lines_asked, checks_asked, sampled, elcheck_run}
use Rattle.el_app.specs.Calls.{ending_of, outcome_of, elcheck_call}
use Rattle.el_app.specs.First.{first_state}
use Rattle.el_app.specs.SampleRuns.{sample_told}
use Rattle.el_app.specs.Completeness.{TellsTheSample}
use Rattle.el_app.proofs.Completeness.{put-ends}
use Rattle.el_app.proofs.SampleRuns.{samples-are-told}

-- no more lines are asked for than there may be
few-lines : (rest : List (List ℕ)) (lines : ℕ) → lines_asked rest ≡ Ok lines → lines ≤ most_lines
few-lines [] lines is = absurd (cc)
few-lines (word ∷ rest) lines is = by (number_of word) is
  where
    tested : (n : ℕ) (good : Bool) → (nat_le 1 n && nat_le n most_lines) ≡ good → (if good then Ok n else Err BadNumber) ≡ Ok lines → lines ≤ most_lines
    tested n true good is =
        let same : n ≡ lines = cc in
        let both = and_parts (nat_le 1 n) (nat_le n most_lines) good in
        let few : n ≤ most_lines = grind (arith, both.1) in
        subst (λ n. n ≤ most_lines) same few
    tested n false good is = absurd (cc)

    by : (number : Option ℕ) → lines_in number ≡ Ok lines → lines ≤ most_lines
    by None is = absurd (cc)
    by (Some n) is = tested n (nat_le 1 n && nat_le n most_lines) refl is

-- elcheck is then one write
sample-is : (words : List (List ℕ)) (state : State) (lines : ℕ) → asks_for_sample words ≡ true → lines_asked (drop 2 words) ≡ Ok lines → elcheck_run words state ≡ put_out state (sample_told lines) 0
unfolding elcheck_run
sample-is words state lines asks is =
    ap (λ asks. if asks then sampled (lines_asked (drop 2 words)) state else checks_asked (asked elcheck_options words) state) asks
    ∙ ap (λ lines. sampled lines state) is
    ∙ samples-are-told lines state (few-lines (drop 2 words) lines is)

module _ {old new : Seen} {words : List (List ℕ)} (env : Vars) (dir : List ℕ) {units : ℕ} {result : Finish} where
  pub tells_the_sample : Tells old new (elcheck_call words env dir) units (outcome_of result) → TellsTheSample old new words result
  tells_the_sample tells = record {
    told = λ before is. let told = tells.told before is in (
      told.0,
      told.1,
      λ lines asks are good.
          let state = first_state env dir in
          let same = made-ends_as ending_of (elcheck_run words state) units (found_in told.0) ∙ ap (λ run. made_as ending_of (made run units (found_in told.0))) (sample-is words state lines asks are) in
          put-ends state (sample_told lines) told.0 result told.2 good [] units (found_in told.0) (subst (λ made. AreEventsOf told.0 made (outcome_of result)) same told.3),
    );
  }
