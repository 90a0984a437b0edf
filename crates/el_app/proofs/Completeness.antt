-- What elcheck and elfmt answer where their script is read.
use Rattle.el_room.proofs.Vocabulary.{bytes_eq-Decides, or-true, right_of, Vars, elcheck_options, Event, Write, Fault, Finish, Spent, NoMemory, Seen, Found, found_in, is_fault, has_fault, taken, write, is_lawful, are_lawful, write_act, and_then, and_go_on, given, ended, Made, made, answered as made_by, AreEventsOf, Tells, State, End, Task, made_as, made-ends_as, by_outcome, made-then}
use Rattle.el_machine.proofs.Vocabulary.{left_of, Status}
use Rattle.std.proofs.Common.{◌≡◌, ◌⊎◌, inr, ℕ, Bool, true, false, List, [], ◌∷◌, ◌++◌, Option, None, Some, Result, Ok, Err, true≢false, drop, if◌then◌else◌, codes, refl, sym, ap, ◌∙◌, subst}
use Rattle.el_world.specs.declared.event.Fault.TheVariants.{Failed, NoMemory as NoWriteMemory}
use Rattle.el_proc.specs.declared.trouble.Trouble.TheVariants.{Unknown}
use Rattle.el_tree.specs.Trees.{Tree}
use Rattle.el_check.specs.Checks.{checked, checked_in}
use Rattle.el_check.specs.Scripts.{IsAcceptedScript}
use Rattle.el_check.proofs.Computed.{tree-is-computed}
use Rattle.el_app.specs.declared.asked.Asked.{Asked}
use Rattle.el_app.specs.Names.{elcheck_name, elfmt_name}
use Rattle.el_app.specs.Files.{script_from}
use Rattle.el_app.specs.Params.{params_of}
use Rattle.el_app.specs.Output.{output, after_output, put_out}
use Rattle.el_app.specs.Options.{asked}
use Rattle.el_app.specs.Elcheck.{verdict, checks_asked, sample_word, asks_for_sample, lines_asked, sampled, elcheck_run}
use Rattle.el_app.specs.Elfmt.{written_text, laid_out, lays_out_asked, formatter_options, elfmt_run}
use Rattle.el_app.specs.Calls.{Ending, status, ending_of, outcome_of, elcheck_call, elfmt_call}
use Rattle.el_app.specs.First.{first_state}
use Rattle.el_app.specs.Completeness.{IsReadingCall, AcceptsTheAccepted, LaysOutTrees}
use Rattle.el_app.proofs.Calls.{answered, answered-starved}

abbrev after_events : List Event → Made End ⊥ → Made End ⊥
after_events events makes = record makes { events = events ++ makes.events }

-- behind these events a plan is run
abbrev behind : List Event → ℕ → List Found → Task ⊥ → Made End ⊥
behind events units left plan = after_events events (made plan units left)

-- a tool whose script is read so goes on with that script
read-goes-on : (units : ℕ) (found : List Found) (reads : Task (List ℕ)) (next : List ℕ → Task ⊥) (script : List ℕ) → (made reads units found).outcome ≡ given script
    → made (and_then reads next) units found ≡ behind (made reads units found).events (made reads units found).units (made reads units found).left (next script)
read-goes-on units found reads next script is =
    made-then next reads units found ∙ ap (λ outcome. by_outcome next (made reads units found).events outcome (made reads units found).units (made reads units found).left) is

-- `--sample` is no option: 45 is `-`
sample-unknown : (words : List (List ℕ)) → asks_for_sample words ≡ true → asked elcheck_options words ≡ Err (Unknown 45)
unfolding asked elcheck_options sample_word
sample-unknown [] asks = absurd (true≢false (sym asks))
sample-unknown (name ∷ []) asks = absurd (true≢false (sym asks))
sample-unknown (name ∷ word ∷ words) asks =
    let same : word ≡ codes "--sample" = (bytes_eq-Decides word (codes "--sample")).0 asks in
    ap (λ word. asked elcheck_options (name ∷ word ∷ words)) same

-- words that ask for a script ask for no sample
asks-no_sample : (words : List (List ℕ)) (asking : Asked) (b : Bool) → asks_for_sample words ≡ b → asked elcheck_options words ≡ Ok asking → b ≡ false
asks-no_sample words asking false asks is = refl
asks-no_sample words asking true asks is = let both = sym is ∙ sample-unknown words asks in absurd (cc)

module _ (words : List (List ℕ)) (env : Vars) (dir : List ℕ) (units : ℕ) (added : List Event) (asking : Asked) (script : List ℕ) (tree : Tree) where
  -- elcheck's plan ends with 0
  accepted-ends : IsReadingCall elcheck_name elcheck_options words env dir units added asking script → IsAcceptedScript (params_of asking.placement) script tree
      → (made (elcheck_call words env dir) units (found_in added)).outcome ≡ ended (status 0)
  unfolding elcheck_run checks_asked verdict
  accepted-ends call accepted =
      let state = first_state env dir in
      let next : List ℕ → Task ⊥ = λ script. verdict state (checked (params_of asking.placement) script) in
      let reads = script_from elcheck_name state asking.source in
      let run = made reads units (found_in added) in
      ap (λ (makes : Made Ending ⊥). makes.outcome) (made-ends_as ending_of (elcheck_run words state) units (found_in added))
      ∙ ap (λ (makes : Made End ⊥). (made_as ending_of makes).outcome)
      (ap (λ asks. made (if asks then sampled (lines_asked (drop 2 words)) state else checks_asked (asked elcheck_options words) state) units (found_in added))
      (asks-no_sample words asking (asks_for_sample words) refl call.is_asked)
      ∙ ap (λ answer. made (checks_asked answer state) units (found_in added)) call.is_asked
      ∙ read-goes-on units (found_in added) reads next script call.is_read
      ∙ ap (behind run.events run.units run.left) (ap (verdict state) ((tree-is-computed (params_of asking.placement) script tree).0 accepted)))

  -- what elfmt's plan makes behind its reading
  abbrev writes : List Event → ℕ → List Found → Made End ⊥
  writes events units left = behind events units left (put_out (first_state env dir) (written_text asking.upgrades asking.keeps script tree) 0)

  laid_out-made : IsReadingCall elfmt_name formatter_options words env dir units added asking script → checked_in None script ≡ Ok tree
      → (events : List Event) × (left : List Found) × (rest : ℕ) × (made (elfmt_call words env dir) units (found_in added) ≡ made_as ending_of (writes events rest left))
  unfolding elfmt_run lays_out_asked laid_out
  laid_out-made call is =
      let state = first_state env dir in
      let next : List ℕ → Task ⊥ = λ script. laid_out (written_text asking.upgrades asking.keeps script) state (checked_in None script) in
      let reads = script_from elfmt_name state asking.source in
      let run = made reads units (found_in added) in (
        run.events,
        run.left,
        run.units,
        made-ends_as ending_of (elfmt_run words state) units (found_in added)
            ∙ ap (made_as ending_of)
            (ap (λ answer. made (lays_out_asked answer state) units (found_in added)) call.is_asked
            ∙ read-goes-on units (found_in added) reads next script call.is_read
            ∙ ap (behind run.events run.units run.left) (ap (laid_out (written_text asking.upgrades asking.keeps script) state) is)),
      )

-- a failed call behind events is one among them
last-fails : (events : List Event) (last : Event) → is_fault last ≡ true → has_fault (events ++ last ∷ []) ≡ true
last-fails [] last is = rw is refl
last-fails (event ∷ events) last is = rw (last-fails events last is) (or-true (is_fault event))

last-lawful : (events : List Event) (last : Event) → are_lawful (events ++ last ∷ []) ≡ true → is_lawful last ≡ true
last-lawful [] last are = left_of (is_lawful last) true are
last-lawful (event ∷ events) last are = last-lawful events last (right_of (is_lawful event) (are_lawful (events ++ last ∷ [])) are)

module _ (state : State) (text : List ℕ) (added : List Event) (result : Finish) (lawful : are_lawful added ≡ true) (good : has_fault added ≡ false) (events : List Event) where
  -- where no call failed, what is put out ends with its status
  pub put-ends : (units : ℕ) (left : List Found) → AreEventsOf added (made_as ending_of (behind events units left (put_out state text 0))) (outcome_of result) → (result ≡ Status 0) ⊎ (result ≡ NoMemory)
  unfolding put_out and_go_on write_act
  put-ends units left are = by (taken (write output text) left) are
    where
      makes : Option (Result (Unit {0}) Fault × List Found) → Made Ending ⊥
      makes answer = made_as ending_of (after_events events (made_by (write output text) (λ answer left. made (after_output state 0 answer) units left) units left answer))

      by : (answer : Option (Result (Unit {0}) Fault × List Found)) → AreEventsOf added (makes answer) (outcome_of result) → (result ≡ Status 0) ⊎ (result ≡ NoMemory)
      by None are = answered-starved result added (makes None) are refl
      by (Some (Ok done, rest)) are = answered result added (makes (Some (Ok done, rest))) 0 are refl
      by (Some (Err Failed, rest)) are = fails result are
        where
          fails : (result : Finish) → AreEventsOf added (makes (Some (Err Failed, rest))) (outcome_of result) → (result ≡ Status 0) ⊎ (result ≡ NoMemory)
          fails (Status code) are = absurd (true≢false (sym (last-fails events (Write output text (Err Failed)) refl) ∙ ap has_fault are.0 ∙ good))
          fails Spent are = absurd (true≢false (sym (last-fails events (Write output text (Err Failed)) refl) ∙ ap has_fault are.0 ∙ good))
          fails NoMemory are = inr refl
      by (Some (Err NoWriteMemory, rest)) are = lacks result are
        where
          lacks : (result : Finish) → AreEventsOf added (makes (Some (Err NoWriteMemory, rest))) (outcome_of result) → (result ≡ Status 0) ⊎ (result ≡ NoMemory)
          lacks (Status code) are = absurd (true≢false (sym (last-lawful events (Write output text (Err NoWriteMemory)) (ap are_lawful are.0 ∙ lawful))))
          lacks Spent are = absurd (true≢false (sym (last-lawful events (Write output text (Err NoWriteMemory)) (ap are_lawful are.0 ∙ lawful))))
          lacks NoMemory are = inr refl

module _ {old new : Seen} {words : List (List ℕ)} {env : Vars} {dir : List ℕ} {units : ℕ} {result : Finish} where
  pub accepts_the_accepted : Tells old new (elcheck_call words env dir) units (outcome_of result) → AcceptsTheAccepted old new words env dir units result
  accepts_the_accepted tells = record {
    told = λ before is. let told = tells.told before is in
        (told.0, told.1, λ asking script tree call accepted. answered result told.0 (made (elcheck_call words env dir) units (found_in told.0)) 0 told.3 (accepted-ends words env dir units told.0 asking script tree call accepted));
  }

  pub lays_out_trees : Tells old new (elfmt_call words env dir) units (outcome_of result) → LaysOutTrees old new words env dir units result
  lays_out_trees tells = record {
    told = λ before is. let told = tells.told before is in (
      told.0,
      told.1,
      λ asking script tree call has good.
          let makes = laid_out-made words env dir units told.0 asking script tree call has in
          put-ends (first_state env dir) (written_text asking.upgrades asking.keeps script tree) told.0 result told.2 good makes.0 makes.2 makes.1 (subst (λ made. AreEventsOf told.0 made (outcome_of result)) makes.3 told.3),
    );
  }
