-- What is said of recorded events beside those of a run over a world that replays them.
use Rattle.el_room.proofs.Vocabulary.{Event, Finish, past, none, extended, found_in, Outcome, given, ended, starved, Made, made, Does, State, End, Task, Follows, finished, came_out, PlanAgrees, made-does, Vars}
use Rattle.el_script.proofs.Vocabulary.{Tree, MeetsAll}
use Rattle.std.proofs.Common.{◌≡◌, ℕ, suc, ◌<◌, ◌^◌, true, List, [], ◌∷◌, length, Some, Result, Ok, Err, IfOk, OnOk, refl, sym, ap, subst, ◌∙◌, append-nil, arith}
use Rattle.el_world.specs.declared.finish.Finish.TheVariants as finish
use Rattle.el_world.specs.States as end
use Rattle.el_record.specs.declared.trace.RunEnd.{RunEnd}
use Rattle.el_record.specs.declared.trace.RunEnd.TheVariants.{Status, Spent}
use Rattle.el_check.specs.declared.params.Params.{Params}
use Rattle.el_check.specs.Scripts.{first_marks, first_scope, IsAcceptedScript}
use Rattle.el_machine.specs.Flat.{flat_run}
use Rattle.el_check.specs.Operands.{tree_words}
use Rattle.el_meaning.proofs.Whole.{run-is-meaning}
use Rattle.el_trace.specs.declared.verdict.Verdict.{Verdict}
use Rattle.el_trace.specs.Checked.{begun_state, meant_by, IsJudged}
use Rattle.el_trace.specs.declared.verdict.Verdict.TheVariants.{Yes, Differs}
use Rattle.el_trace.specs.Agreeing.{AgreeUpto}
use Rattle.el_trace.specs.NewHandles.{first_number, keep_numbers}
use Rattle.el_trace.specs.Replays.{Retraces, Replaying, seen_of, begun}
use Rattle.el_trace.specs.Replayed.{IsReplayed, end_of}
use Rattle.el_trace.specs.Runs.{EndsSo, IsVerdict}
use Rattle.el_trace.proofs.Retraced.{agree_alike, all_retraced}

-- ---- lists that agree

-- where they agree to both ends they are the same
pub agree_all : (ones others : List Event) (at : ℕ) → AgreeUpto at ones others → at ≡ length ones → at ≡ length others → ones ≡ others
agree_all [] [] at agree here there = refl
agree_all [] (other ∷ others) at agree here there = absurd (omega (arith, here, there))
agree_all (one ∷ ones) [] at agree here there = absurd (omega (arith, here, there))
agree_all (one ∷ ones) (other ∷ others) Prim.Native.Nat.zero agree here there = absurd (omega (arith, here))
agree_all (one ∷ ones) (other ∷ others) (suc at) agree here there = λ i. agree.0 i ∷ agree_all ones others at agree.1 (omega (arith, here)) (omega (arith, there)) i

-- a list agrees with itself to its end
pub agree_self : (ones : List Event) (at : ℕ) → AgreeUpto at ones ones → at ≡ length ones
agree_self [] Prim.Native.Nat.zero agree = refl
agree_self [] (suc at) agree = absurd agree
agree_self (one ∷ ones) Prim.Native.Nat.zero agree = absurd (agree refl)
agree_self (one ∷ ones) (suc at) agree = let rest : at ≡ length ones = agree_self ones at agree.1 in omega (arith, rest)

-- ---- ends

-- the end that a run had
ended_so : (finish : Finish) (ending : RunEnd) → end_of finish ≡ Some ending → (state : State) → (out : Outcome End ⊥) × (finished {A = ⊥} finish state ≡ Some out) × EndsSo out ending × (out ≡ starved → ⊥)
ended_so (finish.Status code) ending is state = let same : Status code ≡ ending = cc in subst (λ ending. (out : Outcome End ⊥) × (Some (ended (end.Status code state)) ≡ Some out) × EndsSo out ending × (out ≡ starved → ⊥)) same (ended (end.Status code state), refl, refl, λ no. cc)
ended_so finish.Spent ending is state = let same : Spent ≡ ending = cc in subst (λ ending. (out : Outcome End ⊥) × (Some (ended (end.Spent state)) ≡ Some out) × EndsSo out ending × (out ≡ starved → ⊥)) same (ended (end.Spent state), refl, tt, λ no. cc)
ended_so finish.NoMemory ending is state = absurd (cc)

-- one end at most
one_end : (out : Outcome End ⊥) (one other : RunEnd) → EndsSo out one → EndsSo out other → one ≡ other
one_end (given never) one other p q = absurd p
one_end (ended (end.Status code state)) (Status first) (Status second) p q = ap Status (sym p ∙ q)
one_end (ended (end.Status code state)) (Status first) Spent p q = absurd q
one_end (ended (end.Status code state)) Spent other p q = absurd p
one_end (ended (end.Spent state)) (Status first) other p q = absurd p
one_end (ended (end.Spent state)) Spent (Status second) p q = absurd q
one_end (ended (end.Spent state)) Spent Spent p q = refl
one_end starved one other p q = absurd p

-- ---- verdicts

module _ (task : Task ⊥) (units : ℕ) (recorded own : List Event) (finish : Finish) (run : IsReplayed task units recorded own finish) (ending : RunEnd) (has_end : end_of finish ≡ Some ending) (at : ℕ) (agree : AgreeUpto at recorded own) where
  -- what the task makes on the recorded answers
  abbrev meant : Made End ⊥
  meant = made task units (found_in recorded)

  -- how it came out
  abbrev came : (out : Outcome End ⊥) × (finished {A = ⊥} finish run.state ≡ Some out) × EndsSo out ending × (out ≡ starved → ⊥)
  came = ended_so finish ending has_end run.state

  did : Does task units own came.0 run.left
  did = subst (λ out. PlanAgrees task units own out run.left) came.1 run.agrees

  -- what was done is made again on its own answers
  made_again : made task units (found_in own) ≡ record { events = own; outcome = came.0; units = run.left; left = [] }
  made_again = ap (made task units) (sym (append-nil (found_in own))) ∙ made-does task units own came.0 run.left [] did

  pub is_run : (other : RunEnd) → keep_numbers first_number recorded ≡ true → at ≡ length recorded → at ≡ length own → ending ≡ other → IsVerdict meant recorded other Yes
  is_run other keeps here there same =
      let all = agree_all recorded own at agree here there in
      let again = ap (λ events. made task units (found_in events)) all ∙ made_again in (
        keeps,
        record {
          events_are = ap (λ (made : Made End ⊥). made.events) again ∙ sym all;
          ends_so = subst (λ out. EndsSo out other) (sym (ap (λ (made : Made End ⊥). made.outcome) again)) (subst (EndsSo came.0) same came.2);
          none_left = ap (λ (made : Made End ⊥). made.left) again;
        },
      )

  pub is_none : (other : RunEnd) → keep_numbers first_number recorded ≡ true → ((at ≡ length recorded) × (at ≡ length own) × (ending ≡ other) → ⊥) → IsVerdict meant recorded other (Differs at)
  is_none other keeps differs = (
    keeps,
    (λ is.
        let all = all_retraced task units own came.0 run.left did recorded run.retraces is.events_are (λ none. subst (λ out. EndsSo out other) none is.ends_so) in
        let again = ap (λ events. made task units (found_in events)) all ∙ made_again in
        let here = agree_self recorded at (subst (AgreeUpto at recorded) (sym all) agree) in
        differs (here, here ∙ ap length all, one_end came.0 ending other came.2 (subst (λ out. EndsSo out other) (ap (λ (made : Made End ⊥). made.outcome) again) is.ends_so))),
    agree_alike task units own came.0 run.left did recorded run.retraces at agree,
  )

-- ---- the run

-- the run of a task over a world that replays recorded events from their beginning on
pub was_replayed : (task : Task ⊥) (units left : ℕ) (finish : Finish) (state : State) (recorded : List Event) (new : Replaying) → Follows {A = ⊥} {B = ⊥} (seen_of (begun recorded)) (seen_of new) task units (Err finish) (λ never. never) state left
    → Retraces new.recorded new.log → IsReplayed task units recorded new.log finish
unfolding extended came_out
was_replayed task units left finish state recorded new run retraces =
    let own : new.log ≡ run.ran.events = (let told : Some new.log ≡ Some run.ran.events = run.ran.added.told in cc) in
    let same : new.recorded ≡ recorded = recorded_in new.recorded recorded run.ran.added.origin in
    record {
      state = state;
      left = left;
      agrees = subst (λ events. PlanAgrees task units events (finished {A = ⊥} finish state) left) (sym own) run.ran.agrees;
      retraces = subst (λ recorded. Retraces recorded new.log) same retraces;
    }
  where
    recorded_in : (one other : List Event) → past (Some one) 0 [] 0 none ≡ past (Some other) 0 [] 0 none → one ≡ other
    recorded_in one other same = cc

-- ---- results

-- what follows of a value
pub ok_map : {A E : Type 0} {P Q : A → Type 0} (result : Result A E) → ((value : A) → P value → Q value) → IfOk result P → IfOk result Q
ok_map (Ok value) next is = next value is
ok_map (Err error) next is = tt

-- what holds anyway
pub ok_anyway : {A E : Type 0} {P : Type 0} (result : Result A E) → P → OnOk result P
ok_anyway (Ok value) is = is
ok_anyway (Err error) is = tt

-- ---- a script that is refused

-- ---- the run of a vector

-- as the code has it
pub replayed_so : (words vector : List (List ℕ)) (start first : State) (units budget left : ℕ) (finish : Finish) (state : State) (recorded : List Event) (old new : Replaying) → old ≡ begun recorded → words ≡ vector → start ≡ first → units ≡ budget
    → Follows {A = ⊥} {B = ⊥} (seen_of old) (seen_of new) (flat_run words start) units (Err finish) (λ never. never) state left → Retraces new.recorded new.log → IsReplayed (flat_run vector first) budget recorded new.log finish
replayed_so words vector start first units budget left finish state recorded old new fresh same begins many run retraces =
    let anew = subst (λ (old : Replaying). Follows {A = ⊥} {B = ⊥} (seen_of old) (seen_of new) (flat_run words start) units (Err finish) (λ never. never) state left) fresh run in
    let here = subst (λ (words : List (List ℕ)). Follows {A = ⊥} {B = ⊥} (seen_of (begun recorded)) (seen_of new) (flat_run words start) units (Err finish) (λ never. never) state left) same anew in
    let from = subst (λ (start : State). Follows {A = ⊥} {B = ⊥} (seen_of (begun recorded)) (seen_of new) (flat_run vector start) units (Err finish) (λ never. never) state left) begins here in
    was_replayed (flat_run vector first) budget left finish state recorded new (subst (λ (units : ℕ). Follows {A = ⊥} {B = ⊥} (seen_of (begun recorded)) (seen_of new) (flat_run vector first) units (Err finish) (λ never. never) state left) many from) retraces

-- the run of an accepted tree's words is as good as its meaning
pub judged_so : (params : Params) (script zero : List ℕ) (args : List (List ℕ)) (env : Vars) (dir : List ℕ) (units : ℕ) (events : List Event) (ending : RunEnd) (verdict : Verdict) (tree : Tree) (words : List (List ℕ))
    → IsAcceptedScript params script tree → words ≡ tree_words (first_scope params zero args) tree → MeetsAll (first_scope params zero args) (first_marks params) → units < 2 ^ 64
    → IsVerdict (made (flat_run words (begun_state env dir)) units (found_in events)) events ending verdict → IsJudged params script zero args env dir units events ending verdict
judged_so params script zero args env dir units events ending verdict tree words accepted same meets small judged =
    let means : made (flat_run words (begun_state env dir)) units (found_in events) ≡ meant_by params zero args env dir units events tree =
    ap (λ words. made (flat_run words (begun_state env dir)) units (found_in events)) same
    ∙ run-is-meaning tree (first_marks params) (first_scope params zero args) (begun_state env dir) units (found_in events) accepted.accepted meets small in
    record { tree = tree; accepted = accepted; judged = subst (λ (meant : Made End ⊥). IsVerdict meant events ending verdict) means judged }
