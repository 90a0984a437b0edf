-- A run that is recorded, and what follows it.
use Rattle.el_room.proofs.Vocabulary.{Event, event_of, Plan, gives, ends, takes, calls, Outcome, given, ended, starved, Does, Seen, Added, PlanAgrees, Ran, RanWith, Tells, standard_fds, Finish, Spent as FinishSpent, NoMemory, go_on, tells, Vars, Refuses, Trouble, Failed, Usage, leb-true, Fault}
use Rattle.std.proofs.Common.{◌≡◌, inl, inr, ℕ, true, false, List, [], ◌∷◌, ◌++◌, Some, Result, Ok, Err, refl, sym, ap, subst, ◌∙◌, append_assoc, append-nil, arith, nat_le, length, drop, slice_index_or}
use Rattle.std.specs.Prelude.{suc}
use Rattle.el_world.specs.declared.finish.Finish.TheVariants.{Status as FinishStatus}
use Rattle.el_world.proofs.Added.{nothing_added, added_after}
use Rattle.el_world.proofs.Runs.{go_short, ran_to_end}
use Rattle.el_record.specs.declared.trace.RunEnd.{RunEnd}
use Rattle.el_record.specs.declared.trace.RunEnd.TheVariants.{Status, Spent}
use Rattle.el_record.specs.Recorded.{Recorded, seen_of}
use Rattle.el_record.specs.Lost.{AddedButForLost, BegunButForLost}
use Rattle.el_record.specs.Recordable.{AreRecordable, IsRunEnd}
use Rattle.el_record.specs.TraceText.{trace_text}
use Rattle.el_record.proofs.Lost.{all_added}
use Rattle.el_record.proofs.Recording.{was_recorded, run_begun}
use Rattle.std.proofs.lemmas.Bool.{leb-false}
use Rattle.el_app.specs.Calls.{Ending, status, spent, outcome_of, execline_call}
use Rattle.el_multicall.specs.Record.{elrecord_name, complained, after_write, saved, run_end, ending_in, recorded, recorded_run, elrecord_call, RanAndSaved, RanAndSavedOrBegun, IsRecorded}

-- ---- what is told by equations

end_in : Outcome Ending ⊥ → Ending → Ending
end_in (given never) other = other
end_in (ended end) other = end
end_in starved other = other

same_end : (one other : Ending) → ◌≡◌ {A = Outcome Ending ⊥} (ended one) (ended other) → one ≡ other
unfolding end_in
same_end one other e = ap (λ o. end_in o one) e

-- ---- one plan behind another

recorded_does : (plan : Plan Ending ⊥) (units : ℕ) (before events : List Event) (end : Ending) (left : ℕ) (next : List Event → Ending → Plan Ending ⊥) (later : List Event) (outcome : Outcome Ending ⊥) (last : ℕ)
    → Does plan units events (ended end) left → Does (next (before ++ events) end) 0 later outcome last → Does (recorded plan units before next) 0 (events ++ later) outcome last
unfolding recorded
recorded_does (gives never) units before events end left next later outcome last does then = absurd never
recorded_does (ends at) units before [] end left next later outcome last does then =
    subst (λ e. Does (next before e) 0 later outcome last) (same_end end at does.0) (subst (λ b. Does (next b end) 0 later outcome last) (append-nil before) then)
recorded_does (ends at) units before (event ∷ events) end left next later outcome last does then = absurd does
recorded_does (takes at plan) Prim.Native.Nat.zero before [] end left next later outcome last does then =
    subst (λ e. Does (next before e) 0 later outcome last) (same_end end at does.0) (subst (λ b. Does (next b end) 0 later outcome last) (append-nil before) then)
recorded_does (takes at plan) Prim.Native.Nat.zero before (event ∷ events) end left next later outcome last does then = absurd does
recorded_does (takes at plan) (suc units) before events end left next later outcome last does then = recorded_does plan units before events end left next later outcome last does then
recorded_does (calls call after) units before [] end left next later outcome last does then = absurd does
recorded_does (calls call after) units before (event ∷ events) end left next later outcome last does then =
    let all : before ++ event ∷ events ≡ (before ++ event_of call does.0 ∷ []) ++ events =
    ap (λ e. before ++ e ∷ events) does.1 ∙ sym (append_assoc before (event_of call does.0 ∷ []) events) in
    (does.0, does.1, recorded_does (after does.0) units (before ++ event_of call does.0 ∷ []) events end left next later outcome last does.2 (subst (λ es. Does (next es end) 0 later outcome last) all then))

run_end_in : (end : RunEnd) → run_end (ending_in end) ≡ end
run_end_in (Status code) = refl
run_end_in Spent = refl

-- what a recorder was given, and its inner world, where a run over it ended so
record WasGiven {W : Type 0} (seen : W → Seen) (world back : W) (log : List Event) (plan : Plan Ending ⊥) (units : ℕ) (ending : Ending) : Type 0 where
  left : ℕ
  runs : Does plan units log (ended ending) left
  added : Added (seen world) (seen back) log

was_given : {W : Type 0} (seen : W → Seen) (world back : W) (old new : Recorded W) (log : List Event) (plan : Plan Ending ⊥) (units : ℕ) (ending : Ending)
    → old ≡ record { world = world; before = world; log = []; whole = true } → RanWith (seen_of seen old) (seen_of seen new) plan units (Some (ended ending))
    → log ≡ new.log → Added (seen new.before) (seen back) new.log → WasGiven seen world back log plan units ending
was_given seen world back old new log plan units ending old_is ran log_is added =
    let is = was_recorded seen world old new plan units (Some (ended ending)) old_is ran in
    record {
      left = ran.left;
      runs = subst (λ events. Does plan units events (ended ending) ran.left) (is.events_are ∙ sym log_is) ran.ran.agrees;
      added = subst (λ events. Added (seen world) (seen back) events) (sym log_is) (subst (λ (s : Seen). Added s (seen back) new.log) is.before_is added);
    }

-- A run over a recorder that ended so, and then its trace that was saved.
pub recording_saved : {W : Type 0} (seen : W → Seen) (world back : W) (left : Seen) (old new : Recorded W) (words : List (List ℕ)) (file from : List ℕ) (env : Vars) (dir : List ℕ) (units : ℕ) (ran_so finish : Finish) (end : RunEnd) (log : List Event)
    → old ≡ record { world = world; before = world; log = []; whole = true } → RanWith (seen_of seen old) (seen_of seen new) (execline_call words env dir) units (outcome_of ran_so)
    → outcome_of ran_so ≡ Some (ended (ending_in end)) → IsRunEnd end → log ≡ new.log → Added (seen new.before) (seen back) new.log → AreRecordable new.log
    → Ran (seen back) left (saved from file (trace_text log end) (ending_in end)) 0 (outcome_of finish) 0 → RanAndSaved (seen world) left words file from env dir units finish
recording_saved seen world back left old new words file from env dir units ran_so finish end log old_is ran end_is end_fits log_is added fits save =
    let given = was_given seen world back old new log (execline_call words env dir) units (ending_in end) old_is (subst (λ o. RanWith (seen_of seen old) (seen_of seen new) (execline_call words env dir) units o) end_is ran) log_is added in
    record {
      log = log;
      end = end;
      left = given.left;
      runs = given.runs;
      text_is = record { same = refl; events_are = subst AreRecordable (sym log_is) fits; end_is = end_fits };
      later = save.events;
      saves = save.agrees;
      added = added_after given.added save.added;
    }

-- what was run and saved is told
pub saved_told : {old new : Seen} (words : List (List ℕ)) (file from : List ℕ) (env : Vars) (dir : List ℕ) (units : ℕ) (finish : Finish) → RanAndSaved old new words file from env dir units finish → (finish ≡ NoMemory → ⊥)
    → Tells old new (recorded_run words file from env dir units) 0 (outcome_of finish)
unfolding recorded_run
saved_told {old} {new} words file from env dir units finish is some = by finish is.saves some
  where
    next : List Event → Ending → Plan Ending ⊥
    next events ending = saved from file (trace_text events (run_end ending)) ending

    behind : (outcome : Outcome Ending ⊥) → Does (saved from file (trace_text is.log is.end) (ending_in is.end)) 0 is.later outcome 0 → Tells old new (recorded (execline_call words env dir) units [] next) 0 (Some outcome)
    behind outcome saves = tells (record {
      events = is.log ++ is.later;
      added = is.added;
      agrees = recorded_does (execline_call words env dir) units [] is.log (ending_in is.end) is.left next is.later outcome 0 is.runs
          (subst (λ e. Does (saved from file (trace_text is.log e) (ending_in is.end)) 0 is.later outcome 0) (sym (run_end_in is.end)) saves);
    })

    by : (finish : Finish) → PlanAgrees (saved from file (trace_text is.log is.end) (ending_in is.end)) 0 is.later (outcome_of finish) 0 → (finish ≡ NoMemory → ⊥) → Tells old new (recorded (execline_call words env dir) units [] next) 0 (outcome_of finish)
    by (FinishStatus code) saves some = behind (ended (status code)) saves
    by FinishSpent saves some = behind (ended spent) saves
    by NoMemory saves some = absurd (some refl)

-- A run over a recorder, behind which the world stays.
pub recording_begun : {W : Type 0} (seen : W → Seen) (world back : W) (left : Seen) (old new : Recorded W) (plan : Plan Ending ⊥) (units : ℕ) (ran_so : Finish)
    → old ≡ record { world = world; before = world; log = []; whole = true } → RanWith (seen_of seen old) (seen_of seen new) plan units (outcome_of ran_so)
    → AddedButForLost (seen new.before) (seen back) new.log → left ≡ seen back → BegunButForLost (seen world) left plan units
recording_begun seen world back left old new plan units ran_so old_is ran added stays =
    subst (λ (s : Seen). BegunButForLost (seen world) s plan units) (sym stays) (run_begun seen world back old new plan units (outcome_of ran_so) old_is ran added)

-- a message and the end
pub complains : {old new : Seen} {trouble : Trouble} {finish : Finish} → Refuses old new standard_fds elrecord_name trouble finish → Ran old new (complained trouble) 0 (outcome_of finish) 0
complains {finish = FinishStatus code} h = rw h.ending (go_on _ h.done (ran_to_end _))
complains {finish = FinishSpent} h = absurd h.ending
complains {finish = NoMemory} h = go_short _ h.done

-- behind a write that went well, and behind one that failed
pub written_well : {world : Seen} (ending : Ending) (finish : Finish) (written : Result (Unit {0}) Fault) (done : Unit {0}) → written ≡ Ok done → outcome_of finish ≡ Some (ended ending) → Ran world world (after_write ending written) 0 (outcome_of finish) 0
written_well {world} ending finish (Ok all) done is e = subst (λ o. Ran world world (ends ending) 0 o 0) (sym e) (ran_to_end ending)
written_well ending finish (Err fault) done is e = absurd (cc)

pub not_written : {mid new : Seen} (ending : Ending) (finish : Finish) (written : Result (Unit {0}) Fault) (fault : Fault) → written ≡ Err fault → Ran mid new (complained Failed) 0 (outcome_of finish) 0 → Ran mid new (after_write ending written) 0 (outcome_of finish) 0
not_written ending finish (Ok done) fault is ran = absurd (cc)
not_written ending finish (Err other) fault is ran = ran

-- ---- the call

pub no_file : {old new : Seen} (words : List (List ℕ)) (env : Vars) (dir : List ℕ) (units : ℕ) (finish : Finish) → nat_le 2 (length words) ≡ false → Ran old new (complained Usage) 0 (outcome_of finish) 0 → IsRecorded old new words env dir units finish
no_file [] env dir units finish is ran = ran
no_file (name ∷ []) env dir units finish is ran = ran
no_file (name ∷ file ∷ words) env dir units finish is ran = absurd (omega (arith, leb-false 2 (length (name ∷ file ∷ words)) is))

pub a_file : {old new : Seen} (words : List (List ℕ)) (env : Vars) (dir : List ℕ) (units : ℕ) (finish : Finish) (behind : List (List ℕ)) (file from : List ℕ) → nat_le 2 (length words) ≡ true
    → behind ≡ drop 2 words → file ≡ slice_index_or words 1 [] → from ≡ dir → RanAndSavedOrBegun old new behind file from env dir units finish → IsRecorded old new words env dir units finish
a_file [] env dir units finish behind file from is behind_is file_is from_is ran = absurd (omega (arith, leb-true 2 0 is))
a_file (name ∷ []) env dir units finish behind file from is behind_is file_is from_is ran = absurd (omega (arith, leb-true 2 1 is))
a_file {old} {new} (name ∷ first ∷ words) env dir units finish behind file from is behind_is file_is from_is ran =
    subst (λ d. RanAndSavedOrBegun old new words first d env dir units finish) from_is (subst (λ f. RanAndSavedOrBegun old new words f from env dir units finish) file_is (subst (λ ws. RanAndSavedOrBegun old new ws file from env dir units finish) behind_is ran))

-- where memory was wanting before the run
pub not_begun : (world : Seen) (words : List (List ℕ)) (env : Vars) (dir : List ℕ) (units : ℕ) → nat_le 2 (length words) ≡ true → IsRecorded world world words env dir units NoMemory
not_begun world [] env dir units is = absurd (omega (arith, leb-true 2 0 is))
not_begun world (name ∷ []) env dir units is = absurd (omega (arith, leb-true 2 1 is))
not_begun world (name ∷ file ∷ words) env dir units is = inr (refl, record { events = []; added = all_added (nothing_added world); begins = tt })

-- what came of it is told
pub recorded_told : {old new : Seen} (words : List (List ℕ)) (env : Vars) (dir : List ℕ) (units : ℕ) (finish : Finish) → IsRecorded old new words env dir units finish → (finish ≡ NoMemory → ⊥) → Tells old new (elrecord_call words env dir units) 0 (outcome_of finish)
unfolding elrecord_call
recorded_told [] env dir units finish ran some = tells ran
recorded_told (name ∷ []) env dir units finish ran some = tells ran
recorded_told (name ∷ file ∷ words) env dir units finish (inl saved) some = saved_told words file dir env dir units finish saved some
recorded_told (name ∷ file ∷ words) env dir units finish (inr begun) some = absurd (some begun.0)

pub ruleset recordings = (complains)
