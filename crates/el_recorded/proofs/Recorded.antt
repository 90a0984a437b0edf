-- A recorded run of an accepted script is a run of it.
use Rattle.el_room.proofs.Vocabulary.{append-nil, spelled, Vars, execlineb_options, Event, found_in, gives, and_then, Outcome, given, ended, starved, outcome_as, Made, made, Does, State, End, Task, made-does, made_as, made-ends_as, Left}
use Rattle.std.proofs.Common.{◌≡◌, ℕ, ◌<◌, ◌^◌, List, [], Some, refl, sym, ap, ◌∙◌, subst}
use Rattle.el_world.specs.States as end
use Rattle.el_machine.specs.Flat.{flat_run}
use Rattle.el_tree.specs.Trees.{Tree, written}
use Rattle.el_record.specs.declared.trace.RunEnd.{RunEnd}
use Rattle.el_record.specs.declared.trace.RunEnd.TheVariants.{Status, Spent}
use Rattle.el_check.specs.declared.params.Params.TheVariants.{Leave}
use Rattle.el_check.specs.Scripts.{IsAcceptedScript}
use Rattle.el_meaning.specs.Meaning.{whole_meaning}
use Rattle.el_meaning.proofs.Whole.{run-is-meaning}
use Rattle.el_trace.specs.Runs.{EndsSo, IsRun}
use Rattle.el_trace.proofs.VerdictLaws.{yes-says-run}
use Rattle.el_app.specs.Names.{execlineb_name, execline_name, base_name}
use Rattle.el_app.specs.Options.{asked}
use Rattle.el_app.specs.Params.{placed}
use Rattle.el_app.specs.Execlineb.{prelude, asked_run, execlineb_run}
use Rattle.el_app.specs.Execline.{execline_run}
use Rattle.el_app.specs.First.{first_state}
use Rattle.el_app.specs.Calls.{Ending, status, spent, ending_of, execline_call}
use Rattle.el_app.specs.Headline.{execlineb_words}
use Rattle.el_app.proofs.Meanings.{accepted-words, call-is}
use Rattle.el_recorded.specs.Recorded.{script_call, IsSaid, RecordedScriptsAreAnsweredYes}
use Rattle.el_recorded.proofs.Numbers.{keeps-numbers}

-- ---- the call

chooses-execlineb : (script : List ℕ) → execlineb_words (script_call script) ≡ Some (script_call script)
unfolding base_name execline_name execlineb_name
chooses-execlineb script = refl

-- with an accepted script it runs the script's words
call-runs : (script : List ℕ) (tree : Tree) (state : State) → IsAcceptedScript Leave script tree → execline_run (script_call script) state ≡ flat_run (spelled 0 (written tree)) state
unfolding execlineb_run execlineb_options asked asked_run prelude placed and_then
call-runs script tree state accepted =
    (call-is (script_call script) state (script_call script) (chooses-execlineb script)).runs
    ∙ ap (λ (read : Task (List (List ℕ))). and_then (and_then read (λ words. gives (begins_with words))) (λ (left : Left). flat_run left.words left.state)) (accepted-words state Leave script tree accepted)
  where
    begins_with : List (List ℕ) → Left
    begins_with words = record { words = words; state = state }

-- ---- what it makes

same-end : (one other : Ending) → (let out : Outcome Ending ⊥ = ended one in out ≡ ended other) → one ≡ other
same-end one other same = cc

-- an end that is said so
says-end : (out : Outcome End ⊥) (ending : Ending) (last : RunEnd) → outcome_as ending_of out ≡ ended ending → IsSaid ending last → EndsSo out last
says-end (given never) ending last is said = absurd never
says-end (ended (end.Status code state)) ending last is said = by last (subst (λ ending. IsSaid ending last) (sym (same-end (status code) ending is)) said)
  where
    by : (last : RunEnd) → IsSaid (status code) last → EndsSo (ended (end.Status code state)) last
    by (Status other) same = same
    by Spent never = never
says-end (ended (end.Spent state)) ending last is said = by last (subst (λ ending. IsSaid ending last) (sym (same-end spent ending is)) said)
  where
    by : (last : RunEnd) → IsSaid spent last → EndsSo (ended (end.Spent state)) last
    by (Status other) never = never
    by Spent same = same
says-end starved ending last is said = let no : ⊥ = cc in absurd no

-- what the tree means has these events, leaves no answer and comes out so
run-is-one : (script : List ℕ) (tree : Tree) (env : Vars) (dir : List ℕ) (units : ℕ) (events : List Event) (ending : Ending) (end : RunEnd) (left : ℕ) → units < 2 ^ 64 → IsAcceptedScript Leave script tree → IsSaid ending end
    → Does (execline_call (script_call script) env dir) units events (ended ending) left → IsRun (made (whole_meaning tree [] (first_state env dir)) units (found_in events)) events end
run-is-one script tree env dir units events ending end left few accepted said does =
    record {
      events_are = ap (λ (made : Made Ending ⊥). made.events) makes;
      ends_so = says-end meant.outcome ending end (ap (λ (made : Made Ending ⊥). made.outcome) makes) said;
      none_left = ap (λ (made : Made Ending ⊥). made.left) makes;
    }
  where
    state : State
    state = first_state env dir

    meant : Made End ⊥
    meant = made (whole_meaning tree [] state) units (found_in events)

    means : made (execline_call (script_call script) env dir) units (found_in events) ≡ made_as ending_of meant
    means =
        made-ends_as ending_of (execline_run (script_call script) state) units (found_in events)
        ∙ ap (λ (run : Task ⊥). made_as ending_of (made run units (found_in events))) (call-runs script tree state accepted)
        ∙ ap (made_as ending_of) (run-is-meaning tree [] [] state units (found_in events) accepted.accepted tt few)

    makes : made_as ending_of meant ≡ record { events = events; outcome = ended ending; units = left; left = [] }
    makes =
        sym means
        ∙ ap (made (execline_call (script_call script) env dir) units) (sym (append-nil (found_in events)))
        ∙ made-does (execline_call (script_call script) env dir) units events (ended ending) left [] does

pub answered-yes : RecordedScriptsAreAnsweredYes
answered-yes old new script zero args env dir units events end verdict few recorded judged =
    (yes-says-run (made (whole_meaning judged.tree [] (first_state env dir)) units (found_in events)) events end verdict judged.judged).1 (
      keeps-numbers events recorded.later old.next new.next recorded.added.rising,
      run-is-one script judged.tree env dir units events recorded.ending end recorded.left few judged.accepted recorded.is_said recorded.runs,
    )
