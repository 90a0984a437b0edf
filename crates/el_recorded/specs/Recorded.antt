-- A recorded run of a script, and what eltrace answers to it.
use Rattle.el_room.specs.Vocabulary.{Vars, Event, Seen, ended, Does, Added}
use Rattle.std.specs.Prelude.{◌≡◌, ℕ, ◌<◌, ◌^◌, List, [], ◌∷◌, ◌++◌, codes}
use Rattle.el_record.specs.declared.trace.RunEnd.{RunEnd}
use Rattle.el_record.specs.declared.trace.RunEnd.TheVariants.{Status, Spent}
use Rattle.el_check.specs.declared.params.Params.TheVariants.{Leave}
use Rattle.el_trace.specs.declared.verdict.Verdict.{Verdict}
use Rattle.el_trace.specs.declared.verdict.Verdict.TheVariants.{Yes}
use Rattle.el_trace.specs.Checked.{IsJudged}
use Rattle.el_app.specs.Calls.{Ending, status, spent, execline_call}

-- the words of execlineb with `-P` and a script
abbrev pub script_call : (script : List ℕ) → List (List ℕ)
script_call script = codes "execlineb" ∷ codes "-P" ∷ codes "-c" ∷ script ∷ []

-- a trace says this end of a run
abbrev pub IsSaid : Ending → RunEnd → Type 0
IsSaid (status code) (Status said) = code ≡ said
IsSaid (status code) Spent = ⊥
IsSaid spent (Status said) = ⊥
IsSaid spent Spent = Unit {0}

-- Between two states of a world the call was made with this script and so many units, and the trace says all its events and its end. More
-- may have been done after it, as elrecord saves the trace.
pub record IsRecordedRun (old new : Seen) (script : List ℕ) (env : Vars) (dir : List ℕ) (units : ℕ) (events : List Event) (end : RunEnd) : Type 0 where
  pub ending : Ending
  pub is_said : IsSaid ending end
  pub left : ℕ
  pub runs : Does (execline_call (script_call script) env dir) units events (ended ending) left
  pub later : List Event
  pub added : Added old new (events ++ later)

-- whatever is said of the events and the end beside what the accepted script means, from the same variables and directory, is yes
abbrev pub RecordedScriptsAreAnsweredYes : Type 0
RecordedScriptsAreAnsweredYes = (old new : Seen) (script zero : List ℕ) (args : List (List ℕ)) (env : Vars) (dir : List ℕ) (units : ℕ) (events : List Event) (end : RunEnd) (verdict : Verdict)
    → units < 2 ^ 64 → IsRecordedRun old new script env dir units events end → IsJudged Leave script zero args env dir units events end verdict → verdict ≡ Yes
