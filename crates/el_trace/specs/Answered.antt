-- What eltrace answers.
use Rattle.el_room.specs.Vocabulary.{decimal, Event}
use Rattle.std.specs.Prelude.{◌≡◌, ℕ, ◌-◌, ◌^◌, List, [], ◌∷◌, ◌++◌, codes}
use Rattle.std.specs.FinMap as map
use Rattle.el_tree.specs.Trees.{Tree}
use Rattle.el_check.specs.declared.params.Params.TheVariants.{Leave}
use Rattle.el_check.specs.declared.kind.CheckKind.{CheckKind}
use Rattle.el_check.specs.Scripts.{IsAcceptedScript}
use Rattle.el_check.specs.Faults.{IsScriptFault}
use Rattle.el_record.specs.declared.trace.RunEnd.{RunEnd}
use Rattle.el_record.specs.Traces.{IsTextOf, IsBadAt}
use Rattle.el_trace.specs.declared.verdict.Verdict.{Verdict}
use Rattle.el_trace.specs.declared.verdict.Verdict.TheVariants.{Yes, Differs, Unlawful}
use Rattle.el_trace.specs.declared.answer.Shown.{Shown}
use Rattle.el_trace.specs.Checked.{IsJudged}

-- the newline
abbrev newline : List ℕ
newline = 10 ∷ []

-- the line of a verdict, and its status
unfoldable pub line_of : Verdict → List ℕ
line_of Yes = codes "yes" ++ newline
line_of (Differs at) = codes "differs at " ++ decimal at ++ newline
line_of (Unlawful at) = codes "unlawful at " ++ decimal at ++ newline

abbrev pub status_of : Verdict → ℕ
status_of Yes = 0
status_of (Differs at) = 1
status_of (Unlawful at) = 1

-- the line of a script that isn't accepted
unfoldable pub bad_script : List ℕ
bad_script = codes "eltrace: bad script" ++ newline

-- the line of a text that is no trace's
unfoldable pub bad_trace : List ℕ
bad_trace = codes "eltrace: bad trace" ++ newline

-- this line is shown, with this status
pub record Shows (shown : Shown) (line : List ℕ) (status : ℕ) : Type 0 where
  pub line_is : shown.line ≡ line
  pub status_is : shown.status ≡ status

-- the directory of a checked run
abbrev pub root : List ℕ
root = codes "/"

-- the greatest budget
abbrev pub greatest : ℕ
greatest = 2 ^ 64 - 1

-- What is said of a script and a trace: the script isn't accepted; or this is the verdict on the trace as a run of it, without arguments
-- and variables.
pub data IsToldOf (script : List ℕ) (events : List Event) (ending : RunEnd) (shown : Shown) : Type 0 where
  refused : (kind : CheckKind) (line : ℕ) → IsScriptFault Leave script kind line → Shows shown bad_script 100 → IsToldOf script events ending shown
  judged : (verdict : Verdict) → IsJudged Leave script [] [] map.empty root greatest events ending verdict → Shows shown (line_of verdict) (status_of verdict) → IsToldOf script events ending shown

-- What is said of a script and a text that is no trace's: the script isn't accepted; or else the text is bad.
pub data IsToldWithout (script : List ℕ) (shown : Shown) : Type 0 where
  rejected : (kind : CheckKind) (line : ℕ) → IsScriptFault Leave script kind line → Shows shown bad_script 100 → IsToldWithout script shown
  accepted : (tree : Tree) → IsAcceptedScript Leave script tree → Shows shown bad_trace 100 → IsToldWithout script shown

-- The text is a trace's, and this is said of that; or it is none, and this is said without.
pub data IsAnswered (script text : List ℕ) (shown : Shown) : Type 0 where
  read : (events : List Event) (ending : RunEnd) → IsTextOf text events ending → IsToldOf script events ending shown → IsAnswered script text shown
  unread : (at : ℕ) → IsBadAt text at → IsToldWithout script shown → IsAnswered script text shown
