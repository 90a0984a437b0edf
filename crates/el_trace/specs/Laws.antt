-- What a reader may conclude of verdicts.
use Rattle.el_room.specs.Vocabulary.{Event, Made, End}
use Rattle.std.specs.Prelude.{◌≡◌, ◌↔◌, true, List}
use Rattle.el_record.specs.declared.trace.RunEnd.{RunEnd}
use Rattle.el_trace.specs.declared.verdict.Verdict.{Verdict}
use Rattle.el_trace.specs.declared.verdict.Verdict.TheVariants.{Yes}
use Rattle.el_trace.specs.NewHandles.{first_number, keep_numbers}
use Rattle.el_trace.specs.Runs.{IsRun, IsVerdict}

-- The verdict is yes exactly where the events keep the rule on new handles and are a run.
abbrev pub YesSaysRun : Type 0
YesSaysRun = (meant : Made End ⊥) (events : List Event) (ending : RunEnd) (verdict : Verdict) → IsVerdict meant events ending verdict → (verdict ≡ Yes) ↔ ((keep_numbers first_number events ≡ true) × IsRun meant events ending)

-- There is one verdict at most.
abbrev pub VerdictIsOne : Type 0
VerdictIsOne = (meant : Made End ⊥) (events : List Event) (ending : RunEnd) (one other : Verdict) → IsVerdict meant events ending one → IsVerdict meant events ending other → one ≡ other
