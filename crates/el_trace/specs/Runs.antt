-- Recorded runs.
use Rattle.el_room.specs.Vocabulary.{Event, Outcome, given, ended, starved, Made, End}
use Rattle.std.specs.Prelude.{◌≡◌, true, List, []}
use Rattle.el_world.specs.States as end
use Rattle.el_record.specs.declared.trace.RunEnd.{RunEnd}
use Rattle.el_record.specs.declared.trace.RunEnd.TheVariants.{Status, Spent}
use Rattle.el_trace.specs.declared.verdict.Verdict.{Verdict}
use Rattle.el_trace.specs.declared.verdict.Verdict.TheVariants.{Yes, Differs, Unlawful}
use Rattle.el_trace.specs.Agreeing.{AgreeUpto}
use Rattle.el_trace.specs.NewHandles.{first_number, keep_numbers, BreakNumbersAt}

-- it comes out with this end, the state of the process left aside
abbrev pub EndsSo : Outcome End ⊥ → RunEnd → Type 0
EndsSo (given never) ending = ⊥
EndsSo (ended (end.Status code state)) (Status other) = code ≡ other
EndsSo (ended (end.Status code state)) Spent = ⊥
EndsSo (ended (end.Spent state)) (Status other) = ⊥
EndsSo (ended (end.Spent state)) Spent = Unit {0}
EndsSo starved ending = ⊥

-- A list of events with an end is a run of what this was made of, where it was made on the answers in the list: it has exactly these events,
-- ends so, and leaves no answer.
pub record IsRun (meant : Made End ⊥) (events : List Event) (ending : RunEnd) : Type 0 where
  pub events_are : meant.events ≡ events
  pub ends_so : EndsSo meant.outcome ending
  pub none_left : meant.left ≡ []

-- What is said of a list of events with an end, beside what is made on its answers: it keeps the rule on new handles and is a run; it keeps
-- the rule and is none, and so many events are as they would be made; or here it breaks the rule.
abbrev pub IsVerdict : (meant : Made End ⊥) → List Event → RunEnd → Verdict → Type 0
IsVerdict meant events ending Yes = (keep_numbers first_number events ≡ true) × IsRun meant events ending
IsVerdict meant events ending (Differs at) = (keep_numbers first_number events ≡ true) × (IsRun meant events ending → ⊥) × AgreeUpto at events meant.events
IsVerdict meant events ending (Unlawful at) = BreakNumbersAt first_number events at
