-- What eltrace answers.
use Rattle.el_room.proofs.Vocabulary.{Vars, Event, Start, Wait, Opened, Pipe, Feed, Write, Close, Enter, Exited, Killed, NotFound, NotStartable, is_lawful, are_lawful}
use Rattle.std.proofs.Common.{◌≡◌, ℕ, true, List, [], ◌∷◌, Ok, Err, refl, subst}
use Rattle.std.specs.FinMap as map
use Rattle.el_world.specs.declared.event.Event.TheVariants.{Read}
use Rattle.el_world.specs.declared.event.Fault.TheVariants.{Failed, NoMemory}
use Rattle.el_world.specs.declared.event.StartFault.TheVariants.{Failed as StartFailed, NoMemory as NoStartMemory}
use Rattle.el_check.specs.declared.params.Params.TheVariants.{Leave}
use Rattle.el_record.specs.declared.trace.RunEnd.{RunEnd}
use Rattle.el_record.specs.Recordable.{IsRecordable, AreRecordable, IsStarted, IsEnded, IsGood}
use Rattle.el_trace.specs.declared.verdict.Verdict.{Verdict}
use Rattle.el_trace.specs.Checked.{IsJudged}
use Rattle.el_trace.specs.Answered.{root}

-- what can be written as a trace is lawful
event_lawful : (event : Event) → IsRecordable event → is_lawful event ≡ true
unfolding IsRecordable IsStarted IsEnded IsGood
event_lawful (Start words env dir ends (Ok pid)) is = refl
event_lawful (Start words env dir ends (Err NotFound)) is = refl
event_lawful (Start words env dir ends (Err NotStartable)) is = refl
event_lawful (Start words env dir ends (Err StartFailed)) is = refl
event_lawful (Start words env dir ends (Err NoStartMemory)) is = absurd is.answer_is
event_lawful (Wait pid (Ok (Exited code))) is = refl
event_lawful (Wait pid (Ok (Killed signal))) is = is.1.1
event_lawful (Wait pid (Err Failed)) is = refl
event_lawful (Wait pid (Err NoMemory)) is = absurd is.1
event_lawful (Opened dir path opened (Ok handle)) is = refl
event_lawful (Opened dir path opened (Err Failed)) is = refl
event_lawful (Opened dir path opened (Err NoMemory)) is = absurd is.2
event_lawful (Pipe (Ok ends)) is = refl
event_lawful (Pipe (Err Failed)) is = refl
event_lawful (Pipe (Err NoMemory)) is = absurd is
event_lawful (Feed bytes (Ok handle)) is = refl
event_lawful (Feed bytes (Err Failed)) is = refl
event_lawful (Feed bytes (Err NoMemory)) is = absurd is.1
event_lawful (Read handle (Ok bytes)) is = is.1.1
event_lawful (Read handle (Err Failed)) is = refl
event_lawful (Read handle (Err NoMemory)) is = absurd is.1
event_lawful (Write handle bytes (Ok done)) is = refl
event_lawful (Write handle bytes (Err Failed)) is = refl
event_lawful (Write handle bytes (Err NoMemory)) is = absurd is.2
event_lawful (Close handle) is = refl
event_lawful (Enter dir path (Ok answer)) is = refl
event_lawful (Enter dir path (Err Failed)) is = refl
event_lawful (Enter dir path (Err NoMemory)) is = absurd is.2

pub recordable_lawful : (events : List Event) → AreRecordable events → are_lawful events ≡ true
unfolding AreRecordable
recordable_lawful [] are = refl
recordable_lawful (event ∷ events) are = rw (event_lawful event are.0) (recordable_lawful events are.1)

-- without arguments and variables, from the root on
pub judged_at : (script zero : List ℕ) (args : List (List ℕ)) (env : Vars) (dir : List ℕ) (units : ℕ) (events : List Event) (ending : RunEnd) (verdict : Verdict) → zero ≡ [] → args ≡ [] → env ≡ map.empty → dir ≡ root
    → IsJudged Leave script zero args env dir units events ending verdict → IsJudged Leave script [] [] map.empty root units events ending verdict
judged_at script zero args env dir units events ending verdict none few no_vars here judged =
    subst (λ dir. IsJudged Leave script [] [] map.empty dir units events ending verdict) here
    (subst (λ (env : Vars). IsJudged Leave script [] [] env dir units events ending verdict) no_vars
    (subst (λ args. IsJudged Leave script [] args env dir units events ending verdict) few
    (subst (λ zero. IsJudged Leave script zero args env dir units events ending verdict) none judged)))
