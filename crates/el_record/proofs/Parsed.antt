-- A trace in the making.
use Rattle.std.proofs.Common.{◌≡◌, inl, inr, ℕ, ◌<◌, ◌≤◌, ◌-◌, ◌==◌, true, false, List, [], ◌∷◌, ◌++◌, length, drop, Option, Some, None, Err, refl, sym, ap, subst, ◌∙◌, arith, length-append}
use Rattle.std.proofs.lemmas.Bool.{eqb-true, eqb-false}
use Rattle.el_world.specs.declared.event.Event.{Event}
use Rattle.el_record.specs.declared.trace.RunEnd.{RunEnd}
use Rattle.el_record.specs.declared.parsing.TraceFault.TheVariants.{BadTrace}
use Rattle.el_record.specs.TraceText.{events_before, run_end_before}
use Rattle.el_record.specs.TraceReading.{FrontRead, event_at, run_end_at}
use Rattle.el_record.specs.Recordable.{IsRecordable, AreRecordable}
use Rattle.el_record.specs.Traces.{IsTextOf, IsBadAt, IsAnswer}
use Rattle.el_record.specs.declared.reader.ReadFault.{ReadFault}
use Rattle.el_record.specs.declared.reader.ReadFault.TheVariants.{Absent}
use Rattle.el_record.specs.Read.{IsRead, IsNext, AreRead}
use Rattle.el_record.proofs.TraceLaws.{event-written}
use Rattle.el_record.proofs.TraceEnds.{EndsWith, itself, event_shorter, events_end, run_end_ends, dropped, events_more}
use Rattle.el_record.proofs.TraceRanges.{event_fits}
use Rattle.el_record.proofs.TraceWhole.{bad_is_no_trace, run_end-written}

-- these events' records stand before the rest
pub record SoFar (text : List ℕ) (events : List Event) (rest : List ℕ) : Type 0 where
  pub filled : events_before events rest ≡ text
  pub events_are : AreRecordable events

pub none_so_far : (events : List Event) (text : List ℕ) → events ≡ [] → SoFar text events text
unfolding AreRecordable
none_so_far events text none = subst (λ es. SoFar text es text) (sym none) (record { filled = refl; events_are = tt })

recordable_more : (events : List Event) (event : Event) → AreRecordable events → IsRecordable event → AreRecordable (events ++ event ∷ [])
unfolding AreRecordable
recordable_more [] event are is = (is, tt)
recordable_more (first ∷ events) event are is = (are.0, recordable_more events event are.1 is)

-- one record more
pub one_so_far : {text : List ℕ} {events : List Event} {rest : List ℕ} (all : List Event) (event : Event) (more : List ℕ) → SoFar text events rest → event_at rest ≡ Some (event, more) → all ≡ events ++ event ∷ [] → SoFar text all more
one_so_far {text} {events} {rest} all event more so_far is all_is =
    subst (λ es. SoFar text es more) (sym all_is)
    (record {
      filled = events_more events event more ∙ ap (λ t. events_before events t) (event-written rest event more is) ∙ so_far.filled;
      events_are = recordable_more events event so_far.events_are (event_fits rest event more is);
    })

pub rest_is_shorter : (rest : List ℕ) (event : Event) (more : List ℕ) → event_at rest ≡ Some (event, more) → length more < length rest
rest_is_shorter rest event more is = event_shorter event more rest (event-written rest event more is)

pub next_is : (text : List ℕ) (found : Option Event) (event : Event) (rest : List ℕ) → IsNext text found rest → found ≡ Some event → event_at text ≡ Some (event, rest)
next_is text found event rest next is = subst (λ o. IsNext text o rest) is next

-- ---- the end

pub nothing_left : (rest : List ℕ) → (length rest == 0) ≡ true → rest ≡ []
nothing_left [] is = refl
nothing_left (byte ∷ rest) is = absurd (omega (arith, eqb-true (length (byte ∷ rest)) 0 is))

pub something_left : (rest : List ℕ) → (length rest == 0) ≡ false → rest ≡ [] → ⊥
something_left rest is none = eqb-false (length rest) 0 is (ap length none)

pub absent_so : {A : Type 0} (found : FrontRead A) (fault : ReadFault) (rest : List ℕ) → IsRead found (Err fault) rest → fault ≡ Absent → found ≡ None
absent_so found fault rest read is = subst (λ f. IsRead found (Err f) rest) is read

behind : {text : List ℕ} {events : List Event} {rest : List ℕ} → AreRead text events rest → EndsWith rest text
behind {text} {events} {rest} are = subst (EndsWith rest) are.filled (events_end events (itself rest))

pub ends_text : {text : List ℕ} {events : List Event} {rest : List ℕ} (end : RunEnd) (more : List ℕ) → AreRead text events rest → run_end_at rest ≡ Some (end, more) → more ≡ [] → IsTextOf text events end
ends_text {text} {events} {rest} end more are is none =
    let read = run_end-written rest end more is in
    record {
      same = ap (λ t. events_before events (run_end_before end t)) (sym none) ∙ ap (λ t. events_before events t) read.text_is ∙ are.filled;
      events_are = are.events_are;
      end_is = read.fits;
    }

pub is_within : {text : List ℕ} {events : List Event} {rest : List ℕ} → AreRead text events rest → length rest ≤ length text
is_within {text} {events} {rest} are = let ends = behind are in omega (arith, ap length ends.joined, length-append ends.front rest)

pub stops_there : {text : List ℕ} {events : List Event} {rest : List ℕ} (at : ℕ) → AreRead text events rest → at ≡ length text - length rest → run_end_at rest ≡ None → IsBadAt text at
stops_there {text} {events} {rest} at are at_is none =
    let there : drop at text ≡ rest = ap (λ n. drop n text) at_is ∙ dropped (behind are) in
    inl (record {
      within = omega (arith, at_is);
      events = events;
      events_are = are.events_are;
      filled = ap (λ t. events_before events t) there ∙ are.filled;
      no_event = ap event_at there ∙ are.no_event;
      no_end = ap run_end_at there ∙ none;
    })

pub more_within : {text : List ℕ} {events : List Event} {rest : List ℕ} (end : RunEnd) (more : List ℕ) → AreRead text events rest → run_end_at rest ≡ Some (end, more) → EndsWith more text
more_within {text} {events} {rest} end more are is =
    subst (EndsWith more) are.filled (events_end events (subst (EndsWith more) (run_end-written rest end more is).text_is (run_end_ends end (itself more))))

pub end_within : {text : List ℕ} {events : List Event} {rest : List ℕ} (end : RunEnd) (more : List ℕ) → AreRead text events rest → run_end_at rest ≡ Some (end, more) → length more ≤ length text
end_within end more are is = let ends = more_within end more are is in omega (arith, ap length ends.joined, length-append ends.front more)

pub goes_on_there : {text : List ℕ} {events : List Event} {rest : List ℕ} (at : ℕ) (end : RunEnd) (left : List ℕ) → AreRead text events rest → run_end_at rest ≡ Some (end, left) → at ≡ length text - length left → (left ≡ [] → ⊥) → IsBadAt text at
goes_on_there {text} {events} {rest} at end left are is at_is some =
    let there : drop at text ≡ left = ap (λ n. drop n text) at_is ∙ dropped (more_within end left are is) in
    let read = run_end-written rest end left is in
    inr (record {
      events = events;
      events_are = are.events_are;
      end = end;
      end_is = read.fits;
      filled = ap (λ t. events_before events (run_end_before end t)) there ∙ ap (λ t. events_before events t) read.text_is ∙ are.filled;
      more = λ none. some (sym there ∙ none);
    })

-- ---- answers

pub bad_answer : {text : List ℕ} (at : ℕ) → IsBadAt text at → IsAnswer text (Err (BadTrace at))
bad_answer {text} at bad events end is = bad_is_no_trace text at events end bad is
