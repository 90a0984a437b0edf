-- A record is read exactly where it stands.
use Rattle.std.proofs.Common.{◌≡◌, ℕ, List, Option, Some, None, refl, sym, ap, ◌∙◌}
use Rattle.el_words.proofs.Truths.{none_is_some}
use Rattle.el_world.specs.declared.event.Event.{Event}
use Rattle.el_record.specs.declared.trace.RunEnd.{RunEnd}
use Rattle.el_record.specs.TraceReading.{FrontRead, event_at, run_end_at}
use Rattle.el_record.specs.Laws.{BeginsWithEvent, BeginsWithEnd, EventsAreRead, NoneIsRead, EndsAreRead, NoEndIsRead}
use Rattle.el_record.proofs.TraceLaws.{event-read, event-written}
use Rattle.el_record.proofs.TraceRanges.{event_fits}
use Rattle.el_record.proofs.TraceWhole.{run_end-read, run_end-written}

-- ---- events

event_read : (bytes : List ℕ) (event : Event) (rest : List ℕ) → event_at bytes ≡ Some (event, rest) → BeginsWithEvent bytes event rest
event_read bytes event rest e = record { fits = event_fits bytes event rest e; text = event-written bytes event rest e }

read_event : (bytes : List ℕ) (event : Event) (rest : List ℕ) → BeginsWithEvent bytes event rest → event_at bytes ≡ Some (event, rest)
read_event bytes event rest b = ap event_at (sym b.text) ∙ event-read event rest b.fits

pub events_are_read : EventsAreRead
events_are_read bytes event rest = (event_read bytes event rest, read_event bytes event rest)

no_event : (bytes : List ℕ) → ((event : Event) (rest : List ℕ) → BeginsWithEvent bytes event rest → ⊥) → event_at bytes ≡ None
no_event bytes none = by (event_at bytes) refl
  where
    by : (found : FrontRead Event) → event_at bytes ≡ found → event_at bytes ≡ None
    by None is = is
    by (Some found) is = absurd (none found.0 found.1 (event_read bytes found.0 found.1 is))

pub none_is_read : NoneIsRead
none_is_read bytes = (λ none event rest b. none_is_some _ (sym none ∙ read_event bytes event rest b), no_event bytes)

-- ---- ends

end_read : (bytes : List ℕ) (end : RunEnd) (rest : List ℕ) → run_end_at bytes ≡ Some (end, rest) → BeginsWithEnd bytes end rest
end_read bytes end rest e = let read = run_end-written bytes end rest e in record { fits = read.fits; text = read.text_is }

read_end : (bytes : List ℕ) (end : RunEnd) (rest : List ℕ) → BeginsWithEnd bytes end rest → run_end_at bytes ≡ Some (end, rest)
read_end bytes end rest b = ap run_end_at (sym b.text) ∙ run_end-read end rest b.fits

pub ends_are_read : EndsAreRead
ends_are_read bytes end rest = (end_read bytes end rest, read_end bytes end rest)

no_end : (bytes : List ℕ) → ((end : RunEnd) (rest : List ℕ) → BeginsWithEnd bytes end rest → ⊥) → run_end_at bytes ≡ None
no_end bytes none = by (run_end_at bytes) refl
  where
    by : (found : FrontRead RunEnd) → run_end_at bytes ≡ found → run_end_at bytes ≡ None
    by None is = is
    by (Some found) is = absurd (none found.0 found.1 (end_read bytes found.0 found.1 is))

pub no_end_is_read : NoEndIsRead
no_end_is_read bytes = (λ none end rest b. none_is_some _ (sym none ∙ read_end bytes end rest b), no_end bytes)
