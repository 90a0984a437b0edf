-- What is shown of a trace, line by line.
use Rattle.el_room.proofs.Vocabulary.{slice_get, Event}
use Rattle.std.proofs.Common.{◌≡◌, ℕ, ◌+◌, List, ◌++◌, Some, sym, ap, ◌∙◌, drop}
use Rattle.el_record.specs.Printed.{Puts}
use Rattle.el_trace.specs.Lines.{shown_event, shown_events}
use Rattle.el_trace.proofs.NewHandles.{here}

-- an event of a log is shown
pub line_put : (old : List ℕ) {mid new : List ℕ} (events : List Event) (place : ℕ) (event : Event) → Some event ≡ slice_get events place
    → ((rest : List ℕ) → mid ++ shown_events place (drop place events) rest ≡ old ++ shown_events 0 events rest) → Puts mid new (shown_event place event)
    → (rest : List ℕ) → new ++ shown_events (place + 1) (drop (place + 1) events) rest ≡ old ++ shown_events 0 events rest
line_put old {mid} events place event is so_far put rest =
    put.behind (shown_events (place + 1) (drop (place + 1) events) rest) ∙ ap (λ left. mid ++ shown_events place left rest) (sym (here events place event is)) ∙ so_far rest
