-- What is printed, part by part.
use Rattle.std.proofs.Common.{◌≡◌, ℕ, ◌+◌, List, [], ◌∷◌, ◌++◌, sym, ap, ◌∙◌, append_assoc, append-nil, drop, length, Some}
use Rattle.std.specs.List.{slice_get}
use Rattle.std.proofs.lemmas.List.{drop_more}
use Rattle.std.proofs.lemmas.Option.{slice_get_within, get_or_from_slice_get}
use Rattle.el_world.specs.declared.event.Event.{Event}
use Rattle.std.specs.Fmt.{decimal}
use Rattle.el_record.specs.Printed.{Puts}
use Rattle.el_record.specs.Fields.{bytes_before}
use Rattle.el_record.specs.TraceText.{event_before, events_before}

pub puts_then : {old mid new : List ℕ} {one two : List ℕ → List ℕ} → Puts old mid one → Puts mid new two → Puts old new (λ rest. one (two rest))
puts_then {two = two} p q = record { behind = λ rest. q.behind rest ∙ p.behind (two rest) }

pub puts_behind : (old more new : List ℕ) → new ≡ old ++ more → Puts old new (λ rest. more ++ rest)
puts_behind old more new e = record { behind = λ rest. ap (λ bytes. bytes ++ rest) e ∙ append_assoc old more rest }

-- a byte behind others, before what follows
pub puts_ended : (old bytes : List ℕ) (end : ℕ) (new : List ℕ) → new ≡ old ++ (bytes ++ end ∷ []) → Puts old new (λ rest. bytes ++ end ∷ rest)
puts_ended old bytes end new e = record { behind = λ rest. (puts_behind old (bytes ++ end ∷ []) new e).behind rest ∙ ap (λ more. old ++ more) (append_assoc bytes (end ∷ []) rest) }

-- a netstring behind others
pub puts_netstring : (old bytes new : List ℕ) → new ≡ old ++ (decimal (length bytes) ++ 58 ∷ (bytes ++ 44 ∷ [])) → Puts old new (bytes_before bytes)
puts_netstring old bytes new e = record {
  behind = λ rest.
      (puts_behind old _ new e).behind rest
      ∙ ap (λ text. old ++ text) (append_assoc (decimal (length bytes)) (58 ∷ (bytes ++ 44 ∷ [])) rest ∙ ap (λ text. decimal (length bytes) ++ 58 ∷ text) (append_assoc bytes (44 ∷ []) rest));
}

-- all that was printed
pub whole_text : {new : List ℕ} {text : List ℕ → List ℕ} → Puts [] new text → new ≡ text []
whole_text {new} p = sym (append-nil new) ∙ p.behind []

-- an event of a log is printed
-- an event stands in front of those after it
pub from_place : (events : List Event) (place : ℕ) (event : Event) → slice_get events place ≡ Some event → drop place events ≡ event ∷ drop (place + 1) events
from_place events place event is = drop_more events place event (slice_get_within events place event is) ∙ ap (λ e. e ∷ drop (place + 1) events) (get_or_from_slice_get events place event event is)

pub event_put : (old : List ℕ) {mid new : List ℕ} (events : List Event) (place : ℕ) (event : Event) → slice_get events place ≡ Some event → ((rest : List ℕ) → mid ++ events_before (drop place events) rest ≡ old ++ events_before events rest)
    → Puts mid new (event_before event) → (rest : List ℕ) → new ++ events_before (drop (place + 1) events) rest ≡ old ++ events_before events rest
event_put old {mid} events place event is so_far put rest =
    put.behind (events_before (drop (place + 1) events) rest) ∙ ap (λ left. mid ++ events_before left rest) (sym (from_place events place event is)) ∙ so_far rest
