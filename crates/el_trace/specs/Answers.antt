-- The answers of recorded events to calls.
use Rattle.el_room.specs.Vocabulary.{Event, Call, AnswerOf, call_of, event_of}
use Rattle.std.specs.Prelude.{◌≡◌, Option, None, Some}

-- the event is this call, answered so; with no answer it is another call, or there is none
abbrev pub IsAnswer : Option Event → (call : Call) → Option (AnswerOf call) → Type 0
IsAnswer event call None = (other : Event) → event ≡ Some other → call_of other ≡ call → ⊥
IsAnswer event call (Some answer) = event ≡ Some (event_of call answer)
