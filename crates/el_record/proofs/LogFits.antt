-- A text can hold a log where it can hold each of its events.
use Rattle.std.proofs.Common.{◌≡◌, ℕ, ◌+◌, ◌≤◌, Bool, true, List, [], ◌∷◌, ◌∙◌, drop, take, length, Some, sym, ap, subst}
use Rattle.std.specs.List.{list_all, slice_get}
use Rattle.std.proofs.lemmas.List.{take-append-drop}
use Rattle.std.proofs.lemmas.List.Folds.{list_all-append}
use Rattle.std.proofs.Math.ListN.{drop_of_length-le}
use Rattle.el_words.proofs.Truths.{left_of, right_of}
use Rattle.el_world.specs.declared.event.Event.{Event}
use Rattle.el_record.specs.Recordable.{IsRecordable, AreRecordable}
use Rattle.el_record.proofs.Printed.{from_place}

-- the first of those that are left can be written too
pub event_before_rest : (events : List Event) (place : ℕ) (event : Event) → slice_get events place ≡ Some event → IsRecordable event → AreRecordable (drop (place + 1) events) → AreRecordable (drop place events)
unfolding AreRecordable
event_before_rest events place event is fits rest = subst AreRecordable (sym (from_place events place event is)) (fits, rest)

pub none_left : (events : List Event) (place : ℕ) → length events ≤ place → AreRecordable (drop place events)
unfolding AreRecordable
none_left events place le = subst AreRecordable (sym (drop_of_length-le events le)) tt

-- a test that all events pass is passed by each
pub each_passes : (test : Event → Bool) (events : List Event) (place : ℕ) (event : Event) → list_all test events ≡ true → slice_get events place ≡ Some event → test event ≡ true
each_passes test events place event all is =
    let rest : list_all test (drop place events) ≡ true = right_of (list_all test (take place events)) (list_all test (drop place events)) (sym (list_all-append test (take place events) (drop place events)) ∙ ap (list_all test) (take-append-drop place events) ∙ all) in
    left_of (test event) (list_all test (drop (place + 1) events)) (sym (ap (list_all test) (from_place events place event is)) ∙ rest)
