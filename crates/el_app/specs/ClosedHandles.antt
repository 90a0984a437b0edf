-- Handles that were closed.
use Rattle.el_room.specs.Vocabulary.{list_any, Event, Start, Write, Close, Handle, Seen, Plan, Outcome, RanWith}
use Rattle.std.specs.Prelude.{◌≡◌, ℕ, Bool, false, true, ◌==◌, List, [], ◌∷◌, ◌++◌, Option, None, Some}
use Rattle.el_world.specs.declared.event.Event.TheVariants.{Read}
use Rattle.el_world.specs.Handles.{all_name_held}

-- a child has the handle at one of its numbers
abbrev pub is_at_end : Handle → Option Handle → Bool
is_at_end handle None = false
is_at_end handle (Some other) = other.number == handle.number

-- the call names the handle
abbrev pub names : Handle → Event → Bool
names handle (Start words env dir ends answer) = list_any (is_at_end handle) ends
names handle (Read other answer) = other.number == handle.number
names handle (Write other bytes answer) = other.number == handle.number
names handle (Close other) = other.number == handle.number
names handle event = false

module _ (E A : Type 0) where
  -- each call of a run names only the process's own handles and such as are held when it is made, and closes only one that is held
  abbrev pub RunsNameWhatIsHeld : Type 0
  RunsNameWhatIsHeld = (old new : Seen) (plan : Plan E A) (units : ℕ) (outcome : Option (Outcome E A)) (run : RanWith old new plan units outcome) → all_name_held old.held run.ran.events ≡ true

  -- in a run from a world that holds nothing no call behind a close names the handle that was closed, or closes it again
  abbrev pub ClosedIsNamedNoMore : Type 0
  ClosedIsNamedNoMore = (old new : Seen) (plan : Plan E A) (units : ℕ) (outcome : Option (Outcome E A)) (run : RanWith old new plan units outcome) → old.held ≡ []
      → (before behind : List Event) (handle : Handle) → run.ran.events ≡ before ++ Close handle ∷ behind → list_any (names handle) behind ≡ false
