-- What waits directly around a place.
use Rattle.el_test.specs.Reading.{Frames, outermost, negation, group, behind_and, behind_or}

-- no `!` waits there
abbrev pub IsLevel : Frames → Type 0
IsLevel (negation frames) = ⊥
IsLevel _ = Unit {0}

-- neither `!` nor a conjunction waits there
abbrev pub IsOuter : Frames → Type 0
IsOuter (negation frames) = ⊥
IsOuter (behind_and test frames) = ⊥
IsOuter _ = Unit {0}

pub outer_is_level : (frames : Frames) → IsOuter frames → IsLevel frames
outer_is_level outermost h = tt
outer_is_level (negation frames) h = h
outer_is_level (group frames) h = tt
outer_is_level (behind_and test frames) h = tt
outer_is_level (behind_or conjunction frames) h = tt
