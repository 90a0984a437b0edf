-- Whole meanings of worked rows, by a number of programs that they don't reach.
use Rattle.el_room.proofs.Vocabulary.{Scope, Event, found_in, and_then, State, Task, SameUpto, given-any, same-refl, same-then, most_units}
use Rattle.std.proofs.Common.{ℕ, ◌<◌, ◌^◌, List, sym, ap, ◌∙◌, le_refl}
use Rattle.el_machine.specs.Flat.{flat_run}
use Rattle.el_tree.specs.Trees.{Tree}
use Rattle.el_meaning.specs.Meaning.{meaning, whole_meaning}
use Rattle.el_meaning.specs.Rows.{RowEnd, IsMade, row_end, whole}
use Rattle.el_meaning.proofs.Bounds.{flat_on, flat-enough}

-- words that were handed on are run as at most so many programs
abbrev pub whole_within : (programs : ℕ) → Tree → Scope → State → Task ⊥
whole_within programs tree scope state = and_then (meaning tree scope state) (flat_on programs)

whole-same : (programs units : ℕ) (tree : Tree) (scope : Scope) (state : State) → units < programs → units < 2 ^ 64 → SameUpto units (whole (whole_within programs tree scope state)) (whole (whole_meaning tree scope state))
unfolding whole_meaning flat_run most_units
whole-same programs units tree scope state few small =
    same-then (and_then (meaning tree scope state) (flat_on programs)) (and_then (meaning tree scope state) (flat_on most_units)) (λ never. absurd never) (λ never. absurd never) units
    (same-then (meaning tree scope state) (meaning tree scope state) (flat_on programs) (flat_on most_units) units (same-refl units (meaning tree scope state))
    (given-any (λ left. SameUpto units (flat_on programs left) (flat_on most_units left)) (meaning tree scope state) (λ left. flat-enough programs most_units units left.words left.state few small)))
    (given-any _ (and_then (meaning tree scope state) (flat_on programs)) (λ never. absurd never))

pub whole-made : (programs units : ℕ) (tree : Tree) (scope : Scope) (state : State) (events : List Event) (row : RowEnd) (left : ℕ) → units < programs → units < 2 ^ 64
    → IsMade (whole (whole_within programs tree scope state)) units events row left → IsMade (whole (whole_meaning tree scope state)) units events row left
whole-made programs units tree scope state events row left few small is =
    let same = (whole-same programs units tree scope state few small).same units (le_refl units) (found_in events) in
    record {
      are_events = ap (λ meant. meant.events) (sym same) ∙ is.are_events;
      is_end = ap (λ meant. row_end meant.outcome) (sym same) ∙ is.is_end;
      is_left = ap (λ meant. meant.units) (sym same) ∙ is.is_left;
      none_left = ap (λ meant. meant.left) (sym same) ∙ is.none_left;
    }
