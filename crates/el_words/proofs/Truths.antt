-- What follows from truths and options, where std doesn't say it in one step.
use Rattle.std.proofs.Common.{◌≡◌, Bool, true, false, not, ◌&&◌, ◌||◌, Option, None, Some, is_some, refl, true≢false}
use Rattle.std.proofs.lemmas.Bool.{and_parts, or_parts, not-true}

-- both parts of a conjunction hold: the left one
pub left_of : (a b : Bool) → (a && b) ≡ true → a ≡ true
left_of a b both = (and_parts a b both).0

-- and the right one
pub right_of : (a b : Bool) → (a && b) ≡ true → b ≡ true
right_of a b both = (and_parts a b both).1

-- no part of a disjunction holds whose negation does
pub neither_of : (a b : Bool) → not (a || b) ≡ true → (a ≡ false) × (b ≡ false)
neither_of a b none = or_parts a b (not-true (a || b) none)

-- nothing isn't a value
pub none_is_some : {A B : Type 0} (x : A) → None ≡ Some x → B
none_is_some x is = absurd (cc)

-- where nothing is there it is None
pub none_there : {T : Type 0} (slot : Option T) → is_some slot ≡ false → slot ≡ None
none_there None lacks = refl
none_there (Some value) lacks = absurd (true≢false lacks)

-- what a part that fails adds changes nothing
pub or_behind_none : (a b : Bool) → ((a && false) || b) ≡ b
or_behind_none true b = refl
or_behind_none false b = refl
