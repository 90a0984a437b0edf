-- The rule on new handles: a call gives no handle below the next number, and that lies above all handles given so far.
use Rattle.el_room.specs.Vocabulary.{Event, Handle, given_by}
use Rattle.std.specs.Prelude.{◌≡◌, ℕ, ◌+◌, max, Bool, true, false, ◌&&◌, nat_le, List, [], ◌∷◌, Option, None, Some}

-- the next number of a process that was given no handle: 0, 1 and 2 are its own
abbrev pub first_number : ℕ
first_number = 3

-- none of these lies below the next number, and each lies above those before it, as a pipe's writer above its reader
abbrev pub are_new : (next : ℕ) → List Handle → Bool
are_new next [] = true
are_new next (handle ∷ handles) = nat_le next handle.number && are_new (handle.number + 1) handles

-- the next number behind them: one more than the greatest given so far
abbrev pub next_behind : (next : ℕ) → List Handle → ℕ
next_behind next [] = next
next_behind next (handle ∷ handles) = next_behind (max next (handle.number + 1)) handles

-- each call gives new handles
abbrev pub keep_numbers : (next : ℕ) → List Event → Bool
keep_numbers next [] = true
keep_numbers next (event ∷ events) = are_new next (given_by event) && keep_numbers (next_behind next (given_by event)) events

-- the call at this place is the first to give a handle that isn't new
abbrev pub BreakNumbersAt : (next : ℕ) → List Event → (at : ℕ) → Type 0
BreakNumbersAt next [] at = ⊥
BreakNumbersAt next (event ∷ events) Prim.Native.Nat.zero = are_new next (given_by event) ≡ false
BreakNumbersAt next (event ∷ events) (Prim.Native.Nat.suc at) = (are_new next (given_by event) ≡ true) × BreakNumbersAt (next_behind next (given_by event)) events at

-- all calls give new handles, or this one is the first that doesn't
abbrev pub IsFirstBreach : (next : ℕ) → List Event → Option ℕ → Type 0
IsFirstBreach next events None = keep_numbers next events ≡ true
IsFirstBreach next events (Some at) = BreakNumbersAt next events at

-- these are new, and this is the greatest handle behind them; or they aren't
abbrev pub IsRaised : (next : ℕ) → List Handle → Option ℕ → Type 0
IsRaised next handles None = are_new next handles ≡ false
IsRaised next handles (Some greatest) = (are_new next handles ≡ true) × (greatest + 1 ≡ next_behind next handles)
