-- The handles that a world gives keep the rule on new handles.
use Rattle.el_room.proofs.Vocabulary.{nat_tests, Event, Handle, Rising, given_by, given_in}
use Rattle.std.proofs.Common.{◌≡◌, ℕ, ◌+◌, ◌≤◌, max, nat_le, true, List, [], ◌∷◌, ◌++◌, refl, sym, subst, arith}
use Rattle.el_trace.specs.NewHandles.{first_number, are_new, next_behind, keep_numbers}

-- each handle that may come next is at least the next number
abbrev Reaches : (from next : ℕ) → Type 0
Reaches from next = (number : ℕ) → from ≤ number → 3 ≤ number → next ≤ number

-- some handles are new, and those behind them go on so
record AreNew (next : ℕ) (handles rest : List Handle) (to : ℕ) : Type 0 where
  are : are_new next handles ≡ true
  from : ℕ
  reaches : Reaches from (next_behind next handles)
  rising : Rising from rest to

greater : (next number : ℕ) → next ≤ number → max next (number + 1) ≡ number + 1
greater next number le = omega arith

rising-new : (handles rest : List Handle) (from next to : ℕ) → Reaches from next → Rising from (handles ++ rest) to → AreNew next handles rest to
rising-new [] rest from next to reaches rising = record { are = refl; from = from; reaches = reaches; rising = rising }
rising-new (handle ∷ handles) rest from next to reaches rising =
    let reached : next ≤ handle.number = reaches handle.number rising.1 rising.0 in
    let tested : nat_le next handle.number ≡ true = grind (arith, nat_tests) in
    let others = rising-new handles rest (handle.number + 1) (handle.number + 1) to (λ number le least. le) rising.2 in
    record {
      are = rw tested others.are;
      from = others.from;
      reaches = subst (λ next. Reaches others.from (next_behind next handles)) (sym (greater next handle.number reached)) others.reaches;
      rising = others.rising;
    }

numbers-kept : (events later : List Event) (from next to : ℕ) → Reaches from next → Rising from (given_in (events ++ later)) to → keep_numbers next events ≡ true
numbers-kept [] later from next to reaches rising = refl
numbers-kept (event ∷ events) later from next to reaches rising =
    let new = rising-new (given_by event) (given_in (events ++ later)) from next to reaches rising in
    rw new.are (numbers-kept events later new.from (next_behind next (given_by event)) to new.reaches new.rising)

-- so do the first events of a world
pub keeps-numbers : (events later : List Event) (from to : ℕ) → Rising from (given_in (events ++ later)) to → keep_numbers first_number events ≡ true
keeps-numbers events later from to rising = numbers-kept events later from first_number to (λ number le least. least) rising
