-- Handles that are new.
use Rattle.el_room.proofs.Vocabulary.{list_all, slice_get, slice_get_within, get_or_from_slice_get, drop_more, right_of, Event, Handle, are_fresh, Rising, given_by, is_below, below_more, all-append}
use Rattle.el_script.proofs.Vocabulary.{lt-ltb, left_of}
use Rattle.std.proofs.Common.{◌≡◌, ℕ, suc, ◌+◌, ◌≤◌, ◌<◌, max, true, false, nat_le, List, [], ◌∷◌, ◌++◌, drop, length, None, Some, refl, sym, ap, subst, ◌∙◌, arith}
use Rattle.std.proofs.lemmas.Bool.{le-leb}
use Rattle.el_world.specs.Handles.{are_given}
use Rattle.el_world.proofs.Held.{not_held}
use Rattle.el_trace.specs.NewHandles.{are_new, next_behind, keep_numbers, BreakNumbersAt}

-- what passes the test lies at the next number or above
above : (next : ℕ) (handle : Handle) → nat_le next handle.number ≡ true → next ≤ handle.number
above next handle is = grind (arith, is)

-- the next number is above a new handle, whatever it was
raised : (next : ℕ) (handle : Handle) → next ≤ handle.number → max next (handle.number + 1) ≡ handle.number + 1
raised next handle le = omega (arith, le)

-- new handles rise from the next number to the one behind them
pub new_rise : (handles : List Handle) (next : ℕ) → 3 ≤ next → are_new next handles ≡ true → Rising next handles (next_behind next handles)
new_rise [] next own is = omega arith
new_rise (handle ∷ handles) next own is =
    let le = above next handle (left_of (nat_le next handle.number) _ is) in (
      omega (arith, own, le),
      le,
      subst (λ to. Rising (handle.number + 1) handles (next_behind to handles)) (sym (raised next handle le)) (new_rise handles (handle.number + 1) (omega (arith, own, le)) (right_of (nat_le next handle.number) _ is)),
    )

-- the next number never falls
pub next_later : (handles : List Handle) (next : ℕ) → next ≤ next_behind next handles
next_later [] next = omega arith
next_later (handle ∷ handles) next = let later = next_later handles (max next (handle.number + 1)) in omega (arith, later)

-- no new handle is held, where what is held lies below the next number
pub new_fresh : (handles held : List Handle) (next : ℕ) → list_all (is_below next) held ≡ true → are_new next handles ≡ true → are_fresh held handles ≡ true
new_fresh [] held next below is = refl
new_fresh (handle ∷ handles) held next below is =
    let le = above next handle (left_of (nat_le next handle.number) _ is) in
    rw (not_held held next handle below le) (new_fresh handles held (handle.number + 1) (below_more held next (handle.number + 1) (omega (arith, le)) below) (right_of (nat_le next handle.number) _ is))

-- new handles are none of the process's own
pub new_given : (handles : List Handle) (next : ℕ) → 3 ≤ next → are_new next handles ≡ true → are_given handles ≡ true
new_given [] next own is = refl
new_given (handle ∷ handles) next own is =
    let le = above next handle (left_of (nat_le next handle.number) _ is) in
    rw (le-leb 3 handle.number (omega (arith, own, le))) (new_given handles (handle.number + 1) (omega (arith, own, le)) (right_of (nat_le next handle.number) _ is))

-- they lie below the next number behind them
pub new_below : (handles : List Handle) (next : ℕ) → are_new next handles ≡ true → list_all (is_below (next_behind next handles)) handles ≡ true
new_below [] next is = refl
new_below (handle ∷ handles) next is =
    let later = next_later handles (max next (handle.number + 1)) in
    rw (lt-ltb handle.number (next_behind (max next (handle.number + 1)) handles) (omega (arith, later)))
    (let le = above next handle (left_of (nat_le next handle.number) _ is) in
    subst (λ to. list_all (is_below (next_behind to handles)) handles ≡ true) (sym (raised next handle le)) (new_below handles (handle.number + 1) (right_of (nat_le next handle.number) _ is)))

-- and so does what was held before
pub held_below : (held handles : List Handle) (next : ℕ) → list_all (is_below next) held ≡ true → are_new next handles ≡ true → list_all (is_below (next_behind next handles)) (held ++ handles) ≡ true
held_below held handles next below is = all-append (is_below (next_behind next handles)) held handles (below_more held next (next_behind next handles) (next_later handles next) below) (new_below handles next is)

-- ---- events, one after the other

-- what stands at a place is the first of what is left from there on
pub here : {A : Type 0} (all : List A) (place : ℕ) (one : A) → Some one ≡ slice_get all place → drop place all ≡ one ∷ drop (place + 1) all
here all place one is = drop_more all place one (slice_get_within all place one (sym is)) ∙ ap (λ first. first ∷ drop (place + 1) all) (get_or_from_slice_get all place one one (sym is))

-- something stands at a place below the length
pub some_within : {A : Type 0} (all : List A) (place : ℕ) → place < length all → None ≡ slice_get all place → ⊥
some_within [] place within none = absurd (omega (arith, within))
some_within (one ∷ all) Prim.Native.Nat.zero within none = cc
some_within (one ∷ all) (suc place) within none = some_within all place (omega (arith, within)) none

module _ (events : List Event) (place next : ℕ) (event : Event) where
  -- where the event at a place gives new handles, all is well behind it where it is so in what is left
  pub keep_on : drop place events ≡ event ∷ drop (place + 1) events → are_new next (given_by event) ≡ true → keep_numbers (next_behind next (given_by event)) (drop (place + 1) events) ≡ true → keep_numbers next (drop place events) ≡ true
  keep_on here new rest = rw (here, new) rest

  pub break_on : drop place events ≡ event ∷ drop (place + 1) events → are_new next (given_by event) ≡ true → (at : ℕ) → BreakNumbersAt (next_behind next (given_by event)) (drop (place + 1) events) at → BreakNumbersAt next (drop place events) (suc at)
  break_on here new at rest = subst (λ left. BreakNumbersAt next left (suc at)) (sym here) (new, rest)

  pub break_here : drop place events ≡ event ∷ drop (place + 1) events → are_new next (given_by event) ≡ false → BreakNumbersAt next (drop place events) 0
  break_here here old = subst (λ left. BreakNumbersAt next left 0) (sym here) old
