-- Handles that the real World gives and closes.
use Rattle.std.proofs.Common.{◌≡◌, ℕ, ◌+◌, ◌<◌, ◌≤◌, Bool, true, false, not, ◌==◌, nat_lt, List, [], ◌∷◌, ◌++◌, filter, refl, ap, ◌∙◌, append_assoc, arith, if◌then◌else◌}
use Rattle.std.specs.List.{list_all}
use Rattle.std.proofs.lemmas.Bool.{le-leb}
use Rattle.el_world.specs.declared.event.Handle.{Handle}
use Rattle.el_world.specs.Handles.{is_given, are_given, without, Gave}
use Rattle.el_world.proofs.Held.{is_below, not_held, below_more, below_without, all-append, all-filter}
use Rattle.el_real.specs.declared.stream.Held.{Held}
use Rattle.el_real.specs.Held.{handles_of, untold, are_below}

handles_of-append : (held more : List Held) → handles_of (held ++ more) ≡ handles_of held ++ handles_of more
handles_of-append [] more = refl
handles_of-append (one ∷ held) more = ap (λ handles. one.handle ∷ handles) (handles_of-append held more)

is_less : (n m : ℕ) → n < m → nat_lt n m ≡ true
is_less n m less = grind (arith, less)

-- one more that lies below the number
pub below-one : (held : List Held) (next after : ℕ) (one : Held) → one.handle.number < after → next ≤ after → are_below next held ≡ true → are_below after (held ++ one ∷ []) ≡ true
below-one held next after one less later below =
    ap (list_all (is_below after)) (handles_of-append held (one ∷ []))
    ∙ all-append (is_below after) (handles_of held) (one.handle ∷ []) (below_more (handles_of held) next after later below) (rw (is_less one.handle.number after less) refl)

-- one more that was given
pub given-one : (held : List Held) (one : Held) → 3 ≤ one.handle.number → are_given (handles_of held) ≡ true → are_given (handles_of (held ++ one ∷ [])) ≡ true
given-one held one own given =
    ap are_given (handles_of-append held (one ∷ [])) ∙ all-append is_given (handles_of held) (one.handle ∷ []) given (rw (le-leb 3 one.handle.number own) refl)

-- one handle was given
pub gave-one : (faults later : ℕ) (old new : List Held) (next after : ℕ) (one : Held) → new ≡ old ++ one ∷ [] → one.handle.number ≡ next → after ≡ next + 1 → 3 ≤ next → are_below next old ≡ true
    → Gave (untold faults old next) (untold later new after) (one.handle ∷ [])
gave-one faults later old new next after one items number is own below =
    let fresh = not_held (handles_of old) next one.handle below (omega (arith, number)) in
    record {
      held = ap handles_of items ∙ handles_of-append old (one ∷ []);
      rising = (omega (arith, number), omega (arith, number), omega (arith, number, is));
      fresh = rw fresh refl;
      origin = refl;
    }

-- two handles were given
pub gave-two : (faults later : ℕ) (old new : List Held) (next after : ℕ) (reader writer : Held) → new ≡ (old ++ reader ∷ []) ++ writer ∷ [] → reader.handle.number ≡ next → writer.handle.number ≡ next + 1 → after ≡ next + 2
    → 3 ≤ next → are_below next old ≡ true → Gave (untold faults old next) (untold later new after) (reader.handle ∷ writer.handle ∷ [])
gave-two faults later old new next after reader writer items first second is own below =
    let fresh-reader = not_held (handles_of old) next reader.handle below (omega (arith, first)) in
    let fresh-writer = not_held (handles_of old) next writer.handle below (omega (arith, second)) in
    record {
      held = ap handles_of (items ∙ append_assoc old (reader ∷ []) (writer ∷ [])) ∙ handles_of-append old (reader ∷ writer ∷ []);
      rising = (omega (arith, first), omega (arith, first), (omega (arith, second), omega (arith, first, second), omega (arith, second, is)));
      fresh = rw (fresh-reader, fresh-writer) refl;
      origin = refl;
    }

-- the handles of what is left are those that are left
pub handles_of-left : (held : List Held) (handle : Handle) → handles_of (filter (λ (one : Held). not (one.handle.number == handle.number)) held) ≡ without (handles_of held) handle
handles_of-left [] handle = refl
handles_of-left (one ∷ held) handle = by (one.handle.number == handle.number) (handles_of-left held handle)
  where
    left : List Held
    left = filter (λ (one : Held). not (one.handle.number == handle.number)) held

    by : (b : Bool) → handles_of left ≡ without (handles_of held) handle
        → handles_of (if not b then one ∷ left else left) ≡ (if not b then one.handle ∷ without (handles_of held) handle else without (handles_of held) handle)
    by true rest = rest
    by false rest = ap (λ handles. one.handle ∷ handles) rest

-- what is left still lies below the number
pub below-left : (old new : List Held) (handle : Handle) (next : ℕ) → handles_of new ≡ without (handles_of old) handle → are_below next old ≡ true → are_below next new ≡ true
below-left old new handle next left below = ap (list_all (is_below next)) left ∙ below_without (handles_of old) handle next below

-- and was given
pub given-left : (old new : List Held) (handle : Handle) → handles_of new ≡ without (handles_of old) handle → are_given (handles_of old) ≡ true → are_given (handles_of new) ≡ true
given-left old new handle left given = ap are_given left ∙ all-filter is_given (λ other. not (other.number == handle.number)) (handles_of old) given
