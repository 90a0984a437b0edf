-- A handle that was closed is named no more.
use Rattle.el_room.proofs.Vocabulary.{or_from, false_from_ne_true, list_any, list_all, right_of, Event, Start, Wait, Opened, Pipe, Feed, Write, Close, Enter, Handle, is_held, is_usable, are_usable, without, Rising, given_by, given_in, held_after, held_after_all, all_name_held, held-filter, all-filter, all-append, is_below, below_without, below_more}
use Rattle.std.proofs.Common.{◌≡◌, ℕ, ◌+◌, ◌<◌, ◌≤◌, Bool, true, false, ◌&&◌, ◌||◌, not, ◌==◌, List, [], ◌∷◌, ◌++◌, Option, None, Some, refl, sym, ap, ◌∙◌, subst, arith, true≢false, eqb-true}
use Rattle.std.specs.Prelude.{nat_lt, nat_le, if◌then◌else◌}
use Rattle.el_words.proofs.Truths.{left_of}
use Rattle.el_world.specs.declared.event.Event.TheVariants.{Read}
use Rattle.el_world.specs.Handles.{is_given, names_held}
use Rattle.el_world.proofs.Held.{given_in-append}
use Rattle.el_app.specs.ClosedHandles.{is_at_end, names, RunsNameWhatIsHeld, ClosedIsNamedNoMore}

-- ---- numbers that rise

-- they rise to somewhere, and from there on
pub record Rises (from : ℕ) (one two : List Handle) (to : ℕ) : Type 0 where
  pub at : ℕ
  pub first : Rising from one at
  pub second : Rising at two to
  pub later : from ≤ at

rises : (from : ℕ) (one two : List Handle) (to : ℕ) → Rising from (one ++ two) to → Rises from one two to
rises from [] two to p = record { at = from; first = omega arith; second = p; later = omega arith }
rises from (handle ∷ one) two to p =
    let rest = rises (handle.number + 1) one two to p.2 in
    record { at = rest.at; first = (p.0, p.1, rest.first); second = rest.second; later = omega (arith, rest.later, p.1) }

-- a handle below them is none of them
none_of : (handles : List Handle) (from to : ℕ) (handle : Handle) → handle.number < from → Rising from handles to → is_held handles handle ≡ false
none_of [] from to handle below p = refl
none_of (other ∷ handles) from to handle below p = by (other.number == handle.number) refl (none_of handles (other.number + 1) to handle (omega (arith, below, p.1)) p.2)
  where
    by : (b : Bool) → (other.number == handle.number) ≡ b → is_held handles handle ≡ false → (b || is_held handles handle) ≡ false
    by true same rest = let equal : other.number ≡ handle.number = eqb-true other.number handle.number same in let never : ⊥ = omega (arith, equal, below, p.1) in absurd never
    by false apart rest = rest

-- all of them are the world's, and lie below the number to which they rise
all_given : (handles : List Handle) (from to : ℕ) → Rising from handles to → list_all is_given handles ≡ true
all_given [] from to p = refl
all_given (handle ∷ handles) from to p = by (nat_le 3 handle.number) refl (all_given handles (handle.number + 1) to p.2)
  where
    by : (b : Bool) → nat_le 3 handle.number ≡ b → list_all is_given handles ≡ true → (b && list_all is_given handles) ≡ true
    by true is rest = rest
    by false small rest = let never : ⊥ = grind (arith, small, p.0) in absurd never

to_end : (handles : List Handle) (from to : ℕ) → Rising from handles to → from ≤ to
to_end [] from to p = p
to_end (handle ∷ handles) from to p = let rest = to_end handles (handle.number + 1) to p.2 in omega (arith, rest, p.1)

all_below : (handles : List Handle) (from to : ℕ) → Rising from handles to → list_all (is_below to) handles ≡ true
all_below [] from to p = refl
all_below (handle ∷ handles) from to p = by (nat_lt handle.number to) refl (all_below handles (handle.number + 1) to p.2)
  where
    by : (b : Bool) → nat_lt handle.number to ≡ b → list_all (is_below to) handles ≡ true → (b && list_all (is_below to) handles) ≡ true
    by true is rest = rest
    by false above rest = let last = to_end handles (handle.number + 1) to p.2 in let never : ⊥ = grind (arith, above, last) in absurd never

-- ---- what is held

-- the same of a number that is held
of_held : (p : ℕ → Bool) (held : List Handle) (handle : Handle) → list_all (λ (other : Handle). p other.number) held ≡ true → is_held held handle ≡ true → p handle.number ≡ true
of_held p [] handle all is = absurd (true≢false (sym is))
of_held p (other ∷ held) handle all is =
    by (other.number == handle.number) refl is (of_held p held handle (right_of (p other.number) (list_all (λ (other : Handle). p other.number) held) all))
  where
    by : (b : Bool) → (other.number == handle.number) ≡ b → (b || is_held held handle) ≡ true → (is_held held handle ≡ true → p handle.number ≡ true) → p handle.number ≡ true
    by true same is rest = ap p (sym (eqb-true other.number handle.number same)) ∙ left_of (p other.number) (list_all (λ (other : Handle). p other.number) held) all
    by false apart is rest = rest is

-- it is so after each call
pub record Stands (held : List Handle) (next : ℕ) : Type 0 where
  pub below : list_all (is_below next) held ≡ true
  pub given : list_all is_given held ≡ true

with_more : (held more : List Handle) (next later : ℕ) → Stands held next → Rising next more later → Stands (held ++ more) later
with_more held more next later stands p = record {
  below = all-append (is_below later) held more (below_more held next later (to_end more next later p) stands.below) (all_below more next later p);
  given = all-append is_given held more stands.given (all_given more next later p);
}

after : (held : List Handle) (next later : ℕ) (event : Event) → Stands held next → Rising next (given_by event) later → Stands (held_after held event) later
after held next later (Close handle) stands p = record {
  below = below_without held handle later (below_more held next later p stands.below);
  given = all-filter is_given (λ other. not (other.number == handle.number)) held stands.given;
}
after held next later (Start words env dir ends answer) stands p = with_more held [] next later stands p
after held next later (Wait pid answer) stands p = with_more held [] next later stands p
after held next later (Opened dir path mode answer) stands p = with_more held (given_by (Opened dir path mode answer)) next later stands p
after held next later (Pipe answer) stands p = with_more held (given_by (Pipe answer)) next later stands p
after held next later (Feed bytes answer) stands p = with_more held (given_by (Feed bytes answer)) next later stands p
after held next later (Read handle answer) stands p = with_more held [] next later stands p
after held next later (Write handle bytes answer) stands p = with_more held [] next later stands p
after held next later (Enter dir path answer) stands p = with_more held [] next later stands p

after_all : (events : List Event) (held : List Handle) (next later : ℕ) → Stands held next → Rising next (given_in events) later → Stands (held_after_all held events) later
after_all [] held next later stands p = record { below = below_more held next later p stands.below; given = stands.given }
after_all (event ∷ events) held next later stands p =
    let parts = rises next (given_by event) (given_in events) later p in
    after_all events (held_after held event) parts.at later (after held next parts.at event stands parts.first) parts.second

-- ---- a handle that isn't held

apart_of : (one two : List Handle) (handle : Handle) → is_held one handle ≡ false → is_held two handle ≡ false → is_held (one ++ two) handle ≡ false
apart_of [] two handle h k = k
apart_of (other ∷ one) two handle h k = by (other.number == handle.number) h (λ rest. apart_of one two handle rest k)
  where
    by : (b : Bool) → (b || is_held one handle) ≡ false → (is_held one handle ≡ false → is_held (one ++ two) handle ≡ false) → (b || is_held (one ++ two) handle) ≡ false
    by true h rest = absurd (true≢false h)
    by false h rest = rest h

module _ (handle : Handle) (given : 3 ≤ handle.number) where
  -- it stays so after a call
  stays_apart : (held : List Handle) (next later : ℕ) (event : Event) → handle.number < next → is_held held handle ≡ false → Rising next (given_by event) later → is_held (held_after held event) handle ≡ false
  stays_apart held next later (Close other) below apart p = false_from_ne_true _ (λ is. true≢false (sym (held-filter (λ (one : Handle). not (one.number == other.number)) held handle is) ∙ apart))
  stays_apart held next later (Start words env dir ends answer) below apart p = apart_of held [] handle apart refl
  stays_apart held next later (Wait pid answer) below apart p = apart_of held [] handle apart refl
  stays_apart held next later (Opened dir path mode answer) below apart p = apart_of held _ handle apart (none_of _ next later handle below p)
  stays_apart held next later (Pipe answer) below apart p = apart_of held _ handle apart (none_of _ next later handle below p)
  stays_apart held next later (Feed bytes answer) below apart p = apart_of held _ handle apart (none_of _ next later handle below p)
  stays_apart held next later (Read other answer) below apart p = apart_of held [] handle apart refl
  stays_apart held next later (Write other bytes answer) below apart p = apart_of held [] handle apart refl
  stays_apart held next later (Enter dir path answer) below apart p = apart_of held [] handle apart refl

  -- and isn't named meanwhile
  other_usable : (held : List Handle) (other : Handle) → is_held held handle ≡ false → is_usable held other ≡ true → (other.number == handle.number) ≡ false
  other_usable held other apart usable = false_from_ne_true _ (λ same. never (eqb-true other.number handle.number same))
    where
      same_held : other.number ≡ handle.number → is_held held other ≡ false
      same_held same = ap (λ number. list_any (λ (one : Handle). one.number == number) held) same ∙ apart

      never : other.number ≡ handle.number → ⊥
      never same = by (nat_lt other.number 3) refl
        where
          by : (b : Bool) → nat_lt other.number 3 ≡ b → ⊥
          by true small = grind (arith, small, same, given)
          by false large = true≢false (sym usable ∙ or_from (nat_lt other.number 3) (is_held held other) large (same_held same))

  held_usable : (held : List Handle) (other : Handle) → is_held held other ≡ true → is_usable held other ≡ true
  held_usable held other is = by (nat_lt other.number 3)
    where
      by : (b : Bool) → (b || is_held held other) ≡ true
      by true = refl
      by false = is

  other_ends : (held : List Handle) (ends : List (Option Handle)) → is_held held handle ≡ false → are_usable held ends ≡ true → list_any (is_at_end handle) ends ≡ false
  other_ends held [] apart usable = refl
  other_ends held (None ∷ ends) apart usable = other_ends held ends apart usable
  other_ends held (Some other ∷ ends) apart usable =
      or_from (other.number == handle.number) (list_any (is_at_end handle) ends)
      (other_usable held other apart (left_of (is_usable held other) (are_usable held ends) usable))
      (other_ends held ends apart (right_of (is_usable held other) (are_usable held ends) usable))

  unnamed : (held : List Handle) (event : Event) → is_held held handle ≡ false → names_held held event ≡ true → names handle event ≡ false
  unnamed held (Start words env dir ends answer) apart named = other_ends held ends apart named
  unnamed held (Read other answer) apart named = other_usable held other apart named
  unnamed held (Write other bytes answer) apart named = other_usable held other apart named
  unnamed held (Close other) apart named = other_usable held other apart (held_usable held other named)
  unnamed held (Wait pid answer) apart named = refl
  unnamed held (Opened dir path mode answer) apart named = refl
  unnamed held (Pipe answer) apart named = refl
  unnamed held (Feed bytes answer) apart named = refl
  unnamed held (Enter dir path answer) apart named = refl

  never_named : (events : List Event) (held : List Handle) (next later : ℕ) → handle.number < next → is_held held handle ≡ false → Rising next (given_in events) later → all_name_held held events ≡ true → list_any (names handle) events ≡ false
  never_named [] held next later below apart p named = refl
  never_named (event ∷ events) held next later below apart p named =
      let parts = rises next (given_by event) (given_in events) later p in
      let here = left_of (names_held held event) (all_name_held (held_after held event) events) named in
      let rest = right_of (names_held held event) (all_name_held (held_after held event) events) named in
      let beyond = parts.later in
      or_from (names handle event) (list_any (names handle) events) (unnamed held event apart here)
      (never_named events (held_after held event) parts.at later (omega (arith, below, beyond)) (stays_apart held next parts.at event below apart parts.first) parts.second rest)

-- a closed one isn't held
closed_apart : (held : List Handle) (handle : Handle) → is_held (without held handle) handle ≡ false
closed_apart [] handle = refl
closed_apart (other ∷ held) handle = by (other.number == handle.number) refl (closed_apart held handle)
  where
    left : List Handle
    left = without held handle

    by : (b : Bool) → (other.number == handle.number) ≡ b → is_held left handle ≡ false → is_held (if not b then other ∷ left else left) handle ≡ false
    by true same rest = rest
    by false apart rest = or_from (other.number == handle.number) (is_held left handle) apart rest

-- what is named behind others is held behind them
named_behind : (one two : List Event) (held : List Handle) → all_name_held held (one ++ two) ≡ true → all_name_held (held_after_all held one) two ≡ true
named_behind [] two held named = named
named_behind (event ∷ one) two held named = named_behind one two (held_after held event) (right_of (names_held held event) (all_name_held (held_after held event) (one ++ two)) named)

closed_in : (before behind : List Event) (handle : Handle) (next to : ℕ) → Rising next (given_in (before ++ Close handle ∷ behind)) to → all_name_held [] (before ++ Close handle ∷ behind) ≡ true → list_any (names handle) behind ≡ false
closed_in before behind handle next to rising named =
    let parts = rises next (given_in before) (given_in behind) to (subst (λ handles. Rising next handles to) (given_in-append before (Close handle ∷ behind)) rising) in
    let held = held_after_all [] before in
    let stands : Stands held parts.at = after_all before [] next parts.at (record { below = refl; given = refl }) parts.first in
    let here = named_behind before (Close handle ∷ behind) [] named in
    let is : is_held held handle ≡ true = left_of (is_held held handle) (all_name_held (without held handle) behind) here in
    let low = of_held (λ number. nat_le 3 number) held handle stands.given is in
    let high = of_held (λ number. nat_lt number parts.at) held handle stands.below is in
    never_named handle (grind (arith, low)) behind (without held handle) parts.at to (grind (arith, high)) (closed_apart held handle) parts.second
    (right_of (is_held held handle) (all_name_held (without held handle) behind) here)

module _ {E A : Type 0} where
  pub runs-name_held : RunsNameWhatIsHeld E A
  runs-name_held old new plan units outcome run = run.ran.added.named

  pub closed-named_no_more : ClosedIsNamedNoMore E A
  closed-named_no_more old new plan units outcome run none before behind handle is =
      let added = run.ran.added in
      closed_in before behind handle old.next new.next
      (subst (λ events. Rising old.next (given_in events) new.next) is added.rising)
      (ap (all_name_held []) (sym is) ∙ ap (λ held. all_name_held held run.ran.events) (sym none) ∙ added.named)
