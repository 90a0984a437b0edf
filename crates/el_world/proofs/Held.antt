-- The handles held, over several events.
use Rattle.std.proofs.Common.{◌≡◌, ℕ, ◌<◌, ◌≤◌, Bool, true, false, ◌&&◌, ◌||◌, not, ◌==◌, nat_lt, List, [], ◌∷◌, ◌++◌, filter, length, refl, sym, ap, ◌∙◌, append_assoc, true≢false, arith, if◌then◌else◌}
use Rattle.std.specs.List.{list_all}
use Rattle.std.proofs.lemmas.Bool.{eqb-true, or_right}
use Rattle.el_words.proofs.Truths.{left_of, right_of}
use Rattle.el_world.specs.declared.event.Event.{Event}
use Rattle.el_world.specs.declared.event.Handle.{Handle}
use Rattle.el_world.specs.Handles.{is_held, is_usable, without, Rising, are_fresh, given_by, given_in, held_after, held_after_all, all_fresh, names_held, all_name_held}

pub held_after_all-append : (one two : List Event) (held : List Handle) → held_after_all held (one ++ two) ≡ held_after_all (held_after_all held one) two
held_after_all-append [] two held = refl
held_after_all-append (event ∷ one) two held = held_after_all-append one two (held_after held event)

pub given_in-append : (one two : List Event) → given_in (one ++ two) ≡ given_in one ++ given_in two
given_in-append [] two = refl
given_in-append (event ∷ one) two = ap (λ handles. given_by event ++ handles) (given_in-append one two) ∙ sym (append_assoc (given_by event) (given_in one) (given_in two))

both_true : (a b c : Bool) → (a && b) ≡ true → (b ≡ true → c ≡ true) → (a && c) ≡ true
both_true true b c h f = f h
both_true false b c h f = absurd (true≢false (sym h))

pub all_fresh-append : (one two : List Event) (held : List Handle) → all_fresh held one ≡ true → all_fresh (held_after_all held one) two ≡ true → all_fresh held (one ++ two) ≡ true
all_fresh-append [] two held p q = q
all_fresh-append (event ∷ one) two held p q =
    both_true (are_fresh held (given_by event)) (all_fresh (held_after held event) one) _ p (λ rest. all_fresh-append one two (held_after held event) rest q)

pub all_name_held-append : (one two : List Event) (held : List Handle) → all_name_held held one ≡ true → all_name_held (held_after_all held one) two ≡ true → all_name_held held (one ++ two) ≡ true
all_name_held-append [] two held p q = q
all_name_held-append (event ∷ one) two held p q =
    both_true (names_held held event) (all_name_held (held_after held event) one) _ p (λ rest. all_name_held-append one two (held_after held event) rest q)

pub rising_from : (handles : List Handle) (from later to : ℕ) → from ≤ later → Rising later handles to → Rising from handles to
rising_from [] from later to le p = omega arith
rising_from (handle ∷ handles) from later to le p = (p.0, omega (arith, p.1), p.2)

pub Rising-append : (one two : List Handle) (a b c : ℕ) → Rising a one b → Rising b two c → Rising a (one ++ two) c
Rising-append [] two a b c p q = rising_from two a b c p q
Rising-append (handle ∷ one) two a b c p q = (p.0, p.1, Rising-append one two _ b c p.2 q)

-- ---- handles among those held

pub usable_held : (held : List Handle) (handle : Handle) → is_held held handle ≡ true → is_usable held handle ≡ true
usable_held held handle is = or_right (nat_lt handle.number 3) _ is

either_true : (a b c : Bool) → (a || b) ≡ true → (b ≡ true → c ≡ true) → (a || c) ≡ true
either_true true b c h f = refl
either_true false b c h f = f h

-- a held handle stays so when others are put behind
pub held_more : (held more : List Handle) (handle : Handle) → is_held held handle ≡ true → is_held (held ++ more) handle ≡ true
held_more [] more handle h = absurd (true≢false (sym h))
held_more (other ∷ held) more handle h = either_true (other.number == handle.number) (is_held held handle) _ h (held_more held more handle)

-- where all that is held lies below a number, a handle from there on is fresh
pub not_held : (held : List Handle) (next : ℕ) (handle : Handle) → list_all (λ (other : Handle). nat_lt other.number next) held ≡ true → next ≤ handle.number → is_held held handle ≡ false
not_held [] next handle below from = refl
not_held (other ∷ held) next handle below from = by (nat_lt other.number next) refl below (other.number == handle.number) refl (λ h. not_held held next handle h from)
  where
    by : (b : Bool) → nat_lt other.number next ≡ b → (b && list_all (λ (other : Handle). nat_lt other.number next) held) ≡ true → (e : Bool) → (other.number == handle.number) ≡ e
        → (list_all (λ (other : Handle). nat_lt other.number next) held ≡ true → is_held held handle ≡ false) → (e || is_held held handle) ≡ false
    by false lt h e is rest = absurd (true≢false (sym h))
    by true lt h false is rest = rest h
    by true lt h true is rest = let same : other.number ≡ handle.number = eqb-true other.number handle.number is in let less : other.number < next = grind (arith, lt) in absurd (omega arith)

-- ---- one is taken out

filter-shorter : (test : Handle → Bool) (handles : List Handle) → length (filter test handles) ≤ length handles
filter-shorter test [] = omega arith
filter-shorter test (handle ∷ handles) = by (test handle) (filter-shorter test handles)
  where
    by : (b : Bool) → length (filter test handles) ≤ length handles
        → length (if b then handle ∷ filter test handles else filter test handles) ≤ length (handle ∷ handles)
    by true h = omega arith
    by false h = omega arith

pub length-without : (held : List Handle) (handle : Handle) → is_held held handle ≡ true → length (without held handle) < length held
length-without [] handle h = absurd (true≢false (sym h))
length-without (other ∷ held) handle h = by (other.number == handle.number) h (length-without held handle)
  where
    by : (b : Bool) → (b || is_held held handle) ≡ true → (is_held held handle ≡ true → length (without held handle) < length held)
        → length (if not b then other ∷ without held handle else without held handle) < length (other ∷ held)
    by true h rest = let le : length (without held handle) ≤ length held = filter-shorter (λ other. not (other.number == handle.number)) held in omega arith
    by false h rest = let less : length (without held handle) < length held = rest h in omega arith

-- what is true of all is true of those that are left
pub all-filter : (p test : Handle → Bool) (handles : List Handle) → list_all p handles ≡ true → list_all p (filter test handles) ≡ true
all-filter p test [] h = refl
all-filter p test (handle ∷ handles) h = by (test handle) (all-filter p test handles (right_of (p handle) (list_all p handles) h))
  where
    by : (b : Bool) → list_all p (filter test handles) ≡ true → list_all p (if b then handle ∷ filter test handles else filter test handles) ≡ true
    by true rest = both_true (p handle) (list_all p handles) _ h (λ _. rest)
    by false rest = rest

-- where it is true of all, all are left
pub filter-all : (test : Handle → Bool) (handles : List Handle) → list_all test handles ≡ true → filter test handles ≡ handles
filter-all test [] h = refl
filter-all test (handle ∷ handles) h = rw (left_of (test handle) _ h) (ap (λ handles. handle ∷ handles) (filter-all test handles (right_of (test handle) _ h)))

-- two tests may be made in either order
pub filter-swap : (p q : Handle → Bool) (handles : List Handle) → filter p (filter q handles) ≡ filter q (filter p handles)
filter-swap p q [] = refl
filter-swap p q (handle ∷ handles) = by (p handle) refl (q handle) refl (filter-swap p q handles)
  where
    by : (b : Bool) → p handle ≡ b → (c : Bool) → q handle ≡ c → filter p (filter q handles) ≡ filter q (filter p handles)
        → filter p (if c then handle ∷ filter q handles else filter q handles) ≡ filter q (if b then handle ∷ filter p handles else filter p handles)
    by true is true is' h = rw (is, is') (ap (λ handles. handle ∷ handles) h)
    by true is false is' h = rw is' h
    by false is true is' h = rw is h
    by false is false is' h = h

-- one that is held among those left is held
pub held-filter : (test : Handle → Bool) (handles : List Handle) (handle : Handle) → is_held (filter test handles) handle ≡ true → is_held handles handle ≡ true
held-filter test [] handle h = h
held-filter test (other ∷ handles) handle h = by (test other) h (held-filter test handles handle)
  where
    left : List Handle
    left = filter test handles

    by : (b : Bool) → is_held (if b then other ∷ left else left) handle ≡ true → (is_held left handle ≡ true → is_held handles handle ≡ true) → is_held (other ∷ handles) handle ≡ true
    by true h rest = either_true (other.number == handle.number) (is_held left handle) _ h rest
    by false h rest = or_right (other.number == handle.number) _ (rest h)

pub all-append : (p : Handle → Bool) (one two : List Handle) → list_all p one ≡ true → list_all p two ≡ true → list_all p (one ++ two) ≡ true
all-append p [] two h k = k
all-append p (handle ∷ one) two h k = both_true (p handle) (list_all p one) _ h (λ rest. all-append p one two rest k)

-- ---- all that is held lies below a number

abbrev pub is_below : ℕ → Handle → Bool
is_below next handle = nat_lt handle.number next

pub below_without : (held : List Handle) (handle : Handle) (next : ℕ) → list_all (is_below next) held ≡ true → list_all (is_below next) (without held handle) ≡ true
below_without held handle next h = all-filter (is_below next) (λ other. not (other.number == handle.number)) held h

pub below_more : (held : List Handle) (next later : ℕ) → next ≤ later → list_all (is_below next) held ≡ true → list_all (is_below later) held ≡ true
below_more [] next later le h = refl
below_more (handle ∷ held) next later le h = by (nat_lt handle.number next) refl (nat_lt handle.number later) refl h (below_more held next later le)
  where
    by : (b : Bool) → nat_lt handle.number next ≡ b → (c : Bool) → nat_lt handle.number later ≡ c → (b && list_all (is_below next) held) ≡ true
        → (list_all (is_below next) held ≡ true → list_all (is_below later) held ≡ true) → (c && list_all (is_below later) held) ≡ true
    by true lt true is h rest = rest h
    by true lt false is h rest = let less : handle.number < next = grind (arith, lt) in let more : later ≤ handle.number = grind (arith, is) in absurd (omega arith)
    by false lt c is h rest = absurd (true≢false (sym h))
