-- Handles that are closed one after the other.
use Rattle.std.proofs.Common.{◌≡◌, Bool, true, false, not, ◌||◌, ◌==◌, cond, List, [], ◌∷◌, filter, Option, Some, None, refl, ap, subst, arith}
use Rattle.std.specs.Prelude.{nat_lt}
use Rattle.std.proofs.lemmas.Bool.Decides.{nat_tests}
use Rattle.std.proofs.lemmas.Bool.{and_from}
use Rattle.el_words.proofs.Truths.{left_of, right_of}
use Rattle.el_world.specs.declared.event.Handle.{Handle}
use Rattle.el_world.specs.World.{Seen}
use Rattle.el_world.specs.Handles.{is_held, is_usable, are_usable, without}
use Rattle.el_world.specs.Acts.{close_act}
use Rattle.el_world.specs.Runs.{Done}
use Rattle.el_world.proofs.Runs.{done_then, done_at_once}
use Rattle.el_proc.specs.Descriptors.{is_same, is_given, given_handles, without_handle, without_given, closing}

-- a handle that the world gave is usable only where it is held
pub held_if_given : (held : List Handle) (handle : Handle) → is_given handle ≡ true → is_usable held handle ≡ true → is_held held handle ≡ true
held_if_given held handle given usable = by (nat_lt handle.number 3) refl usable
  where
    by : (own : Bool) → nat_lt handle.number 3 ≡ own → (own || is_held held handle) ≡ true → is_held held handle ≡ true
    by true own h = absurd (grind (arith, nat_tests))
    by false own h = h

-- the first one given is held
pub given_held : (held : List Handle) (fds : List (Option Handle)) (handle : Handle) (rest : List Handle) → given_handles fds ≡ handle ∷ rest → are_usable held fds ≡ true → is_held held handle ≡ true
given_held held [] handle rest e usable = absurd (cc)
given_held held (None ∷ fds) handle rest e usable = given_held held fds handle rest e usable
given_held held (Some other ∷ fds) handle rest e usable =
    by (is_given other) refl e (λ e. given_held held fds handle rest e (right_of (is_usable held other) _ usable))
  where
    by : (given : Bool) → is_given other ≡ given → cond (is_given other) (other ∷ filter (λ more. not (is_same other more)) (given_handles fds)) (given_handles fds) ≡ handle ∷ rest
        → (given_handles fds ≡ handle ∷ rest → is_held held handle ≡ true) → is_held held handle ≡ true
    by true is e h =
        let e : other ∷ filter (λ more. not (is_same other more)) (given_handles fds) ≡ handle ∷ rest = rw is at e in
        let same : other ≡ handle = cc in
        subst (λ handle. is_held held handle ≡ true) same (held_if_given held other is (left_of (is_usable held other) _ usable))
    by false is e h = h (rw is at e)

-- what is held stays held where another is closed
held_without : (held : List Handle) (handle other : Handle) → is_same handle other ≡ false → is_held held other ≡ true → is_held (without held handle) other ≡ true
held_without [] handle other apart is = is
held_without (first ∷ held) handle other apart is = by (first.number == handle.number) refl (first.number == other.number) refl is (λ is. held_without held handle other apart is)
  where
    by : (gone : Bool) → (first.number == handle.number) ≡ gone → (here : Bool) → (first.number == other.number) ≡ here → (here || is_held held other) ≡ true
        → (is_held held other ≡ true → is_held (without held handle) other ≡ true)
        → is_held (cond (not (first.number == handle.number)) (first ∷ without held handle) (without held handle)) other ≡ true
    by true gone true here is h = absurd (grind (arith, nat_tests))
    by true gone false here is h = rw gone (h is)
    by false gone true here is h = rw gone (rw here refl)
    by false gone false here is h = rw gone (rw here (h is))

pub usable_without_one : (held : List Handle) (handle other : Handle) → is_same handle other ≡ false → is_usable held other ≡ true → is_usable (without held handle) other ≡ true
usable_without_one held handle other apart usable = by (nat_lt other.number 3) usable
  where
    by : (own : Bool) → (own || is_held held other) ≡ true → (own || is_held (without held handle) other) ≡ true
    by true h = refl
    by false h = held_without held handle other apart h

-- the numbers stay usable where a handle that none of them holds any more is closed
pub usable_without : (held : List Handle) (fds : List (Option Handle)) (handle : Handle) → are_usable held fds ≡ true → are_usable (without held handle) (without_handle fds handle) ≡ true
usable_without held [] handle usable = refl
usable_without held (None ∷ fds) handle usable = usable_without held fds handle usable
usable_without held (Some other ∷ fds) handle usable =
    by (is_same handle other) refl (usable_without held fds handle (right_of (is_usable held other) _ usable))
  where
    by : (same : Bool) → is_same handle other ≡ same → are_usable (without held handle) (without_handle fds handle) ≡ true
        → are_usable (without held handle) (cond (is_same handle other) None (Some other) ∷ without_handle fds handle) ≡ true
    by true same h = rw same h
    by false same h = rw same (and_from _ _ (usable_without_one held handle other same (left_of (is_usable held other) _ usable)) h)

-- ---- under way

-- whatever closes the others from here closes all from the start
pub record ClosesOn (before now : Seen) (all left : List Handle) : Type 0 where
  pub rest : (new : Seen) → Done now new (closing left) (Some tt) → Done before new (closing all) (Some tt)

module _ {before : Seen} {all : List Handle} where
  pub none_closed : ClosesOn before before all all
  none_closed = record { rest = λ new p. p }

  pub one_closed : {now new : Seen} {left rest : List Handle} {handle : Handle} → ClosesOn before now all left → left ≡ handle ∷ rest → Done now new (close_act handle) (Some tt) → ClosesOn before new all rest
  unfolding closing
  one_closed {rest = rest} on is p = record { rest = λ later q. on.rest later (rw is (done_then (λ _. closing rest) p q)) }

  pub all_closed : {now : Seen} {left : List Handle} → ClosesOn before now all left → left ≡ [] → Done before now (closing all) (Some tt)
  unfolding closing
  all_closed on none = on.rest _ (rw none (done_at_once tt))

-- without the world's handles nothing is left of them
pub no_given : (fds : List (Option Handle)) → given_handles fds ≡ [] → without_given fds ≡ fds
no_given [] none = refl
no_given (None ∷ fds) none = ap (λ fds. None ∷ fds) (no_given fds none)
no_given (Some handle ∷ fds) none = by (is_given handle) refl none (no_given fds)
  where
    by : (given : Bool) → is_given handle ≡ given → cond (is_given handle) (handle ∷ filter (λ more. not (is_same handle more)) (given_handles fds)) (given_handles fds) ≡ []
        → (given_handles fds ≡ [] → without_given fds ≡ fds) → cond (is_given handle) None (Some handle) ∷ without_given fds ≡ Some handle ∷ fds
    by true is none h = let none = rw is at none in absurd (cc)
    by false is none h = rw is (ap (λ fds. Some handle ∷ fds) (h (rw is at none)))
