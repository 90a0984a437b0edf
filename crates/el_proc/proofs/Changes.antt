-- The handles of a process stay usable where its numbers change.
use Rattle.std.proofs.Common.{◌≡◌, ℕ, suc, Bool, true, false, not, ◌||◌, ◌==◌, cond, List, [], ◌∷◌, ◌++◌, filter, set, Option, Some, None, IfSome, Result, Ok, Err, IfOk, eqb-true, refl, sym, ap, subst, ◌∙◌, true≢false}
use Rattle.std.specs.Prelude.{nat_lt}
use Rattle.std.specs.List.{list_all}
use Rattle.std.proofs.lemmas.Bool.{and_from, not-true}
use Rattle.el_words.proofs.Truths.{left_of, right_of}
use Rattle.el_world.specs.declared.event.Handle.{Handle}
use Rattle.el_world.specs.Handles.{is_held, is_usable, is_usable_end, are_usable, without}
use Rattle.el_world.specs.declared.event.Fault.{Fault}
use Rattle.el_world.specs.World.{Seen}
use Rattle.el_world.specs.Runs.{NowHolds}
use Rattle.el_world.proofs.Held.{held_more, usable_held}
use Rattle.el_proc.specs.Descriptors.{held_in, is_this, is_given, is_same, given_handles, without_handle, is_at_some, lost_handles, handles_in, held_behind, moved, copied, swapped}
use Rattle.el_proc.proofs.Closings.{held_if_given, usable_without, usable_without_one}
use Rattle.el_proc.proofs.Usable.{usable_at, usable_handle}
use Rattle.el_proc.proofs.Lost.{at_some}

-- ---- a number holds something else

-- what is usable takes the place of what was
pub usable_set : (held : List Handle) (fds : List (Option Handle)) (n : ℕ) (slot : Option Handle) → are_usable held fds ≡ true → is_usable_end held slot ≡ true → are_usable held (set fds n slot) ≡ true
usable_set held [] n slot h k = refl
usable_set held (other ∷ fds) Prim.Native.Nat.zero slot h k = and_from _ _ k (right_of (is_usable_end held other) _ h)
usable_set held (other ∷ fds) (suc n) slot h k = and_from _ _ (left_of (is_usable_end held other) _ h) (usable_set held fds n slot (right_of (is_usable_end held other) _ h) k)

-- ---- more is held

still_usable : (held more : List Handle) (slot : Option Handle) → is_usable_end held slot ≡ true → is_usable_end (held ++ more) slot ≡ true
still_usable held more None h = refl
still_usable held more (Some handle) h = by (nat_lt handle.number 3) h
  where
    by : (own : Bool) → (own || is_held held handle) ≡ true → (own || is_held (held ++ more) handle) ≡ true
    by true h = refl
    by false h = held_more held more handle h

pub usable_more : (held more : List Handle) (fds : List (Option Handle)) → are_usable held fds ≡ true → are_usable (held ++ more) fds ≡ true
usable_more held more [] h = refl
usable_more held more (slot ∷ fds) h = and_from _ _ (still_usable held more slot (left_of (is_usable_end held slot) _ h)) (usable_more held more fds (right_of (is_usable_end held slot) _ h))

-- what a call gave besides
pub usable_given : {A E : Type 0} (old new : Seen) (answer : Result A E) (handles : A → List Handle) (fds : List (Option Handle)) → NowHolds old new answer handles → are_usable old.held fds ≡ true → are_usable new.held fds ≡ true
usable_given old new (Ok answer) handles fds h u = rw h (usable_more old.held (handles answer) fds u)
usable_given old new (Err error) handles fds h u = rw h u

pub usable_answer : {A E : Type 0} (held : List Handle) (answer : Result (Result A Fault) E) (handle : A → Handle) → IfOk answer (λ inner. IfOk inner (λ a. is_held held (handle a) ≡ true))
    → IfOk answer (λ inner. IfOk inner (λ a. is_usable held (handle a) ≡ true))
usable_answer held (Ok (Ok a)) handle h = usable_held held (handle a) h
usable_answer held (Ok (Err fault)) handle h = tt
usable_answer held (Err error) handle h = tt

-- ---- a handle that no number holds any more is closed

without_none : (fds : List (Option Handle)) (handle : Handle) → is_at_some fds handle ≡ false → without_handle fds handle ≡ fds
without_none [] handle none = refl
without_none (slot ∷ fds) handle none = by (is_this handle slot) none (without_none fds handle)
  where
    by : (here : Bool) → (here || is_at_some fds handle) ≡ false → (is_at_some fds handle ≡ false → without_handle fds handle ≡ fds)
        → cond here None slot ∷ without_handle fds handle ≡ slot ∷ fds
    by true none h = absurd (true≢false none)
    by false none h = ap (λ fds. slot ∷ fds) (h none)

pub usable_closed : (held : List Handle) (fds : List (Option Handle)) (handle : Handle) → are_usable held fds ≡ true → is_at_some fds handle ≡ false → are_usable (without held handle) fds ≡ true
usable_closed held fds handle h none = subst (λ fds. are_usable (without held handle) fds ≡ true) (without_none fds handle none) (usable_without held fds handle h)

-- ---- what was lost may be closed

all_filtered : (p test : Handle → Bool) (handles : List Handle) → list_all p handles ≡ true → list_all p (filter test handles) ≡ true
all_filtered p test [] h = refl
all_filtered p test (handle ∷ handles) h = by (test handle) (all_filtered p test handles (right_of (p handle) _ h))
  where
    by : (b : Bool) → list_all p (filter test handles) ≡ true → list_all p (cond b (handle ∷ filter test handles) (filter test handles)) ≡ true
    by true rest = and_from _ _ (left_of (p handle) _ h) rest
    by false rest = rest

-- what is true of each of the world's handles that a number holds
given_pass : (p : Handle → Bool) (fds : List (Option Handle)) → ((j : ℕ) (x : Handle) → held_in fds j ≡ Some x → is_given x ≡ true → p x ≡ true) → list_all p (given_handles fds) ≡ true
given_pass p [] h = refl
given_pass p (None ∷ fds) h = given_pass p fds (λ j. h (suc j))
given_pass p (Some handle ∷ fds) h = by (is_given handle) refl (given_pass p fds (λ j. h (suc j)))
  where
    by : (given : Bool) → is_given handle ≡ given → list_all p (given_handles fds) ≡ true
        → list_all p (cond given (handle ∷ filter (λ other. not (is_same handle other)) (given_handles fds)) (given_handles fds)) ≡ true
    by true is rest = and_from _ _ (h 0 handle refl is) (all_filtered p (λ other. not (is_same handle other)) (given_handles fds) rest)
    by false is rest = rest

-- and so of each that was lost
lost_pass : (p : Handle → Bool) (before after : List (Option Handle)) (handle : Handle) → lost_handles before after ≡ handles_in (Some handle)
    → ((j : ℕ) (x : Handle) → held_in before j ≡ Some x → is_given x ≡ true → p x ≡ true) → p handle ≡ true
lost_pass p before after handle is h =
    left_of (p handle) true (subst (λ handles. list_all p handles ≡ true) is (all_filtered p (λ handle. not (is_at_some after handle)) (given_handles before) (given_pass p before h)))

-- the world holds it
pub lost_is_held : (held : List Handle) (before after : List (Option Handle)) (lost : Option Handle) → lost_handles before after ≡ handles_in lost → are_usable held before ≡ true → IfSome lost (λ handle. is_held held handle ≡ true)
lost_is_held held before after None is h = tt
lost_is_held held before after (Some handle) is h =
    lost_pass (is_held held) before after handle is (λ j x e given. held_if_given held x given (usable_handle held before j x e h))

-- some number did
lost_was_there : (before after : List (Option Handle)) (handle : Handle) → lost_handles before after ≡ handles_in (Some handle) → is_at_some before handle ≡ true
lost_was_there before after handle is = lost_pass (is_at_some before) before after handle is (λ j x e given. at_some before j x e)

passed : (test : Handle → Bool) (handles : List Handle) → list_all test (filter test handles) ≡ true
passed test [] = refl
passed test (handle ∷ handles) = by (test handle) refl (passed test handles)
  where
    by : (b : Bool) → test handle ≡ b → list_all test (filter test handles) ≡ true → list_all test (cond b (handle ∷ filter test handles) (filter test handles)) ≡ true
    by true is rest = and_from _ _ is rest
    by false is rest = rest

-- and no number does
pub lost_is_gone : (before after : List (Option Handle)) (lost : Option Handle) → lost_handles before after ≡ handles_in lost → IfSome lost (λ handle. is_at_some after handle ≡ false)
lost_is_gone before after None is = tt
lost_is_gone before after (Some handle) is =
    not-true _ (left_of (not (is_at_some after handle)) true
    (subst (λ handles. list_all (λ handle. not (is_at_some after handle)) handles ≡ true) is (passed (λ handle. not (is_at_some after handle)) (given_handles before))))

-- a handle that no number held stays usable where what was lost is closed
pub others_usable : (held : List Handle) (before after : List (Option Handle)) (lost : Option Handle) (other : Handle) → lost_handles before after ≡ handles_in lost
    → is_usable held other ≡ true → is_at_some before other ≡ false → is_usable (held_behind held lost) other ≡ true
others_usable held before after None other is h apart = h
others_usable held before after (Some handle) other is h apart = usable_without_one held handle other (by (is_same handle other) refl) h
  where
    by : (same : Bool) → is_same handle other ≡ same → is_same handle other ≡ false
    by false is = is
    by true same =
        let number : handle.number ≡ other.number = eqb-true handle.number other.number same in
        absurd (true≢false (sym (lost_was_there before after handle is) ∙ ap (λ n. is_at_some before (record { number = n })) number ∙ apart))

-- ---- numbers trade what they hold

pub usable_swapped : (held : List Handle) (fds : List (Option Handle)) (one other : ℕ) → are_usable held fds ≡ true → are_usable held (swapped fds one other) ≡ true
usable_swapped held fds one other h =
    usable_set held (set fds one (held_in fds other)) other (held_in fds one) (usable_set held fds one (held_in fds other) h (usable_at held fds other h)) (usable_at held fds one h)

pub usable_copied : (held : List Handle) (fds : List (Option Handle)) (to from : ℕ) → are_usable held fds ≡ true → are_usable held (copied fds to from) ≡ true
usable_copied held fds to from h = by (to == from)
  where
    by : (same : Bool) → are_usable held (cond same fds (set fds to (held_in fds from))) ≡ true
    by true = h
    by false = usable_set held fds to (held_in fds from) h (usable_at held fds from h)

pub usable_moved : (held : List Handle) (fds : List (Option Handle)) (to from : ℕ) → are_usable held fds ≡ true → are_usable held (moved fds to from) ≡ true
usable_moved held fds to from h = by (to == from)
  where
    by : (same : Bool) → are_usable held (cond same fds (set (set fds from None) to (held_in fds from))) ≡ true
    by true = h
    by false = usable_set held (set fds from None) to (held_in fds from) (usable_set held fds from None h refl) (usable_at held fds from h)

pub ruleset given = (usable_given, usable_answer)
