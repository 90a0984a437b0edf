-- The world's handles among those that numbers hold.
use Rattle.std.proofs.Common.{◌≡◌, Bool, true, false, not, ◌==◌, cond, List, [], ◌∷◌, Option, Some, None, refl, sym, ap, subst, ◌∙◌, eqb-true, eq-eqb}
use Rattle.std.specs.Prelude.{filter, find, nat_le, slice_get}
use Rattle.std.specs.List.{filter_map}
use Rattle.el_world.specs.declared.event.Handle.{Handle}
use Rattle.el_proc.specs.Descriptors.{is_same, is_given, given_handles, without_handle, without_given}

module _ {A : Type 0} (p q : A → Bool) where
  -- two filters may change places
  pub filter-swap : (xs : List A) → filter p (filter q xs) ≡ filter q (filter p xs)
  filter-swap [] = refl
  filter-swap (x ∷ xs) = by (p x) (q x) refl refl (filter-swap xs)
    where
      by : (a b : Bool) → p x ≡ a → q x ≡ b → filter p (filter q xs) ≡ filter q (filter p xs) → filter p (cond (q x) (x ∷ filter q xs) (filter q xs)) ≡ filter q (cond (p x) (x ∷ filter p xs) (filter p xs))
      by true true e f h = simp (e, f) (ap (λ ys. x ∷ ys) h)
      by true false e f h = simp (e, f) h
      by false true e f h = simp (e, f) h
      by false false e f h = simp (e, f) h

  -- the same test a second time
  pub filter-again : ((x : A) → q x ≡ p x) → (xs : List A) → filter p (filter q xs) ≡ filter p xs
  filter-again same [] = refl
  filter-again same (x ∷ xs) = by (p x) refl (filter-again same xs)
    where
      by : (a : Bool) → p x ≡ a → filter p (filter q xs) ≡ filter p xs → filter p (cond (q x) (x ∷ filter q xs) (filter q xs)) ≡ cond (p x) (x ∷ filter p xs) (filter p xs)
      by true e h = rw (same x, e) (rw e (ap (λ ys. x ∷ ys) h))
      by false e h = rw (same x, e) h

-- the world's handles but this one
abbrev pub others_than : Handle → List Handle → List Handle
others_than handle handles = filter (λ other. not (is_same handle other)) handles

-- without a handle, the others are left
pub given_handles-without_handle : (handle : Handle) (fds : List (Option Handle)) → given_handles (without_handle fds handle) ≡ others_than handle (given_handles fds)
given_handles-without_handle handle [] = refl
given_handles-without_handle handle (None ∷ fds) = given_handles-without_handle handle fds
given_handles-without_handle handle (Some held ∷ fds) = by (is_same handle held) (is_given held) refl refl (given_handles-without_handle handle fds)
  where
    by : (same given : Bool) → is_same handle held ≡ same → is_given held ≡ given → given_handles (without_handle fds handle) ≡ others_than handle (given_handles fds)
        → given_handles ((cond (is_same handle held) None (Some held)) ∷ without_handle fds handle)
        ≡ others_than handle (cond (is_given held) (held ∷ others_than held (given_handles fds)) (given_handles fds))
    by true true e f h =
        let number : handle.number ≡ held.number = eqb-true handle.number held.number e in
        simp (e, f) ((h ∙ sym (filter-again (λ other. not (is_same handle other)) (λ other. not (is_same held other)) (λ other. ap (λ n. not (n == other.number)) (sym number)) (given_handles fds))))
    by true false e f h = rw (e, f) h
    by false true e f h =
        simp (e, f) ((ap (λ handles. held ∷ handles) (ap (others_than held) h ∙ filter-swap (λ other. not (is_same held other)) (λ other. not (is_same handle other)) (given_handles fds))))
    by false false e f h = rw (e, f) h

-- a handle of the process's own stays
pub without_given-without_handle : (handle : Handle) → is_given handle ≡ true → (fds : List (Option Handle)) → without_given (without_handle fds handle) ≡ without_given fds
without_given-without_handle handle given [] = refl
without_given-without_handle handle given (None ∷ fds) = ap (λ held. None ∷ held) (without_given-without_handle handle given fds)
without_given-without_handle handle given (Some held ∷ fds) = by (is_same handle held) refl (without_given-without_handle handle given fds)
  where
    by : (same : Bool) → is_same handle held ≡ same → without_given (without_handle fds handle) ≡ without_given fds
        → without_given ((cond (is_same handle held) None (Some held)) ∷ without_handle fds handle) ≡ (cond (is_given held) None (Some held)) ∷ without_given fds
    by true e h =
        let number : handle.number ≡ held.number = eqb-true handle.number held.number e in
        let own : is_given held ≡ true = ap (λ n. nat_le 3 n) (sym number) ∙ given in
        rw (e, own) (ap (λ rest. None ∷ rest) h)
    by false e h = rw e (ap (λ rest. (cond (is_given held) None (Some held)) ∷ rest) h)

-- the one at the lowest number comes first
pub lowest : (fds : List (Option Handle)) → find is_given (filter_map (λ held. held) fds) ≡ slice_get (given_handles fds) 0
lowest [] = refl
lowest (None ∷ fds) = lowest fds
lowest (Some held ∷ fds) = by (is_given held) refl (lowest fds)
  where
    by : (given : Bool) → is_given held ≡ given → find is_given (filter_map (λ held. held) fds) ≡ slice_get (given_handles fds) 0 → find is_given (held ∷ filter_map (λ held. held) fds) ≡ slice_get (cond (is_given held) (held ∷ others_than held (given_handles fds)) (given_handles fds)) 0
    by true e h = rw e refl
    by false e h = rw e h

-- behind the first one it doesn't come again
others_behind : (fds : List (Option Handle)) (handle : Handle) (rest : List Handle) → given_handles fds ≡ handle ∷ rest → others_than handle rest ≡ rest
others_behind [] handle rest e = absurd (cc)
others_behind (None ∷ fds) handle rest e = others_behind fds handle rest e
others_behind (Some held ∷ fds) handle rest e = by (is_given held) refl e (λ e. others_behind fds handle rest e)
  where
    by : (given : Bool) → is_given held ≡ given → cond (is_given held) (held ∷ others_than held (given_handles fds)) (given_handles fds) ≡ handle ∷ rest
        → (given_handles fds ≡ handle ∷ rest → others_than handle rest ≡ rest) → others_than handle rest ≡ rest
    by true is e h =
        let e : held ∷ others_than held (given_handles fds) ≡ handle ∷ rest = rw is at e in
        let same : held ≡ handle = cc in
        let behind : others_than held (given_handles fds) ≡ rest = cc in
        subst (λ rest. others_than handle rest ≡ rest) behind (filter-again' same)
      where
        filter-again' : held ≡ handle → others_than handle (others_than held (given_handles fds)) ≡ others_than held (given_handles fds)
        filter-again' same = subst (λ handle. others_than handle (others_than held (given_handles fds)) ≡ others_than held (given_handles fds)) same (filter-again (λ other. not (is_same held other)) (λ other. not (is_same held other)) (λ other. refl) (given_handles fds))
    by false is e h = h (rw is at e)

others-first : (handle : Handle) (rest : List Handle) → others_than handle (handle ∷ rest) ≡ others_than handle rest
others-first handle rest = rw (eq-eqb handle.number handle.number refl) refl

-- the lowest one is taken
pub given_taken : (fds : List (Option Handle)) (handle : Handle) → find is_given (filter_map (λ held. held) fds) ≡ Some handle → given_handles fds ≡ handle ∷ given_handles (without_handle fds handle)
given_taken fds handle is = by (given_handles fds) refl (sym (lowest fds) ∙ is)
  where
    by : (given : List Handle) → given_handles fds ≡ given → slice_get given 0 ≡ Some handle → given_handles fds ≡ handle ∷ given_handles (without_handle fds handle)
    by [] e first = absurd (cc)
    by (held ∷ rest) e first =
        let same : held ≡ handle = cc in
        let e : given_handles fds ≡ handle ∷ rest = e ∙ ap (λ held. held ∷ rest) same in
        e ∙ ap (λ rest. handle ∷ rest) (sym (given_handles-without_handle handle fds ∙ ap (others_than handle) e ∙ others-first handle rest ∙ others_behind fds handle rest e))

-- there is none
pub none_given : (fds : List (Option Handle)) → find is_given (filter_map (λ held. held) fds) ≡ None → given_handles fds ≡ []
none_given fds is = by (given_handles fds) (sym (lowest fds) ∙ is)
  where
    by : (given : List Handle) → slice_get given 0 ≡ None → given ≡ []
    by [] none = refl
    by (held ∷ rest) none = absurd (cc)

-- what was found is one of the world's
pub found_given : (handles : List Handle) (handle : Handle) → find is_given handles ≡ Some handle → is_given handle ≡ true
found_given [] handle is = absurd (cc)
found_given (held ∷ handles) handle is = by (is_given held) refl is (found_given handles handle)
  where
    by : (given : Bool) → is_given held ≡ given → cond (is_given held) (Some held) (find is_given handles) ≡ Some handle → (find is_given handles ≡ Some handle → is_given handle ≡ true) → is_given handle ≡ true
    by true e is h = let is : Some held ≡ Some handle = rw e at is in let same : held ≡ handle = cc in subst (λ handle. is_given handle ≡ true) same e
    by false e is h = h (rw e at is)

-- the process's own handles stay
pub own_stay : (fds : List (Option Handle)) (handle : Handle) → find is_given (filter_map (λ held. held) fds) ≡ Some handle → without_given (without_handle fds handle) ≡ without_given fds
own_stay fds handle is = without_given-without_handle handle (found_given (filter_map (λ held. held) fds) handle is) fds

pub ruleset given = (given_taken, none_given, own_stay)
