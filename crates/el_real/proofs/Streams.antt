-- Which stream stands behind which handle, after handles were given or closed.
use Rattle.std.proofs.Common.{◌≡◌, ℕ, ◌+◌, ◌<◌, ◌≤◌, Bool, true, false, cond, not, ◌&&◌, ◌==◌, nat_lt, List, [], ◌∷◌, ◌++◌, filter, find, Option, Some, None, option_map, refl, sym, ap, ◌∙◌, true≢false, arith, if◌then◌else◌}
use Rattle.std.specs.List.{list_all}
use Rattle.std.proofs.lemmas.Bool.{eqb-true}
use Rattle.el_words.proofs.Truths.{left_of, right_of}
use Rattle.el_world.specs.declared.event.Handle.{Handle}
use Rattle.el_world.specs.declared.event.PipeEnds.{PipeEnds}
use Rattle.el_real.specs.declared.stream.Held.{Held}
use Rattle.el_real.specs.declared.stream.Stream.{Stream}
use Rattle.el_real.specs.Held.{handles_of, stream_of, are_below}
use Rattle.el_real.specs.Streams.{StandsBehind, StandBehind, IsTakenOut}

abbrev stream : Held → Stream
stream one = one.stream

abbrev is_at : Handle → Held → Bool
is_at other one = one.handle.number == other.number

-- two numbers of which one lies below a bound and the other doesn't aren't both the same as a third
apart : (n m o bound : ℕ) → nat_lt n bound ≡ true → bound ≤ m → (n == o) ≡ true → (m == o) ≡ false
apart n m o bound below from same = let less : n < bound = grind (arith, below) in by (m == o) refl
  where
    by : (b : Bool) → (m == o) ≡ b → b ≡ false
    by true is =
        let first : n ≡ o = eqb-true n o same in let second : m ≡ o = eqb-true m o is in let less : n < bound = grind (arith, below) in absurd (omega (arith, first, second, less, from))
    by false is = refl

-- a choice that a further one in front leaves as it is
in_front : (b c : Bool) (one : Held) (xs ys : Option Held) (chosen : Option Stream) → (b ≡ true → c ≡ false)
    → option_map stream xs ≡ (if c then chosen else option_map stream ys)
    → option_map stream (cond b (Some one) xs) ≡ (if c then chosen else option_map stream (cond b (Some one) ys))
in_front true c one xs ys chosen other rest = rw (other refl) refl
in_front false c one xs ys chosen other rest = rest

-- one more stands behind its handle, if no handle before it has its number
pub stands-put : (held : List Held) (one : Held) (bound : ℕ) → bound ≤ one.handle.number → are_below bound held ≡ true → StandsBehind held (held ++ one ∷ []) one.handle one.stream
stands-put [] one bound from below other = by (one.handle.number == other.number)
  where
    by : (b : Bool) → option_map stream (cond b (Some one) None) ≡ (if b then Some one.stream else None)
    by true = refl
    by false = refl
stands-put (first ∷ held) one bound from below other =
    in_front (is_at other first) (one.handle.number == other.number) first (find (is_at other) (held ++ one ∷ [])) (find (is_at other) held) (Some one.stream)
    (apart first.handle.number one.handle.number other.number bound (left_of _ _ below) from)
    (stands-put held one bound from (right_of _ _ below) other)

-- two more stand behind theirs
pub stand-put : (old new : List Held) (ends : PipeEnds) (reader writer : Stream) (next : ℕ)
    → new ≡ (old ++ record { handle = ends.reader; stream = reader } ∷ []) ++ record { handle = ends.writer; stream = writer } ∷ []
    → ends.reader.number ≡ next → ends.writer.number ≡ next + 1 → are_below next old ≡ true
    → are_below (next + 1) (old ++ record { handle = ends.reader; stream = reader } ∷ []) ≡ true
    → StandBehind old new ends reader writer
stand-put old new ends reader writer next items first second below both other =
    let one : Held = record { handle = ends.reader; stream = reader } in
    let two : Held = record { handle = ends.writer; stream = writer } in
    ap (λ held. stream_of held other) items
    ∙ stands-put (old ++ one ∷ []) two (next + 1) (omega (arith, second)) both other
    ∙ by (ends.writer.number == other.number) refl (ends.reader.number == other.number) refl (stands-put old one next (omega (arith, first)) below other)
  where
    by : (w : Bool) → (ends.writer.number == other.number) ≡ w → (r : Bool) → (ends.reader.number == other.number) ≡ r
        → stream_of (old ++ record { handle = ends.reader; stream = reader } ∷ []) other ≡ (if r then Some reader else stream_of old other)
        → (if w then Some writer else stream_of (old ++ record { handle = ends.reader; stream = reader } ∷ []) other)
        ≡ (if r then Some reader else (if w then Some writer else stream_of old other))
    by true is true same rest =
        let one : ends.writer.number ≡ other.number = eqb-true _ _ is in let two : ends.reader.number ≡ other.number = eqb-true _ _ same in absurd (omega (arith, one, two, first, second))
    by true is false same rest = refl
    by false is true same rest = rest
    by false is false same rest = rest

-- two choices of which the second takes what is left out
left_out : (b c : Bool) (one : Held) (found : Option Stream) (ys : Option Held) → (b ≡ true → c ≡ true)
    → found ≡ (if c then None else option_map stream ys)
    → found ≡ (if c then None else option_map stream (cond b (Some one) ys))
left_out true c one found ys same rest = rest ∙ rw (same refl) refl
left_out false c one found ys same rest = rest

same_third : (n m o : ℕ) → (n == m) ≡ true → (n == o) ≡ true → (m == o) ≡ true
same_third n m o one two = let first : n ≡ m = eqb-true n m one in ap (λ k. k == o) (sym first) ∙ two

itself : (k : ℕ) → (k == k) ≡ true
itself k = grind arith

other_third : (n m o : ℕ) → (n == m) ≡ false → (n == o) ≡ true → (m == o) ≡ false
other_third n m o one two = by (m == o) refl
  where
    by : (b : Bool) → (m == o) ≡ b → b ≡ false
    by true is = let first : n ≡ o = eqb-true n o two in let second : m ≡ o = eqb-true m o is in absurd (true≢false (sym (itself m) ∙ ap (λ k. k == m) (second ∙ sym first) ∙ one))
    by false is = refl

-- behind a handle that was taken out nothing stands
pub taken-out : (held : List Held) (handle : Handle) → IsTakenOut held (filter (λ (one : Held). not (one.handle.number == handle.number)) held) handle
taken-out [] handle other = by (handle.number == other.number)
  where
    by : (c : Bool) → stream_of [] other ≡ (if c then None else stream_of [] other)
    by true = refl
    by false = refl
taken-out (first ∷ held) handle other = by (first.handle.number == handle.number) refl (taken-out held handle other)
  where
    left : List Held
    left = filter (λ (one : Held). not (one.handle.number == handle.number)) held

    by : (a : Bool) → (first.handle.number == handle.number) ≡ a
        → stream_of left other ≡ (if handle.number == other.number then None else stream_of held other)
        → stream_of (if not a then first ∷ left else left) other ≡ (if handle.number == other.number then None else stream_of (first ∷ held) other)
    by true is rest = left_out (is_at other first) (handle.number == other.number) first (stream_of left other) (find (is_at other) held)
        (same_third first.handle.number handle.number other.number is) rest
    by false is rest = in_front (is_at other first) (handle.number == other.number) first (find (is_at other) left) (find (is_at other) held) None
        (other_third first.handle.number handle.number other.number is) rest
