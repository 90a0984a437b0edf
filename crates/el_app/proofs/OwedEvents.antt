-- Calls in which each wait is for a process that is owed.
use Rattle.el_room.proofs.Vocabulary.{and_parts, not-true, Event, Start, Wait, Opened, Pipe, Feed, Write, Close, Enter, Ended, Fault, Pid}
use Rattle.std.proofs.Common.{◌≡◌, ℕ, suc, ◌+◌, ◌-◌, ◌<◌, ◌≤◌, Bool, true, false, not, ◌||◌, ◌==◌, if◌then◌else◌, List, [], ◌∷◌, ◌++◌, append_assoc, Result, Ok, Err, refl, sym, ap, ◌∙◌, subst, arith, eqb-true, true≢false}
use Rattle.el_world.specs.declared.event.Event.TheVariants.{Read}
use Rattle.el_app.specs.Waits.{started_by, waited_by, started_in, waited_in, times, is_among, are_distinct, WaitsAreDue, WaitsAreFirst}
use Rattle.el_app.proofs.Owed.{Owed, owed_after, AreOwed, more, less}

-- ---- numbers among processes

times-append : (one two : List Pid) (number : ℕ) → times (one ++ two) number ≡ times one number + times two number
times-append [] two number = omega arith
times-append (pid ∷ one) two number = by (pid.number == number) (times-append one two number)
  where
    by : (b : Bool) → times (one ++ two) number ≡ times one number + times two number → (if b then suc (times (one ++ two) number) else times (one ++ two) number) ≡ (if b then suc (times one number) else times one number) + times two number
    by true is = omega (arith, is)
    by false is = is

-- ---- one call

-- behind a call as much is owed as before, and what it started, without what it waited for
record Accounts (owed : Owed) (event : Event) (events : List Event) (number : ℕ) : Type 0 where
  pub rest : AreOwed (owed_after owed event) events
  pub same : owed_after owed event number + times (waited_by event) number ≡ owed number + times (started_by event) number

plain : (owed : Owed) (number : ℕ) → owed number + 0 ≡ owed number + 0
plain owed number = refl

starts-one : (owed : Owed) (pid : Pid) (number : ℕ) → more owed pid number + 0 ≡ owed number + times (pid ∷ []) number
starts-one owed pid number = by (pid.number == number)
  where
    by : (b : Bool) → (if b then suc (owed number) else owed number) + 0 ≡ owed number + (if b then 1 else 0)
    by true = omega arith
    by false = refl

waits-one : (owed : Owed) (pid : Pid) (number : ℕ) → 0 < owed pid.number → less owed pid number + times (pid ∷ []) number ≡ owed number + 0
waits-one owed pid number may = by (pid.number == number) refl
  where
    by : (b : Bool) → (pid.number == number) ≡ b → (if b then owed number - 1 else owed number) + (if b then 1 else 0) ≡ owed number + 0
    by true is = let here : 0 < owed number = subst (λ n. 0 < owed n) (eqb-true pid.number number is) may in omega (arith, here)
    by false apart = refl

accounts : (owed : Owed) (event : Event) (events : List Event) (number : ℕ) → AreOwed owed (event ∷ events) → Accounts owed event events number
accounts owed (Start words env dir streams (Ok pid)) events number h = record { rest = h; same = starts-one owed pid number }
accounts owed (Start words env dir streams (Err fault)) events number h = record { rest = h; same = plain owed number }
accounts owed (Wait pid answer) events number h = record { rest = h.1; same = waits-one owed pid number h.0 }
accounts owed (Opened dir path mode answer) events number h = record { rest = h; same = plain owed number }
accounts owed (Pipe answer) events number h = record { rest = h; same = plain owed number }
accounts owed (Feed bytes answer) events number h = record { rest = h; same = plain owed number }
accounts owed (Read handle answer) events number h = record { rest = h; same = plain owed number }
accounts owed (Write handle bytes answer) events number h = record { rest = h; same = plain owed number }
accounts owed (Close handle) events number h = record { rest = h; same = plain owed number }
accounts owed (Enter dir path answer) events number h = record { rest = h; same = plain owed number }

-- ---- many

due : (before behind : List Event) (pid : Pid) (answer : Result Ended Fault) (owed : Owed) → AreOwed owed (before ++ Wait pid answer ∷ behind)
    → times (waited_in before) pid.number < owed pid.number + times (started_in before) pid.number
due [] behind pid answer owed h = let may = h.0 in omega (arith, may)
due (event ∷ before) behind pid answer owed h =
    let first = accounts owed event (before ++ Wait pid answer ∷ behind) pid.number h in
    let rest = due before behind pid answer (owed_after owed event) first.rest in
    let waits = times-append (waited_by event) (waited_in before) pid.number in
    let starts = times-append (started_by event) (started_in before) pid.number in
    let same = first.same in
    omega (arith, rest, waits, starts, same)

-- where nothing is owed at first
pub are-due : (events : List Event) → AreOwed (λ number. 0) events → WaitsAreDue events
are-due events h = λ before behind pid answer is. let some = due before behind pid answer (λ number. 0) (subst (AreOwed (λ number. 0)) is h) in omega (arith, some)

-- ---- distinct processes

started-append : (one two : List Event) → started_in (one ++ two) ≡ started_in one ++ started_in two
started-append [] two = refl
started-append (event ∷ one) two = ap (λ pids. started_by event ++ pids) (started-append one two) ∙ sym (append_assoc (started_by event) (started_in one) (started_in two))

none-there : (pids : List Pid) (number : ℕ) → is_among pids number ≡ false → times pids number ≡ 0
none-there [] number none = refl
none-there (pid ∷ pids) number none = by (pid.number == number) none (none-there pids number)
  where
    by : (b : Bool) → (b || is_among pids number) ≡ false → (is_among pids number ≡ false → times pids number ≡ 0) → (if b then suc (times pids number) else times pids number) ≡ 0
    by true none rest = absurd (true≢false none)
    by false none rest = rest none

among-append : (one two : List Pid) (number : ℕ) → is_among (one ++ two) number ≡ false → is_among one number ≡ false
among-append [] two number none = refl
among-append (pid ∷ one) two number none = by (pid.number == number) none (among-append one two number)
  where
    by : (b : Bool) → (b || is_among (one ++ two) number) ≡ false → (is_among (one ++ two) number ≡ false → is_among one number ≡ false) → (b || is_among one number) ≡ false
    by true none rest = absurd (true≢false none)
    by false none rest = rest none

once : (one two : List Pid) (number : ℕ) → are_distinct (one ++ two) ≡ true → times one number ≤ 1
once [] two number distinct = omega arith
once (pid ∷ one) two number distinct =
    let both = and_parts (not (is_among (one ++ two) pid.number)) (are_distinct (one ++ two)) distinct in
    by (pid.number == number) refl (among-append one two pid.number (not-true _ both.0)) (once one two number both.1)
  where
    by : (b : Bool) → (pid.number == number) ≡ b → is_among one pid.number ≡ false → times one number ≤ 1 → (if b then suc (times one number) else times one number) ≤ 1
    by true is none rest = let zero = none-there one number (subst (λ n. is_among one n ≡ false) (eqb-true pid.number number is) none) in omega (arith, zero)
    by false apart none rest = rest

some-there : (pids : List Pid) (number : ℕ) → 0 < times pids number → is_among pids number ≡ true
some-there pids number some = by (is_among pids number) refl
  where
    by : (b : Bool) → is_among pids number ≡ b → b ≡ true
    by true is = refl
    by false none = let zero = none-there pids number none in absurd (omega (arith, zero, some))

zero-there : (pids : List Pid) (number : ℕ) → times pids number ≡ 0 → is_among pids number ≡ false
zero-there [] number zero = refl
zero-there (pid ∷ pids) number zero = by (pid.number == number) zero (zero-there pids number)
  where
    by : (b : Bool) → (if b then suc (times pids number) else times pids number) ≡ 0 → (times pids number ≡ 0 → is_among pids number ≡ false) → (b || is_among pids number) ≡ false
    by true zero rest = absurd (omega (arith, zero))
    by false zero rest = rest zero

pub are-first : (events : List Event) → WaitsAreDue events → WaitsAreFirst events
are-first events are distinct before behind pid answer is =
    let less = are before behind pid answer is in
    let all = ap started_in is ∙ started-append before (Wait pid answer ∷ behind) in
    let most = once (started_in before) (started_in (Wait pid answer ∷ behind)) pid.number (sym (ap are_distinct all) ∙ distinct) in
    (some-there (started_in before) pid.number (omega (arith, less)), zero-there (waited_in before) pid.number (omega (arith, less, most)))
