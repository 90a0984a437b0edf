-- Processes that a state or a loop keeps, each of which is owed.
use Rattle.el_room.proofs.Vocabulary.{Pid, State, is_kid, without_pid, kids_with, Way, onward, under, into}
use Rattle.el_machine.proofs.Vocabulary.{Turn, Over, Pending}
use Rattle.std.proofs.Common.{◌≡◌, ℕ, suc, ◌+◌, ◌-◌, ◌<◌, ◌≤◌, Bool, true, false, ◌||◌, ◌==◌, if◌then◌else◌, List, [], ◌∷◌, ◌++◌, Option, None, Some, refl, sym, ap, subst, arith, eqb-true}
use Rattle.el_app.specs.Waits.{times}
use Rattle.el_app.proofs.Owed.{Owed, more, less, same-number}

-- ---- kids

-- each is owed, as often as it stands there
pub record AreKids (kids : List Pid) (owed : Owed) : Type 0 where
  pub within : (number : ℕ) → times kids number ≤ owed number

pub no_kids : AreKids [] (λ number. 0)
no_kids = record { within = λ number. omega arith }

times-last : (kids : List Pid) (pid : Pid) (number : ℕ) → times (kids ++ pid ∷ []) number ≡ (if pid.number == number then suc (times kids number) else times kids number)
times-last [] pid number = refl
times-last (kid ∷ kids) pid number = by (kid.number == number) (pid.number == number) (times-last kids pid number)
  where
    by : (one other : Bool) → times (kids ++ pid ∷ []) number ≡ (if other then suc (times kids number) else times kids number)
        → (if one then suc (times (kids ++ pid ∷ []) number) else times (kids ++ pid ∷ []) number) ≡ (if other then suc (if one then suc (times kids number) else times kids number) else (if one then suc (times kids number) else times kids number))
    by true true rest = ap suc rest
    by true false rest = ap suc rest
    by false true rest = rest
    by false false rest = rest

pub one_more : {kids : List Pid} {owed : Owed} (pid : Pid) → AreKids kids owed → AreKids (kids ++ pid ∷ []) (more owed pid)
one_more {kids} {owed} pid h = record { within = λ number. subst (λ n. n ≤ more owed pid number) (sym (times-last kids pid number)) (by number (pid.number == number) (h.within number)) }
  where
    by : (number : ℕ) (b : Bool) → times kids number ≤ owed number → (if b then suc (times kids number) else times kids number) ≤ (if b then suc (owed number) else owed number)
    by number true le = omega (arith, le)
    by number false le = le

-- one that joins, where there is one
abbrev pub more_by : Owed → Option Pid → Owed
more_by owed None = owed
more_by owed (Some pid) = more owed pid

pub joined : {kids : List Pid} {owed : Owed} (kid : Option Pid) → AreKids kids owed → AreKids (kids_with kids kid) (more_by owed kid)
joined None h = h
joined (Some pid) h = one_more pid h

-- a kid is owed
kid-there : (kids : List Pid) (number : ℕ) → is_kid kids number ≡ true → 0 < times kids number
kid-there [] number is = absurd (cc)
kid-there (kid ∷ kids) number is = by (kid.number == number) is (kid-there kids number)
  where
    by : (b : Bool) → (b || is_kid kids number) ≡ true → (is_kid kids number ≡ true → 0 < times kids number) → 0 < (if b then suc (times kids number) else times kids number)
    by true is rest = omega arith
    by false is rest = rest is

pub kid-owed : {kids : List Pid} {owed : Owed} (number : ℕ) → AreKids kids owed → is_kid kids number ≡ true → 0 < owed number
kid-owed {kids} {owed} number h is = let there = kid-there kids number is in let within = h.within number in omega (arith, there, within)

times-without : (kids : List Pid) (gone number : ℕ) → times (without_pid kids gone) number ≡ (if gone == number then times kids number - 1 else times kids number)
times-without [] gone number = by (gone == number)
  where
    by : (b : Bool) → 0 ≡ (if b then 0 - 1 else 0)
    by true = refl
    by false = refl
times-without (kid ∷ kids) gone number = by (kid.number == gone) refl (times-without kids gone number)
  where
    same : (b : Bool) → times kids number ≡ (if b then (if b then suc (times kids number) else times kids number) - 1 else (if b then suc (times kids number) else times kids number))
    same true = omega arith
    same false = refl

    other : (one gone_too : Bool) → (one ≡ true → gone_too ≡ true → ⊥) → times (without_pid kids gone) number ≡ (if gone_too then times kids number - 1 else times kids number)
        → (if one then suc (times (without_pid kids gone) number) else times (without_pid kids gone) number) ≡ (if gone_too then (if one then suc (times kids number) else times kids number) - 1 else (if one then suc (times kids number) else times kids number))
    other true true never rest = absurd (never refl refl)
    other true false never rest = ap suc rest
    other false true never rest = rest
    other false false never rest = rest

    by : (b : Bool) → (kid.number == gone) ≡ b → times (without_pid kids gone) number ≡ (if gone == number then times kids number - 1 else times kids number)
        → times (if b then kids else kid ∷ without_pid kids gone) number ≡ (if gone == number then times (kid ∷ kids) number - 1 else times (kid ∷ kids) number)
    by true is rest = subst (λ n. times kids number ≡ (if n == number then times (kid ∷ kids) number - 1 else times (kid ∷ kids) number)) (eqb-true kid.number gone is) (same (kid.number == number))
    by false apart rest = other (kid.number == number) (gone == number) never rest
      where
        never : (kid.number == number) ≡ true → (gone == number) ≡ true → ⊥
        never one two = grind (arith, apart, one, two)

pub one_less : {kids : List Pid} {owed : Owed} (gone : Pid) → AreKids kids owed → AreKids (without_pid kids gone.number) (less owed gone)
one_less {kids} {owed} gone h = record { within = λ number. subst (λ n. n ≤ less owed gone number) (sym (times-without kids gone.number number)) (by number (gone.number == number) (h.within number)) }
  where
    by : (number : ℕ) (b : Bool) → times kids number ≤ owed number → (if b then times kids number - 1 else times kids number) ≤ (if b then owed number - 1 else owed number)
    by number true le = omega (arith, le)
    by number false le = le

-- ---- a way to go on

-- its state
abbrev pub state_in : Way → State
state_in (onward state) = state
state_in (under pairs state) = state
state_in (into block state) = state

-- its kids are owed
abbrev pub KeepsKids : Way → Owed → Type 0
KeepsKids way owed = AreKids (state_in way).kids owed

-- ---- turns

-- how often a turn that may still run has this number
abbrev pub turn_times : Turn → (number : ℕ) → ℕ
turn_times (Over code) number = 0
turn_times (Pending pid) number = if pid.number == number then 1 else 0

abbrev pub pending : List Turn → (number : ℕ) → ℕ
pending [] number = 0
pending (turn ∷ made) number = turn_times turn number + pending made number

-- those that may still run are owed, besides what else is
pub record AreTurns (base : Owed) (made : List Turn) (owed : Owed) : Type 0 where
  pub within : (number : ℕ) → base number + pending made number ≤ owed number

pending-last : (made : List Turn) (turn : Turn) (number : ℕ) → pending (made ++ turn ∷ []) number ≡ turn_times turn number + pending made number
pending-last [] turn number = refl
pending-last (first ∷ made) turn number = let rest = pending-last made turn number in omega (arith, rest)

pub turn_last : {base : Owed} {made : List Turn} {owed : Owed} (turn : Turn) → AreTurns base (turn ∷ made) owed → AreTurns base (made ++ turn ∷ []) owed
turn_last {base} {made} {owed} turn h = record { within = λ number. let same = pending-last made turn number in let le = h.within number in omega (arith, same, le) }

pub turn_over : {base : Owed} {made : List Turn} {owed : Owed} (code : ℕ) → AreTurns base made owed → AreTurns base (Over code ∷ made) owed
turn_over code h = record { within = λ number. let le = h.within number in omega (arith, le) }

pub turn_ended : {base : Owed} {made : List Turn} {owed : Owed} (code : ℕ) → AreTurns base (Over code ∷ made) owed → AreTurns base made owed
turn_ended code h = record { within = λ number. let le = h.within number in omega (arith, le) }

pub turn_more : {base : Owed} {made : List Turn} {owed : Owed} (pid : Pid) → AreTurns base made owed → AreTurns base (Pending pid ∷ made) (more owed pid)
turn_more {base} {made} {owed} pid h = record { within = λ number. by number (pid.number == number) (h.within number) }
  where
    by : (number : ℕ) (b : Bool) → base number + pending made number ≤ owed number → base number + ((if b then 1 else 0) + pending made number) ≤ (if b then suc (owed number) else owed number)
    by number true le = omega (arith, le)
    by number false le = omega (arith, le)

pub turn_less : {base : Owed} {made : List Turn} {owed : Owed} (pid : Pid) → AreTurns base (Pending pid ∷ made) owed → AreTurns base made (less owed pid)
turn_less {base} {made} {owed} pid h = record { within = λ number. by number (pid.number == number) (h.within number) }
  where
    by : (number : ℕ) (b : Bool) → base number + ((if b then 1 else 0) + pending made number) ≤ owed number → base number + pending made number ≤ (if b then owed number - 1 else owed number)
    by number true le = omega (arith, le)
    by number false le = omega (arith, le)

-- a turn that may still run is owed
pub turn-owed : {base : Owed} {made : List Turn} {owed : Owed} (pid : Pid) → AreTurns base (Pending pid ∷ made) owed → 0 < owed pid.number
turn-owed {base} {made} {owed} pid h = by (pid.number == pid.number) (same-number pid.number) (h.within pid.number)
  where
    by : (b : Bool) → b ≡ true → base pid.number + ((if b then 1 else 0) + pending made pid.number) ≤ owed pid.number → 0 < owed pid.number
    by true is le = omega (arith, le)
    by false is le = absurd (cc)

-- ---- one process besides the turns

-- nothing is owed
abbrev pub none : Owed
none number = 0

pub no_more : {owed : Owed} → AreTurns none [] owed
no_more = record { within = λ number. omega arith }

-- it is owed while there are turns
pub one_kept : (owed : Owed) (pid : Pid) → AreTurns (more none pid) [] (more owed pid)
one_kept owed pid = record { within = λ number. by number (pid.number == number) }
  where
    by : (number : ℕ) (b : Bool) → (if b then 1 else 0) + 0 ≤ (if b then suc (owed number) else owed number)
    by number true = omega arith
    by number false = omega arith

-- behind them it counts as one
pub kept_turn : {made : List Turn} {owed : Owed} (pid : Pid) → AreTurns (more none pid) made owed → AreTurns none (Pending pid ∷ made) owed
kept_turn {made} {owed} pid h = record { within = λ number. by number (pid.number == number) (h.within number) }
  where
    by : (number : ℕ) (b : Bool) → (if b then 1 else 0) + pending made number ≤ owed number → 0 + ((if b then 1 else 0) + pending made number) ≤ owed number
    by number true le = omega (arith, le)
    by number false le = omega (arith, le)
