-- Numbers at which a program must find a handle.
use Rattle.el_room.proofs.Vocabulary.{Prog, State, held_at, Read}
use Rattle.std.proofs.Common.{◌≡◌, ℕ, List, ◌∷◌, None, Contains, sym, arith}
use Rattle.el_machine.specs.Causes.{needed_numbers}
use Rattle.el_machine.proofs.Holds.{Now}

-- by what a program read, a number that it needs and that holds nothing is the cause
abbrev pub OnLack : Prog → Read → State → (cause : Now → Type 0) → Type 0
OnLack program read state cause = (number : ℕ) → Contains (needed_numbers program read) number → held_at state number ≡ None → (now : Now) → cause now

pub first_needed : (number first : ℕ) (rest : List ℕ) → number ≡ first → Contains (first ∷ rest) number
first_needed number first rest is = (0, omega arith, sym is)

pub second_needed : (number first second : ℕ) (rest : List ℕ) → number ≡ second → Contains (first ∷ second ∷ rest) number
second_needed number first second rest is = (1, omega arith, sym is)
