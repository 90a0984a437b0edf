-- The positional variables: `0`, `1` and so on, and their number `#`.
use Rattle.std.specs.Prelude.{◌≡◌, ℕ, suc, ◌<◌, List, [], ◌∷◌, ◌⊎◌, Option, None, Some, option_map, length, slice_get, codes}
use Rattle.std.specs.Option.{option_and_then}
use Rattle.std.specs.Fmt.{decimal}
use Rattle.std.specs.FinMap as finite
use Rattle.el_words.specs.Number.{number_of}
use Rattle.el_env.specs.Vars.{Vars}

-- the arguments as variables, numbered from n
abbrev pub with_numbered : ℕ → List (List ℕ) → Vars → Vars
with_numbered n [] vars = vars
with_numbered n (arg ∷ args) vars = with_numbered (suc n) args (finite.insert vars (decimal n) arg)

-- the variables with these positionals set
abbrev pub with_positionals : (zero : List ℕ) → (args : List (List ℕ)) → Vars → Vars
with_positionals zero args vars = finite.insert (with_numbered 1 args (finite.insert vars (codes "0") zero)) (codes "#") (decimal (length args))

-- a name of the positionals that are as many as count: `#`, `0`, or a number from 1 to count
abbrev pub IsPositional : ℕ → List ℕ → Type 0
IsPositional count name = (name ≡ codes "#") ⊎ (name ≡ codes "0") ⊎ ((i : ℕ) × (i < count) × (name ≡ decimal (suc i)))

-- the positionals that are set: `#` is the number of the arguments, and each of them has its variable
pub record ArePositionals (vars : Vars) (zero : List ℕ) (args : List (List ℕ)) : Type 0 where
  pub count : List ℕ
  pub count_is_set : finite.get vars (codes "#") ≡ Some count
  pub is_count : number_of count ≡ Some (length args)
  pub zero_is_set : finite.get vars (codes "0") ≡ Some zero
  pub are_set : (i : ℕ) → i < length args → finite.get vars (decimal (suc i)) ≡ slice_get args i

-- there are none: `#` is no number, or one of them isn't set
abbrev pub NoPositionals : Vars → Type 0
NoPositionals vars = (zero : List ℕ) (args : List (List ℕ)) → ArePositionals vars zero args → ⊥

-- the number that `#` writes
abbrev pub count_of : Vars → Option ℕ
count_of vars = option_and_then number_of (finite.get vars (codes "#"))

-- an argument in front of the others
abbrev pub with_argument : Option (List ℕ) → Option (List (List ℕ)) → Option (List (List ℕ))
with_argument None args = None
with_argument (Some arg) args = option_map (λ others. arg ∷ others) args

-- so many arguments, numbered from n, where each of them is set
abbrev pub numbered_of : (count : ℕ) → ℕ → Vars → Option (List (List ℕ))
numbered_of Prim.Native.Nat.zero n vars = Some []
numbered_of (suc count) n vars = with_argument (finite.get vars (decimal n)) (numbered_of count (suc n) vars)

-- the zeroth and the arguments, where there is a count and a zeroth
abbrev pub positionals_counted : Option ℕ → Option (List ℕ) → Vars → Option (List ℕ × List (List ℕ))
positionals_counted None zero vars = None
positionals_counted (Some count) None vars = None
positionals_counted (Some count) (Some zero) vars = option_map (λ args. (zero, args)) (numbered_of count 1 vars)

-- the positionals that are set, as a value
abbrev pub positionals_of : Vars → Option (List ℕ × List (List ℕ))
positionals_of vars = positionals_counted (count_of vars) (finite.get vars (codes "0")) vars
