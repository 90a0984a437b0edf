-- Which keys are good, and the pairs of positional parameters.
use Rattle.std.specs.Prelude.{ℕ, suc, ◌-◌, ◌||◌, ◌==◌, Bool, false, not, List, [], ◌∷◌, ◌++◌, length, codes, drop}
use Rattle.std.specs.List.{list_any}
use Rattle.std.specs.Fmt.{decimal}
use Rattle.el_subst.specs.Values.{Pairs}

-- a key is not empty, and holds neither `$` (36) nor `}` (125)
abbrev pub is_good_key : List ℕ → Bool
is_good_key [] = false
is_good_key (byte ∷ bytes) = not (list_any (λ other. (other == 36) || (other == 125)) (byte ∷ bytes))

-- the arguments numbered from n, and empty words up to so many more
abbrev pub numbered : (n more : ℕ) → List (List ℕ) → Pairs
numbered n Prim.Native.Nat.zero [] = []
numbered n (suc more) [] = (decimal n, [] ∷ []) ∷ numbered (suc n) more []
numbered n more (arg ∷ args) = (decimal n, arg ∷ []) ∷ numbered (suc n) more args

-- `#`, `0`, `1` to the greater of the number of arguments and the least, and `@` for these words
abbrev pub numbered_pairs : (zero : List ℕ) → (args : List (List ℕ)) → (least : ℕ) → (all : List (List ℕ)) → Pairs
numbered_pairs zero args least all =
    (codes "#", decimal (length args) ∷ []) ∷ (codes "0", zero ∷ []) ∷ (numbered 1 (least - length args) args ++ (codes "@", all) ∷ [])

-- `@` is all arguments
abbrev pub positional_pairs : (zero : List ℕ) → (args : List (List ℕ)) → (least : ℕ) → Pairs
positional_pairs zero args least = numbered_pairs zero args least args

-- `@` is the arguments behind the first `least`
abbrev pub shifted_pairs : (zero : List ℕ) → (args : List (List ℕ)) → (least : ℕ) → Pairs
shifted_pairs zero args least = numbered_pairs zero args least (drop least args)
