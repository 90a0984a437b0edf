-- Which expressions are proper: they are what is read from their words.
use Rattle.std.specs.Prelude.{◌≡◌, ℕ, suc, true, List, [], ◌∷◌, ◌++◌, Option, None, Some}
use Rattle.el_test.specs.declared.operators.Binary.{Binary}
use Rattle.el_test.specs.declared.operators.Joiner.TheVariants.{And, Or, Close}
use Rattle.el_test.specs.Operators.{binary_named, operands_fit, joiner_text}
use Rattle.el_test.specs.Expressions.{Test, compared, applied, negated, grouped, Conjunction, only, both, Expression, alone, either, written_test, written_all, written_in}

-- the operator and the second operand of a comparison, and the words behind it
pub record Comparing : Type 0 where
  pub operator : Binary
  pub right : List ℕ
  pub behind : List (List ℕ)

abbrev pub comparing_by : Option Binary → (right : List ℕ) → (behind : List (List ℕ)) → Option Comparing
comparing_by None right behind = None
comparing_by (Some operator) right behind = Some (record { operator = operator; right = right; behind = behind })

-- the comparison that stands behind a first word: a binary operator and a third word
abbrev pub comparing : List (List ℕ) → Option Comparing
comparing (second ∷ third ∷ behind) = comparing_by (binary_named second) third behind
comparing _ = None

-- No `!`, `(` or unary operator is followed by a binary operator and a third word, also one behind the expression; operands
-- of comparisons on numbers are numbers; and at most so many `!` and `(` stand within one another.
abbrev mutual
  pub IsProperTest : (room : ℕ) → Test → (after : List (List ℕ)) → Type 0
  IsProperTest room (compared left operator right) after = operands_fit operator left right ≡ true
  IsProperTest room (applied operator text) after = comparing (text ∷ after) ≡ None
  IsProperTest Prim.Native.Nat.zero (negated test) after = ⊥
  IsProperTest (suc room) (negated test) after = (comparing (written_test test ++ after) ≡ None) × IsProperTest room test after
  IsProperTest Prim.Native.Nat.zero (grouped expression) after = ⊥
  IsProperTest (suc room) (grouped expression) after =
      (comparing (written_in expression ++ joiner_text Close ∷ after) ≡ None) × IsProperIn room expression (joiner_text Close ∷ after)

  pub AreProper : (room : ℕ) → Conjunction → (after : List (List ℕ)) → Type 0
  AreProper room (only test) after = IsProperTest room test after
  AreProper room (both test rest) after = IsProperTest room test (joiner_text And ∷ (written_all rest ++ after)) × AreProper room rest after

  pub IsProperIn : (room : ℕ) → Expression → (after : List (List ℕ)) → Type 0
  IsProperIn room (alone conjunction) after = AreProper room conjunction after
  IsProperIn room (either conjunction rest) after = AreProper room conjunction (joiner_text Or ∷ (written_in rest ++ after)) × IsProperIn room rest after

-- a whole expression: at most 255 deep, and nothing behind it
abbrev pub IsProper : Option Expression → Type 0
IsProper None = Unit {0}
IsProper (Some expression) = IsProperIn 255 expression []
