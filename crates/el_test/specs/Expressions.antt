-- Expressions as trees, and how they are written.
use Rattle.std.specs.Prelude.{ℕ, List, [], ◌∷◌, ◌++◌, Option, None, Some}
use Rattle.el_test.specs.declared.operators.Unary.{Unary}
use Rattle.el_test.specs.declared.operators.Binary.{Binary}
use Rattle.el_test.specs.declared.operators.Prefix.TheVariants.{Not, Open, On}
use Rattle.el_test.specs.declared.operators.Joiner.TheVariants.{And, Or, Close}
use Rattle.el_test.specs.Operators.{binary_text, prefix_text, joiner_text}

mutual
  -- a comparison; an operator on one word; `!` before a test; an expression in parentheses
  pub data Test : Type 0 where
    compared : (left : List ℕ) → (operator : Binary) → (right : List ℕ) → Test
    applied : (operator : Unary) → (text : List ℕ) → Test
    negated : Test → Test
    grouped : Expression → Test

  -- tests joined by `-a`
  pub data Conjunction : Type 0 where
    only : Test → Conjunction
    both : Test → Conjunction → Conjunction

  -- conjunctions joined by `-o`
  pub data Expression : Type 0 where
    alone : Conjunction → Expression
    either : Conjunction → Expression → Expression

-- the words of an expression
abbrev mutual
  pub written_test : Test → List (List ℕ)
  written_test (compared left operator right) = left ∷ binary_text operator ∷ right ∷ []
  written_test (applied operator text) = prefix_text (On operator) ∷ text ∷ []
  written_test (negated test) = prefix_text Not ∷ written_test test
  written_test (grouped expression) = prefix_text Open ∷ (written_in expression ++ joiner_text Close ∷ [])

  pub written_all : Conjunction → List (List ℕ)
  written_all (only test) = written_test test
  written_all (both test rest) = written_test test ++ joiner_text And ∷ written_all rest

  pub written_in : Expression → List (List ℕ)
  written_in (alone conjunction) = written_all conjunction
  written_in (either conjunction rest) = written_all conjunction ++ joiner_text Or ∷ written_in rest

-- no words at all are an expression too
abbrev pub written : Option Expression → List (List ℕ)
written None = []
written (Some expression) = written_in expression
