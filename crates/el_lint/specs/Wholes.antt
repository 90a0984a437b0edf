-- What is the same all over a script.
use Rattle.std.specs.Prelude.{ℕ, List}
use Rattle.el_lex.specs.declared.token.Token.{Token}
use Rattle.el_lint.specs.declared.allowance.Allowance.{Allowance}
use Rattle.el_lint.specs.Allowances.{allowances_of}
use Rattle.el_lint.specs.Keys.{keys_in, risked_in}

-- its tokens; the keys that its words refer to, and those of them that are risked; and its comments that allow lints
pub record Whole : Type 0 where
  pub tokens : List Token
  pub used : List (List ℕ)
  pub risked : List (List ℕ)
  pub allowances : List Allowance

-- that of a script with these tokens
abbrev pub whole_of : (script : List ℕ) → List Token → Whole
whole_of script tokens = record { tokens = tokens; used = keys_in tokens; risked = risked_in tokens; allowances = allowances_of script }
