-- Values in words, reference by reference.
use Rattle.std.proofs.Common.{◌≡◌, ℕ, ◌%◌, ◌==◌, Bool, true, false, ◌&&◌, ◌||◌, List, [], ◌∷◌, sym, ap, ◌∙◌, append_assoc, append-nil}
use Rattle.el_subst.specs.References.{references_of}
use Rattle.el_lint.specs.Known.{Known, is_known}
use Rattle.el_lint.specs.Values.{takes_value}

module _ (known : Known) where
  -- a reference takes a value
  pub value-taken : (rest more : List ℕ) (slashes : ℕ) (key : List ℕ) (all : Bool) → references_of rest ≡ (slashes, key) ∷ references_of more → all ≡ takes_value known (references_of rest)
      → ((slashes % 2 == 0) && is_known known key) ≡ true → true ≡ all
  value-taken rest more slashes key all is left takes =
      sym (left ∙ ap (takes_value known) is ∙ ap (λ b. b || takes_value known (references_of more)) takes)

  -- or it doesn't, and those behind it are left
  pub value-passed : (rest more : List ℕ) (slashes : ℕ) (key : List ℕ) (all : Bool) → references_of rest ≡ (slashes, key) ∷ references_of more → all ≡ takes_value known (references_of rest)
      → ((slashes % 2 == 0) && is_known known key) ≡ false → all ≡ takes_value known (references_of more)
  value-passed rest more slashes key all is left passes = left ∙ ap (takes_value known) is ∙ ap (λ b. b || takes_value known (references_of more)) passes

  pub no-value : (rest : List ℕ) (all : Bool) → references_of rest ≡ [] → all ≡ takes_value known (references_of rest) → false ≡ all
  no-value rest all none left = sym (left ∙ ap (takes_value known) none)

pub ruleset valuing = (value-taken, value-passed, no-value, append_assoc, append-nil)
