-- Which scripts are accepted, and the scope that they begin in.
use Rattle.el_script.specs.Vocabulary.{Token, Lexes, shapes_of, levels, positional_pairs, shifted_pairs, Scope, Tree, written, tokens_of, Member, positional_member, IsAccepted}
use Rattle.std.specs.Prelude.{◌≡◌, ◌≤◌, ℕ, List, [], ◌∷◌}
use Rattle.el_check.specs.declared.params.Params.{Params}
use Rattle.el_check.specs.declared.params.Params.TheVariants.{Frame, Leave, Subst}

-- the marks of a script's first scope: the positionals are put in its words, or nothing is
abbrev pub first_marks : Params → List Member
first_marks Frame = []
first_marks Leave = []
first_marks (Subst least) = positional_member ∷ []

-- the first scope itself, by the positionals: `0` and the arguments
abbrev pub first_scope : Params → (zero : List ℕ) → (args : List (List ℕ)) → Scope
first_scope Frame zero args = []
first_scope Leave zero args = []
first_scope (Subst least) zero args = positional_pairs zero args least ∷ []

-- The first scope where `@` leaves out the first `least` arguments. Its marks are those of `Subst least`.
abbrev pub shifted_scope : (least : ℕ) → (zero : List ℕ) → (args : List (List ℕ)) → Scope
shifted_scope least zero args = shifted_pairs zero args least ∷ []

-- the script isn't too long and reads as tokens, whose braces match within 255 levels; they are those of the tree, and it is accepted
-- under the first marks
pub record IsAcceptedScript (params : Params) (script : List ℕ) (tree : Tree) : Type 0 where
  pub tokens : List Token
  pub lexes : Lexes script tokens
  pub are_tokens : tokens_of tree ≡ shapes_of tokens
  pub within : levels (written tree) ≤ 255
  pub accepted : IsAccepted (first_marks params) tree
