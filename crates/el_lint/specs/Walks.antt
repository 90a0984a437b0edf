-- A walk through a tree. Only the code's contracts need it.
use Rattle.el_script.specs.Vocabulary.{Token, Lexes, Tree, Places, Directives}
use Rattle.std.specs.Prelude.{◌≡◌, ℕ, ◌+◌, List, ◌++◌}
use Rattle.el_check.specs.declared.params.Params.{Params}
use Rattle.el_lint.specs.declared.lint.Lint.{Lint}
use Rattle.el_lint.specs.declared.finding.Finding.{Finding}
use Rattle.el_lint.specs.declared.context.Context.{Context}
use Rattle.el_lint.specs.declared.walk.Script.{Script}
use Rattle.el_lint.specs.declared.walk.Walk.{Walk}
use Rattle.el_lint.specs.KnownTold.{known_told}
use Rattle.el_lint.specs.Wholes.{Whole}
use Rattle.el_lint.specs.Findings.{found_from, tree_findings, places_findings, directives_findings, script_findings}

-- what the code holds of a whole script
abbrev pub whole_told : Script → Whole
whole_told script = record { tokens = script.tokens.now; used = script.used.now; risked = script.risked.now; allowances = script.allowances.now }

-- where a walk is, what is found in lints of what begins there
abbrev pub found_here : Script → Walk → List Lint → List Finding
found_here script walk lints = found_from (whole_told script) walk.at lints

-- in a tree that begins there
abbrev pub found_in_tree : Script → Walk → Context → Tree → List Finding
found_in_tree script walk context tree = tree_findings (whole_told script) walk.at context (known_told walk.known) tree

-- in places
abbrev pub found_in_places : Script → Walk → Context → Places → List Finding
found_in_places script walk context places = places_findings (whole_told script) walk.at context (known_told walk.known) places

-- in directives
abbrev pub found_in_directives : Script → Walk → Context → Directives → List Finding
found_in_directives script walk context directives = directives_findings (whole_told script) walk.at context (known_told walk.known) directives

-- what is found goes behind what was found, the walk is so many tokens on, and the same names are known
pub record Passes (old new : Walk) (found : List Finding) (tokens : ℕ) : Type 0 where
  pub findings : new.findings.items ≡ old.findings.items ++ found
  pub at : new.at ≡ old.at + tokens
  pub known : known_told new.known ≡ known_told old.known

-- a script with this tree reads as tokens, and these are the findings in it
pub record AreFoundIn (params : Params) (script : List ℕ) (tree : Tree) (findings : List Finding) : Type 0 where
  pub tokens : List Token
  pub lexes : Lexes script tokens
  pub are : findings ≡ script_findings params script tokens tree

-- the names begin with those that were known
pub record HasMore (old new : List (List ℕ)) : Type 0 where
  pub more : List (List ℕ)
  pub is : new ≡ old ++ more

-- the same, where further names may be known behind those that were known
pub record PassesChain (old new : Walk) (found : List Finding) (tokens : ℕ) : Type 0 where
  pub findings : new.findings.items ≡ old.findings.items ++ found
  pub at : new.at ≡ old.at + tokens
  pub names : HasMore old.known.names.items new.known.names.items
