-- What holds of accepted trees and the values that are put in them.
use Rattle.std.specs.Prelude.{◌≡◌, ℕ, true, false, List, [], ◌∷◌}
use Rattle.el_subst.specs.Parts.{parts_of}
use Rattle.el_subst.specs.Scopes.{Scope, scope_value, put_in_scope}
use Rattle.el_tree.specs.Trees.{Tree, written}
use Rattle.el_tree.specs.WellFormed.{IsFormed}
use Rattle.el_tree.specs.Marks.{Member, MeetsAll, IsSingle, keeps_one}
use Rattle.el_tree.specs.Accepted.{KeepsWords, IsAccepted}
use Rattle.el_tree.specs.Settled.{settled}

-- a word that passes the test of a fixed place has exactly one word in every scope that meets the marks
abbrev pub FixedPlacesStay : Type 0
FixedPlacesStay = (scope : Scope) (members : List Member) (text : List ℕ) → MeetsAll scope members → keeps_one false members (parts_of text) ≡ true → IsSingle (scope_value scope (text ∷ []))

-- Values change no structure: they leave the tree's programs, option words and names, with one word at each place that has one. That
-- tree is formed and keeps its words under the marks of its own programs alone; its commands may be any words.
pub record KeepsStructure (scope : Scope) (tree : Tree) : Type 0 where
  pub are_values : put_in_scope scope (written tree) ≡ written (settled scope tree)
  pub formed : IsFormed (settled scope tree)
  pub keeps : KeepsWords (settled scope tree) []

-- in every scope that meets the marks, values keep the structure of an accepted tree
abbrev pub ValuesKeepStructure : Type 0
ValuesKeepStructure = (tree : Tree) (members : List Member) (scope : Scope) → IsAccepted members tree → MeetsAll scope members → KeepsStructure scope tree
