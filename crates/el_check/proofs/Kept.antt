-- Values that are put in an accepted script.
use Rattle.el_script.proofs.Vocabulary.{Scope, Tree, MeetsAll, KeepsStructure}
use Rattle.std.proofs.Common.{ℕ, ◌<◌, ◌^◌, List, length}
use Rattle.el_tree.proofs.Kept.{keeps-structure}
use Rattle.el_check.specs.declared.params.Params.{Params}
use Rattle.el_check.specs.declared.params.Params.TheVariants.{Subst}
use Rattle.el_check.specs.Scripts.{first_marks, first_scope, shifted_scope, IsAcceptedScript}
use Rattle.el_check.specs.ScopeLaws.{HasSmallLeast}
use Rattle.el_check.proofs.Scopes.{first-meets, shifted-meets}

pub values-keep : (params : Params) (script : List ℕ) (tree : Tree) (scope : Scope) → IsAcceptedScript params script tree → MeetsAll scope (first_marks params) → KeepsStructure scope tree
values-keep params script tree scope accepted meets = keeps-structure tree (first_marks params) scope accepted.accepted meets

pub arguments-keep : (params : Params) (script : List ℕ) (tree : Tree) (zero : List ℕ) (args : List (List ℕ)) → HasSmallLeast params → length args < 2 ^ 64 → IsAcceptedScript params script tree → KeepsStructure (first_scope params zero args) tree
arguments-keep params script tree zero args small few accepted = values-keep params script tree (first_scope params zero args) accepted (first-meets params zero args small few)

pub shifted-arguments-keep : (least : ℕ) (script : List ℕ) (tree : Tree) (zero : List ℕ) (args : List (List ℕ)) → least < 2 ^ 64 → length args < 2 ^ 64 → IsAcceptedScript (Subst least) script tree → KeepsStructure (shifted_scope least zero args) tree
shifted-arguments-keep least script tree zero args small few accepted = values-keep (Subst least) script tree (shifted_scope least zero args) accepted (shifted-meets zero args least small few)
