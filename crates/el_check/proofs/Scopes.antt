-- The first scope of a script.
use Rattle.el_script.proofs.Vocabulary.{positional_pairs, shifted_pairs, positional_member, MeetsAll, fit-meets, positional-fit}
use Rattle.std.proofs.Common.{ℕ, ◌^◌, ◌<◌, List, length, drop}
use Rattle.el_check.specs.declared.params.Params.{Params}
use Rattle.el_check.specs.declared.params.Params.TheVariants.{Frame, Leave, Subst}
use Rattle.el_check.specs.Scripts.{first_marks, first_scope, shifted_scope}
use Rattle.el_check.specs.ScopeLaws.{HasSmallLeast}

pub first-meets : (params : Params) (zero : List ℕ) (args : List (List ℕ)) → HasSmallLeast params → length args < 2 ^ 64 → MeetsAll (first_scope params zero args) (first_marks params)
first-meets Frame zero args small few = tt
first-meets Leave zero args small few = tt
first-meets (Subst least) zero args small few = (fit-meets positional_member (positional_pairs zero args least) (positional-fit zero args least args few small), tt)

pub shifted-meets : (zero : List ℕ) (args : List (List ℕ)) (least : ℕ) → least < 2 ^ 64 → length args < 2 ^ 64 → MeetsAll (shifted_scope least zero args) (first_marks (Subst least))
shifted-meets zero args least small few = (fit-meets positional_member (shifted_pairs zero args least) (positional-fit zero args least (drop least args) few small), tt)
