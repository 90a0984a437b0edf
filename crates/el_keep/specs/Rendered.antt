-- What is written between two words, by the bytes of the script there. Only the code's contracts need it.
use Rattle.std.specs.Prelude.{ℕ, Bool, true, false, ◌==◌, List, [], ◌∷◌, ◌++◌, if◌then◌else◌}
use Rattle.el_keep.specs.declared.seam.Seam.{Seam}
use Rattle.el_keep.specs.declared.seam.Follow.{Follow}
use Rattle.el_keep.specs.declared.distance.Distance.{Distance}
use Rattle.el_keep.specs.declared.distance.Distance.TheVariants.{SameLine, BehindComment}
use Rattle.el_keep.specs.Seams.{further, broken, lead, last}

-- between comments, or in one: hash (35), newline (10)
abbrev pub rendered_in : (comment : Bool) → Seam → Follow → Distance → (gap : List ℕ) → List ℕ
rendered_in comment seam follow distance [] = last seam follow distance
rendered_in true seam follow distance (byte ∷ gap) =
    if byte == 10 then rendered_in false seam follow (further distance byte) gap else byte ∷ rendered_in true seam follow distance gap
rendered_in false seam follow distance (byte ∷ gap) =
    if byte == 35 then lead seam follow distance ++ (35 ∷ rendered_in true (broken seam) follow BehindComment gap) else rendered_in false seam follow (further distance byte) gap

-- a whole gap
abbrev pub rendered : Seam → Follow → (gap : List ℕ) → List ℕ
rendered seam follow gap = rendered_in false seam follow SameLine gap
