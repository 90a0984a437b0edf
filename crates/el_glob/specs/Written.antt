-- A pattern.
use Rattle.std.specs.Prelude.{Bool, List}
use Rattle.el_glob.specs.declared.part.Part.{Part}

-- whether it begins with `/`, and what stands between the other ones
pub record Written : Type 0 where
  pub rooted : Bool
  pub parts : List Part
