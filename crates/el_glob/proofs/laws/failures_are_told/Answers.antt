use Rattle.std.proofs.Common.{[], ◌∷◌}
use Rattle.el_glob.specs.Listings.{start_path}
use Rattle.el_glob.proofs.Faults.{told-from}
use Rattle.el_glob.proofs.laws.failures_are_told.Goals as goal

pub returns : goal.returns
returns c = λ dir pattern answers. told-from dir pattern.parts (start_path pattern.rooted ∷ []) answers
