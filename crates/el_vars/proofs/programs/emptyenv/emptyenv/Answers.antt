use Rattle.el_room.proofs.Vocabulary.{memory_short, gives_then, follows_done, acting, acted}
use Rattle.std.proofs.Common.{refl}
use Rattle.el_vars.specs.Emptyenv.{emptyenv}
use Rattle.el_vars.proofs.programs.emptyenv.emptyenv.Goals as goal

pub returns-in_err-empty : goal.returns-in_err-empty
returns-in_err-empty g c = acted (memory_short c.from_residual.ensures.1) c.requires

pub returns : goal.returns
unfolding acting emptyenv
returns g c = acted (rw (c.into_rest.ensures, c.in_ok-empty.ensures) (gives_then _ _ (follows_done refl))) c.requires
