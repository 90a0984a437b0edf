use Rattle.el_room.proofs.Vocabulary.{is_good_name, memory_short, gives_then, follows_done, First, read_of, the_text, acting, acted}
use Rattle.std.proofs.Common.{◌≡◌, true, refl, rules}
use Rattle.el_vars.specs.Export.{export}
use Rattle.el_vars.proofs.programs.export.export.Goals as goal

pub returns-in_err-set : goal.returns-in_err-set
returns-in_err-set g c = acted (memory_short c.from_residual.ensures.1) c.requires

pub returns : goal.returns
unfolding acting export
returns g c =
    let good : is_good_name (the_text First (read_of c.args.front)) ≡ true = search rules in
    acted (rw (c.into_rest.ensures, c.in_ok-set.ensures, good) (gives_then _ _ (follows_done refl))) c.requires
