use Rattle.el_room.proofs.Vocabulary.{Import, read_of, directive_told}
use Rattle.std.proofs.Common.{◌≡◌, [], ◌∷◌, map, refl, ap, ◌∙◌}
use Rattle.el_vars.specs.Import.{as_importas, import}
use Rattle.el_vars.proofs.Stepping.{put_acts}
use Rattle.el_vars.proofs.programs.import.import_var.Goals as goal

pub returns : goal.returns
unfolding import
returns g c =
    let own = as_importas (read_of c.args.front) in
    let same : map directive_told c.from_ref.result.now ≡ own ∷ [] = ap (map directive_told) c.from_ref.ensures.value ∙ ap (λ directive. directive ∷ []) c.in_ok-directive.ensures.directive in
    put_acts Import (own ∷ []) refl (rw (c.in_ok-directive.ensures.rest, same) at c.put_values.ensures.run) c.put_values.ensures.usable
