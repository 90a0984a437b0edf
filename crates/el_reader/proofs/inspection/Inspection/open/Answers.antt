use Rattle.std.proofs.Common.{◌∙◌, ap}
use Rattle.el_reader.specs.declared.level.Level.{Level}
use Rattle.el_reader.specs.Inspections.{scoped_told}
use Rattle.el_reader.proofs.InspectionsGo.{open-goes}
use Rattle.el_reader.proofs.inspection.Inspection.open.Goals as goal

pub returns : goal.returns
returns c =
    let outside = ap (λ (level : Level). scoped_told level c.command.new.scope) c.replace.ensures.value ∙ c.in_ok-command.ensures.goes in
    open-goes c.args.self.now _ (record { level = c.replace.result; members = c.len.result }) c.args.role c.requires outside
    (c.replace.ensures.after ∙ c.inside.ensures) c.in_ok-command.ensures.more c.len.ensures c.in_ok-push.ensures.items
