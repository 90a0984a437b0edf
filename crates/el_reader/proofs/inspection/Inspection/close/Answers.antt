use Rattle.std.proofs.Common.{◌∙◌, sym, refl, ap₂, append-nil, arith}
use Rattle.std.proofs.lemmas.List.{nil_from_length}
use Rattle.el_reader.specs.Known.{level_closed}
use Rattle.el_reader.proofs.InspectionsGo.{closes-one, closes-nothing}
use Rattle.el_reader.proofs.inspection.Inspection.close.Goals as goal

pub returns-in_ok-close : goal.returns-in_ok-close
returns-in_ok-close c =
    closes-one c.args.self.now _ c.in-Some.outer c.requires
    (c.in_ok-close.ensures ∙ ap₂ level_closed c.replace-block.ensures.after c.replace-block.ensures.value)
    c.in-Some.ensures.items c.truncate.ensures refl

pub returns-in_default : goal.returns-in_default
returns-in_default c =
    let none = nil_from_length c.args.self.now.around.items (omega (arith, c.args.self.now.around.ok.0, c.in_default.ensures.cases.0)) in
    closes-nothing c.args.self.now _ none (sym (append-nil c.pop.new.self.items) ∙ sym c.in_default.ensures.items ∙ none) refl refl
