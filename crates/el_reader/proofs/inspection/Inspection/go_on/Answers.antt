use Rattle.el_script.proofs.Vocabulary.{on_ok_weaker, Token}
use Rattle.std.proofs.Common.{refl, sym, subst, OnOk}
use Rattle.el_blocks.specs.Tokens.{shape_of}
use Rattle.el_reader.specs.Inspections.{Goes}
use Rattle.el_reader.proofs.InspectionsGo.{word-goes}
use Rattle.el_reader.proofs.inspection.Inspection.go_on.Goals as goal

pub returns-in-Word : goal.returns-in-Word
returns-in-Word c =
    let new = record c.args.self.now { level = c.take.new.self; scope = c.take.new.scope } in
    subst (λ (token : Token). OnOk c.take.result (Goes c.args.self.now c.args.role (shape_of token) new)) (sym c.in-Word.is) (word-goes c.args.self.now new c.args.role c.in-Word.word c.take.result c.requires c.take.ensures.goes c.take.ensures.more refl)

pub returns-in-Open : goal.returns-in-Open
returns-in-Open c = subst (λ (token : Token). OnOk c.open.result (Goes c.args.self.now c.args.role (shape_of token) c.open.new.self)) (sym c.in-Open.is) c.open.ensures

pub returns-in-Close : goal.returns-in-Close
returns-in-Close c =
    subst (λ (token : Token). OnOk c.close.result (Goes c.args.self.now c.args.role (shape_of token) c.close.new.self)) (sym c.in-Close.is)
    (on_ok_weaker c.close.result (λ goes. record { is_known = goes.is_known; in_force = goes.in_force }) c.close.ensures)
