use Rattle.std.proofs.Common.{[], subst}
use Rattle.el_tree.specs.Steps.{answer}
use Rattle.el_reader.specs.Inspections.{IsEnded}
use Rattle.el_reader.proofs.ReaderReads.{closable, misread-told, tree-end}
use Rattle.el_reader.proofs.reader.Reader.end.Goals as goal

pub returns-in-Some : goal.returns-in-Some
returns-in-Some c = λ first tokens holds last.
    let wrong = subst (IsEnded c.args.self.inspection) c.in-Some.is c.end.ensures in
    misread-told tokens [] c.args.last_line c.in-Some.found c.new.result (answer first tokens) (wrong first tokens holds.has) last c.new.ensures.fault c.new.ensures.line

pub tree-requires : goal.tree-requires
tree-requires c = closable c.args.self c.requires.some

pub returns-in-None : goal.returns-in-None
returns-in-None c = λ first tokens holds last.
    let right = subst (IsEnded c.args.self.inspection) c.in-None.is c.end.ensures in
    tree-end first tokens c.args.self c.tree.result holds (right first tokens holds.has c.requires.closed) c.requires.closed c.tree.ensures
