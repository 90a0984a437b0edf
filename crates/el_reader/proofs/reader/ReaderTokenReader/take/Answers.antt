use Rattle.std.proofs.Common.{Result, subst}
use Rattle.el_blocks.specs.Tokens.{shape_of}
use Rattle.el_tree.specs.declared.fault.PlacedFault.{PlacedFault}
use Rattle.el_reader.specs.declared.role.Role.{Role}
use Rattle.el_reader.specs.Inspections.{IsJudged}
use Rattle.el_reader.proofs.ReaderReads.{closable, token-taken, wrong-taken}
use Rattle.el_reader.proofs.reader.ReaderTokenReader.take.Goals as goal

pub read-requires : goal.read-requires
read-requires c = c.requires.some.has.has.in_force

pub returns-in-Err : goal.returns-in-Err
returns-in-Err c =
    let new = record c.args.self.now { inspection = c.read.new.self } in
    wrong-taken c.args.self.now new c.args.token c.in-Err.found (subst (λ (read : Result Role PlacedFault). IsJudged c.args.self.now.inspection (shape_of c.args.token) c.read.new.self read) c.in-Err.is c.in_ok-found.ensures)

pub put-requires : goal.put-requires
put-requires c = closable c.args.self.now c.requires.some

pub returns-in_ok-put-in-Ok : goal.returns-in_ok-put-in-Ok
returns-in_ok-put-in-Ok c =
    let new = record c.args.self.now { inspection = c.read.new.self; builder = c.put.new.self } in
    token-taken c.args.self.now new c.args.token c.in-Ok.role c.requires.may (subst (λ (read : Result Role PlacedFault). IsJudged c.args.self.now.inspection (shape_of c.args.token) c.read.new.self read) c.in-Ok.is c.in_ok-found.ensures) c.in_ok-put-in-Ok.ensures
