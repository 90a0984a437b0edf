use Rattle.el_reader.proofs.Parsed.{tree-parsed, fault-parsed, never-many}
use Rattle.el_reader.proofs.parsing.parse.Goals as goal

pub kind_of-requires : goal.kind_of-requires
kind_of-requires c = never-many c.args.tokens.now c.in_ok-copy.copy c.in_ok-tree.field-0 c.in_ok-tree.ensures c.in_ok-copy.ensures c.in-Err.misread c.in-Err.is

pub returns-in-Ok-clause-ok : goal.returns-in-Ok-clause-ok
returns-in-Ok-clause-ok c = tree-parsed c.args.tokens.now c.in_ok-copy.copy c.in_ok-tree.field-0 c.in_ok-tree.ensures c.in_ok-copy.ensures c.in-Ok.tree c.in-Ok.is

pub returns-in-Err-clause-fault : goal.returns-in-Err-clause-fault
returns-in-Err-clause-fault c = fault-parsed c.args.tokens.now c.in_ok-copy.copy c.in_ok-tree.field-0 c.in_ok-tree.ensures c.in_ok-copy.ensures c.in-Err.misread c.kind_of.result c.in-Err.is c.kind_of.ensures
