use Rattle.el_lex.proofs.Stops.{one-fault}
use Rattle.el_lex.proofs.laws.one_fault.Goals as goal

pub returns-clause-kind : goal.returns-clause-kind
returns-clause-kind c = λ script one other here there is also. (one-fault script one other here there is also).0

pub returns-clause-line : goal.returns-clause-line
returns-clause-line c = λ script one other here there is also. (one-fault script one other here there is also).1
