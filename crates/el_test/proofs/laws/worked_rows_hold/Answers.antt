use Rattle.el_test.proofs.RowsComputed.{worked_rows}
use Rattle.el_test.proofs.laws.worked_rows_hold.Goals as goal

pub returns : goal.returns
returns c = worked_rows
