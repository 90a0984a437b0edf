use Rattle.el_options.proofs.GoodTables.{good-letters}
use Rattle.el_options.proofs.laws.good_tables.Goals as goal

pub returns-clause-programs : goal.returns-clause-programs
returns-clause-programs c = good-letters
