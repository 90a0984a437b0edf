use Rattle.el_test.proofs.ProperReads.{proper_is_read, written_is_injective}
use Rattle.el_test.proofs.ReadsProper.{read_is_proper}
use Rattle.el_test.proofs.laws.reading_is_exact.Goals as goal

pub returns-clause-read : goal.returns-clause-read
returns-clause-read c = proper_is_read

pub returns-clause-proper : goal.returns-clause-proper
returns-clause-proper c = read_is_proper

pub returns-clause-injective : goal.returns-clause-injective
returns-clause-injective c = written_is_injective
