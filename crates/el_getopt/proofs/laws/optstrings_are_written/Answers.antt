use Rattle.el_getopt.proofs.Written.{optstring-written, optstring-distinct}
use Rattle.el_getopt.proofs.laws.optstrings_are_written.Goals as goal

pub returns-clause-written : goal.returns-clause-written
returns-clause-written c = optstring-written

pub returns-clause-distinct : goal.returns-clause-distinct
returns-clause-distinct c = optstring-distinct
