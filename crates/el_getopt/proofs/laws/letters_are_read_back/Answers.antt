use Rattle.el_getopt.proofs.Written.{written-is, written-letters}
use Rattle.el_getopt.proofs.laws.letters_are_read_back.Goals as goal

pub returns-clause-is : goal.returns-clause-is
returns-clause-is c = written-is

pub returns-clause-letters : goal.returns-clause-letters
returns-clause-letters c = written-letters
