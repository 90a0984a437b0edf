use Rattle.el_getopt.proofs.Behind.{behind-parsing}
use Rattle.el_getopt.proofs.laws.variables_are_parsed.Goals as goal

pub returns : goal.returns
returns c = behind-parsing
