use Rattle.std.proofs.Common.{sym}
use Rattle.el_getopt.proofs.Optstrings.{takes-colon}
use Rattle.el_getopt.proofs.optstring.takes_value.Goals as goal

pub returns-then-letter-eq-COLON : goal.returns-then-letter-eq-COLON
returns-then-letter-eq-COLON c = sym (takes-colon c.args.optstring.now c.args.letter c.if-letter-eq-COLON.true)
