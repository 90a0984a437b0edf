use Rattle.std.proofs.Common.{◌≡◌, drop}
use Rattle.el_getopt.specs.Environment.{with_options}
use Rattle.el_getopt.specs.Reader.{letters_told}
use Rattle.el_getopt.proofs.environment.set_options.Given as goal

abbrev pub invariant-loop-one : goal.invariant-loop-one
invariant-loop-one l = with_options (letters_told l.args (drop l.one-index l.found)) l.env ≡ with_options (letters_told l.args l.found) l.fn.env
