use Rattle.std.proofs.Common.{sym, ◌∙◌}
use Rattle.el_loops.proofs.ValuesOf.{some_delimiters}
use Rattle.el_loops.proofs.values.delimiters.Goals as goal

pub returns-clause-some : goal.returns-clause-some
returns-clause-some c = λ none. some_delimiters c.delimiter_bytes.result.now c.delimiter_bytes.ensures.some (sym c.of.ensures ∙ none)
