use Rattle.std.proofs.Common.{sym, arith}
use Rattle.std.proofs.lemmas.List.Sums.{prefix_len-le-length}
use Rattle.el_subst.specs.Parts.{is_name_byte}
use Rattle.el_subst.proofs.References.{name_run-some, name_run-none}
use Rattle.el_subst.proofs.reference.name_run.Goals as goal

pub returns-then-length-eq0-clause-found : goal.returns-then-length-eq0-clause-found
returns-then-length-eq0-clause-found c = sym (name_run-none c.args.after.now c.run_length-length.result c.run_length-length.ensures c.if-length-eq0.true)

pub returns-clause-found : goal.returns-clause-found
returns-clause-found c = sym (name_run-some c.args.after.now c.run_length-length.result c.run_length-length.ensures c.if-length-eq0.false)

pub returns-clause-within : goal.returns-clause-within
returns-clause-within c = omega (arith, prefix_len-le-length is_name_byte c.args.after.now, c.run_length-length.ensures)
