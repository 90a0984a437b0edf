use Rattle.std.proofs.Common.{◌-◌, map as mapped}
use Rattle.el_env.specs.Variable.{pair_of}
use Rattle.el_record.proofs.Variables.{AreGathered}
use Rattle.el_record.proofs.reading.variables_at.Given as goal

-- what is read and what is to be read
abbrev pub invariant-loop : goal.invariant-loop
invariant-loop l = AreGathered (mapped pair_of l.variables.items) l.last (l.count - l.counter) l.reader.rest.now l.count l.fn.reader.rest.now
