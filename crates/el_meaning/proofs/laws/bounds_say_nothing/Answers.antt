use Rattle.std.proofs.Common.{le_refl}
use Rattle.el_meaning.proofs.Bounds.{flat-enough, gathered-enough, turns-enough, loop-reads-enough}
use Rattle.el_meaning.proofs.laws.bounds_say_nothing.Goals as goal

pub returns-clause-programs : goal.returns-clause-programs
returns-clause-programs c = λ one other units words state found a b. (flat-enough one other units words state a b).same units (le_refl units) found

pub returns-clause-reads : goal.returns-clause-reads
returns-clause-reads c = λ one other units state handle before found a b. (gathered-enough one other units state handle before a b).same units (le_refl units) found

pub returns-clause-turns : goal.returns-clause-turns
returns-clause-turns c = λ one other units read state found a b. (turns-enough one other units read state a b).same units (le_refl units) found

pub returns-clause-loop_reads : goal.returns-clause-loop_reads
returns-clause-loop_reads c = λ one other units looping handle before turns found a b. (loop-reads-enough one other units looping handle before turns a b).same units (le_refl units) found
