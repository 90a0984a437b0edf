use Rattle.el_proc.specs.Processes.{state_of}
use Rattle.el_getopt.proofs.Calls.{nothing_done}
use Rattle.el_getopt.proofs.call.run_parsed.Goals as goal

pub returns-in-Ok : goal.returns-in-Ok
returns-in-Ok g c = rw c.in-Ok.ensures (record { last = state_of c.run.new.proc; left = c.run.new.proc.budget; follows = c.run.ensures.run; cause = c.run.ensures.cause })

pub returns-in-Err-NoMemory : goal.returns-in-Err-NoMemory
returns-in-Err-NoMemory g c = nothing_done _ _ _ _
