-- The status of the process.
use Rattle.std.specs.Prelude.{ℕ, List, Option, None, Some, codes}
use Rattle.el_world.specs.declared.finish.Finish.{Finish}
use Rattle.el_world.specs.declared.finish.Finish.TheVariants.{Status, Spent, NoMemory}

-- a run's own status, 109 for a spent budget, and 110 for want of memory
abbrev pub status_of : Finish → ℕ
status_of (Status code) = code
status_of Spent = 109
status_of NoMemory = 110

-- what is said of a spent budget
unfoldable pub spent_text : List ℕ
spent_text = codes "budget spent"

-- what is said of want of memory
unfoldable pub no_memory_text : List ℕ
no_memory_text = codes "no memory"

-- what is said of these two
abbrev pub complaint_of : Finish → Option (List ℕ)
complaint_of (Status code) = None
complaint_of Spent = Some spent_text
complaint_of NoMemory = Some no_memory_text
