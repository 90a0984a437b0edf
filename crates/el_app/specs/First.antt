-- A process at its start.
use Rattle.el_room.specs.Vocabulary.{Vars, State, standard_fds}
use Rattle.std.specs.Prelude.{ℕ, List, []}

-- its variables, its own descriptors, its directory, and no children
abbrev pub first_state : Vars → (dir : List ℕ) → State
first_state env dir = record { env = env; fds = standard_fds; dir = dir; kids = [] }
