-- A process that holds its own descriptors alone.
use Rattle.el_room.proofs.Vocabulary.{Handle, are_usable, standard_fds}
use Rattle.std.proofs.Common.{◌≡◌, List, true, Option, refl}

-- a call may name any of them
pub standard_usable : (held : List Handle) (fds : List (Option Handle)) → fds ≡ standard_fds → are_usable held fds ≡ true
standard_usable held fds e = rw e refl

pub ruleset standard = (standard_usable)
