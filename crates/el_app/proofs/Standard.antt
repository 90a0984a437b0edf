-- A process that holds its own descriptors alone.
use Rattle.el_room.proofs.Vocabulary.{Handle, are_usable, standard_fds, streams_in, usable_streams}
use Rattle.std.proofs.Common.{◌≡◌, List, true, Option, refl}

-- a call may name any of them
pub standard_usable : (held : List Handle) (fds : List (Option Handle)) → fds ≡ standard_fds → are_usable held fds ≡ true
standard_usable held fds e = rw e refl

pub standard_streams : (held : List Handle) (fds : List (Option Handle)) → fds ≡ standard_fds → are_usable held (streams_in fds) ≡ true
standard_streams held fds e = usable_streams held fds (standard_usable held fds e)

pub ruleset standard = (standard_usable, standard_streams)
