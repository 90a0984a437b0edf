use Rattle.std.proofs.Common.{◌≡◌, ◌++◌, take, drop}
use Rattle.el_proc.specs.Descriptors.{without_handle}
use Rattle.el_proc.proofs.descriptors.Fds.remove.Given as goal

abbrev pub invariant-loop-number : goal.invariant-loop-number
invariant-loop-number l = l.self-inside.slots ≡ without_handle (take l.number l.initial.self-inside.slots) l.handle ++ drop l.number l.initial.self-inside.slots
