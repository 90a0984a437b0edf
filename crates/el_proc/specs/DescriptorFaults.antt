-- Why the numbers of a process aren't changed as asked. Only the code's contracts need it.
use Rattle.std.specs.Prelude.{ℕ, Bool, ◌&&◌, nat_lt, List, Option, None, Some, Result, Ok, Err, if◌then◌else◌}
use Rattle.el_world.specs.declared.event.Handle.{Handle}
use Rattle.el_proc.specs.declared.descriptors.FdFault.{FdFault}
use Rattle.el_proc.specs.declared.descriptors.FdFault.TheVariants.{OutOfRange, NotOpen}
use Rattle.el_proc.specs.Descriptors.{held_in}

-- the fault in an answer
abbrev pub fault_of : {A : Type 0} → Result A FdFault → Option FdFault
fault_of (Ok value) = None
fault_of (Err fault) = Some fault

-- a process has this number: it is below 64
abbrev pub in_range : ℕ → Bool
in_range number = nat_lt number 64

-- what a number holds; where it holds nothing it isn't open
abbrev pub open_or_fault : Option Handle → Result Handle FdFault
open_or_fault None = Err NotOpen
open_or_fault (Some handle) = Ok handle

-- the handle that a number must hold; first, it and another one must be in range
abbrev pub held_or_fault : List (Option Handle) → (other number : ℕ) → Result Handle FdFault
held_or_fault fds other number = if in_range other && in_range number then open_or_fault (held_in fds number) else Err OutOfRange

-- ---- by what is asked

-- a number is in range
abbrev pub range_fault : ℕ → Option FdFault
range_fault number = if in_range number then None else Some OutOfRange

-- both are in range, and the second one holds a handle
abbrev pub move_fault : List (Option Handle) → (to from : ℕ) → Option FdFault
move_fault fds to from = fault_of (held_or_fault fds to from)

-- the first of two faults, where there is any
abbrev pub first_fault : Option FdFault → Option FdFault → Option FdFault
first_fault None other = other
first_fault (Some fault) other = Some fault

-- both are in range, and both hold a handle
abbrev pub swap_fault : List (Option Handle) → (one other : ℕ) → Option FdFault
swap_fault fds one other = first_fault (move_fault fds other one) (move_fault fds one other)
