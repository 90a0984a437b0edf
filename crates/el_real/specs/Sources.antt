-- Where the stream comes from that a child has at one of its numbers 0 to 2.
use Rattle.std.specs.Prelude.{ℕ, Bool, ◌==◌, Option, None, Some, if◌then◌else◌}
use Rattle.el_world.specs.declared.event.Handle.{Handle}
use Rattle.el_real.specs.declared.source.Source.{Source}
use Rattle.el_real.specs.declared.source.Source.TheVariants.{Null, Inherited, Copied}

-- no handle is the null device; what this process has at the same number is inherited, and where that was closed it is the null device
-- too; anything else is copied
abbrev pub source_of : Option Handle → (place : ℕ) → (closed : Bool) → Source
source_of None place closed = Null
source_of (Some handle) place closed = if handle.number == place then (if closed then Null else Inherited) else Copied handle
