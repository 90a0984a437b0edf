-- How a command ended, as the system's wait status tells it.
use Rattle.std.specs.Prelude.{◌≡◌, pos, Some}
use Rattle.std.specs.Process.{exit_code, exit_signal}
use Rattle.std.specs.declared.process.status.ExitStatus.{ExitStatus}
use Rattle.el_world.specs.declared.event.Ended.{Ended}
use Rattle.el_world.specs.declared.event.Ended.TheVariants.{Exited, Killed}

-- with its own code, or by a signal
abbrev pub EndedAs : ExitStatus → Ended → Type 0
EndedAs status (Exited code) = exit_code status ≡ Some (pos code)
EndedAs status (Killed signal) = exit_signal status ≡ Some (pos signal)
