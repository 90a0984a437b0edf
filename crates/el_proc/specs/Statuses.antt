-- The status after each trouble, written out: this file names no constant of the code.
use Rattle.std.specs.Prelude.{ℕ}
use Rattle.el_proc.specs.declared.trouble.Trouble.{Trouble}
use Rattle.el_proc.specs.declared.trouble.Trouble.TheVariants.{NotOpen, Failed, NotStartable, NotFound}

-- 111 after a failed call, 126 and 127 after a command that can't be started or isn't found, and 100 after any other trouble
abbrev pub status_written : Trouble → ℕ
status_written NotOpen = 111
status_written Failed = 111
status_written NotStartable = 126
status_written NotFound = 127
status_written trouble = 100
