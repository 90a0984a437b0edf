-- Why words aren't parsed. Only the code's contracts need it.
use Rattle.el_env.specs.declared.env.EnvFault.{EnvFault}
use Rattle.el_env.specs.declared.env.EnvFault.TheVariants.{NoFrame}
use Rattle.el_proc.specs.declared.trouble.Trouble.TheVariants.{NoFrame as NoFrameTrouble}
use Rattle.el_getopt.specs.declared.fault.ParseFault.{ParseFault}
use Rattle.el_getopt.specs.declared.fault.ParseFault.TheVariants.{Refused, NoMemory}

-- positional parameters that aren't set are refused; the other faults are want of memory
abbrev pub fault_of : EnvFault → ParseFault
fault_of NoFrame = Refused NoFrameTrouble
fault_of _ = NoMemory
