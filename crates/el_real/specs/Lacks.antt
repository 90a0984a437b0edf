-- What is wanting, as answers of the World.
use Rattle.std.specs.Prelude.{ℤ, Option, None, Some, Result, Ok, Err}
use Rattle.std.specs.declared.io.ErrorKind.{ErrorKind}
use Rattle.std.specs.declared.io.ErrorKind.TheVariants.{OutOfMemory, InvalidFilename}
use Rattle.el_words.specs.declared.word.WordFault.{WordFault}
use Rattle.el_words.specs.declared.word.WordFault.TheVariants.{Nul, NoMemory as NoWordMemory}
use Rattle.el_world.specs.declared.event.Fault.{Fault}
use Rattle.el_world.specs.declared.event.Fault.TheVariants.{Failed as CallFailed, NoMemory as CallNoMemory}
use Rattle.el_world.specs.declared.event.StartFault.{StartFault}
use Rattle.el_world.specs.declared.event.StartFault.TheVariants.{Failed as StartFailed, NoMemory as StartNoMemory}
use Rattle.el_real.specs.declared.lack.Lack.{Lack}
use Rattle.el_real.specs.declared.lack.Lack.TheVariants.{Refused, NotText, Failed, NoMemory}

-- what an error of the library tells: want of memory, the system's number, a name that isn't UTF-8, or nothing
abbrev pub lack_of : ErrorKind → Option ℤ → Lack
lack_of OutOfMemory number = NoMemory
lack_of kind (Some number) = Refused number
lack_of InvalidFilename None = NotText
lack_of kind None = Failed

-- bytes that are no word: the system gave a NUL, or there is no memory
abbrev pub lack_of_word : WordFault → Lack
lack_of_word Nul = Failed
lack_of_word NoWordMemory = NoMemory

-- a call fails where the system doesn't serve
abbrev pub fault_of : Lack → Fault
fault_of NoMemory = CallNoMemory
fault_of lack = CallFailed

-- and so does a start
abbrev pub start_fault_of : Lack → StartFault
start_fault_of NoMemory = StartNoMemory
start_fault_of lack = StartFailed

-- the answer to a call
abbrev pub answer_of : {T : Type 0} → Result T Lack → Result T Fault
answer_of (Ok value) = Ok value
answer_of (Err lack) = Err (fault_of lack)
