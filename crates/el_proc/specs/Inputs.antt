-- Inputs that are read to their end.
use Rattle.std.specs.Prelude.{ℕ, suc, ◌^◌, Bool, ◌==◌, List, [], ◌∷◌, ◌++◌, Option, None, Some, Result, Ok, Err, if◌then◌else◌}
use Rattle.std.specs.List.{list_any, before_first}
use Rattle.el_world.specs.declared.event.Fault.{Fault}
use Rattle.el_world.specs.declared.event.Handle.{Handle}
use Rattle.el_world.specs.declared.finish.Finish.{Finish}
use Rattle.el_world.specs.declared.finish.Finish.TheVariants.{Spent as FinishSpent, NoMemory}
use Rattle.el_world.specs.Acts.{read_act}
use Rattle.el_world.specs.Plans.{gives, ends, takes, and_go_on}
use Rattle.el_world.specs.States.{State, Task, Spent}
use Rattle.el_proc.specs.declared.gathering.GatherFault.{GatherFault}
use Rattle.el_proc.specs.declared.gathering.GatherFault.TheVariants.{Failed as ReadFailed, Spent as UnitsSpent, NoMemory as NoMemoryLeft}

-- More reads and turns than a budget has units: what is bounded by it ends by its units first.
unfoldable pub most_units : ℕ
most_units = 2 ^ 64

-- behind a read: the end of input, one more piece, or a failure, which is none
abbrev pub after_read : (next : List ℕ → Task (Option (List ℕ))) → (before : List ℕ) → Result (List ℕ) Fault → Task (Option (List ℕ))
after_read next before (Ok []) = gives (Some before)
after_read next before (Ok (byte ∷ bytes)) = next (before ++ byte ∷ bytes)
after_read next before (Err fault) = gives None

-- behind these bytes, at most so many reads up to the end of input, with a unit before each
unfoldable pub gathered : (reads : ℕ) → State → Handle → (before : List ℕ) → Task (Option (List ℕ))
gathered Prim.Native.Nat.zero state handle before = ends (Spent state)
gathered (suc reads) state handle before = takes (Spent state) (and_go_on (read_act handle) (after_read (λ read. gathered reads state handle read) before))

-- all bytes up to the end of input; none where a read fails
unfoldable pub whole_input : State → Handle → Task (Option (List ℕ))
whole_input state handle = gathered most_units state handle []

-- how the code's answer tells of it: all bytes, or none; or the process ends
abbrev pub text_of : Result (List ℕ) GatherFault → Result (Option (List ℕ)) Finish
text_of (Ok bytes) = Ok (Some bytes)
text_of (Err ReadFailed) = Ok None
text_of (Err UnitsSpent) = Err FinishSpent
text_of (Err NoMemoryLeft) = Err NoMemory

-- ---- bytes that were read

-- the byte is a NUL
abbrev pub is_nul : ℕ → Bool
is_nul byte = byte == 0

-- some byte is a NUL
abbrev pub has_nul : List ℕ → Bool
has_nul bytes = list_any is_nul bytes

-- the bytes before the first NUL; all where there is none
abbrev pub before_nul : List ℕ → List ℕ
before_nul bytes = before_first is_nul bytes

-- without the last byte, where it is a newline (10)
abbrev pub without_newline : List ℕ → List ℕ
without_newline [] = []
without_newline (byte ∷ []) = if byte == 10 then [] else byte ∷ []
without_newline (byte ∷ next ∷ bytes) = byte ∷ without_newline (next ∷ bytes)

-- the word of an input: what stands before the first NUL, without one newline at the end unless all is kept
abbrev pub input_word : (keeps : Bool) → List ℕ → List ℕ
input_word keeps bytes = if keeps then before_nul bytes else without_newline (before_nul bytes)
