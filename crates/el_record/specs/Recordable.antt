-- What a trace's text can hold: the ranges of an event's parts.
use Rattle.std.specs.Prelude.{◌≡◌, ℕ, ◌<◌, ◌^◌, Bool, true, nat_lt, List, [], ◌∷◌, length, Option, Some, None, Result, Ok, Err}
use Rattle.std.specs.List.{list_all}
use Rattle.std.specs.FinMap as map
use Rattle.el_env.specs.Vars.{Vars}
use Rattle.el_env.specs.Name.{is_good_name}
use Rattle.el_world.specs.declared.event.Event.{Event}
use Rattle.el_world.specs.declared.event.Event.TheVariants.{Start, Wait, Opened, Pipe, Feed, Read, Write, Close, Enter}
use Rattle.el_world.specs.declared.event.Handle.{Handle}
use Rattle.el_world.specs.declared.event.Pid.{Pid}
use Rattle.el_world.specs.declared.event.PipeEnds.{PipeEnds}
use Rattle.el_world.specs.declared.event.Ended.{Ended}
use Rattle.el_world.specs.declared.event.Ended.TheVariants.{Exited, Killed}
use Rattle.el_world.specs.declared.event.Fault.{Fault}
use Rattle.el_world.specs.declared.event.Fault.TheVariants.{Failed, NoMemory}
use Rattle.el_world.specs.declared.event.StartFault.{StartFault}
use Rattle.el_world.specs.declared.event.StartFault.TheVariants.{NotFound, NotStartable, Failed as StartFailed, NoMemory as NoStartMemory}
use Rattle.el_world.specs.World.{is_wait_status}
use Rattle.el_world.specs.Lawful.{is_piece}
use Rattle.el_record.specs.declared.trace.RunEnd.{RunEnd}
use Rattle.el_record.specs.declared.trace.RunEnd.TheVariants.{Status, Spent}
use Rattle.el_record.specs.TraceReading.{is_word}

-- a handle's number has 64 bits
unfoldable pub IsHandle : Handle → Type 0
IsHandle handle = handle.number < 2 ^ 64

-- bytes without NUL, whose length has 64 bits
abbrev pub IsWordText : List ℕ → Type 0
IsWordText word = (length word < 2 ^ 64) × (is_word word ≡ true)

-- so are all of these
unfoldable pub AreWordTexts : List (List ℕ) → Type 0
AreWordTexts [] = Unit {0}
AreWordTexts (word ∷ words) = IsWordText word × AreWordTexts words

-- and both parts of all of these
unfoldable pub ArePairTexts : List (List ℕ × List ℕ) → Type 0
ArePairTexts [] = Unit {0}
ArePairTexts (pair ∷ pairs) = IsWordText pair.0 × IsWordText pair.1 × ArePairTexts pairs

-- an end of a started process: none, or a handle
unfoldable pub IsEnd : Option Handle → Type 0
IsEnd None = Unit {0}
IsEnd (Some handle) = handle.number < 2 ^ 64

-- ---- answers, of which want of memory is none

-- a process's number has 32 bits
unfoldable pub IsStarted : Result Pid StartFault → Type 0
IsStarted (Ok pid) = pid.number < 2 ^ 32
IsStarted (Err NotFound) = Unit {0}
IsStarted (Err NotStartable) = Unit {0}
IsStarted (Err StartFailed) = Unit {0}
IsStarted (Err NoStartMemory) = ⊥

-- a status has 8 bits, and a signal is from 1 to 127
unfoldable pub IsEnded : Result Ended Fault → Type 0
IsEnded (Ok (Exited code)) = code < 256
IsEnded (Ok (Killed signal)) = (signal < 256) × (is_wait_status (Killed signal) ≡ true)
IsEnded (Err Failed) = Unit {0}
IsEnded (Err NoMemory) = ⊥

-- a value that fits, or a failure
unfoldable pub IsGood : {T : Type 0} → (T → Type 0) → Result T Fault → Type 0
IsGood fits (Ok value) = fits value
IsGood fits (Err Failed) = Unit {0}
IsGood fits (Err NoMemory) = ⊥

-- ---- events

-- a start has one word at least, words and variables that can be written, good names, and three ends
pub record IsStart (words : List (List ℕ)) (env : Vars) (dir : List ℕ) (ends : List (Option Handle)) (answer : Result Pid StartFault) : Type 0 where
  pub some : 0 < length words
  pub few : length words < 2 ^ 64
  pub words_are : AreWordTexts words
  pub few_variables : length (map.entries env) < 2 ^ 64
  pub variables_are : ArePairTexts (map.entries env)
  pub names_are : list_all (λ (pair : List ℕ × List ℕ). is_good_name pair.0) (map.entries env) ≡ true
  pub dir_is : IsWordText dir
  pub input : Option Handle
  pub output : Option Handle
  pub error : Option Handle
  pub ends_are : ends ≡ input ∷ output ∷ error ∷ []
  pub each_is : IsEnd input × IsEnd output × IsEnd error
  pub answer_is : IsStarted answer

-- an event whose parts are in their ranges
unfoldable pub IsRecordable : Event → Type 0
IsRecordable (Start words env dir ends answer) = IsStart words env dir ends answer
IsRecordable (Wait pid answer) = (pid.number < 2 ^ 32) × IsEnded answer
IsRecordable (Opened dir path opened answer) = IsWordText dir × IsWordText path × IsGood IsHandle answer
IsRecordable (Pipe answer) = IsGood (λ (ends : PipeEnds). (ends.reader.number < 2 ^ 64) × (ends.writer.number < 2 ^ 64)) answer
IsRecordable (Feed bytes answer) = (length bytes < 2 ^ 64) × IsGood IsHandle answer
IsRecordable (Read handle answer) = (handle.number < 2 ^ 64) × IsGood (λ bytes. (length bytes < 2 ^ 64) × (is_piece bytes ≡ true)) answer
IsRecordable (Write handle bytes answer) = (handle.number < 2 ^ 64) × (length bytes < 2 ^ 64) × IsGood (λ done. Unit {0}) answer
IsRecordable (Close handle) = handle.number < 2 ^ 64
IsRecordable (Enter dir path answer) = IsWordText dir × IsWordText path × IsGood IsWordText answer

-- such events
unfoldable pub AreRecordable : List Event → Type 0
AreRecordable [] = Unit {0}
AreRecordable (event ∷ events) = IsRecordable event × AreRecordable events

-- a start has a word
abbrev pub has_word : Event → Bool
has_word (Start words env dir ends answer) = nat_lt 0 (length words)
has_word event = true

-- each start among these has a word
abbrev pub have_words : List Event → Bool
have_words events = list_all has_word events

-- a status has 8 bits
unfoldable pub IsRunEnd : RunEnd → Type 0
IsRunEnd (Status code) = code < 256
IsRunEnd Spent = Unit {0}
