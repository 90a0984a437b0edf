-- What elrecord does: a run, and then the text of its trace, which is written to a file.
use Rattle.el_room.specs.Vocabulary.{bytes_eq, Vars, Event, Fault, Handle, event_of, open_act, write_act, close_act, Plan, gives, ends, takes, calls, and_go_on, ended, Does, standard_fds, Trouble, Usage, Failed, trouble_status, Finish, NoMemory, Added, PlanAgrees, Ran, Seen}
use Rattle.std.specs.Prelude.{◌≡◌, ◌⊎◌, ℕ, zero, suc, Bool, true, false, ◌&&◌, List, [], ◌∷◌, ◌++◌, slice_get, Option, Some, None, Result, Ok, Err, if◌then◌else◌, codes}
use Rattle.el_world.specs.declared.event.Mode.TheVariants.{Write}
use Rattle.el_proc.specs.Troubles.{complaint}
use Rattle.el_record.specs.declared.trace.RunEnd.{RunEnd}
use Rattle.el_record.specs.declared.trace.RunEnd.TheVariants.{Status, Spent}
use Rattle.el_record.specs.Lost.{BegunButForLost}
use Rattle.el_record.specs.Recordable.{IsRunEnd}
use Rattle.el_record.specs.Traces.{IsTextOf}
use Rattle.el_record.specs.TraceText.{trace_text}
use Rattle.el_app.specs.Names.{base_name, execline_name}
use Rattle.el_app.specs.Calls.{Ending, status, spent, execline_call, outcome_of}

-- the name under which it is called, and under which it complains
unfoldable pub elrecord_name : List ℕ
elrecord_name = codes "elrecord"

-- ---- a plan that is recorded

-- a plan with so many units, behind these events, and then another one by all the events that were made and the end
unfoldable pub recorded : Plan Ending ⊥ → (units : ℕ) → (before : List Event) → (List Event → Ending → Plan Ending ⊥) → Plan Ending ⊥
recorded (gives never) units before next = absurd never
recorded (ends end) units before next = next before end
recorded (takes end plan) zero before next = next before end
recorded (takes end plan) (suc units) before next = recorded plan units before next
recorded (calls call after) units before next = calls call (λ answer. recorded (after answer) units (before ++ event_of call answer ∷ []) next)

-- ---- the file

-- the message, and the end with the trouble's status
abbrev pub complained : Trouble → Plan Ending ⊥
complained trouble = and_go_on (complaint standard_fds elrecord_name trouble) (λ _. ends (status (trouble_status trouble)))

-- behind the write, the answer is that of the run
abbrev pub after_write : Ending → Result (Unit {0}) Fault → Plan Ending ⊥
after_write ending (Ok done) = ends ending
after_write ending (Err fault) = complained Failed

-- the text is written at once to an opened file, which is then closed
abbrev pub after_open : (text : List ℕ) → Ending → Result Handle Fault → Plan Ending ⊥
after_open text ending (Ok file) = and_go_on (write_act file text) (λ written. and_go_on (close_act file) (λ _. after_write ending written))
after_open text ending (Err fault) = complained Failed

-- the text is saved to a file, behind a run that ended so
unfoldable pub saved : (dir file text : List ℕ) → Ending → Plan Ending ⊥
saved dir file text ending = and_go_on (open_act dir file Write) (after_open text ending)

-- ---- the call

-- how a trace says the end
abbrev pub run_end : Ending → RunEnd
run_end (status code) = Status code
run_end spent = Spent

-- the end that a trace says
abbrev pub ending_in : RunEnd → Ending
ending_in (Status code) = status code
ending_in Spent = spent

-- the top call with these words and so many units, whose trace is then saved to the file, as it is named from this directory
unfoldable pub recorded_run : (words : List (List ℕ)) → (file from : List ℕ) → Vars → (dir : List ℕ) → (units : ℕ) → Plan Ending ⊥
recorded_run words file from env dir units = recorded (execline_call words env dir) units [] (λ events end. saved from file (trace_text events (run_end end)) end)

-- elrecord with these words, of which the first is its name, and so many units
unfoldable pub elrecord_call : (words : List (List ℕ)) → Vars → (dir : List ℕ) → (units : ℕ) → Plan Ending ⊥
elrecord_call [] env dir units = complained Usage
elrecord_call (name ∷ []) env dir units = complained Usage
elrecord_call (name ∷ file ∷ words) env dir units = recorded_run words file dir env dir units

-- ---- what came of it

-- Between two states of a world the top call was run to its end, and then the text of its trace, which is read back as it, was saved to the file, or this was cut off by want of memory.
pub record RanAndSaved (old new : Seen) (words : List (List ℕ)) (file from : List ℕ) (env : Vars) (dir : List ℕ) (units : ℕ) (finish : Finish) : Type 0 where
  pub log : List Event
  pub end : RunEnd
  pub left : ℕ
  pub runs : Does (execline_call words env dir) units log (ended (ending_in end)) left
  pub text_is : IsTextOf (trace_text log end) log end
  pub later : List Event
  pub saves : PlanAgrees (saved from file (trace_text log end) (ending_in end)) 0 later (outcome_of finish) 0
  pub added : Added old new (log ++ later)

-- so it was; or memory was wanting, and the top call alone was begun, but for one event at most that was lost
abbrev pub RanAndSavedOrBegun : (old new : Seen) → (words : List (List ℕ)) → (file from : List ℕ) → Vars → (dir : List ℕ) → (units : ℕ) → Finish → Type 0
RanAndSavedOrBegun old new words file from env dir units finish = RanAndSaved old new words file from env dir units finish ⊎ ((finish ≡ NoMemory) × BegunButForLost old new (execline_call words env dir) units)

-- the same of elrecord with these words, of which the first is its name; without a file it complained, or lacked the memory for it
abbrev pub IsRecorded : (old new : Seen) → (words : List (List ℕ)) → Vars → (dir : List ℕ) → (units : ℕ) → Finish → Type 0
IsRecorded old new [] env dir units finish = Ran old new (complained Usage) 0 (outcome_of finish) 0
IsRecorded old new (name ∷ []) env dir units finish = Ran old new (complained Usage) 0 (outcome_of finish) 0
IsRecorded old new (name ∷ file ∷ words) env dir units finish = RanAndSavedOrBegun old new words file dir env dir units finish

-- ---- how the code tells of it

-- the run ended so and was recorded whole, and between two states of a world its trace was saved, or this was cut off by want of memory
pub record IsSaved (old new : Seen) (from file : List ℕ) (log : List Event) (whole : Bool) (ran finish : Finish) : Type 0 where
  pub whole_is : whole ≡ true
  pub end : RunEnd
  pub end_is : outcome_of ran ≡ Some (ended (ending_in end))
  pub fits : IsRunEnd end
  pub save : Ran old new (saved from file (trace_text log end) (ending_in end)) 0 (outcome_of finish) 0

-- so it was; or there is no trace, and the world stays
abbrev pub IsSavedOrStays : (old new : Seen) → (from file : List ℕ) → List Event → Bool → (ran finish : Finish) → Type 0
IsSavedOrStays old new from file log whole ran finish = IsSaved old new from file log whole ran finish ⊎ ((finish ≡ NoMemory) × (new ≡ old))

-- ---- when it is called

-- the word is there, and is elrecord's name
abbrev pub is_named_elrecord : Option (List ℕ) → Bool
is_named_elrecord None = false
is_named_elrecord (Some word) = bytes_eq word elrecord_name

-- the words of elrecord's call, where the first word of the process chooses it, or that of `execline` and the next one
abbrev pub elrecord_words : (words : List (List ℕ)) → Option (List (List ℕ))
elrecord_words [] = None
elrecord_words (word ∷ words) =
    if bytes_eq (base_name word) elrecord_name then Some (word ∷ words)
    else (if bytes_eq (base_name word) execline_name && is_named_elrecord (slice_get words 0) then Some words else None)
