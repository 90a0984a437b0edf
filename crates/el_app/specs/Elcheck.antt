-- What elcheck does.
use Rattle.el_room.specs.Vocabulary.{bytes_eq, number_of, elcheck_options, ends, and_then, State, End, Task, Status, Spent, Trouble, BadNumber, Missing, refused}
use Rattle.std.specs.Prelude.{ℕ, nat_le, Bool, false, ◌&&◌, List, [], ◌∷◌, ◌++◌, drop, Option, None, Some, Result, Ok, Err, if◌then◌else◌, codes}
use Rattle.std.specs.FinMap as map
use Rattle.el_machine.specs.Flat.{flat_run}
use Rattle.el_check.specs.declared.kind.CheckKind.{CheckKind}
use Rattle.el_check.specs.declared.params.Params.TheVariants.{Leave}
use Rattle.el_check.specs.Checks.{Checked, checked}
use Rattle.el_check.specs.Kinds.{text_on_line}
use Rattle.el_app.specs.declared.asked.Asked.{Asked}
use Rattle.el_app.specs.Options.{asked}
use Rattle.el_app.specs.Names.{elcheck_name}
use Rattle.el_app.specs.Files.{script_from}
use Rattle.el_app.specs.Params.{params_of}
use Rattle.el_app.specs.Scripts.{script_words}
use Rattle.el_app.specs.Output.{put_out}
use Rattle.el_app.specs.First.{first_state}
use Rattle.el_app.specs.Sample.{sample}
use Rattle.el_app.specs.Played.{first_numbers, Played, played}
use Rattle.el_app.specs.Tallies.{line_of}

-- what is written of a fault: its line, its kind, and a newline (10)
abbrev pub fault_line : CheckKind × ℕ → List ℕ
fault_line fault = text_on_line fault.1 fault.0 ++ 10 ∷ []

-- nothing is written of an accepted script; the line of its first fault is written otherwise, and the status is 100
unfoldable pub verdict : State → Checked → Task ⊥
verdict state (Ok tree) = ends (Status 0 state)
verdict state (Err fault) = put_out state (fault_line fault) 100

-- the script that is asked for is checked, or the words are complained of
unfoldable pub checks_asked : Result Asked Trouble → State → Task ⊥
checks_asked (Ok asked) state = and_then (script_from elcheck_name state asked.source) (λ script. verdict state (checked (params_of asked.placement) script))
checks_asked (Err trouble) state = refused state elcheck_name trouble

-- ---- a sample

-- the word that asks for a run of a sample in place of a check
unfoldable pub sample_word : List ℕ
sample_word = codes "--sample"

-- the word stands first behind the name
abbrev pub asks_for_sample : (words : List (List ℕ)) → Bool
asks_for_sample [] = false
asks_for_sample (name ∷ []) = false
asks_for_sample (name ∷ word ∷ words) = bytes_eq word sample_word

-- so many lines may stand in a sample before its last one
abbrev pub most_lines : ℕ
most_lines = 4000

-- a sample has from 1 to `most_lines` lines
abbrev pub lines_in : Option ℕ → Result ℕ Trouble
lines_in None = Err BadNumber
lines_in (Some lines) = if nat_le 1 lines && nat_le lines most_lines then Ok lines else Err BadNumber

-- how many lines the words behind ask for, by the first of them
abbrev pub lines_asked : (rest : List (List ℕ)) → Result ℕ Trouble
lines_asked [] = Err Missing
lines_asked (word ∷ rest) = lines_in (number_of word)

-- a script is spelled, and then run
unfoldable pub script_run : (script : List ℕ) → State → Task ⊥
script_run script state = and_then (script_words state script) (λ words. flat_run words state)

-- a script's run as it is played, without variables and from the directory `/`
unfoldable pub run_played : (script : List ℕ) → Played End ⊥
run_played script = played (script_run script (first_state map.empty (codes "/"))) first_numbers

-- the line of a run that ended with a status is written, with status 0; a run of a sample does
unfoldable pub line_told : State → (line : Option (List ℕ)) → Task ⊥
line_told state (Some line) = put_out state line 0
line_told state None = ends (Spent state)

-- of an accepted script its run's line is written, and of any other its first fault
unfoldable pub run_told : State → (script : List ℕ) → Checked → Task ⊥
run_told state script (Ok tree) = line_told state (line_of (run_played script))
run_told state script (Err fault) = put_out state (fault_line fault) 100

-- the sample that is asked for is checked and run, or the words are complained of
unfoldable pub sampled : Result ℕ Trouble → State → Task ⊥
sampled (Ok lines) state = run_told state (sample lines) (checked Leave (sample lines))
sampled (Err trouble) state = refused state elcheck_name trouble

-- ---- elcheck

-- what elcheck does with its words, of which the first is its name
unfoldable pub elcheck_run : (words : List (List ℕ)) → State → Task ⊥
elcheck_run words state = if asks_for_sample words then sampled (lines_asked (drop 2 words)) state else checks_asked (asked elcheck_options words) state
