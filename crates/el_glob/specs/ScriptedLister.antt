-- A lister that answers from a list. Only the code's contracts need it.
use Rattle.std.specs.Prelude.{◌≡◌, ℕ, List, [], ◌∷◌, ◌++◌, drop, Option, None, Some, Result, Ok, Err, if◌then◌else◌}
use Rattle.el_world.specs.Scripted.{counted}
use Rattle.el_glob.specs.declared.listed.Listed.{Listed}
use Rattle.el_glob.specs.declared.listed.Listed.TheVariants.{Names as NamesOf, NoDirectory}
use Rattle.el_glob.specs.declared.listed.ListFault.{ListFault}
use Rattle.el_glob.specs.declared.listed.ListFault.TheVariants.{Failed}
use Rattle.el_glob.specs.declared.listed.ListEvent.{ListEvent}
use Rattle.el_glob.specs.declared.list_answers.ListAnswer.{ListAnswer}
use Rattle.el_glob.specs.declared.list_answers.ListAnswer.TheVariants.{Names, NoDirectory as Missing, Fault}
use Rattle.el_glob.specs.Names.{are_entry_names}
use Rattle.el_glob.specs.Listers.{ListerSeen, is_fault}

-- what a scripted lister is seen as: its listings, the answers left, and how many have failed
pub record ListScript : Type 0 where
  pub log : List ListEvent
  pub answers : List ListAnswer
  pub faults : ℕ

-- it tells its log
abbrev pub seen_of : ListScript → ListerSeen
seen_of script = record { log = Some script.log; faults = script.faults }

-- a new one
abbrev pub begun : List ListAnswer → ListScript
begun answers = record { log = []; answers = answers; faults = 0 }

-- the answer that the next listing takes; behind the list there is none
abbrev pub due : List ListAnswer → Option ListAnswer
due [] = None
due (answer ∷ answers) = Some answer

-- these names, if a directory may have them
abbrev pub named : List (List ℕ) → Result Listed ListFault
named names = if are_entry_names names then Ok (NamesOf names) else Ok NoDirectory

-- what a listing is answered; names that no directory has, and no answer, count as no directory
abbrev pub reply : Option ListAnswer → Result Listed ListFault
reply None = Ok NoDirectory
reply (Some (Names names)) = named names
reply (Some Missing) = Ok NoDirectory
reply (Some Fault) = Err Failed

-- the lister behind a listing
abbrev pub after_list : ListScript → (dir path : List ℕ) → Result Listed ListFault → ListScript
after_list old dir path answer = record { log = old.log ++ record { dir = dir; path = path; answer = answer } ∷ []; answers = drop 1 old.answers; faults = counted (is_fault answer) old.faults }

-- a listing was answered so and left this
pub record Replied (answer : Result Listed ListFault) (old new : ListScript) (dir path : List ℕ) : Type 0 where
  pub reply : answer ≡ reply (due old.answers)
  pub state : new ≡ after_list old dir path answer
