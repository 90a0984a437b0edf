-- What is told of a family, and the one family that is told of.
use Rattle.std.specs.Prelude.{◌≡◌, ℕ, suc, ◌+◌, ◌<◌, ◌≤◌, List, [], ◌∷◌, ◌++◌, Option, None, Some, length, count_by, codes}
use Rattle.std.specs.Fmt.{decimal}
use Rattle.std.specs.FinMap as map
use Rattle.el_world.specs.declared.event.Event.{Event}
use Rattle.el_world.specs.declared.finish.Finish.{Finish}
use Rattle.el_world.specs.declared.finish.Finish.TheVariants.{Status, Spent, NoMemory}
use Rattle.el_app.specs.Tallies.{is_start, is_wait}
use Rattle.el_family.specs.declared.family.TheConstants.{MAX_MEMBERS}
use Rattle.el_family.specs.declared.member.Origin.{Origin}
use Rattle.el_family.specs.declared.counts.Counts.{Counts}
use Rattle.el_family.specs.Processes.{Process, Run, new_process}
use Rattle.el_family.specs.Agreement.{events_in}
use Rattle.el_family.specs.Families.{after_run}

-- ---- the lines

-- how many starts and waits there are among events
abbrev pub counts_of : List Event → Counts
counts_of events = record { starts = count_by is_start events; waits = count_by is_wait events }

-- the number of the parent; the first process has none
unfoldable pub parent_text : Option Origin → List ℕ
parent_text None = codes "-"
parent_text (Some origin) = decimal origin.member

-- how a process finished; want of memory is never kept
unfoldable pub finish_text : Finish → List ℕ
finish_text (Status code) = decimal code
finish_text Spent = codes "spent"
finish_text NoMemory = codes "-"

-- the same of one that may not have run
unfoldable pub status_text : Option Run → List ℕ
status_text None = codes "-"
status_text (Some run) = finish_text run.finish

-- the line of the member with this number
unfoldable pub member_line : (number : ℕ) → Process → List ℕ
member_line number process =
    let counts = counts_of (events_in process.ran) in
    codes "member " ++ decimal number ++ codes " parent " ++ parent_text process.origin ++ codes " starts " ++ decimal counts.starts ++ codes " waits " ++ decimal counts.waits
    ++ codes " status " ++ status_text process.ran ++ codes "\n"

-- a line for each of these, of which the first has this number
unfoldable pub lines_from : (number : ℕ) → List Process → List ℕ
lines_from number [] = []
lines_from number (process ∷ family) = member_line number process ++ lines_from (number + 1) family

-- ---- the family

-- a process with these words that hasn't run, in the empty environment and the directory `/`
abbrev pub first_process : (words : List (List ℕ)) → Process
first_process words = new_process words map.empty (codes "/") None

-- its family once so many members have run, each in order of number with plain answers and this budget
unfoldable pub family_after : (count : ℕ) → (words : List (List ℕ)) → (budget : ℕ) → List Process
family_after Prim.Native.Nat.zero words budget = first_process words ∷ []
family_after (suc count) words budget = after_run (family_after count words budget) count [] budget

-- this is the family in which all have run, and it has no more members than it may
pub record IsWhole (words : List (List ℕ)) (budget : ℕ) (family : List Process) : Type 0 where
  pub count : ℕ
  pub reached : family ≡ family_after count words budget
  pub all : length family ≤ count
  pub within : length family ≤ MAX_MEMBERS

-- it gets more members than it may
pub record GrowsBeyond (words : List (List ℕ)) (budget : ℕ) : Type 0 where
  pub count : ℕ
  pub beyond : MAX_MEMBERS < length (family_after count words budget)
