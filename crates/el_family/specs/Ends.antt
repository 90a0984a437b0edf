-- How elfamily ends.
use Rattle.std.specs.Prelude.{◌≡◌, ℕ, List, Option, None, Some, Result, Ok, Err, codes}
use Rattle.el_world.specs.declared.finish.Finish.{Finish}
use Rattle.el_world.specs.declared.finish.Finish.TheVariants.{Status, NoMemory as no_memory}
use Rattle.el_family.specs.declared.asked.Asked.{Asked}
use Rattle.el_family.specs.declared.asked.Form.{Form}
use Rattle.el_family.specs.declared.asked.Form.TheVariants.{Lines, Tree}
use Rattle.el_family.specs.declared.family.FamilyFault.{FamilyFault}
use Rattle.el_family.specs.declared.family.FamilyFault.TheVariants.{Full}
use Rattle.el_family.specs.declared.program.End.{End}
use Rattle.el_family.specs.declared.program.End.TheVariants.{Told, TooMany, WrongUse, NoMemory}
use Rattle.el_family.specs.Processes.{Process}
use Rattle.el_family.specs.Reports.{lines_from, IsWhole, GrowsBeyond}
use Rattle.el_family.specs.Trees.{tree_lines}

-- what is told of a family, in this form
abbrev pub told_text : Form → List Process → List ℕ
told_text Lines family = lines_from 0 family
told_text Tree family = tree_lines family

-- these bytes are told of the whole family
pub record IsToldOf (form : Form) (words : List (List ℕ)) (budget : ℕ) (bytes : List ℕ) : Type 0 where
  pub family : List Process
  pub whole : IsWhole words budget family
  pub text : bytes ≡ told_text form family

-- so it may end where this is asked: with what is told of the family, where that grows beyond, or for want of memory
abbrev pub MayEnd : Asked → End → Type 0
MayEnd asked (Told bytes) = IsToldOf asked.form asked.words asked.budget bytes
MayEnd asked TooMany = GrowsBeyond asked.words asked.budget
MayEnd asked WrongUse = ⊥
MayEnd asked NoMemory = Unit {0}

-- so it ends by what is asked; where nothing is, it is wrongly used
abbrev pub EndsBy : Option Asked → End → Type 0
EndsBy None end = end ≡ WrongUse
EndsBy (Some asked) end = MayEnd asked end

-- the end by what is told of the family; want of room has an end of its own
abbrev pub end_of : Result (List ℕ) FamilyFault → End
end_of (Ok bytes) = Told bytes
end_of (Err Full) = TooMany
end_of (Err fault) = NoMemory

-- how the process ends
abbrev pub finish_of : End → Finish
finish_of (Told bytes) = Status 0
finish_of TooMany = Status 100
finish_of WrongUse = Status 100
finish_of NoMemory = no_memory

-- what is said of a family with too many members
unfoldable pub too_many_text : List ℕ
too_many_text = codes "too many processes"

-- what is said of words that don't fit its use
unfoldable pub wrong_use_text : List ℕ
wrong_use_text = codes "wrong usage"

-- what standard error is told of what is refused
abbrev pub complaint_of : End → Option (List ℕ)
complaint_of (Told bytes) = None
complaint_of TooMany = Some too_many_text
complaint_of WrongUse = Some wrong_use_text
complaint_of NoMemory = None
