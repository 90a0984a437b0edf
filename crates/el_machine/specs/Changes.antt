-- What a program may change of its process's state, whatever it does.
use Rattle.el_room.specs.Vocabulary.{decimal, Prog, Importas, Import, Multisubstitute, Export, Unexport, Emptyenv, Envfile, Withstdinas, Shift, Foreground, Background, Cd, Exec, Pipeline, Backtick, Redirfd, Fdmove, Fdclose, Fdswap, Piperw, Heredoc, Vars, State, Next, Go}
use Rattle.std.specs.Prelude.{◌≡◌, ℕ, suc, Bool, true, false, List, ◌⊎◌, Some, is_some, codes}
use Rattle.std.specs.FinMap as map
use Rattle.el_words.specs.declared.prog.Prog.TheVariants.{Wait}
use Rattle.el_proc.specs.declared.next.Next.TheVariants.{End, Spent, NoMemory}

-- ---- variables

-- every variable but the one of this name stays
pub record ChangesOnly (name : List ℕ) (before after : Vars) : Type 0 where
  pub others : (other : List ℕ) → (other ≡ name → ⊥) → map.get after other ≡ map.get before other

-- at most one variable changes
pub record ChangesOne (before after : Vars) : Type 0 where
  pub name : List ℕ
  pub only : ChangesOnly name before after

-- `#`, or a number from 1
abbrev pub IsNumbered : (name : List ℕ) → Type 0
IsNumbered name = (name ≡ codes "#") ⊎ ((number : ℕ) × (name ≡ decimal (suc number)))

-- every variable but those named so stays
pub record ChangesNumbered (before after : Vars) : Type 0 where
  pub others : (name : List ℕ) → (IsNumbered name → ⊥) → map.get after name ≡ map.get before name

-- what is set was set so before
pub record RemovesOnly (before after : Vars) : Type 0 where
  pub was_set : (name value : List ℕ) → map.get after name ≡ Some value → map.get before name ≡ Some value

-- what was set is set still
pub record RemovesNone (before after : Vars) : Type 0 where
  pub is_set : (name : List ℕ) → is_some (map.get before name) ≡ true → is_some (map.get after name) ≡ true

-- how the variables may change under a program
abbrev pub VariablesChange : Prog → (before after : Vars) → Type 0
VariablesChange Foreground before after = ChangesOnly (codes "?") before after
VariablesChange Background before after = ChangesOnly (codes "!") before after
VariablesChange Pipeline before after = ChangesOnly (codes "!") before after
VariablesChange Export before after = ChangesOne before after
VariablesChange Unexport before after = ChangesOne before after
VariablesChange Withstdinas before after = ChangesOne before after
VariablesChange Backtick before after = ChangesOne before after
VariablesChange Shift before after = ChangesNumbered before after
VariablesChange Importas before after = RemovesOnly before after
VariablesChange Import before after = RemovesOnly before after
VariablesChange Multisubstitute before after = RemovesOnly before after
VariablesChange Emptyenv before after = RemovesOnly before after
VariablesChange Exec before after = RemovesOnly before after
VariablesChange Envfile before after = RemovesNone before after
VariablesChange program before after = after ≡ before

-- ---- the rest of the state

-- the directory may change under the program
abbrev pub changes_directory : Prog → Bool
changes_directory Cd = true
changes_directory program = false

-- what the numbers hold may change under it
abbrev pub changes_descriptors : Prog → Bool
changes_descriptors Pipeline = true
changes_descriptors Redirfd = true
changes_descriptors Fdmove = true
changes_descriptors Fdclose = true
changes_descriptors Fdswap = true
changes_descriptors Piperw = true
changes_descriptors Heredoc = true
changes_descriptors program = false

-- the kids may change under it
abbrev pub changes_kids : Prog → Bool
changes_kids Background = true
changes_kids Wait = true
changes_kids Pipeline = true
changes_kids program = false

-- ---- all of it

-- behind a program that goes on the state is as it was, but for what this program may change
pub record MayChange (program : Prog) (before after : State) : Type 0 where
  pub variables : VariablesChange program before.env after.env
  pub directory : changes_directory program ≡ false → after.dir ≡ before.dir
  pub descriptors : changes_descriptors program ≡ false → after.fds ≡ before.fds
  pub kids : changes_kids program ≡ false → after.kids ≡ before.kids

-- so it is behind a program that goes on; of one that ends the process nothing is said
abbrev pub ChangesBehind : Next → Prog → (before after : State) → Type 0
ChangesBehind Go program before after = MayChange program before after
ChangesBehind (End code) program before after = Unit {0}
ChangesBehind Spent program before after = Unit {0}
ChangesBehind NoMemory program before after = Unit {0}
