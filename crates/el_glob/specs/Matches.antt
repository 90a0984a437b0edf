-- Which paths a pattern matches, in the words of the listings that were made.
use Rattle.std.specs.Prelude.{◌≡◌, ℕ, List, [], ◌∷◌, Result, Ok, Err, ◌⊎◌}
use Rattle.el_glob.specs.declared.listed.Listed.{Listed}
use Rattle.el_glob.specs.declared.listed.Listed.TheVariants.{Names as NamesOf, NoDirectory}
use Rattle.el_glob.specs.declared.listed.ListFault.{ListFault}
use Rattle.el_glob.specs.declared.listed.ListEvent.{ListEvent}
use Rattle.el_glob.specs.declared.part.Part.{Part}
use Rattle.el_glob.specs.declared.part.Part.TheVariants.{Dot, DotDot, Names}
use Rattle.el_glob.specs.Fits.{Fits}
use Rattle.el_glob.specs.Names.{IsIn}
use Rattle.el_glob.specs.Written.{Written}
use Rattle.el_glob.specs.Listings.{join, start_path}

-- an answer has this name
abbrev pub AnswersName : Result Listed ListFault → (name : List ℕ) → Type 0
AnswersName (Ok (NamesOf names)) name = IsIn names name
AnswersName (Ok NoDirectory) name = ⊥
AnswersName (Err fault) name = ⊥

-- the listing of this path has this name
abbrev pub HasName : List ListEvent → (path name : List ℕ) → Type 0
HasName [] path name = ⊥
HasName (event ∷ events) path name = (event.path ≡ path) × AnswersName event.answer name ⊎ HasName events path name

-- By these listings a path is reached from a directory, part after part: `.` (46) and `..` stand for themselves, and any other
-- part for a name in the listing of the path before it that fits.
abbrev pub Reaches : List ListEvent → (here : List ℕ) → List Part → (path : List ℕ) → Type 0
Reaches events here [] path = path ≡ here
Reaches events here (Dot ∷ parts) path = Reaches events (join here (46 ∷ [])) parts path
Reaches events here (DotDot ∷ parts) path = Reaches events (join here (46 ∷ 46 ∷ [])) parts path
Reaches events here (Names pieces ∷ parts) path = (name : List ℕ) × HasName events here name × Fits pieces name × Reaches events (join here name) parts path

-- by these listings the pattern matches a path
abbrev pub IsMatch : List ListEvent → Written → (path : List ℕ) → Type 0
IsMatch events pattern path = Reaches events (start_path pattern.rooted) pattern.parts path
