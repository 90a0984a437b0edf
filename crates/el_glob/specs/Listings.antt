-- Which directories are listed for a pattern, in which order, and which paths are found in what they answer.
use Rattle.std.specs.Prelude.{Bool, true, false, ℕ, List, [], ◌∷◌, ◌++◌, Option, Some, None, Result, Ok, Err, if◌then◌else◌}
use Rattle.std.specs.Ordering.{nat_cmp}
use Rattle.std.specs.Cmp.Lexicographic.{slice_cmp}
use Rattle.std.specs.BTreeSet.{insert_key}
use Rattle.std.specs.Str.{bytes_eq}
use Rattle.el_glob.specs.declared.listed.Listed.{Listed}
use Rattle.el_glob.specs.declared.listed.Listed.TheVariants.{Names as NamesOf, NoDirectory}
use Rattle.el_glob.specs.declared.listed.ListFault.{ListFault}
use Rattle.el_glob.specs.declared.listed.ListEvent.{ListEvent}
use Rattle.el_glob.specs.declared.piece.Piece.{Piece}
use Rattle.el_glob.specs.declared.part.Part.{Part}
use Rattle.el_glob.specs.declared.part.Part.TheVariants.{Dot, DotDot, Names}
use Rattle.el_glob.specs.Fits.{fits}
use Rattle.el_glob.specs.Written.{Written}

-- ---- paths

-- a name in a directory; the empty path is the directory where all begins, and behind `/` (47) there is no other one
abbrev pub join : (path name : List ℕ) → List ℕ
join [] name = name
join (byte ∷ path) name = if bytes_eq (byte ∷ path) (47 ∷ []) then 47 ∷ name else (byte ∷ path) ++ 47 ∷ name

-- a path at its place among paths that rise by their bytes, unless it is there
abbrev pub placed : (paths : List (List ℕ)) → (path : List ℕ) → List (List ℕ)
placed paths path = insert_key (slice_cmp nat_cmp) paths path

-- the paths found so far, and those of the names that fit
abbrev pub with_names : List Piece → (path : List ℕ) → (names : List (List ℕ)) → (found : List (List ℕ)) → List (List ℕ)
with_names pieces path [] found = found
with_names pieces path (name ∷ names) found = with_names pieces path names (if fits pieces name then placed found (join path name) else found)

-- the paths found so far, and those of the names that fit, where there is a directory
abbrev pub with_listed : List Piece → (path : List ℕ) → Listed → (found : List (List ℕ)) → List (List ℕ)
with_listed pieces path (NamesOf names) found = with_names pieces path names found
with_listed pieces path NoDirectory found = found

-- the paths found so far, and each of these with a name behind it
abbrev pub with_joined : (name : List ℕ) → (paths found : List (List ℕ)) → List (List ℕ)
with_joined name [] found = found
with_joined name (path ∷ paths) found = with_joined name paths (placed found (join path name))

-- the path where all begins
abbrev pub start_path : (rooted : Bool) → List ℕ
start_path true = 47 ∷ []
start_path false = []

-- ---- listings

-- what a listing answers
abbrev pub Answer : Type 0
Answer = Result Listed ListFault

-- the listings, in order; and the paths found, unless a listing failed
pub record Globbed : Type 0 where
  pub asked : List ListEvent
  pub found : Option (List (List ℕ))

-- these listings first
abbrev pub asked_first : List ListEvent → Globbed → Globbed
asked_first asked globbed = record { asked = asked ++ globbed.asked; found = globbed.found }

-- what goes on from paths that were found, on the answers that are left
abbrev pub Next : Type 0
Next = List (List ℕ) → List Answer → Globbed

module _ (dir : List ℕ) where
  -- one listing
  abbrev pub one_asked : (path : List ℕ) → Answer → List ListEvent
  one_asked path answer = record { dir = dir; path = path; answer = answer } ∷ []

  -- Each of the paths is listed in order, and each answer adds what fits to the paths found; behind them goes on what is found.
  -- A listing that fails ends it all. Where there are no more answers, there are no directories.
  abbrev pub listed : List Piece → (paths found : List (List ℕ)) → (answers : List Answer) → Next → Globbed
  listed pieces [] found answers next = next found answers
  listed pieces (path ∷ paths) found [] next = asked_first (one_asked path (Ok NoDirectory)) (listed pieces paths found [] next)
  listed pieces (path ∷ paths) found (Ok there ∷ answers) next = asked_first (one_asked path (Ok there)) (listed pieces paths (with_listed pieces path there found) answers next)
  listed pieces (path ∷ paths) found (Err fault ∷ answers) next = record { asked = one_asked path (Err fault); found = None }

  -- one part: `.` (46) and `..` are listed nowhere
  abbrev pub part_step : Part → (paths : List (List ℕ)) → (answers : List Answer) → Next → Globbed
  part_step Dot paths answers next = next (with_joined (46 ∷ []) paths []) answers
  part_step DotDot paths answers next = next (with_joined (46 ∷ 46 ∷ []) paths []) answers
  part_step (Names pieces) paths answers next = listed pieces paths [] answers next

  -- part after part, from these paths on
  abbrev pub globbed_from : List Part → Next
  globbed_from [] paths answers = record { asked = []; found = Some paths }
  globbed_from (part ∷ parts) paths answers = part_step part paths answers (globbed_from parts)

  -- a pattern, from `/` or from the directory where all begins
  abbrev pub globbed : Written → (answers : List Answer) → Globbed
  globbed pattern answers = globbed_from pattern.parts (start_path pattern.rooted ∷ []) answers
