-- How code that lists directories is tied to what is to be listed.
use Rattle.std.specs.Prelude.{◌≡◌, ℕ, ◌≤◌, true, List, [], ◌++◌, map, Option, None, Some, Result, Ok, Err, IfOk}
use Rattle.std.specs.List.{filter}
use Rattle.el_world.specs.World.{Rose, HasCause}
use Rattle.el_glob.specs.declared.piece.Piece.{Piece}
use Rattle.el_glob.specs.declared.listed.Listed.{Listed as Directory}
use Rattle.el_glob.specs.declared.listed.Listed.TheVariants.{Names, NoDirectory}
use Rattle.el_glob.specs.declared.listed.ListFault.{ListFault}
use Rattle.el_glob.specs.declared.listed.ListFault.TheVariants.{Failed, NoMemory}
use Rattle.el_glob.specs.declared.listed.ListEvent.{ListEvent}
use Rattle.el_glob.specs.Fits.{fits}
use Rattle.el_glob.specs.Names.{IsListing}
use Rattle.el_glob.specs.Listers.{ListerSeen, extended, listing, has_fault, are_lawful}
use Rattle.el_glob.specs.Listings.{Answer, Globbed, Next, asked_first}

-- the answers of listings, in order
abbrev pub answers_in : List ListEvent → List Answer
answers_in events = map (λ (event : ListEvent). event.answer) events

-- listings that a lister was given between two states: they are lawful, they are told where it tells, and a failed one among
-- them has its cause
pub record Listed (old new : ListerSeen) (events : List ListEvent) : Type 0 where
  pub lawful : are_lawful events ≡ true
  pub told : new.log ≡ extended old.log events
  pub later : old.faults ≤ new.faults
  pub risen : has_fault events ≡ true → Rose old.faults new.faults

-- the names of a directory that fit
abbrev pub fitting : List Piece → Directory → List (List ℕ)
fitting pieces (Names names) = filter (fits pieces) names
fitting pieces NoDirectory = []

-- of two answers of a listing the second has all that fits of the first, and nothing else that fits
abbrev pub FitAlike : List Piece → (whole part : Answer) → Type 0
FitAlike pieces (Ok whole) (Ok part) = fitting pieces whole ≡ fitting pieces part
FitAlike pieces whole part = whole ≡ part

-- a listing was made, and answered with all that fits of it
pub record ListsFor (old new : ListerSeen) (dir path : List ℕ) (pieces : List Piece) (answer : Answer) : Type 0 where
  pub whole : Answer
  pub log : new.log ≡ extended old.log (listing dir path whole)
  pub cause : HasCause {T = Directory} {E = ListFault} old.faults new.faults whole Failed
  pub names : IfOk whole IsListing
  pub alike : FitAlike pieces whole answer

-- what is to be listed, and then what goes on from the paths found
abbrev pub Lists : Type 0
Lists = List Answer → Next → Globbed

-- on the answers found these listings were made, these paths were found, and it goes on from them
pub record GoesOn (old new : ListerSeen) (lists : Lists) (found : List (List ℕ)) : Type 0 where
  pub events : List ListEvent
  pub added : Listed old new events
  pub goes_on : (more : List Answer) (next : Next) → lists (answers_in events ++ more) next ≡ asked_first events (next found more)

-- on the answers found these listings were made, of which the last one failed
pub record Fails (old new : ListerSeen) (lists : Lists) : Type 0 where
  pub events : List ListEvent
  pub added : Listed old new events
  pub ends : (more : List Answer) (next : Next) → lists (answers_in events ++ more) next ≡ record { asked = events; found = None }

-- on the answers found the listings that were made are a beginning of those due
pub record CutOff (old new : ListerSeen) (lists : Lists) : Type 0 where
  pub events : List ListEvent
  pub added : Listed old new events
  pub begun : (more : List Answer) (next : Next) → (later : List ListEvent) × ((lists (answers_in events ++ more) next).asked ≡ events ++ later)

-- with the paths found; or it stopped, since a listing failed or for want of memory
abbrev pub Follows : (old new : ListerSeen) → Lists → Result (List (List ℕ)) ListFault → Type 0
Follows old new lists (Ok found) = GoesOn old new lists found
Follows old new lists (Err Failed) = Fails old new lists
Follows old new lists (Err NoMemory) = CutOff old new lists

-- on the answers found the listings are those of a pattern, and so is what was found
pub record Globs (old new : ListerSeen) (pattern : List Answer → Globbed) (found : Option (List (List ℕ))) : Type 0 where
  pub events : List ListEvent
  pub added : Listed old new events
  pub made : pattern (answers_in events) ≡ record { asked = events; found = found }

-- on the answers found the listings that were made are a beginning of those of a pattern
pub record GlobsShort (old new : ListerSeen) (pattern : List Answer → Globbed) : Type 0 where
  pub events : List ListEvent
  pub added : Listed old new events
  pub later : List ListEvent
  pub begun : (pattern (answers_in events)).asked ≡ events ++ later

-- the paths that a pattern matches; none where a listing failed; or it was cut off by want of memory
abbrev pub GlobsAs : (old new : ListerSeen) → (pattern : List Answer → Globbed) → Result (List (List ℕ)) ListFault → Type 0
GlobsAs old new pattern (Ok found) = Globs old new pattern (Some found)
GlobsAs old new pattern (Err Failed) = Globs old new pattern None
GlobsAs old new pattern (Err NoMemory) = GlobsShort old new pattern
