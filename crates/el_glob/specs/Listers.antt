-- What a lister shows of its listings.
use Rattle.std.specs.Prelude.{ℕ, Bool, true, false, List, [], ◌∷◌, ◌++◌, Option, None, Some, Result, Ok, Err}
use Rattle.std.specs.List.{list_any, list_all}
use Rattle.el_glob.specs.declared.listed.Listed.{Listed}
use Rattle.el_glob.specs.declared.listed.Listed.TheVariants.{Names, NoDirectory}
use Rattle.el_glob.specs.declared.listed.ListFault.{ListFault}
use Rattle.el_glob.specs.declared.listed.ListFault.TheVariants.{Failed, NoMemory}
use Rattle.el_glob.specs.declared.listed.ListEvent.{ListEvent}
use Rattle.el_glob.specs.Names.{are_entry_names}

-- a lister as its callers see it: the listings so far, where it tells them, and how many have failed
pub record ListerSeen : Type 0 where
  pub log : Option (List ListEvent)
  pub faults : ℕ

-- a log with these listings behind, where it is told
unfoldable pub extended : Option (List ListEvent) → List ListEvent → Option (List ListEvent)
extended None added = None
extended (Some events) added = Some (events ++ added)

-- the event of a listing; one that had no memory has none
unfoldable pub listing : (dir path : List ℕ) → Result Listed ListFault → List ListEvent
listing dir path (Ok listed) = record { dir = dir; path = path; answer = Ok listed } ∷ []
listing dir path (Err Failed) = record { dir = dir; path = path; answer = Err Failed } ∷ []
listing dir path (Err NoMemory) = []

-- the listing failed
abbrev pub is_fault : Result Listed ListFault → Bool
is_fault (Ok listed) = false
is_fault (Err fault) = true

-- some listing failed
abbrev pub has_fault : List ListEvent → Bool
has_fault events = list_any (λ (event : ListEvent). is_fault event.answer) events

-- a listing may be answered so; want of memory is no answer
abbrev pub is_lawful : Result Listed ListFault → Bool
is_lawful (Ok (Names names)) = are_entry_names names
is_lawful (Ok NoDirectory) = true
is_lawful (Err Failed) = true
is_lawful (Err NoMemory) = false

-- all listings were answered so
abbrev pub are_lawful : List ListEvent → Bool
are_lawful events = list_all (λ (event : ListEvent). is_lawful event.answer) events
