-- The call of elglob, from outside.
use Rattle.std.specs.Prelude.{◌≡◌, ◌⊎◌, ◌↔◌, ℕ, true, List, ◌++◌, Some, None, Ok, Err}
use Rattle.el_env.specs.Vars.{Vars}
use Rattle.el_world.specs.declared.finish.Finish.{Finish}
use Rattle.el_world.specs.declared.finish.Finish.TheVariants.{Status, Spent, NoMemory}
use Rattle.el_world.specs.World.{Seen}
use Rattle.el_world.specs.Runs as world
use Rattle.el_world.specs.States.{State, Task}
use Rattle.el_world.specs.Follows.{Follows, finished}
use Rattle.el_glob.specs.declared.listed.ListEvent.{ListEvent}
use Rattle.el_glob.specs.declared.asked.Asked.{Asked}
use Rattle.el_glob.specs.Names.{IsIn}
use Rattle.el_glob.specs.Written.{Written}
use Rattle.el_glob.specs.Rising.{Rises}
use Rattle.el_glob.specs.Listers.{ListerSeen, are_lawful}
use Rattle.el_glob.specs.Listings.{Answer, globbed}
use Rattle.el_glob.specs.Lists.{Listed, answers_in}
use Rattle.el_glob.specs.Matches.{IsMatch}
use Rattle.el_glob.specs.Asked.{asked}
use Rattle.el_glob.specs.Elglob.{elglob_run, elglob_lists, first_state}

-- these are a beginning of the listings due, and between the two states of the world nothing was run
pub record StopsAmongLists (made due : List ListEvent) (old new : Seen) : Type 0 where
  pub later : List ListEvent
  pub begun : due ≡ made ++ later
  pub nothing : new ≡ old

-- these are the listings due; where memory was wanting they may be a beginning of them, and then nothing was run
abbrev pub AreLists : Finish → (made due : List ListEvent) → (old new : Seen) → Type 0
AreLists (Status code) made due old new = due ≡ made
AreLists Spent made due old new = due ≡ made
AreLists NoMemory made due old new = (due ≡ made) ⊎ StopsAmongLists made due old new

-- Between two states of a lister and two of a world these listings were made, and then this was run, both on the answers of the
-- listings; and it ended so, in this state and with so many units left. For want of memory all listings due were made and what was
-- run is a beginning, or the listings are a beginning of those due and nothing was run.
pub record RunsOn (lister_old lister_new : ListerSeen) (old new : Seen) (lists : List Answer → List ListEvent) (run : List Answer → Task ⊥) (units : ℕ) (result : Finish) (state : State) (left : ℕ) : Type 0 where
  pub events : List ListEvent
  pub added : Listed lister_old lister_new events
  pub due : AreLists result events (lists (answers_in events)) old new
  pub follows : Follows {A = ⊥} {B = ⊥} old new (run (answers_in events)) units (Err result) (λ never. never) state left

-- Between two states of a lister and two of a world elglob was called and answered so: its listings are those due on the answers
-- found, and then its calls are those of its run.
pub record Globbed (lister_old lister_new : ListerSeen) (old new : Seen) (words : List (List ℕ)) (env : Vars) (dir : List ℕ) (units : ℕ) (result : Finish) : Type 0 where
  pub state : State
  pub left : ℕ
  pub runs : RunsOn lister_old lister_new old new (elglob_lists units dir words) (λ answers. elglob_run words answers (first_state env dir)) units result state left

-- on these answers the matches are all paths that the pattern matches by the listings made, each once, rising by their bytes
pub record AreAllMatches (dir : List ℕ) (pattern : Written) (answers : List Answer) (matches : List (List ℕ)) : Type 0 where
  pub all : (path : List ℕ) → IsIn matches path ↔ IsMatch (globbed dir pattern answers).asked pattern path
  pub rise : Rises matches

-- Where the lister and the world tell their logs: the listings made are those due on the answers found, what is put in for them is
-- all matches, and the events added are exactly those of elglob's run on these answers and on those found in the events, and it
-- ends so. For want of memory the events are a beginning of what is due; or the listings are, and there are no events.
pub record Tells (lister_old lister_new : ListerSeen) (old new : Seen) (words : List (List ℕ)) (env : Vars) (dir : List ℕ) (units : ℕ) (result : Finish) : Type 0 where
  pub lists : List ListEvent
  pub listed : (before : List ListEvent) → lister_old.log ≡ Some before → lister_new.log ≡ Some (before ++ lists)
  pub unlisted : lister_old.log ≡ None → lister_new.log ≡ None
  pub lawful : are_lawful lists ≡ true
  pub due : AreLists result lists (elglob_lists units dir words (answers_in lists)) old new
  pub matched : (asking : Asked) → asked words ≡ Ok asking → (matches : List (List ℕ)) → (globbed dir asking.pattern (answers_in lists)).found ≡ Some matches → AreAllMatches dir asking.pattern (answers_in lists) matches
  pub state : State
  pub told : world.Tells old new (elglob_run words (answers_in lists) (first_state env dir)) units (finished result state)
