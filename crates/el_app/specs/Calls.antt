-- The calls of the tools and of the top call, from outside.
use Rattle.el_room.specs.Vocabulary.{Vars, Finish, NoMemory, Plan, Outcome, ended, ends_as, End}
use Rattle.std.specs.Prelude.{ℕ, List, Option, None, Some}
use Rattle.el_world.specs.declared.finish.Finish.TheVariants.{Status, Spent}
use Rattle.el_world.specs.States as end
use Rattle.el_app.specs.First.{first_state}
use Rattle.el_app.specs.Execlineb.{execlineb_run}
use Rattle.el_app.specs.Elcheck.{elcheck_run}
use Rattle.el_app.specs.Elfmt.{elfmt_run}
use Rattle.el_app.specs.Execline.{execline_run}

-- how a process ends, its state left aside: with a status, or where a unit is due and none is left
pub data Ending : Type 0 where
  status : (code : ℕ) → Ending
  spent : Ending

-- an end, its state left aside
abbrev pub ending_of : End → Ending
ending_of (end.Status code state) = status code
ending_of (end.Spent state) = spent

-- how a plan comes out where the answer is this; want of memory is no outcome
abbrev pub outcome_of : Finish → Option (Outcome Ending ⊥)
outcome_of (Status code) = Some (ended (status code))
outcome_of Spent = Some (ended spent)
outcome_of NoMemory = None

-- execlineb with these words, of which the first is its name
abbrev pub execlineb_call : (words : List (List ℕ)) → Vars → (dir : List ℕ) → Plan Ending ⊥
execlineb_call words env dir = ends_as ending_of (execlineb_run words (first_state env dir))

-- elcheck with these words, of which the first is its name
abbrev pub elcheck_call : (words : List (List ℕ)) → Vars → (dir : List ℕ) → Plan Ending ⊥
elcheck_call words env dir = ends_as ending_of (elcheck_run words (first_state env dir))

-- elfmt with these words, of which the first is its name
abbrev pub elfmt_call : (words : List (List ℕ)) → Vars → (dir : List ℕ) → Plan Ending ⊥
elfmt_call words env dir = ends_as ending_of (elfmt_run words (first_state env dir))

-- the top call with these words
abbrev pub execline_call : (words : List (List ℕ)) → Vars → (dir : List ℕ) → Plan Ending ⊥
execline_call words env dir = ends_as ending_of (execline_run words (first_state env dir))
