-- What elglob does.
use Rattle.std.specs.Prelude.{ℕ, zero, suc, Bool, List, [], ◌∷◌, ◌++◌, Option, None, Some, Result, Ok, Err, if◌then◌else◌, codes}
use Rattle.el_subst.specs.Values.{words_value}
use Rattle.el_env.specs.Vars.{Vars}
use Rattle.el_world.specs.declared.event.Handle.{Handle}
use Rattle.el_world.specs.Plans.{ends, takes, and_go_on}
use Rattle.el_world.specs.Acts.{Act}
use Rattle.el_world.specs.States.{State, Task, Status, Spent, standard_fds}
use Rattle.el_proc.specs.Descriptors.{held_in}
use Rattle.el_proc.specs.Troubles.{refused, written_to}
use Rattle.el_proc.specs.declared.trouble.TheConstants.{WRONG_USE}
use Rattle.el_proc.specs.declared.trouble.Trouble.TheVariants.{Failed}
use Rattle.el_machine.specs.Flat.{flat_run}
use Rattle.el_glob.specs.declared.listed.ListEvent.{ListEvent}
use Rattle.el_glob.specs.declared.asked.Asked.{Asked}
use Rattle.el_glob.specs.declared.refusal.Refusal.{Refusal}
use Rattle.el_glob.specs.declared.refusal.Refusal.TheVariants.{Common, BadPattern}
use Rattle.el_glob.specs.Listings.{Answer, globbed}
use Rattle.el_glob.specs.Asked.{asked}

-- the program's name
unfoldable pub elglob_name : List ℕ
elglob_name = codes "elglob"

-- ---- refusals

-- what is written of a text that is no pattern, with a newline (10)
unfoldable pub bad_pattern_message : List ℕ
bad_pattern_message = codes "elglob: bad pattern" ++ 10 ∷ []

-- one write of it to number 2, where it holds a handle, whatever comes of it
unfoldable pub bad_pattern_complaint : (fds : List (Option Handle)) → Act (Unit {0})
bad_pattern_complaint fds = written_to (held_in fds 2) bad_pattern_message

-- the message, and the end with the status of a wrong use
unfoldable pub refusing : State → Refusal → Task ⊥
refusing state (Common trouble) = refused state elglob_name trouble
refusing state BadPattern = and_go_on (bad_pattern_complaint state.fds) (λ _. ends (Status WRONG_USE state))

-- ---- the run

-- the words for the variable: all matches; and where there are none the pattern's own word, or none
abbrev pub value_of : (none_for_none : Bool) → (text : List ℕ) → (matches : List (List ℕ)) → List (List ℕ)
value_of none_for_none text [] = if none_for_none then [] else text ∷ []
value_of none_for_none text (path ∷ paths) = path ∷ paths

-- the rest is run, with these words in place of the variable
unfoldable pub put_and_run : Asked → (matches : List (List ℕ)) → State → Task ⊥
put_and_run asked matches state = flat_run (words_value ((asked.key, value_of asked.none_for_none asked.text matches) ∷ []) asked.rest) state

-- the same with what was found; a listing that failed is complained of
unfoldable pub run_on : Asked → Option (List (List ℕ)) → State → Task ⊥
run_on asked None state = refusing state (Common Failed)
run_on asked (Some matches) state = put_and_run asked matches state

-- what is asked for is done on these answers of listings, or complained of
unfoldable pub asked_run : Result Asked Refusal → (answers : List Answer) → State → Task ⊥
asked_run (Ok asked) answers state = run_on asked (globbed state.dir asked.pattern answers).found state
asked_run (Err refusal) answers state = refusing state refusal

-- what elglob does in the world with its words, of which the first is its name, on these answers of listings: it takes a unit first
unfoldable pub elglob_run : (words : List (List ℕ)) → (answers : List Answer) → State → Task ⊥
elglob_run words answers state = takes (Spent state) (asked_run (asked words) answers state)

-- ---- the listings

-- the listings for what is asked; what is refused lists nothing
abbrev pub lists_for : (dir : List ℕ) → Result Asked Refusal → (answers : List Answer) → List ListEvent
lists_for dir (Ok asked) answers = (globbed dir asked.pattern answers).asked
lists_for dir (Err refusal) answers = []

-- the listings that elglob makes with so many units, on these answers: none without a unit
abbrev pub elglob_lists : (units : ℕ) → (dir : List ℕ) → (words : List (List ℕ)) → (answers : List Answer) → List ListEvent
elglob_lists zero dir words answers = []
elglob_lists (suc units) dir words answers = lists_for dir (asked words) answers

-- a process at its start: its variables, its own descriptors, its directory, and no children
abbrev pub first_state : Vars → (dir : List ℕ) → State
first_state env dir = record { env = env; fds = standard_fds; dir = dir; kids = [] }
