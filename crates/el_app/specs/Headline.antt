-- The headline: the calls of execlineb on a script that is accepted, and its answer, are those of the script's meaning.
use Rattle.el_room.specs.Vocabulary.{bytes_eq, Vars, execlineb_options, Scope, Event, Finish, NoMemory, Seen, found_in, Plan, and_then, given, ended, Made, made, ends_as, State, Task}
use Rattle.std.specs.Prelude.{◌≡◌, ◌⊎◌, ℕ, Bool, false, List, [], ◌∷◌, ◌++◌, Option, None, Some, Ok, if◌then◌else◌}
use Rattle.el_world.specs.declared.finish.Finish.TheVariants.{Status}
use Rattle.el_world.specs.Runs.{AreEventsOf}
use Rattle.el_tree.specs.Trees.{Tree}
use Rattle.el_check.specs.declared.params.Params.{Params}
use Rattle.el_check.specs.declared.params.Params.TheVariants.{Frame, Leave, Subst}
use Rattle.el_check.specs.Scripts.{first_scope, shifted_scope, IsAcceptedScript}
use Rattle.el_meaning.specs.Meaning.{whole_meaning}
use Rattle.el_app.specs.declared.asked.Placement.{Placement}
use Rattle.el_app.specs.declared.asked.Placement.TheVariants.{By, Shifted}
use Rattle.el_app.specs.declared.asked.Asked.{Asked}
use Rattle.el_app.specs.declared.names.Tool.{Tool}
use Rattle.el_app.specs.declared.names.Tool.TheVariants.{Execlineb, Elcheck, Elfmt}
use Rattle.el_app.specs.Options.{asked}
use Rattle.el_app.specs.Names.{execlineb_name, execline_name, tool_named, base_name}
use Rattle.el_app.specs.Files.{script_from}
use Rattle.el_app.specs.Params.{is_too_deep, in_new_frame, params_of}
use Rattle.el_app.specs.Execlineb.{with_strictness, zero_of}
use Rattle.el_app.specs.Calls.{Ending, status, ending_of, outcome_of}
use Rattle.el_app.specs.First.{first_state}

-- ---- where a script begins

-- the state in which the script is read
abbrev pub state_at_reading : Asked → Vars → (dir : List ℕ) → State
state_at_reading asked env dir = with_strictness asked.strict (first_state env dir)

-- the state in which it begins: the positional parameters stand in a new frame, where they get one
abbrev pub begun_state : Params → (zero : List ℕ) → (args : List (List ℕ)) → State → State
begun_state Frame zero args state = record state { env = in_new_frame zero args state.env }
begun_state Leave zero args state = state
begun_state (Subst least) zero args state = state

-- a frame is due, and a name at the greatest depth is set
abbrev pub is_frame_refused : Params → State → Bool
is_frame_refused Frame state = is_too_deep state.env
is_frame_refused Leave state = false
is_frame_refused (Subst least) state = false

-- the scope in which it begins: empty, or one substitution of the positional parameters, whose `@` leaves out the first ones where they
-- are shifted
abbrev pub begun_scope : Placement → (zero : List ℕ) → (args : List (List ℕ)) → Scope
begun_scope (By params) zero args = first_scope params zero args
begun_scope (Shifted least) zero args = shifted_scope least zero args

-- ---- what a call means by a tree

-- the script is read, and then comes the whole meaning of the tree in the first scope and state
unfoldable pub meaning_run : Asked → Tree → State → Task ⊥
meaning_run asked tree state =
    and_then (script_from execlineb_name state asked.source) (λ script.
    whole_meaning tree (begun_scope asked.placement (zero_of asked.source) asked.args) (begun_state (params_of asked.placement) (zero_of asked.source) asked.args state))

-- the same as a plan, from these variables and this directory, the state of its end left aside
abbrev pub meaning_call : Asked → Tree → Vars → (dir : List ℕ) → Plan Ending ⊥
meaning_call asked tree env dir = ends_as ending_of (meaning_run asked tree (state_at_reading asked env dir))

-- The words of a call ask for this; on the answers found in these events it reads a script, which is accepted with the tree; and no
-- frame is refused.
pub record IsAcceptedCall (words : List (List ℕ)) (env : Vars) (dir : List ℕ) (units : ℕ) (added : List Event) (asking : Asked) (tree : Tree) : Type 0 where
  pub is_asked : asked execlineb_options words ≡ Ok asking
  pub script : List ℕ
  pub is_read : (made (script_from execlineb_name (state_at_reading asking env dir) asking.source) units (found_in added)).outcome ≡ given script
  pub accepted : IsAcceptedScript (params_of asking.placement) script tree
  pub has_frame : is_frame_refused (params_of asking.placement) (state_at_reading asking env dir) ≡ false

-- what the meaning makes of the answers found in these events
abbrev pub meant : Asked → Tree → Vars → (dir : List ℕ) → (units : ℕ) → List Event → Made Ending ⊥
meant asking tree env dir units added = made (meaning_call asking tree env dir) units (found_in added)

-- Where the world tells its log, events were added to it. Whatever tree the call's script is accepted with, they are exactly those by
-- which the script is read and then those of the tree's whole meaning, on the answers found in them, none of which is left over; and the
-- call is answered as the meaning ends. With want of memory they are a beginning of these events.
pub record MakesItsMeaning (old new : Seen) (words : List (List ℕ)) (env : Vars) (dir : List ℕ) (units : ℕ) (result : Finish) : Type 0 where
  pub told : (before : List Event) → old.log ≡ Some before → (added : List Event) × (new.log ≡ Some (before ++ added))
      × ((asking : Asked) (tree : Tree) → IsAcceptedCall words env dir units added asking tree → AreEventsOf added (meant asking tree env dir units added) (outcome_of result))

-- Completeness: where the meaning ends with a status within the units, that status is the answer, or want of memory.
pub record EndsAsItMeans (old new : Seen) (words : List (List ℕ)) (env : Vars) (dir : List ℕ) (units : ℕ) (result : Finish) : Type 0 where
  pub told : (before : List Event) → old.log ≡ Some before → (added : List Event) × (new.log ≡ Some (before ++ added))
      × ((asking : Asked) (tree : Tree) (code : ℕ) → IsAcceptedCall words env dir units added asking tree → (meant asking tree env dir units added).outcome ≡ ended (status code) → (result ≡ Status code) ⊎ (result ≡ NoMemory))

-- ---- the top call

-- the words, where the tool is execlineb; none for another tool or for no tool
abbrev pub if_execlineb : Option Tool → (words : List (List ℕ)) → Option (List (List ℕ))
if_execlineb (Some Execlineb) words = Some words
if_execlineb (Some Elcheck) words = None
if_execlineb (Some Elfmt) words = None
if_execlineb None words = None

-- the words behind `execline`, where the first is `execlineb`
abbrev pub behind_execline : (words : List (List ℕ)) → Option (List (List ℕ))
behind_execline [] = None
behind_execline (word ∷ words) = if_execlineb (tool_named word) (word ∷ words)

-- the words of execlineb's call, where the first word of the top call chooses it
abbrev pub execlineb_words : (words : List (List ℕ)) → Option (List (List ℕ))
execlineb_words [] = None
execlineb_words (word ∷ words) = if bytes_eq (base_name word) execline_name then behind_execline words else if_execlineb (tool_named (base_name word)) (base_name word ∷ words)
