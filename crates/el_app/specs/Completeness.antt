-- Completeness of elcheck and elfmt: what they answer where their script is read.
use Rattle.el_room.specs.Vocabulary.{Vars, Options, elcheck_options, Event, Finish, NoMemory, Seen, found_in, has_fault, given, made}
use Rattle.std.specs.Prelude.{◌≡◌, ◌⊎◌, ℕ, true, false, List, ◌++◌, drop, None, Some, Ok}
use Rattle.el_world.specs.declared.finish.Finish.TheVariants.{Status}
use Rattle.el_tree.specs.Trees.{Tree}
use Rattle.el_check.specs.Checks.{checked_in}
use Rattle.el_check.specs.Scripts.{IsAcceptedScript}
use Rattle.el_app.specs.declared.asked.Asked.{Asked}
use Rattle.el_app.specs.Options.{asked}
use Rattle.el_app.specs.Names.{elcheck_name, elfmt_name}
use Rattle.el_app.specs.Files.{script_from}
use Rattle.el_app.specs.Params.{params_of}
use Rattle.el_app.specs.Elcheck.{asks_for_sample, lines_asked}
use Rattle.el_app.specs.Elfmt.{formatter_options}
use Rattle.el_app.specs.First.{first_state}

-- The words of a call ask for this, and on the answers found in these events its script is read: no read failed, and there was a unit
-- for each.
pub record IsReadingCall (name : List ℕ) (options : Options) (words : List (List ℕ)) (env : Vars) (dir : List ℕ) (units : ℕ) (added : List Event) (asking : Asked) (script : List ℕ) : Type 0 where
  pub is_asked : asked options words ≡ Ok asking
  pub is_read : (made (script_from name (first_state env dir) asking.source) units (found_in added)).outcome ≡ given script

-- elcheck answers 0 for each script that is accepted, or wants memory
pub record AcceptsTheAccepted (old new : Seen) (words : List (List ℕ)) (env : Vars) (dir : List ℕ) (units : ℕ) (result : Finish) : Type 0 where
  pub told : (before : List Event) → old.log ≡ Some before → (added : List Event) × (new.log ≡ Some (before ++ added))
      × ((asking : Asked) (script : List ℕ) (tree : Tree) → IsReadingCall elcheck_name elcheck_options words env dir units added asking script → IsAcceptedScript (params_of asking.placement) script tree → (result ≡ Status 0) ⊎ (result ≡ NoMemory))

-- and for each sample that is asked for, where no call failed
pub record TellsTheSample (old new : Seen) (words : List (List ℕ)) (result : Finish) : Type 0 where
  pub told : (before : List Event) → old.log ≡ Some before → (added : List Event) × (new.log ≡ Some (before ++ added))
      × ((lines : ℕ) → asks_for_sample words ≡ true → lines_asked (drop 2 words) ≡ Ok lines → has_fault added ≡ false → (result ≡ Status 0) ⊎ (result ≡ NoMemory))

-- elfmt answers 0 for each script that has a tree, where no call failed, or wants memory
pub record LaysOutTrees (old new : Seen) (words : List (List ℕ)) (env : Vars) (dir : List ℕ) (units : ℕ) (result : Finish) : Type 0 where
  pub told : (before : List Event) → old.log ≡ Some before → (added : List Event) × (new.log ≡ Some (before ++ added))
      × ((asking : Asked) (script : List ℕ) (tree : Tree) → IsReadingCall elfmt_name formatter_options words env dir units added asking script → checked_in None script ≡ Ok tree → has_fault added ≡ false → (result ≡ Status 0) ⊎ (result ≡ NoMemory))
