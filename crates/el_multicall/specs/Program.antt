-- What the program of all names does.
use Rattle.el_room.specs.Vocabulary.{Vars, Finish, NoMemory, Seen, Ran, RanWith, Tells}
use Rattle.std.specs.Prelude.{◌≡◌, ◌⊎◌, ℕ, ◌-◌, ◌^◌, List, Option, None, Some}
use Rattle.el_world.specs.declared.finish.Finish.TheVariants.{Spent}
use Rattle.el_app.specs.Calls.{execline_call, outcome_of}
use Rattle.el_app.specs.Headline.{MakesItsMeaning, EndsAsItMeans, execlineb_words}
use Rattle.el_app.specs.Execline.{vector_words}
use Rattle.el_app.specs.Held.{KeepsWhatIsHeld, VectorKeepsWhatIsHeld}
use Rattle.el_app.specs.Causes.{IsCaused, IsVectorCaused}
use Rattle.el_multicall.specs.Record.{elrecord_words, elrecord_call, IsRecorded}
use Rattle.el_multicall.specs.Top.{top_words}

-- the greatest budget, which a process has
abbrev pub all_units : ℕ
all_units = 2 ^ 64 - 1

-- Between two states of a world the top call was made with these words and the greatest budget, and finished so. Each field is the clause of its name.
pub record IsTopCall (old new : Seen) (words : List (List ℕ)) (env : Vars) (dir : List ℕ) (finish : Finish) : Type 0 where
  pub headline : (call : List (List ℕ)) → execlineb_words words ≡ Some call → MakesItsMeaning old new call env dir all_units finish
  pub complete : (call : List (List ℕ)) → execlineb_words words ≡ Some call → EndsAsItMeans old new call env dir all_units finish
  pub held : (call : List (List ℕ)) → execlineb_words words ≡ Some call → KeepsWhatIsHeld old new call env dir all_units finish
  pub cause : (call : List (List ℕ)) → execlineb_words words ≡ Some call → IsCaused old new call env dir all_units finish
  pub vector_held : (vector : List (List ℕ)) → vector_words words ≡ Some vector → VectorKeepsWhatIsHeld old new vector env dir all_units finish
  pub vector_cause : (vector : List (List ℕ)) → vector_words words ≡ Some vector → IsVectorCaused old new vector env dir all_units finish
  pub told : Tells old new (execline_call words env dir) all_units (outcome_of finish)
  pub run : RanWith old new (execline_call words env dir) all_units (outcome_of finish)
  pub spent : finish ≡ Spent → Ran old new (execline_call words env dir) all_units (outcome_of finish) 0

-- The same of elrecord with its own words.
pub record IsElrecordCall (old new : Seen) (words : List (List ℕ)) (env : Vars) (dir : List ℕ) (finish : Finish) : Type 0 where
  pub told : (finish ≡ NoMemory → ⊥) → Tells old new (elrecord_call words env dir all_units) 0 (outcome_of finish)
  pub recorded : IsRecorded old new words env dir all_units finish

-- The call was made that these words choose: elrecord with its own words, if they name any, and otherwise the top call with all of them.
abbrev pub IsCallOf : (own : Option (List (List ℕ))) → (old new : Seen) → (words : List (List ℕ)) → Vars → (dir : List ℕ) → Finish → Type 0
IsCallOf None old new words env dir finish = IsTopCall old new words env dir finish
IsCallOf (Some own) old new words env dir finish = IsElrecordCall old new own env dir finish

-- The call was made that a process's words choose, or there was no memory for the call's words and nothing was done.
abbrev pub IsProgramRun : (old new : Seen) → (words : List (List ℕ)) → Vars → (dir : List ℕ) → Finish → Type 0
IsProgramRun old new words env dir finish = IsCallOf (elrecord_words (top_words words)) old new (top_words words) env dir finish ⊎ ((finish ≡ NoMemory) × (new ≡ old))
