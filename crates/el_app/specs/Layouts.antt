-- The layout of a script makes the same calls as the script, and so does each text with the same tokens. An upgraded one makes alike calls.
use Rattle.el_room.specs.Vocabulary.{Vars, Spells, shapes_of, Scope, execlineb_options, Found, and_then, made, State, Task}
use Rattle.el_script.specs.Vocabulary.{MAX_SCRIPT, Token, Lexes, Tree, MeetsAll, upgraded}
use Rattle.std.specs.Prelude.{◌≡◌, ℕ, ◌≤◌, List, length, None, Ok}
use Rattle.el_machine.specs.Flat.{flat_run}
use Rattle.el_layout.specs.Layout.{layout}
use Rattle.el_check.specs.declared.params.Params.{Params}
use Rattle.el_check.specs.Scripts.{first_marks, IsAcceptedScript}
use Rattle.el_check.specs.Checks.{checked_in}
use Rattle.el_meaning.specs.Meaning.{whole_meaning}
use Rattle.el_upgrade.specs.Alike.{MadeAlike}
use Rattle.el_app.specs.declared.asked.Placement.{Placement}
use Rattle.el_app.specs.declared.asked.Asked.{Asked}
use Rattle.el_app.specs.Options.{asked}
use Rattle.el_app.specs.Names.{execlineb_name}
use Rattle.el_app.specs.Files.{script_from}
use Rattle.el_app.specs.Scripts.{script_words}
use Rattle.el_app.specs.Params.{placed}
use Rattle.el_app.specs.Execlineb.{zero_of, execlineb_run}
use Rattle.el_app.specs.First.{first_state}
use Rattle.el_app.specs.Headline.{state_at_reading}

-- elfmt lays the script out as this tree, whose layout isn't too long for a script
pub record IsLaidOut (script : List ℕ) (tree : Tree) : Type 0 where
  pub is_tree : checked_in None script ≡ Ok tree
  pub short : length (layout tree) ≤ MAX_SCRIPT

-- a script that is accepted is laid out as its tree, and the layout is accepted with this tree too
abbrev pub LayoutIsAccepted : Type 0
LayoutIsAccepted = (params : Params) (script : List ℕ) (tree : Tree) → IsAcceptedScript params script tree → length (layout tree) ≤ MAX_SCRIPT → IsLaidOut script tree × IsAcceptedScript params (layout tree) tree

-- a script and its layout have the same words
abbrev pub LayoutHasTheWords : Type 0
LayoutHasTheWords = (state : State) (script : List ℕ) (tree : Tree) → IsLaidOut script tree → script_words state (layout tree) ≡ script_words state script

-- what execlineb does with a script that it has read: its words and the positional parameters are made ready, and the words are run
abbrev pub run_behind_reading : Placement → (zero : List ℕ) → (args : List (List ℕ)) → State → (script : List ℕ) → Task ⊥
run_behind_reading placement zero args state script = and_then (script_words state script) (λ words. and_then (placed placement zero args words state) (λ left. flat_run left.words left.state))

-- a call reads its script, and then does that
abbrev pub CallRunsWhatItReads : Type 0
CallRunsWhatItReads = (words : List (List ℕ)) (env : Vars) (dir : List ℕ) (asking : Asked) → asked execlineb_options words ≡ Ok asking
    → (let state = state_at_reading asking env dir in
    execlineb_run words (first_state env dir) ≡ and_then (script_from execlineb_name state asking.source) (run_behind_reading asking.placement (zero_of asking.source) asking.args state))

-- and it does the same with the layout as with the script
abbrev pub LayoutChangesNoCall : Type 0
LayoutChangesNoCall = (placement : Placement) (zero : List ℕ) (args : List (List ℕ)) (state : State) (script : List ℕ) (tree : Tree) → IsLaidOut script tree
    → run_behind_reading placement zero args state (layout tree) ≡ run_behind_reading placement zero args state script

-- ---- any two texts

-- two scripts read as the same tokens but for their lines, and the braces of these match
pub record ReadAlike (script other : List ℕ) : Type 0 where
  pub tokens : List Token
  pub others : List Token
  pub words : List (List ℕ)
  pub lexes : Lexes script tokens
  pub other_lexes : Lexes other others
  pub same : shapes_of others ≡ shapes_of tokens
  pub spells : Spells tokens words

-- execlineb does the same with both
abbrev pub SameTokensRunAlike : Type 0
SameTokensRunAlike = (placement : Placement) (zero : List ℕ) (args : List (List ℕ)) (state : State) (script other : List ℕ) → ReadAlike script other
    → run_behind_reading placement zero args state other ≡ run_behind_reading placement zero args state script

-- ---- upgraded texts

-- The layout of the upgraded tree is an accepted script, and in every scope that meets the script's first marks it means what the script
-- means, but for alike events.
pub record MeansAlike (params : Params) (tree : Tree) : Type 0 where
  pub accepted : IsAcceptedScript params (layout (upgraded tree)) (upgraded tree)
  pub means : (scope : Scope) (state : State) (units : ℕ) (found : List Found) → MeetsAll scope (first_marks params)
      → MadeAlike (made (whole_meaning tree scope state) units found) (made (whole_meaning (upgraded tree) scope state) units found)

-- so is what `elfmt -u` writes of an accepted script, unless it is too long for a script
abbrev pub UpgradedTextsMeanAlike : Type 0
UpgradedTextsMeanAlike = (params : Params) (script : List ℕ) (tree : Tree) → IsAcceptedScript params script tree → length (layout (upgraded tree)) ≤ MAX_SCRIPT → MeansAlike params tree
