-- What holds of upgraded trees.
use Rattle.el_script.specs.Vocabulary.{spelled, MAX_SCRIPT, Token, Lexes, levels, Spells, Scope, Tree, written, tokens_of, upgraded, Member, MeetsAll, IsAccepted}
use Rattle.el_room.specs.Vocabulary.{Found, made, State}
use Rattle.std.specs.Prelude.{◌≡◌, ◌≤◌, ℕ, List, length}
use Rattle.el_layout.specs.Layout.{layout}
use Rattle.el_layout.specs.ReadsBack.{HasNoNul, LexesAs}
use Rattle.el_meaning.specs.Meaning.{whole_meaning}
use Rattle.el_upgrade.specs.Imports.{LacksImport}
use Rattle.el_upgrade.specs.Alike.{MadeAlike}

-- an upgraded tree has no import
abbrev pub UpgradeLacksImport : Type 0
UpgradeLacksImport = (tree : Tree) → LacksImport (upgraded tree)

-- a tree without import is its own upgrade
abbrev pub OthersStay : Type 0
OthersStay = (tree : Tree) → LacksImport tree → upgraded tree ≡ tree

-- a second upgrade changes nothing
abbrev pub UpgradesOnce : Type 0
UpgradesOnce = (tree : Tree) → upgraded (upgraded tree) ≡ upgraded tree

-- an upgraded tree is accepted under the same marks
abbrev pub UpgradeIsAccepted : Type 0
UpgradeIsAccepted = (members : List Member) (tree : Tree) → IsAccepted members tree → IsAccepted members (upgraded tree)

-- what is said of the layout of an upgraded tree
pub record ReadsBack (tree : Tree) : Type 0 where
  pub lexes : length (layout tree) ≤ MAX_SCRIPT → LexesAs (layout tree) (tokens_of tree)
  pub spells : (tokens : List Token) → Lexes (layout tree) tokens → levels (written tree) ≤ 255 → Spells tokens (spelled 0 (written tree))

-- Where no word of the tree has a NUL, as none of a script has, the layout of the upgraded tree reads as its tokens, unless it is too long;
-- and no block stands deeper than in the tree.
abbrev pub UpgradeReadsBack : Type 0
UpgradeReadsBack = (tree : Tree) → HasNoNul tree → ReadsBack (upgraded tree) × (levels (written (upgraded tree)) ≡ levels (written tree))

-- In every scope that meets the marks, with whatever units and answers, an accepted tree and the upgraded one make events that are alike,
-- come to the same end in the same state, and leave the same units and answers.
abbrev pub UpgradeMeansAlike : Type 0
UpgradeMeansAlike = (members : List Member) (tree : Tree) (scope : Scope) (state : State) (units : ℕ) (found : List Found)
    → IsAccepted members tree → MeetsAll scope members → MadeAlike (made (whole_meaning tree scope state) units found) (made (whole_meaning (upgraded tree) scope state) units found)
