-- What elfmt -k writes: a layout with the comments and the empty lines of its script.
use Rattle.el_script.specs.Vocabulary.{MAX_SCRIPT, Token, shapes_of, Tree, tokens_of, upgraded}
use Rattle.std.specs.Prelude.{◌≡◌, ℕ, ◌≤◌, Bool, true, false, ◌&&◌, List, ◌∷◌, ◌++◌, length, None, Ok}
use Rattle.el_lex.specs.Reading.{is_comment, Reads}
use Rattle.el_layout.specs.Layout.{layout}
use Rattle.el_keep.specs.Laws.{AreAlike, HasComments, HasFewBreaks, IsWider, spread}
use Rattle.el_check.specs.Checks.{checked_in}
use Rattle.el_app.specs.Elfmt.{written_tree, kept_layout}

-- ---- el_keep's laws hold of a script and its layouts

-- the layout of a script's tree has the script's tokens
abbrev pub LayoutIsAlike : Type 0
LayoutIsAlike = (script : List ℕ) (tree : Tree) → checked_in None script ≡ Ok tree → AreAlike (layout tree) script

-- that of the upgraded tree has more words, each last on its line
abbrev pub UpgradeIsWider : Type 0
UpgradeIsWider = (script : List ℕ) (tree : Tree) → checked_in None script ≡ Ok tree → IsWider (layout tree) (layout (upgraded tree)) script

-- ---- so for users, with -u where the tree is upgraded

-- the text reads as the tokens of the tree, but for their lines
pub record ReadsAs (text : List ℕ) (tree : Tree) : Type 0 where
  pub tokens : List Token
  pub reads : Reads text tokens
  pub are_shapes : shapes_of tokens ≡ tokens_of tree

-- what is written has the tokens of the tree
abbrev pub TokensAreTheTree : Type 0
TokensAreTheTree = (upgrades : Bool) (script : List ℕ) (tree : Tree) → checked_in None script ≡ Ok tree → ReadsAs (kept_layout upgrades script tree) (written_tree upgrades tree)

-- it has the script's comments: each once, in their order, with each byte, and before the same token
abbrev pub CommentsStay : Type 0
CommentsStay = (script : List ℕ) (tree : Tree) (comments : List (List (List ℕ))) → checked_in None script ≡ Ok tree → HasComments script comments → HasComments (kept_layout false script tree) comments

-- with -u too, and none before the second name of an importas
abbrev pub CommentsSpread : Type 0
CommentsSpread = (script : List ℕ) (tree : Tree) (comments : List (List (List ℕ))) (wider : IsWider (layout tree) (layout (upgraded tree)) script) → HasComments script comments
    → HasComments (kept_layout true script tree) (spread wider comments)

-- where the script's first line is a comment, as one with `#!`, it stays the first: hash (35), newline (10)
abbrev pub FirstLineStays : Type 0
FirstLineStays = (upgrades : Bool) (script line behind : List ℕ) (tree : Tree) → checked_in None script ≡ Ok tree → is_comment line ≡ true → script ≡ 35 ∷ (line ++ 10 ∷ behind)
    → (after : List ℕ) × (kept_layout upgrades script tree ≡ 35 ∷ (line ++ 10 ∷ after))

-- no two empty lines follow each other
abbrev pub EmptyLinesAreFew : Type 0
EmptyLinesAreFew = (upgrades : Bool) (script : List ℕ) (tree : Tree) → checked_in None script ≡ Ok tree → HasFewBreaks (kept_layout upgrades script tree)

-- where it isn't too long for a script, it is one with this tree, and is written again as it is, with -u too where that was there before
abbrev pub SecondTimeIsTheFirst : Type 0
SecondTimeIsTheFirst = (upgrades again : Bool) (script : List ℕ) (tree : Tree) → checked_in None script ≡ Ok tree → length (kept_layout upgrades script tree) ≤ MAX_SCRIPT
    → (let out = kept_layout upgrades script tree in
    (checked_in None out ≡ Ok (written_tree upgrades tree)) × (kept_layout (upgrades && again) out (written_tree upgrades tree) ≡ out))
