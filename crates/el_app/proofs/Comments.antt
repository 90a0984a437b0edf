-- What elfmt -k writes, by el_keep's laws.
use Rattle.el_script.proofs.Vocabulary.{spelled, MAX_SCRIPT, one-reading, shapes_of, levels, Tree, written, IsWellFormed, upgraded}
use Rattle.std.proofs.Common.{◌≡◌, ℕ, ◌≤◌, Bool, true, false, List, length, None, Ok, refl, sym, ap, subst, ◌∙◌}
use Rattle.std.specs.Prelude.{◌&&◌}
use Rattle.el_layout.specs.Layout.{layout}
use Rattle.el_layout.specs.ReadsBack.{HasNoNul}
use Rattle.el_layout.proofs.Layouts.{script-no_nul}
use Rattle.el_keep.specs.Texts.{kept_wider}
use Rattle.el_keep.specs.Laws.{AreAlike}
use Rattle.el_keep.proofs.Texts.{tokens-stay, comments-stay, few-breaks, second-time, first-line}
use Rattle.el_keep.proofs.WideLaws.{wider-tokens, wider-comments, wider-first, wider-few, nothing-wider, wider-again}
use Rattle.el_check.specs.Checks.{checked_in}
use Rattle.el_check.proofs.Levels.{same-levels}
use Rattle.el_upgrade.proofs.Formed.{well-formed-upgraded}
use Rattle.el_upgrade.proofs.Imports.{upgrades-once}
use Rattle.el_upgrade.proofs.Layouts.{none-upgraded, reads-back}
use Rattle.el_app.specs.Elfmt.{written_tree, kept_layout}
use Rattle.el_app.specs.Comments.{LayoutIsAlike, UpgradeIsWider, ReadsAs, TokensAreTheTree, CommentsStay, CommentsSpread, FirstLineStays, EmptyLinesAreFew, SecondTimeIsTheFirst}
use Rattle.el_app.proofs.Layouts.{Spelled, checked-spelled, spelled-tree}
use Rattle.el_app.proofs.WideTrees.{layout-reads-as, layout-alike, upgrade-wider}

-- ---- a script and its layouts

reads-as : {script : List ℕ} {tree : Tree} {words : List (List ℕ)} → Spelled script tree words → ReadsAs script tree
reads-as is = record { tokens = is.tokens; reads = is.lexes.reads; are_shapes = sym is.are_tokens }

pub alike : LayoutIsAlike
alike script tree is = layout-alike script tree (reads-as (checked-spelled script tree is).1)

pub wider : UpgradeIsWider
wider script tree is =
    let read = (checked-spelled script tree is).1 in
    upgrade-wider script tree (reads-as read) read.well_formed

-- ---- tokens

-- the layout of the tree that is written has the tokens of what is written
out-alike : (upgrades : Bool) (script : List ℕ) (tree : Tree) → checked_in None script ≡ Ok tree → AreAlike (layout (written_tree upgrades tree)) (kept_layout upgrades script tree)
out-alike true script tree is = wider-tokens (layout tree) (layout (upgraded tree)) script (wider script tree is)
out-alike false script tree is = tokens-stay (layout tree) script (alike script tree is)

-- the tree that is written is well formed within the levels of the script's, and has no NUL
record IsWritten (tree : Tree) : Type 0 where
  well_formed : IsWellFormed tree
  within : levels (written tree) ≤ 255
  no_nul : HasNoNul tree

own-written : {script : List ℕ} {tree : Tree} {words : List (List ℕ)} → Spelled script tree words → IsWritten tree
own-written {script} {tree} is = record {
  well_formed = is.well_formed;
  within = subst (λ n. n ≤ 255) (same-levels is.spells.args (written tree) (is.spells.are_tokens ∙ sym is.are_tokens)) is.spells.within;
  no_nul = script-no_nul script is.tokens tree is.lexes.reads (sym is.are_tokens);
}

is-written : (upgrades : Bool) (tree : Tree) → IsWritten tree → IsWritten (written_tree upgrades tree)
is-written true tree own = record {
  well_formed = well-formed-upgraded tree own.well_formed;
  within = subst (λ n. n ≤ 255) (sym (reads-back tree own.no_nul).1) own.within;
  no_nul = none-upgraded tree own.no_nul;
}
is-written false tree own = own

pub tokens : TokensAreTheTree
tokens upgrades script tree is =
    let out = out-alike upgrades script tree is in
    let laid = layout-reads-as (written_tree upgrades tree) (is-written upgrades tree (own-written (checked-spelled script tree is).1)).no_nul in
    record {
      tokens = out.script_tokens;
      reads = out.script_reads;
      are_shapes = sym out.are_same ∙ ap shapes_of (one-reading (layout (written_tree upgrades tree)) out.layout_tokens laid.tokens out.layout_reads laid.reads) ∙ laid.are_shapes;
    }

-- ---- comments and lines

pub kept-comments : CommentsStay
kept-comments script tree comments is has = comments-stay (layout tree) script comments (alike script tree is) has

pub spread-comments : CommentsSpread
spread-comments script tree comments wider has = wider-comments (layout tree) (layout (upgraded tree)) script comments wider has

pub first : FirstLineStays
first true script line behind tree is comment begins = wider-first (layout tree) (layout (upgraded tree)) script line behind (wider script tree is) comment begins
first false script line behind tree is comment begins = first-line (layout tree) script line behind (alike script tree is) comment begins

pub few : EmptyLinesAreFew
few true script tree is = wider-few (layout tree) (layout (upgraded tree)) script (wider script tree is)
few false script tree is = few-breaks (layout tree) script (alike script tree is)

-- ---- once more

out-tree : (upgrades : Bool) (script : List ℕ) (tree : Tree) → checked_in None script ≡ Ok tree → length (kept_layout upgrades script tree) ≤ MAX_SCRIPT
    → checked_in None (kept_layout upgrades script tree) ≡ Ok (written_tree upgrades tree)
out-tree upgrades script tree is short =
    let own = is-written upgrades tree (own-written (checked-spelled script tree is).1) in
    let read = tokens upgrades script tree is in
    spelled-tree (kept_layout upgrades script tree) (written_tree upgrades tree) (spelled 0 (written (written_tree upgrades tree)))
    (record {
      tokens = read.tokens;
      lexes = record { short = short; reads = read.reads };
      are_tokens = sym read.are_shapes;
      well_formed = own.well_formed;
      spells = record { args = written (written_tree upgrades tree); are_tokens = sym read.are_shapes; within = own.within; are_words = refl };
    })

out-again : (upgrades again : Bool) (script : List ℕ) (tree : Tree) → checked_in None script ≡ Ok tree
    → kept_layout (upgrades && again) (kept_layout upgrades script tree) (written_tree upgrades tree) ≡ kept_layout upgrades script tree
out-again false again script tree is = second-time (layout tree) script (alike script tree is)
out-again true again script tree is = by again
  where
    new : List ℕ
    new = layout (upgraded tree)

    out : List ℕ
    out = kept_wider (layout tree) new script

    once-more : kept_wider new new out ≡ out
    once-more = wider-again (layout tree) new script (wider script tree is)

    by : (again : Bool) → kept_layout again out (upgraded tree) ≡ out
    by true = ap (λ (newer : Tree). kept_wider new (layout newer) out) (upgrades-once tree) ∙ once-more
    by false = sym (nothing-wider new out (out-alike true script tree is)) ∙ once-more

pub second : SecondTimeIsTheFirst
second upgrades again script tree is short = (out-tree upgrades script tree is short, out-again upgrades again script tree is)
