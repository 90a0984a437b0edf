-- A family as a tree, line by line.
use Rattle.std.proofs.Common.{◌≡◌, ℕ, suc, ◌+◌, ◌≤◌, Bool, true, false, List, [], ◌∷◌, ◌++◌, drop, length, Some, refl, sym, ap, ◌∙◌, append-nil, append_assoc, arith, codes}
use Rattle.std.specs.Prelude.{if◌then◌else◌}
use Rattle.std.specs.List.{slice_get}
use Rattle.std.proofs.lemmas.List.{drop_all}
use Rattle.el_family.specs.Processes.{Process}
use Rattle.el_family.specs.Trees.{indent, tree_line, is_from, lines_below}
use Rattle.el_family.proofs.Walks.{rest_at}

indent-next : (depth : ℕ) → indent (suc depth) ≡ indent depth ++ codes "  "
indent-next Prim.Native.Nat.zero = refl
indent-next (suc depth) = ap (λ (spaces : List ℕ). 32 ∷ 32 ∷ spaces) (indent-next depth)

pub indent-more : (depth : ℕ) → indent (depth + 1) ≡ indent depth ++ codes "  "
indent-more depth = let same : depth + 1 ≡ suc depth = omega arith in ap indent same ∙ indent-next depth

module _ (family : List Process) (parent depth number : ℕ) where
  -- the lines of the rest, and those of the rest behind its first
  abbrev rest_lines : List ℕ
  rest_lines = lines_below parent depth number (drop number family)

  abbrev pub more_lines : List ℕ
  more_lines = lines_below parent depth (number + 1) (drop (number + 1) family)

  abbrev child_lines : Process → List ℕ
  child_lines process = tree_line depth process ++ lines_below number (depth + 1) (number + 1) (drop (number + 1) family)

  first_lines : (process : Process) → slice_get family number ≡ Some process → rest_lines ≡ (if is_from parent process.origin then child_lines process else []) ++ more_lines
  unfolding lines_below
  first_lines process is = ap (lines_below parent depth number) (rest_at family number process is)

  -- a child's lines are put behind
  pub child_put : (old mid new all : List ℕ) (process : Process) → slice_get family number ≡ Some process → is_from parent process.origin ≡ true → old ++ rest_lines ≡ all
      → mid ≡ old ++ tree_line depth process → new ≡ mid ++ lines_below number (depth + 1) (number + 1) (drop (number + 1) family) → new ++ more_lines ≡ all
  child_put old mid new all process is from so_far line below =
      let kids = lines_below number (depth + 1) (number + 1) (drop (number + 1) family) in
      ap (λ lines. lines ++ more_lines) (below ∙ ap (λ lines. lines ++ kids) line ∙ append_assoc old (tree_line depth process) kids)
      ∙ append_assoc old (child_lines process) more_lines
      ∙ ap (λ lines. old ++ lines) (sym (first_lines process is ∙ ap (λ (b : Bool). (if b then child_lines process else []) ++ more_lines) from))
      ∙ so_far

  -- nothing is put for another
  pub other_passed : (old all : List ℕ) (process : Process) → slice_get family number ≡ Some process → is_from parent process.origin ≡ false → old ++ rest_lines ≡ all → old ++ more_lines ≡ all
  other_passed old all process is from so_far =
      ap (λ lines. old ++ lines) (sym (first_lines process is ∙ ap (λ (b : Bool). (if b then child_lines process else []) ++ more_lines) from)) ∙ so_far

  -- all is put
  pub all_below : (new all : List ℕ) → length family ≤ number → new ++ rest_lines ≡ all → new ≡ all
  unfolding lines_below
  all_below new all from so_far = sym (append-nil new) ∙ ap (λ later. new ++ lines_below parent depth number later) (sym (drop_all number family from)) ∙ so_far
