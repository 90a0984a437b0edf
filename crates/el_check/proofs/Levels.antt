-- The tokens of words and groups say how many levels there are.
use Rattle.el_script.proofs.Vocabulary.{Args, nothing, word, group, TokenShape, Text, Open, Close, shapes_in, levels}
use Rattle.std.proofs.Common.{◌≡◌, ℕ, zero, suc, ◌+◌, ◌≤◌, List, [], ◌∷◌, ◌++◌, append_assoc, sym, ap, ◌∙◌, arith}
use Rattle.std.specs.Prelude.{max}

-- how many levels are open at most, where so many are open before
abbrev deepest : (depth : ℕ) → List TokenShape → ℕ
deepest depth [] = depth
deepest depth (Text text ∷ shapes) = deepest depth shapes
deepest depth (Open ∷ shapes) = deepest (suc depth) shapes
deepest zero (Close ∷ shapes) = deepest zero shapes
deepest (suc depth) (Close ∷ shapes) = max (suc depth) (deepest depth shapes)

no-less : (depth : ℕ) (shapes : List TokenShape) → depth ≤ deepest depth shapes
no-less depth [] = omega arith
no-less depth (Text text ∷ shapes) = no-less depth shapes
no-less depth (Open ∷ shapes) = let more = no-less (suc depth) shapes in omega (arith, more)
no-less zero (Close ∷ shapes) = omega arith
no-less (suc depth) (Close ∷ shapes) = omega arith

deepest-in : (args : Args) (depth : ℕ) (after : List TokenShape) → deepest depth (shapes_in args ++ after) ≡ max (depth + levels args) (deepest depth after)
deepest-in nothing depth after = let more = no-less depth after in omega (arith, more)
deepest-in (word text rest) depth after = deepest-in rest depth after
deepest-in (group inside rest) depth after =
    let block = ap (deepest (suc depth)) (append_assoc (shapes_in inside) (Close ∷ shapes_in rest) after) ∙ deepest-in inside (suc depth) (Close ∷ (shapes_in rest ++ after)) in
    let behind = deepest-in rest depth after in
    omega (arith, block, behind)

-- words and groups with the same tokens have as many levels
pub same-levels : (one other : Args) → shapes_in one ≡ shapes_in other → levels one ≡ levels other
same-levels one other same =
    let deepest-same = sym (deepest-in one 0 []) ∙ ap (λ shapes. deepest 0 (shapes ++ [])) same ∙ deepest-in other 0 [] in
    omega (arith, deepest-same)
