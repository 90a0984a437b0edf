-- What the printer's loops need: what is laid out in turn.
use Rattle.el_script.proofs.Vocabulary.{name_text, Args, nothing, Arg, args_of, items_of, AreThere, tree_of, places_of, directives_of, nodes_fall, tree_falls, args-again, args-fall, places-again, places-fall}
use Rattle.std.proofs.Common.{◌≡◌, ℕ, suc, ◌+◌, List, [], ◌∷◌, ◌++◌, refl, sym, ap, ◌∙◌, arith, append_assoc, append-nil, drop, length, codes}
use Rattle.el_tree.specs.declared.items.Arg.TheVariants.{Word, Group}
use Rattle.el_tree.specs.declared.tree.Last.TheVariants.{End}
use Rattle.el_tree.specs.declared.tree.Node.{Node}
use Rattle.el_tree.specs.declared.tree.Place.TheVariants.{Directives}
use Rattle.el_tree.specs.Falls.{directives_fall}
use Rattle.el_layout.specs.Layout.{indent, word_layout, items_layout, words_layout, inline_block, indented_block, line, tree_layout, places_layout, directives_layout}

indent-next : (depth : ℕ) → indent (suc depth) ≡ indent depth ++ codes "  "
indent-next Prim.Native.Nat.zero = refl
indent-next (suc depth) = ap (λ (spaces : List ℕ). 32 ∷ 32 ∷ spaces) (indent-next depth)

pub indent-more : (depth : ℕ) → indent (depth + 1) ≡ indent depth ++ codes "  "
indent-more depth = let same : depth + 1 ≡ suc depth = omega arith in ap indent same ∙ indent-next depth

-- directives are laid out as programs are
directives-are_lines : (depth : ℕ) (nodes : List Node) → tree_layout depth (tree_of nodes End) ≡ directives_layout depth (directives_of nodes)
directives-are_lines depth [] = refl
directives-are_lines depth (node ∷ nodes) = ap (λ (below : List ℕ). line depth (name_text node.prog ++ words_layout node.options ++ places_layout depth node.places) ++ below) (directives-are_lines depth nodes)

pub directives-block : (depth : ℕ) (nodes : List Node) → indented_block depth (tree_layout (depth + 1) (tree_of nodes End)) ≡ places_layout depth (places_of (Directives nodes ∷ []))
directives-block depth nodes =
    let below : depth + 1 ≡ suc depth = omega arith in
    ap (indented_block depth) (ap (λ depth. tree_layout depth (tree_of nodes End)) below ∙ directives-are_lines (suc depth) nodes) ∙ sym (append-nil (indented_block depth (directives_layout (suc depth) (directives_of nodes))))

-- the first item, behind a space, and the others
pub items-more : (item : Arg) (items : List Arg) → items_layout (args_of (item ∷ items)) ≡ codes " " ++ drop 1 (items_layout (args_of (item ∷ []))) ++ items_layout (args_of items)
items-more (Word text) items = ap (λ (bytes : List ℕ). 32 ∷ (bytes ++ items_layout (args_of items))) (sym (append-nil (word_layout text)))
items-more (Group inside) items = ap (λ (bytes : List ℕ). bytes ++ items_layout (args_of items)) (sym (append-nil (inline_block (items_layout inside))))

-- there is a first item
pub never-none : (args : Args) (items : List Arg) → items ≡ items_of args → AreThere args → length items ≡ 0 → ⊥
never-none nothing items are there none = there
never-none args items are there none = omega (arith, none, ap length are)

-- the first item is printed without its space, and the others are left
pub first-parted : (before out : List ℕ) (args : Args) (items others : List Arg) (first : Arg) → items ≡ items_of args → items ≡ first ∷ others → out ≡ before ++ drop 1 (items_layout (args_of (first ∷ [])))
    → out ++ items_layout (args_of others) ≡ before ++ drop 1 (items_layout args)
first-parted before out args items others first are is printed =
    ap (λ (bytes : List ℕ). bytes ++ items_layout (args_of others)) printed
    ∙ append_assoc before (drop 1 (items_layout (args_of (first ∷ [])))) (items_layout (args_of others))
    ∙ ap (λ (bytes : List ℕ). before ++ drop 1 bytes) (sym (items-more first others) ∙ ap (λ (list : List Arg). items_layout (args_of list)) (sym is ∙ are) ∙ ap items_layout (args-again args))

pub ruleset printing = (args-again, args-fall, places-again, places-fall, indent-more, items-more, nodes_fall, tree_falls, directives_fall)
