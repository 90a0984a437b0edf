-- The items of commands and blocks: the code's list, and words and groups. Only the code's contracts need it.
use Rattle.std.specs.Prelude.{ℕ, suc, ◌+◌, List, [], ◌∷◌}
use Rattle.el_words.specs.Args.{Args, nothing, word, group}
use Rattle.el_tree.specs.declared.items.Arg.{Arg}
use Rattle.el_tree.specs.declared.items.Arg.TheVariants.{Word, Group}

-- the words and groups that are these items
abbrev pub args_of : List Arg → Args
args_of [] = nothing
args_of (Word text ∷ items) = word text (args_of items)
args_of (Group inside ∷ items) = group inside (args_of items)

-- words and groups as items
abbrev pub items_of : Args → List Arg
items_of nothing = []
items_of (word text rest) = Word text ∷ items_of rest
items_of (group inside rest) = Group inside ∷ items_of rest

-- there is an item
abbrev pub AreThere : Args → Type 0
AreThere nothing = ⊥
AreThere _ = Unit {0}

-- how large words and groups are, by which the proofs of recursions over them count
abbrev pub args_size : Args → ℕ
args_size nothing = 0
args_size (word text rest) = suc (args_size rest)
args_size (group inside rest) = suc (args_size inside + args_size rest)
