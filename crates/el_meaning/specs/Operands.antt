-- What a program of a tree reads in a scope.
use Rattle.el_script.specs.Vocabulary.{Prog, Scope, Tree, Places, letters_of}
use Rattle.std.specs.Prelude.{ℕ, List}
use Rattle.el_front.specs.Reads.{Read, read_by}
use Rattle.el_check.specs.Operands.{tree_words, operands_in}

-- what a program reads: its letters, its operands, and the words of its rest
abbrev pub read_in : Scope → Prog → (options : List (List ℕ)) → Places → (rest : Tree) → Read
read_in scope program options places rest = read_by program (record { letters = letters_of program options; operands = operands_in scope places; rest = tree_words scope rest })
