-- The words of a tree in a scope, and what stands there at the places of its programs.
use Rattle.el_script.specs.Vocabulary.{spelled, Scope, scope_value, Tree, Places, unplaced, one_place, text_place, block_place, values_place, names_place, directives_place, Directives, undirected, directed, written, letters_of}
use Rattle.std.specs.Prelude.{ℕ, List, [], ◌∷◌}
use Rattle.el_options.specs.Fronts.{Operand, Text, Program, Listed, Directed, Directive, texts_of, names_of}
use Rattle.el_tree.specs.Settled.{the_value}

-- the words of a tree in a scope: its spelling, of which each word is replaced by its values
abbrev pub tree_words : Scope → Tree → List (List ℕ)
tree_words scope tree = scope_value scope (spelled 0 (written tree))

-- what stands at the places: each word's one value, which for a name or a number is itself, and the words of each block
abbrev mutual
  -- what stands at each place, in order
  pub operands_in : Scope → Places → List Operand
  operands_in scope unplaced = []
  operands_in scope (one_place (text_place text) places) = Text (the_value scope text) ∷ operands_in scope places
  operands_in scope (one_place (block_place block) places) = Program (tree_words scope block) ∷ operands_in scope places
  operands_in scope (one_place (values_place values) places) = Listed (scope_value scope (spelled 0 values)) ∷ operands_in scope places
  operands_in scope (one_place (names_place names) places) = Listed names ∷ operands_in scope places
  operands_in scope (one_place (directives_place directives) places) = Directed (directives_in scope directives) ∷ operands_in scope places

  -- the directives of a block, each with what stands at its places
  pub directives_in : Scope → Directives → List Directive
  directives_in scope undirected = []
  directives_in scope (directed program options places directives) =
      record { program = program; letters = letters_of program options; texts = texts_of (operands_in scope places); names = names_of (operands_in scope places) } ∷ directives_in scope directives
