-- A tree with its values put in.
use Rattle.std.specs.Prelude.{ℕ, List, [], ◌∷◌, slice_index_or}
use Rattle.el_subst.specs.Scopes.{Scope, scope_value, put_in_scope}
use Rattle.el_tree.specs.Trees.{Tree, End, Command, Node, Places, unplaced, one_place, text_place, block_place, values_place, names_place, directives_place, Directives, undirected, directed}

-- the one word that a word becomes in a scope
abbrev pub the_value : Scope → (text : List ℕ) → List ℕ
the_value scope text = slice_index_or (scope_value scope (text ∷ [])) 0 []

-- The same programs, option words and names at the same places. Each word at a place becomes its one value, and the words of
-- commands and of blocks of values their values.
abbrev mutual
  -- a tree with the values of this scope
  pub settled : Scope → Tree → Tree
  settled scope End = End
  settled scope (Command args) = Command (put_in_scope scope args)
  settled scope (Node program options places rest) = Node program options (settled_places scope places) (settled scope rest)

  -- at its places: option words and names stay, and all else has its values
  pub settled_places : Scope → Places → Places
  settled_places scope unplaced = unplaced
  settled_places scope (one_place (text_place text) places) = one_place (text_place (the_value scope text)) (settled_places scope places)
  settled_places scope (one_place (block_place block) places) = one_place (block_place (settled scope block)) (settled_places scope places)
  settled_places scope (one_place (values_place values) places) = one_place (values_place (put_in_scope scope values)) (settled_places scope places)
  settled_places scope (one_place (names_place names) places) = one_place (names_place names) (settled_places scope places)
  settled_places scope (one_place (directives_place directives) places) = one_place (directives_place (settled_directives scope directives)) (settled_places scope places)

  -- in its directives, whose values are those of the same scope
  pub settled_directives : Scope → Directives → Directives
  settled_directives scope undirected = undirected
  settled_directives scope (directed program options places directives) = directed program options (settled_places scope places) (settled_directives scope directives)
