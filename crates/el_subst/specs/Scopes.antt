-- Words and groups with their values put in, and scopes.
use Rattle.std.specs.Prelude.{List, [], ◌∷◌, ℕ}
use Rattle.el_words.specs.Args.{Args, nothing, word, group, ◌+++◌, words}
use Rattle.el_subst.specs.Values.{Pairs, word_value, words_value}

-- each word replaced by its values
abbrev pub put : Pairs → Args → Args
put pairs nothing = nothing
put pairs (word text rest) = words (word_value pairs text) +++ put pairs rest
put pairs (group inside rest) = group (put pairs inside) (put pairs rest)

-- the substitutions in force, the outermost first
abbrev pub Scope : Type 0
Scope = List Pairs

-- the values in a scope: one substitution after the other, each on every word that came out before
abbrev pub scope_value : Scope → List (List ℕ) → List (List ℕ)
scope_value [] texts = texts
scope_value (pairs ∷ more) texts = scope_value more (words_value pairs texts)

-- the same of words and groups, whose groups stay
abbrev pub put_in_scope : Scope → Args → Args
put_in_scope [] args = args
put_in_scope (pairs ∷ more) args = put_in_scope more (put pairs args)
