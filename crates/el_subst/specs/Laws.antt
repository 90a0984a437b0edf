-- What holds of words, values and scopes.
use Rattle.std.specs.Prelude.{◌≡◌, ℕ, List, [], ◌∷◌, Contains}
use Rattle.el_words.specs.Args.{Args, spelled}
use Rattle.el_subst.specs.Parts.{parts_of, parts_text}
use Rattle.el_subst.specs.Values.{Pairs, word_value, words_value}
use Rattle.el_subst.specs.Scopes.{Scope, put, scope_value, put_in_scope}

-- the parts of a word, joined, are the word
abbrev pub PartsJoin : Type 0
PartsJoin = (word : List ℕ) → parts_text (parts_of word) ≡ word

-- the values of a spelling are the spelling of the values
abbrev pub SpellingsKeepDepth : Type 0
SpellingsKeepDepth = (pairs : Pairs) (depth : ℕ) (args : Args) → words_value pairs (spelled depth args) ≡ spelled depth (put pairs args)

-- the same under several substitutions, one after the other
abbrev pub ScopesKeepDepth : Type 0
ScopesKeepDepth = (scope : Scope) (depth : ℕ) (args : Args) → scope_value scope (spelled depth args) ≡ spelled depth (put_in_scope scope args)

-- a word without `$` (36) is its own value
abbrev pub PlainWordsStay : Type 0
PlainWordsStay = (pairs : Pairs) (word : List ℕ) → (Contains word 36 → ⊥) → word_value pairs word ≡ word ∷ []

-- no pairs change no word
abbrev pub EmptyChangesNothing : Type 0
EmptyChangesNothing = (words : List (List ℕ)) → words_value [] words ≡ words
