-- The keys that words refer to.
use Rattle.el_script.specs.Vocabulary.{bytes_eq, Token, Word, Referred, references_of}
use Rattle.std.specs.Prelude.{ℕ, Bool, true, false, ◌||◌, List, [], ◌∷◌, ◌++◌, map, codes}
use Rattle.el_lex.specs.declared.token.Token.TheVariants.{Open, Close}

-- the keys of references, in order, also of those that backslashes stand before
abbrev pub keys_of : List Referred → List (List ℕ)
keys_of references = map (λ (reference : Referred). reference.1) references

-- the keys that a token refers to
abbrev pub keys_at : Token → List (List ℕ)
keys_at (Word line text) = keys_of (references_of text)
keys_at (Open line) = []
keys_at (Close line) = []

-- the keys that the words among tokens refer to
abbrev pub keys_in : List Token → List (List ℕ)
keys_in [] = []
keys_in (token ∷ tokens) = keys_at token ++ keys_in tokens

-- a command that takes something away by its words
unfoldable pub is_remover : (text : List ℕ) → Bool
is_remover text = bytes_eq text (codes "rm") || (bytes_eq text (codes "rmdir") || (bytes_eq text (codes "mv") || (bytes_eq text (codes "dd") || bytes_eq text (codes "kill"))))

-- the keys that words behind such a command refer to, up to the next brace
abbrev pub risked_from : (is_behind : Bool) → List Token → List (List ℕ)
risked_from is_behind [] = []
risked_from true (Word line text ∷ tokens) = keys_of (references_of text) ++ risked_from true tokens
risked_from false (Word line text ∷ tokens) = risked_from (is_remover text) tokens
risked_from is_behind (Open line ∷ tokens) = risked_from false tokens
risked_from is_behind (Close line ∷ tokens) = risked_from false tokens

-- those among tokens
abbrev pub risked_in : List Token → List (List ℕ)
risked_in tokens = risked_from false tokens
