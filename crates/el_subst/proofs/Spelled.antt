-- The values of a spelling are the spelling of the values.
use Rattle.std.proofs.Common.{◌≡◌, ℕ, zero, suc, List, [], ◌∷◌, ◌++◌, map, refl, sym, ap, ◌∙◌, append_assoc, append-nil, map-id}
use Rattle.el_words.specs.Args.{Args, nothing, word, group, words, ◌+++◌, indented, spelled}
use Rattle.el_subst.specs.Values.{Pairs, word_value, words_value}
use Rattle.el_subst.specs.Scopes.{Scope, put, scope_value, put_in_scope}

value_space : (pairs : Pairs) (text : List ℕ) → word_value pairs (32 ∷ text) ≡ map (λ (made : List ℕ). 32 ∷ made) (word_value pairs text)
value_space pairs text = append-nil (map (λ (made : List ℕ). 32 ∷ made) (word_value pairs text))

map_map : {A B C : Type 0} (f : B → C) (g : A → B) (xs : List A) → map f (map g xs) ≡ map (λ x. f (g x)) xs
map_map f g [] = refl
map_map f g (x ∷ xs) = ap (λ ys. f (g x) ∷ ys) (map_map f g xs)

value_indented : (pairs : Pairs) (depth : ℕ) (text : List ℕ) → word_value pairs (indented depth text) ≡ map (indented depth) (word_value pairs text)
value_indented pairs zero text = sym (map-id (word_value pairs text))
value_indented pairs (suc depth) text =
    value_space pairs (indented depth text)
    ∙ ap (map (λ (made : List ℕ). 32 ∷ made)) (value_indented pairs depth text)
    ∙ map_map (λ (made : List ℕ). 32 ∷ made) (indented depth) (word_value pairs text)

pub words_value-append : (pairs : Pairs) (texts more : List (List ℕ)) → words_value pairs (texts ++ more) ≡ words_value pairs texts ++ words_value pairs more
words_value-append pairs [] more = refl
words_value-append pairs (text ∷ texts) more =
    ap (λ made. word_value pairs text ++ made) (words_value-append pairs texts more)
    ∙ sym (append_assoc (word_value pairs text) (words_value pairs texts) (words_value pairs more))

spelled_append : (depth : ℕ) (args more : Args) → spelled depth (args +++ more) ≡ spelled depth args ++ spelled depth more
spelled_append depth nothing more = refl
spelled_append depth (word text rest) more = ap (λ texts. indented depth text ∷ texts) (spelled_append depth rest more)
spelled_append depth (group inside rest) more =
    ap (λ texts. spelled (suc depth) inside ++ (indented depth [] ∷ texts)) (spelled_append depth rest more)
    ∙ sym (append_assoc (spelled (suc depth) inside) (indented depth [] ∷ spelled depth rest) (spelled depth more))

spelled_words : (depth : ℕ) (texts : List (List ℕ)) → spelled depth (words texts) ≡ map (indented depth) texts
spelled_words depth [] = refl
spelled_words depth (text ∷ texts) = ap (λ more. indented depth text ∷ more) (spelled_words depth texts)

pub values_spelled : (pairs : Pairs) (depth : ℕ) (args : Args) → words_value pairs (spelled depth args) ≡ spelled depth (put pairs args)
values_spelled pairs depth nothing = refl
values_spelled pairs depth (word text rest) =
    ap (λ made. made ++ words_value pairs (spelled depth rest)) (value_indented pairs depth text ∙ sym (spelled_words depth (word_value pairs text)))
    ∙ ap (λ made. spelled depth (words (word_value pairs text)) ++ made) (values_spelled pairs depth rest)
    ∙ sym (spelled_append depth (words (word_value pairs text)) (put pairs rest))
values_spelled pairs depth (group inside rest) =
    words_value-append pairs (spelled (suc depth) inside) (indented depth [] ∷ spelled depth rest)
    ∙ ap (λ made. made ++ words_value pairs (indented depth [] ∷ spelled depth rest)) (values_spelled pairs (suc depth) inside)
    ∙ ap (λ made. spelled (suc depth) (put pairs inside) ++ (made ++ words_value pairs (spelled depth rest))) (value_indented pairs depth [])
    ∙ ap (λ made. spelled (suc depth) (put pairs inside) ++ (indented depth [] ∷ made)) (values_spelled pairs depth rest)

pub scope_spelled : (scope : Scope) (depth : ℕ) (args : Args) → scope_value scope (spelled depth args) ≡ spelled depth (put_in_scope scope args)
scope_spelled [] depth args = refl
scope_spelled (pairs ∷ more) depth args = ap (scope_value more) (values_spelled pairs depth args) ∙ scope_spelled more depth (put pairs args)
