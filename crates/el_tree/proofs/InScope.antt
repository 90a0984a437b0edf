-- Words and groups in a scope.
use Rattle.std.proofs.Common.{◌≡◌, ℕ, suc, true, List, [], ◌∷◌, ◌++◌, map, length, refl, sym, ap, ◌∙◌, append_assoc, ◌≤◌, arith, length-append}
use Rattle.std.proofs.lemmas.Bool.{and_parts}
use Rattle.std.proofs.lemmas.List.{map-append}
use Rattle.el_words.specs.Args.{Args, nothing, word, group, words, ◌+++◌, indented, spelled}
use Rattle.el_subst.specs.Values.{Pairs, word_value, words_value}
use Rattle.el_subst.specs.Scopes.{Scope, put, scope_value, put_in_scope}
use Rattle.el_subst.proofs.Spelled.{words_value-append, scope_spelled}
use Rattle.el_tree.specs.OptionWords.{is_literal, are_literal}
use Rattle.el_tree.specs.Marks.{IsSingle}
use Rattle.el_tree.specs.Settled.{the_value}
use Rattle.el_tree.proofs.OneWord.{value_literal}
use Rattle.el_tree.proofs.Facts.{plus-assoc, words-plus}

pub spelled_append : (depth : ℕ) (args more : Args) → spelled depth (args +++ more) ≡ spelled depth args ++ spelled depth more
spelled_append depth nothing more = refl
spelled_append depth (word text rest) more = ap (λ texts. indented depth text ∷ texts) (spelled_append depth rest more)
spelled_append depth (group inside rest) more =
    ap (λ texts. spelled (suc depth) inside ++ (indented depth [] ∷ texts)) (spelled_append depth rest more)
    ∙ sym (append_assoc (spelled (suc depth) inside) (indented depth [] ∷ spelled depth rest) (spelled depth more))

pub spelled_words : (texts : List (List ℕ)) → spelled 0 (words texts) ≡ texts
spelled_words [] = refl
spelled_words (text ∷ texts) = ap (λ (more : List (List ℕ)). text ∷ more) (spelled_words texts)

pub scope_append : (scope : Scope) (a b : List (List ℕ)) → scope_value scope (a ++ b) ≡ scope_value scope a ++ scope_value scope b
scope_append [] a b = refl
scope_append (pairs ∷ scope) a b = ap (scope_value scope) (words_value-append pairs a b) ∙ scope_append scope (words_value pairs a) (words_value pairs b)

pub scope_more : (scope more : Scope) (words : List (List ℕ)) → scope_value (scope ++ more) words ≡ scope_value more (scope_value scope words)
scope_more [] more words = refl
scope_more (pairs ∷ scope) more words = scope_more scope more (words_value pairs words)

pub scope_nil : (scope : Scope) → scope_value scope [] ≡ []
scope_nil [] = refl
scope_nil (pairs ∷ scope) = scope_nil scope

pub scope_literal : (scope : Scope) (text : List ℕ) (words : List (List ℕ)) → is_literal text ≡ true → scope_value scope (text ∷ words) ≡ text ∷ scope_value scope words
scope_literal [] text words h = refl
scope_literal (pairs ∷ scope) text words h = ap (λ r. scope_value scope (r ++ words_value pairs words)) (value_literal pairs text h) ∙ scope_literal scope text (words_value pairs words) h

pub literals_value : (scope : Scope) (texts : List (List ℕ)) → are_literal texts ≡ true → scope_value scope texts ≡ texts
literals_value scope [] h = scope_nil scope
literals_value scope (text ∷ texts) h =
    let both = and_parts (is_literal text) (are_literal texts) h in
    scope_literal scope text texts both.0 ∙ ap (λ (r : List (List ℕ)). text ∷ r) (literals_value scope texts both.1)

-- ---- values of words and groups

put-more : (pairs : Pairs) (a b : Args) → put pairs (a +++ b) ≡ put pairs a +++ put pairs b
put-more pairs nothing b = refl
put-more pairs (word text rest) b = ap (λ x. words (word_value pairs text) +++ x) (put-more pairs rest b) ∙ sym (plus-assoc (words (word_value pairs text)) (put pairs rest) (put pairs b))
put-more pairs (group inside rest) b = ap (group (put pairs inside)) (put-more pairs rest b)

put-words : (pairs : Pairs) (texts : List (List ℕ)) → put pairs (words texts) ≡ words (words_value pairs texts)
put-words pairs [] = refl
put-words pairs (text ∷ texts) = ap (λ x. words (word_value pairs text) +++ x) (put-words pairs texts) ∙ sym (words-plus (word_value pairs text) (words_value pairs texts))

scope-put-more : (scope : Scope) (a b : Args) → put_in_scope scope (a +++ b) ≡ put_in_scope scope a +++ put_in_scope scope b
scope-put-more [] a b = refl
scope-put-more (pairs ∷ scope) a b = ap (put_in_scope scope) (put-more pairs a b) ∙ scope-put-more scope (put pairs a) (put pairs b)

scope-put-words : (scope : Scope) (texts : List (List ℕ)) → put_in_scope scope (words texts) ≡ words (scope_value scope texts)
scope-put-words [] texts = refl
scope-put-words (pairs ∷ scope) texts = ap (put_in_scope scope) (put-words pairs texts) ∙ scope-put-words scope (words_value pairs texts)

pub scope-put-group : (scope : Scope) (inside rest : Args) → put_in_scope scope (group inside rest) ≡ group (put_in_scope scope inside) (put_in_scope scope rest)
scope-put-group [] inside rest = refl
scope-put-group (pairs ∷ scope) inside rest = scope-put-group scope (put pairs inside) (put pairs rest)

pub scope-put-none : (scope : Scope) → put_in_scope scope nothing ≡ nothing
scope-put-none [] = refl
scope-put-none (pairs ∷ scope) = scope-put-none scope

-- a word with one value
pub scope-put-single : (scope : Scope) (text value : List ℕ) (rest : Args) → scope_value scope (text ∷ []) ≡ value ∷ [] → put_in_scope scope (word text rest) ≡ word value (put_in_scope scope rest)
scope-put-single scope text value rest e =
    scope-put-more scope (words (text ∷ [])) rest
    ∙ ap (λ x. x +++ put_in_scope scope rest) (scope-put-words scope (text ∷ []) ∙ ap words e)

pub names-stay : (scope : Scope) (names : List (List ℕ)) → are_literal names ≡ true → put_in_scope scope (words names) ≡ words names
names-stay scope names h = scope-put-words scope names ∙ ap words (literals_value scope names h)

pub scope-put-literals : (scope : Scope) (texts : List (List ℕ)) (rest : Args) → are_literal texts ≡ true → put_in_scope scope (words texts +++ rest) ≡ words texts +++ put_in_scope scope rest
scope-put-literals scope texts rest h = scope-put-more scope (words texts) rest ∙ ap (λ x. x +++ put_in_scope scope rest) (names-stay scope texts h)

-- ---- single words

pub single_next : (scope : Scope) (text : List ℕ) (words : List (List ℕ)) → IsSingle (scope_value scope (text ∷ [])) → scope_value scope (text ∷ words) ≡ the_value scope text ∷ scope_value scope words
single_next scope text words h =
    scope_append scope (text ∷ []) words
    ∙ ap (λ x. x ++ scope_value scope words) h.is
    ∙ ap (λ (x : List ℕ). x ∷ scope_value scope words) (sym (ap (λ (r : List (List ℕ)). Rattle.std.specs.Prelude.slice_index_or r 0 []) h.is))

pub literal_value : (scope : Scope) (text : List ℕ) → is_literal text ≡ true → the_value scope text ≡ text
literal_value scope text h = ap (λ (r : List (List ℕ)). Rattle.std.specs.Prelude.slice_index_or r 0 []) (scope_literal scope text [] h)

pub names_words : (scope : Scope) (names : List (List ℕ)) → are_literal names ≡ true → scope_value scope (spelled 0 (words names)) ≡ names
names_words scope names h = ap (scope_value scope) (spelled_words names) ∙ literals_value scope names h

-- ---- groups

abbrev pub spaced : List (List ℕ) → List (List ℕ)
spaced words = map (λ (text : List ℕ). 32 ∷ text) words

spelled_deeper : (depth : ℕ) (args : Args) → spelled (suc depth) args ≡ spaced (spelled depth args)
spelled_deeper depth nothing = refl
spelled_deeper depth (word text rest) = ap (λ (r : List (List ℕ)). indented (suc depth) text ∷ r) (spelled_deeper depth rest)
spelled_deeper depth (group inside rest) =
    ap (λ r. r ++ indented (suc depth) [] ∷ spelled (suc depth) rest) (spelled_deeper (suc depth) inside)
    ∙ ap (λ (r : List (List ℕ)). spaced (spelled (suc depth) inside) ++ indented (suc depth) [] ∷ r) (spelled_deeper depth rest)
    ∙ sym (map-append (λ (text : List ℕ). 32 ∷ text) (spelled (suc depth) inside) (indented depth [] ∷ spelled depth rest))

-- the words of a group, one level deeper, and its end
pub group_words : (scope : Scope) (inside rest : Args) → scope_value scope (spelled 0 (group inside rest)) ≡ spaced (scope_value scope (spelled 0 inside)) ++ [] ∷ scope_value scope (spelled 0 rest)
group_words scope inside rest =
    scope_append scope (spelled 1 inside) ([] ∷ spelled 0 rest)
    ∙ ap (λ x. x ++ scope_value scope ([] ∷ spelled 0 rest)) (scope_spelled scope 1 inside ∙ spelled_deeper 0 (put_in_scope scope inside) ∙ ap spaced (sym (scope_spelled scope 0 inside)))
    ∙ ap (λ (x : List (List ℕ)). spaced (scope_value scope (spelled 0 inside)) ++ x) (scope_literal scope [] (spelled 0 rest) refl)

-- literal words in front
pub scope_options : (scope : Scope) (options : List (List ℕ)) (args : Args) → are_literal options ≡ true → scope_value scope (spelled 0 (words options +++ args)) ≡ options ++ scope_value scope (spelled 0 args)
scope_options scope options args h =
    ap (scope_value scope) (spelled_append 0 (words options) args ∙ ap (λ x. x ++ spelled 0 args) (spelled_words options))
    ∙ scope_append scope options (spelled 0 args) ∙ ap (λ x. x ++ scope_value scope (spelled 0 args)) (literals_value scope options h)

pub length_behind : (scope : Scope) (a b : Args) → length (scope_value scope (spelled 0 b)) ≤ length (scope_value scope (spelled 0 (a +++ b)))
length_behind scope a b =
    let e : length (scope_value scope (spelled 0 (a +++ b))) ≡ length (scope_value scope (spelled 0 a) ++ scope_value scope (spelled 0 b)) = ap length (ap (scope_value scope) (spelled_append 0 a b) ∙ scope_append scope (spelled 0 a) (spelled 0 b)) in
    omega (arith, length-append (scope_value scope (spelled 0 a)) (scope_value scope (spelled 0 b)))
