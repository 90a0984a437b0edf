-- Words that have one word in a scope.
use Rattle.std.proofs.Common.{◌≡◌, ⊎_elim, ℕ, ◌<◌, ◌%◌, ◌/◌, ◌==◌, Bool, true, false, not, ◌&&◌, ◌||◌, if◌then◌else◌, List, [], ◌∷◌, ◌++◌, length, get_or, map, Option, Some, None, refl, sym, ap, ◌∙◌, subst, append-nil, true≢false}
use Rattle.std.specs.List.{list_any, flat_map}
use Rattle.std.proofs.lemmas.Bool.{cases_Bool, not-true, and_parts, or_parts, and_right, or_from}
use Rattle.std.proofs.lemmas.List.Folds.{list_any_at}
use Rattle.el_words.proofs.Truths.{or_behind_none}
use Rattle.el_subst.specs.Parts.{Part, Byte, Reference, parts_of, slashes, parts_text}
use Rattle.el_subst.specs.Values.{Pairs, words_of, chosen, choices, products, word_value, words_value}
use Rattle.el_subst.specs.Scopes.{Scope, scope_value}
use Rattle.el_subst.proofs.Parts.{parts_text-is}
use Rattle.el_subst.proofs.Values.{value-plain, LacksDollar-none}
use Rattle.el_tree.specs.OptionWords.{is_literal}
use Rattle.el_tree.specs.Marks.{Mark, Member, is_many, marks, marks_many, has_many, is_all, Meets, MeetsAll, IsSingle, puts_many, touches, keeps_one}

-- ---- references

-- P of each reference
abbrev EachReference : (ℕ → List ℕ → Type 0) → List Part → Type 0
EachReference P [] = Unit {0}
EachReference P (Byte byte ∷ parts) = EachReference P parts
EachReference P (Reference n key text ∷ parts) = P n key × EachReference P parts

-- where none is so, each reference is what that says of it
none_each : (test : Part → Bool) (P : ℕ → List ℕ → Type 0) (parts : List Part) → ((n : ℕ) (key text : List ℕ) → test (Reference n key text) ≡ false → P n key) → list_any test parts ≡ false → EachReference P parts
none_each test P [] says e = tt
none_each test P (Byte byte ∷ parts) says e = none_each test P parts says (or_parts (test (Byte byte)) (list_any test parts) e).1
none_each test P (Reference n key text ∷ parts) says e = let both = or_parts (test (Reference n key text)) (list_any test parts) e in (says n key text both.0, none_each test P parts says both.1)

-- ---- a word that a substitution leaves alone

products_same : (pairs : Pairs) (parts : List Part) → EachReference (λ n key. words_of pairs key ≡ None) parts → products (map (choices pairs) parts) ≡ parts_text parts ∷ []
products_same pairs [] h = refl
products_same pairs (Byte byte ∷ parts) h = ap (λ r. flat_map (λ (c : List ℕ). map (λ w. c ++ w) r) ((byte ∷ []) ∷ [])) (products_same pairs parts h)
products_same pairs (Reference n key text ∷ parts) h =
    ap (λ r. flat_map (λ (c : List ℕ). map (λ w. c ++ w) r) (chosen n text (words_of pairs key))) (products_same pairs parts h.1)
    ∙ ap (λ o. flat_map (λ (c : List ℕ). map (λ w. c ++ w) (parts_text parts ∷ [])) (chosen n text o)) h.0

value_same : (pairs : Pairs) (text : List ℕ) → EachReference (λ n key. words_of pairs key ≡ None) (parts_of text) → word_value pairs text ≡ text ∷ []
value_same pairs text h = products_same pairs (parts_of text) h ∙ ap (λ (r : List ℕ). r ∷ []) (parts_text-is text)

unmarked : (pairs : Pairs) (member : Member) → Meets pairs member → (key : List ℕ) → marks member key ≡ false → words_of pairs key ≡ None
unmarked pairs member h key e = go (words_of pairs key) refl
  where
    go : (o : Option (List (List ℕ))) → words_of pairs key ≡ o → o ≡ None
    go None w = refl
    go (Some values) w = absurd (let m : marks member key ≡ true = h.are_marked key values w in cc)

pub value_stays : (pairs : Pairs) (member : Member) (text : List ℕ) → Meets pairs member → list_any (touches member) (parts_of text) ≡ false → word_value pairs text ≡ text ∷ []
value_stays pairs member text h e =
    value_same pairs text (none_each (touches member) (λ n key. words_of pairs key ≡ None) (parts_of text) (λ n key shown e. unmarked pairs member h key e) e)

-- ---- one word from one word

single_map : (f : List ℕ → List ℕ) (words : List (List ℕ)) → IsSingle words → IsSingle (map f words)
single_map f words h = record { word = f h.word; is = ap (map f) h.is }

products_single : (pairs : Pairs) (parts : List Part) → EachReference (λ n key. (text : List ℕ) → IsSingle (chosen n text (words_of pairs key))) parts → IsSingle (products (map (choices pairs) parts))
products_single pairs [] h = record { word = []; is = refl }
products_single pairs (Byte byte ∷ parts) h =
    let r = products_single pairs parts h in
    record { word = byte ∷ r.word; is = ap (λ r. flat_map (λ (c : List ℕ). map (λ w. c ++ w) r) ((byte ∷ []) ∷ [])) r.is }
products_single pairs (Reference n key text ∷ parts) h =
    let r = products_single pairs parts h.1 in
    let c = h.0 text in
    record {
      word = c.word ++ r.word;
      is = ap (λ r. flat_map (λ (c : List ℕ). map (λ w. c ++ w) r) (chosen n text (words_of pairs key))) r.is ∙ ap (λ cs. flat_map (λ (c : List ℕ). map (λ w. c ++ w) (r.word ∷ [])) cs) c.is;
    }

chosen_single : (pairs : Pairs) (member : Member) → Meets pairs member → (n : ℕ) (key : List ℕ) → (not (n % 2 == 1) && marks_many member key) ≡ false → (text : List ℕ) → IsSingle (chosen n text (words_of pairs key))
chosen_single pairs member h n key t text = go (words_of pairs key) refl
  where
    pick : (values : List (List ℕ)) (b : Bool) → words_of pairs key ≡ Some values → (n % 2 == 1) ≡ b → IsSingle (if b then (slashes (n / 2) ++ text) ∷ [] else map (λ v. slashes (n / 2) ++ v) values)
    pick values true e odd = record { word = slashes (n / 2) ++ text; is = refl }
    pick values false e odd = single_map _ values (h.are_single key values e (sym (ap (λ b. not b && marks_many member key) odd) ∙ t))

    go : (o : Option (List (List ℕ))) → words_of pairs key ≡ o → IsSingle (chosen n text o)
    go None e = record { word = slashes n ++ text; is = refl }
    go (Some values) e = pick values (n % 2 == 1) e refl

pub value_single : (pairs : Pairs) (member : Member) (text : List ℕ) → Meets pairs member → list_any (puts_many member) (parts_of text) ≡ false → IsSingle (word_value pairs text)
value_single pairs member text h e =
    products_single pairs (parts_of text)
    (none_each (puts_many member) (λ n key. (text : List ℕ) → IsSingle (chosen n text (words_of pairs key))) (parts_of text) (λ n key shown e. chosen_single pairs member h n key e) e)

-- ---- members without Many

none_many : (marked : List (List ℕ × Mark)) (key : List ℕ) → list_any (λ (pair : List ℕ × Mark). is_many pair.1) marked ≡ false → list_any (λ (pair : List ℕ × Mark). Rattle.std.specs.Str.bytes_eq pair.0 key && is_many pair.1) marked ≡ false
none_many [] key e = refl
none_many (pair ∷ marked) key e =
    let both = or_parts (is_many pair.1) (list_any (λ (pair : List ℕ × Mark). is_many pair.1) marked) e in
    or_from _ _ (and_right _ (is_many pair.1) both.0) (none_many marked key both.1)

pub not_many : (member : Member) (key : List ℕ) → has_many member ≡ false → marks_many member key ≡ false
not_many member key e =
    let both = or_parts (list_any (λ (pair : List ℕ × Mark). is_many pair.1) member.marked) member.positional e in
    or_from _ _ (none_many member.marked key both.0) (ap (λ p. p && is_all key) both.1)

-- ---- fixed places

pub words_single : (pairs : Pairs) (words : List (List ℕ)) → ((text : List ℕ) → IsSingle (word_value pairs text)) → IsSingle words → IsSingle (words_value pairs words)
words_single pairs words f h =
    let v = f h.word in
    record { word = v.word; is = ap (words_value pairs) h.is ∙ append-nil (word_value pairs h.word) ∙ v.is }

pub none-put : (member : Member) (parts : List Part) → has_many member ≡ false → list_any (puts_many member) parts ≡ false
none-put member [] e = refl
none-put member (Byte byte ∷ parts) e = none-put member parts e
none-put member (Reference slashes key text ∷ parts) e =
    ap (λ b. (not (slashes % 2 == 1) && b) || list_any (puts_many member) parts) (not_many member key e) ∙ or_behind_none (not (slashes % 2 == 1)) (list_any (puts_many member) parts) ∙ none-put member parts e

touched_single : (scope : Scope) (members : List Member) (parts : List Part) (words : List (List ℕ)) → MeetsAll scope members → keeps_one true members parts ≡ true → IsSingle words → IsSingle (scope_value scope words)
touched_single [] members parts words h t c = c
touched_single (pairs ∷ scope) [] parts words h t c = absurd h
touched_single (pairs ∷ scope) (member ∷ members) parts words h t c =
    let both = and_parts (not (has_many member)) (keeps_one true members parts) t in
    touched_single scope members parts (words_value pairs words) h.1 both.1 (words_single pairs words (λ text. value_single pairs member text h.0 (none-put member (parts_of text) (not-true (has_many member) both.0))) c)

pub fixed_single : (scope : Scope) (members : List Member) (text : List ℕ) → MeetsAll scope members → keeps_one false members (parts_of text) ≡ true → IsSingle (scope_value scope (text ∷ []))
fixed_single [] members text h t = record { word = text; is = refl }
fixed_single (pairs ∷ scope) [] text h t = absurd h
fixed_single (pairs ∷ scope) (member ∷ members) text h t =
    let parts = parts_of text in
    let both = and_parts (not (list_any (puts_many member) parts)) (keeps_one (list_any (touches member) parts) members parts) t in
    let value = value_single pairs member text h.0 (not-true _ both.0) in
    ⊎_elim (λ e. touched_single scope members parts (words_value pairs (text ∷ [])) h.1 (subst (λ b. keeps_one b members parts ≡ true) e both.1) (record { word = value.word; is = append-nil (word_value pairs text) ∙ value.is }))
    (λ e. subst (λ words. IsSingle (scope_value scope words)) (sym (append-nil (word_value pairs text) ∙ value_stays pairs member text h.0 e)) (fixed_single scope members text h.1 (subst (λ b. keeps_one b members parts ≡ true) e both.1)))
    (cases_Bool (list_any (touches member) parts))

-- ---- literal words

pub no-dollar : (text : List ℕ) → is_literal text ≡ true → (k : ℕ) → k < length text → (get_or text k 0 == 36) ≡ true → ⊥
no-dollar text literal k below is = true≢false (sym (list_any_at (λ byte. byte == 36) text k 0 below is) ∙ not-true _ literal)

pub value_literal : (pairs : Pairs) (text : List ℕ) → is_literal text ≡ true → word_value pairs text ≡ text ∷ []
value_literal pairs text literal = value-plain pairs text (LacksDollar-none text (λ k low. no-dollar text literal k))
