-- Facts on words and groups, places, options and faults.
use Rattle.std.proofs.Common.{◌≡◌, ℕ, Bool, true, false, if◌then◌else◌, List, [], ◌∷◌, ◌++◌, append_assoc, drop, Option, Some, None, refl, sym, ap, ◌∙◌, true≢false}
use Rattle.std.specs.Prelude.{is_none, is_some, nat_lt}
use Rattle.std.specs.List.{list_all}
use Rattle.std.proofs.lemmas.List.Folds.{list_all-append}
use Rattle.el_words.specs.Args.{Args, nothing, word, group, ◌+++◌, words}
use Rattle.el_words.proofs.Truths.{left_of, right_of}
use Rattle.el_blocks.specs.Tokens.{TokenShape, Text, Open, Close, shapes_in}
use Rattle.el_tree.specs.Trees.{Place, Places, unplaced, one_place, text_place, block_place, values_place, names_place, directives_place, written, written_places, written_directives}
use Rattle.el_tree.specs.Lists.{◌with_places◌}
use Rattle.el_tree.specs.declared.fault.PlacedFault.{PlacedFault}
use Rattle.el_tree.specs.Beginnings.{count}
use Rattle.el_tree.specs.Faults.{◌or_else◌, where_true, fault_of, rank, is_unplaced}

-- ---- what isn't so

pub never-cons : {X : Type 0} {x : X} {xs : List X} → x ∷ xs ≡ [] → ⊥
never-cons is = cc

pub never-some : {A : Type 0} {value : A} → Some value ≡ None → ⊥
never-some is = cc

pub never-word : {text : List ℕ} {rest : Args} → word text rest ≡ nothing → ⊥
never-word is = cc

pub never-group : {inside rest : Args} → group inside rest ≡ nothing → ⊥
never-group is = cc

-- ---- tests of all

pub all-append : {X : Type 0} (test : X → Bool) (one other : List X) → list_all test one ≡ true → list_all test other ≡ true → list_all test (one ++ other) ≡ true
all-append test one other is too = list_all-append test one other ∙ rw (is, too) refl

pub all-left : {X : Type 0} (test : X → Bool) (one other : List X) → list_all test (one ++ other) ≡ true → list_all test one ≡ true
all-left test one other is = left_of (list_all test one) (list_all test other) (sym (list_all-append test one other) ∙ is)

pub all-right : {X : Type 0} (test : X → Bool) (one other : List X) → list_all test (one ++ other) ≡ true → list_all test other ≡ true
all-right test one other is = right_of (list_all test one) (list_all test other) (sym (list_all-append test one other) ∙ is)

-- ---- faults

pub where-false : (b : Bool) (found : PlacedFault) → b ≡ false → where_true b found ≡ None
where-false false found is = refl
where-false true found is = absurd (true≢false is)

pub not-true : (b : Bool) (found : PlacedFault) → where_true b found ≡ None → b ≡ false
not-true false found none = refl
not-true true found none = absurd (never-some none)

earlier-some : (b : Bool) (found other : PlacedFault) → (if b then Some other else Some found) ≡ None → ⊥
earlier-some true found other is = never-some is
earlier-some false found other is = never-some is

pub or-left : (one other : Option PlacedFault) → one or_else other ≡ None → one ≡ None
or-left None other none = refl
or-left (Some found) None none = absurd (never-some none)
or-left (Some found) (Some other) none = absurd (earlier-some (nat_lt (rank (fault_of other)) (rank (fault_of found))) found other none)

pub or-right : (one other : Option PlacedFault) → one or_else other ≡ None → other ≡ None
or-right None other none = none
or-right (Some found) None none = refl
or-right (Some found) (Some other) none = absurd (earlier-some (nat_lt (rank (fault_of other)) (rank (fault_of found))) found other none)

pub or-none : (one other : Option PlacedFault) → one ≡ None → other ≡ None → one or_else other ≡ None
or-none None other one-none other-none = other-none
or-none (Some found) other one-none other-none = absurd (never-some one-none)

pub if-false : {X : Type 0} (b : Bool) (one other : X) → b ≡ false → (if b then one else other) ≡ other
if-false true one other is = absurd (true≢false is)
if-false false one other is = refl

pub none-some : {X : Type 0} (value : Option X) → is_some value ≡ true → is_none value ≡ false
none-some None is = absurd (true≢false (sym is))
none-some (Some value) is = refl

pub some-none : {X : Type 0} (value : Option X) → is_none value ≡ false → is_some value ≡ true
some-none None is = absurd (true≢false is)
some-none (Some value) is = refl

-- ---- words and groups

pub plus-nothing : (a : Args) → a +++ nothing ≡ a
plus-nothing nothing = refl
plus-nothing (word text a) = ap (word text) (plus-nothing a)
plus-nothing (group inside a) = ap (group inside) (plus-nothing a)

pub plus-assoc : (a b c : Args) → (a +++ b) +++ c ≡ a +++ (b +++ c)
plus-assoc nothing b c = refl
plus-assoc (word text a) b c = ap (word text) (plus-assoc a b c)
plus-assoc (group inside a) b c = ap (group inside) (plus-assoc a b c)

pub shapes-plus : (a b : Args) → shapes_in (a +++ b) ≡ shapes_in a ++ shapes_in b
shapes-plus nothing b = refl
shapes-plus (word text a) b = ap (λ (x : List TokenShape). Text text ∷ x) (shapes-plus a b)
shapes-plus (group inside a) b = ap (λ (x : List TokenShape). Open ∷ (shapes_in inside ++ (Close ∷ x))) (shapes-plus a b) ∙ ap (λ (x : List TokenShape). Open ∷ x) (sym (append_assoc (shapes_in inside) (Close ∷ shapes_in a) (shapes_in b)))

pub words-plus : (a b : List (List ℕ)) → words (a ++ b) ≡ words a +++ words b
words-plus [] b = refl
words-plus (text ∷ a) b = ap (word text) (words-plus a b)

pub places-plus : (a b : Places) → written_places (a with_places b) ≡ written_places a +++ written_places b
places-plus unplaced b = refl
places-plus (one_place (text_place text) a) b = ap (word text) (places-plus a b)
places-plus (one_place (block_place block) a) b = ap (group (written block)) (places-plus a b)
places-plus (one_place (values_place values) a) b = ap (group values) (places-plus a b)
places-plus (one_place (names_place names) a) b = ap (group (words names)) (places-plus a b)
places-plus (one_place (directives_place directives) a) b = ap (group (written_directives directives)) (places-plus a b)

-- ---- places

pub with-assoc : (a b c : Places) → (a with_places b) with_places c ≡ a with_places (b with_places c)
with-assoc unplaced b c = refl
with-assoc (one_place place a) b c = ap (one_place place) (with-assoc a b c)

pub with-unplaced : (a : Places) → a with_places unplaced ≡ a
with-unplaced unplaced = refl
with-unplaced (one_place place a) = ap (one_place place) (with-unplaced a)

pub placed-more : (a : Places) (place : Place) → is_unplaced (a with_places one_place place unplaced) ≡ false
placed-more unplaced place = refl
placed-more a place = refl

-- behind one place more, one kind less is left
pub next-kinds : {K : Type 0} (a : Places) (place : Place) (kinds : List K) (kind : K) (left : List K) → drop (count a) kinds ≡ kind ∷ left → drop (count (a with_places one_place place unplaced)) kinds ≡ left
next-kinds unplaced place kinds kind left are = ap (λ kinds. drop 1 kinds) are
next-kinds (one_place _ a) place (k ∷ kinds) kind left are = next-kinds a place kinds kind left are
next-kinds a place [] kind left are = absurd (never-cons (sym are))
