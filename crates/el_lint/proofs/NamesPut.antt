-- The names that a program puts in, by its places.
use Rattle.el_script.proofs.Vocabulary.{Prog, Define, Importas, Import, Multidefine, Forx, Forstdin, Forbacktickx, Backtick, Letter, Places, unplaced, one_place, text_place, Place, Block, Values, Names, places_of, place_list, Many, Marked, first_text, names_in, value_marks, own_member, places-again}
use Rattle.std.proofs.Common.{◌≡◌, ◌⊎◌, inl, inr, ℕ, List, [], ◌∷◌, map, Some, refl, sym, ap, ◌∙◌}
use Rattle.std.specs.Prelude.{slice_get}
use Rattle.el_tree.specs.declared.tree.Place.TheVariants.{Text, Directives}
use Rattle.el_lint.specs.Known.{names_put}
use Rattle.el_lint.specs.LetterTables.{puts_value}

-- ---- the word at the first place

pub first-text : (places : Places) (text : List ℕ) → slice_get (place_list places) 0 ≡ Some (Text text) → text ≡ first_text places
first-text unplaced text is = absurd (cc)
first-text (one_place (text_place word) places) text is = cc
first-text (one_place _ places) text is = absurd (cc)

pub no-first : (places : Places) → ((text : List ℕ) → slice_get (place_list places) 0 ≡ Some (Text text) → ⊥) → [] ≡ first_text places
no-first unplaced none = refl
no-first (one_place (text_place text) places) none = absurd (none text refl)
no-first (one_place _ places) none = refl

-- ---- the first block of names

pub passed-names : (place : Place) (places : List Place) → ((names : List (List ℕ)) → place ≡ Names names → ⊥) → names_in (places_of (place ∷ places)) ≡ names_in (places_of places)
passed-names (Text text) places other = refl
passed-names (Block block) places other = refl
passed-names (Values values) places other = refl
passed-names (Names names) places other = absurd (other names refl)
passed-names (Directives directives) places other = refl

-- ---- by program

pub one-name : (program : Prog) (letters : List Letter) (places : Places) → (program ≡ Define) ⊎ ((program ≡ Importas) ⊎ (program ≡ Import)) → names_put (own_member program letters places) ≡ first_text places ∷ []
one-name program letters places (inl is) = ap (λ program. names_put (own_member program letters places)) is
one-name program letters places (inr (inl is)) = ap (λ program. names_put (own_member program letters places)) is
one-name program letters places (inr (inr is)) = ap (λ program. names_put (own_member program letters places)) is

all-names : (names : List (List ℕ)) → map (λ (marked : Marked). marked.0) (map (λ name. (name, Many)) names) ≡ names
all-names [] = refl
all-names (name ∷ names) = ap (λ (names : List (List ℕ)). name ∷ names) (all-names names)

pub many-names : (program : Prog) (letters : List Letter) (places : Places) (names : List (List ℕ)) → program ≡ Multidefine → names ≡ names_in places → names ≡ names_put (own_member program letters places)
many-names program letters places names is are = are ∙ sym (all-names (names_in places)) ∙ ap (λ program. names_put (own_member program letters places)) (sym is)

pub value-names : (program : Prog) (letters : List Letter) (places : Places) → (program ≡ Forx) ⊎ ((program ≡ Forstdin) ⊎ ((program ≡ Forbacktickx) ⊎ (program ≡ Backtick)))
    → names_put (own_member program letters places) ≡ map (λ (marked : Marked). marked.0) (value_marks (puts_value program letters) (first_text places))
value-names program letters places (inl is) =
    ap (λ program. names_put (own_member program letters places)) is ∙ sym (ap (λ program. map (λ (marked : Marked). marked.0) (value_marks (puts_value program letters) (first_text places))) is)
value-names program letters places (inr (inl is)) =
    ap (λ program. names_put (own_member program letters places)) is ∙ sym (ap (λ program. map (λ (marked : Marked). marked.0) (value_marks (puts_value program letters) (first_text places))) is)
value-names program letters places (inr (inr (inl is))) =
    ap (λ program. names_put (own_member program letters places)) is ∙ sym (ap (λ program. map (λ (marked : Marked). marked.0) (value_marks (puts_value program letters) (first_text places))) is)
value-names program letters places (inr (inr (inr is))) =
    ap (λ program. names_put (own_member program letters places)) is ∙ sym (ap (λ program. map (λ (marked : Marked). marked.0) (value_marks (puts_value program letters) (first_text places))) is)

pub no-names : (program : Prog) (letters : List Letter) (places : Places) → (program ≡ Define → ⊥) → (program ≡ Importas → ⊥) → (program ≡ Import → ⊥) → (program ≡ Multidefine → ⊥)
    → (program ≡ Forx → ⊥) → (program ≡ Forstdin → ⊥) → (program ≡ Forbacktickx → ⊥) → (program ≡ Backtick → ⊥) → [] ≡ names_put (own_member program letters places)
no-names Define letters places define importas import multidefine forx forstdin forbacktickx backtick = absurd (define refl)
no-names Importas letters places define importas import multidefine forx forstdin forbacktickx backtick = absurd (importas refl)
no-names Import letters places define importas import multidefine forx forstdin forbacktickx backtick = absurd (import refl)
no-names Multidefine letters places define importas import multidefine forx forstdin forbacktickx backtick = absurd (multidefine refl)
no-names Forx letters places define importas import multidefine forx forstdin forbacktickx backtick = absurd (forx refl)
no-names Forstdin letters places define importas import multidefine forx forstdin forbacktickx backtick = absurd (forstdin refl)
no-names Forbacktickx letters places define importas import multidefine forx forstdin forbacktickx backtick = absurd (forbacktickx refl)
no-names Backtick letters places define importas import multidefine forx forstdin forbacktickx backtick = absurd (backtick refl)
no-names program letters places define importas import multidefine forx forstdin forbacktickx backtick = refl

pub ruleset named = (first-text, no-first, passed-names, one-name, many-names, value-names, no-names, places-again)
