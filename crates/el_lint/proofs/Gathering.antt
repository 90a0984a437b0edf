-- The words of items and of places, in turn.
use Rattle.el_script.proofs.Vocabulary.{Arg, Place, Block, Values, Names, args_of, places_of, args-again, args-fall, places-again, places-fall}
use Rattle.std.proofs.Common.{◌≡◌, ℕ, ◌+◌, List, [], ◌∷◌, ◌++◌, refl, sym, ap, append_assoc, append-nil, arith}
use Rattle.el_tree.specs.declared.items.Arg.TheVariants.{Word, Group}
use Rattle.el_tree.specs.declared.tree.Place.TheVariants.{Text, Directives}
use Rattle.el_lint.specs.Lints.{texts_in, place_texts}
use Rattle.el_lint.specs.Findings.{tokens_in}

-- the first item, and the others
pub texts-more : (item : Arg) (items : List Arg) → texts_in (args_of (item ∷ items)) ≡ texts_in (args_of (item ∷ [])) ++ texts_in (args_of items)
texts-more (Word text) items = refl
texts-more (Group inside) items = ap (λ (texts : List (List ℕ)). texts ++ texts_in (args_of items)) (sym (append-nil (texts_in inside)))

pub tokens-more : (item : Arg) (items : List Arg) → tokens_in (args_of (item ∷ items)) ≡ tokens_in (args_of (item ∷ [])) + tokens_in (args_of items)
tokens-more (Word text) items = omega arith
tokens-more (Group inside) items = omega arith

-- the first place, and the others
pub places-more : (place : Place) (places : List Place) → place_texts (places_of (place ∷ places)) ≡ place_texts (places_of (place ∷ [])) ++ place_texts (places_of places)
places-more (Text text) places = refl
places-more (Block block) places = refl
places-more (Values values) places = ap (λ (texts : List (List ℕ)). texts ++ place_texts (places_of places)) (sym (append-nil (texts_in values)))
places-more (Names names) places = refl
places-more (Directives directives) places = refl

pub ruleset gathering = (texts-more, tokens-more, places-more, append_assoc, append-nil, args-again, args-fall, places-again, places-fall)
