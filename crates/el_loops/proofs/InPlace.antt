-- Values that are put in place.
use Rattle.el_room.proofs.Vocabulary.{flat_map, bytes_eq, nat_cmp, eq_by_cmp, slice_cmp, nat_list_cmp_total, bytes_decides, texts_ties, get-remove, Vars, Part, parts_of, Pairs, words_value, First, the_text}
use Rattle.std.proofs.Common.{◌≡◌, ℕ, suc, ◌%◌, ◌/◌, ◌==◌, Bool, true, false, cond, if◌then◌else◌, List, [], ◌∷◌, ◌++◌, map, length, Some, None, refl, sym, ap, ◌∙◌}
use Rattle.std.specs.FinMap as maps
use Rattle.el_subst.specs.Parts.{Byte, Reference, slashes}
use Rattle.el_subst.specs.Values.{words_of, chosen, choices, products}
use Rattle.el_pipes.specs.Putting.{puts_values}
use Rattle.el_loops.specs.Turns.{Looping}
use Rattle.el_loops.specs.Laws.{IsPutInPlace}

-- ---- one word from one word

-- there is one word
record IsOne (words : List (List ℕ)) : Type 0 where
  word : List ℕ
  is : words ≡ word ∷ []

module _ (key value : List ℕ) where
  abbrev pairs : Pairs
  pairs = (key, value ∷ []) ∷ []

  one_chosen : (n : ℕ) (name text : List ℕ) → IsOne (chosen n text (words_of pairs name))
  one_chosen n name text = by (bytes_eq key name)
    where
      put : (odd : Bool) → IsOne (if odd then (slashes (n / 2) ++ text) ∷ [] else map (λ value. slashes (n / 2) ++ value) (value ∷ []))
      put true = record { word = slashes (n / 2) ++ text; is = refl }
      put false = record { word = slashes (n / 2) ++ value; is = refl }

      by : (here : Bool) → IsOne (chosen n text (if here then Some (value ∷ []) else None))
      by false = record { word = slashes n ++ text; is = refl }
      by true = put (n % 2 == 1)

  one_product : (parts : List Part) → IsOne (products (map (choices pairs) parts))
  one_product [] = record { word = []; is = refl }
  one_product (Byte byte ∷ parts) =
      let r = one_product parts in
      record { word = byte ∷ r.word; is = ap (λ r. flat_map (λ (c : List ℕ). map (λ w. c ++ w) r) ((byte ∷ []) ∷ [])) r.is }
  one_product (Reference n name text ∷ parts) =
      let r = one_product parts in
      let c = one_chosen n name text in
      record {
        word = c.word ++ r.word;
        is = ap (λ r. flat_map (λ (c : List ℕ). map (λ w. c ++ w) r) (chosen n text (words_of pairs name))) r.is ∙ ap (λ cs. flat_map (λ (c : List ℕ). map (λ w. c ++ w) (r.word ∷ [])) cs) c.is;
      }

  as_many : (words : List (List ℕ)) → length (words_value pairs words) ≡ length words
  as_many [] = refl
  as_many (word ∷ words) =
      let one = one_product (parts_of word) in
      ap (λ made. length (made ++ words_value pairs words)) one.is ∙ ap suc (as_many words)

-- ---- no variable of the name

same_name : (name : List ℕ) → eq_by_cmp (slice_cmp nat_cmp) name name ≡ true
same_name name = sym (texts_ties name name) ∙ (bytes_decides name name).1 refl

none_left : (vars : Vars) (name : List ℕ) → maps.get (maps.remove vars name) name ≡ None
none_left vars name = get-remove nat_list_cmp_total vars name name ∙ ap (λ b. cond b None (maps.get vars name)) (same_name name)

-- ---- turns

pub put_in_place : (looping : Looping) (value : List ℕ) → puts_values looping.read ≡ true → IsPutInPlace looping value
put_in_place looping value puts = record {
  words = rw puts refl;
  count = rw puts (as_many (the_text First looping.read) value looping.read.rest);
  unset = rw puts (none_left looping.state.env (the_text First looping.read));
}
