-- The index of the pairs, made from the last pair to the first.
use Rattle.std.proofs.Common.{◌≡◌, ℕ, suc, ◌+◌, ◌<◌, Bool, true, false, if◌then◌else◌, List, [], ◌∷◌, Vec, Option, None, Some, option_map, length, drop, slice_index_or, refl, sym, ap, ◌∙◌, subst, true≢false, arith, drop-cons, add-one}
use Rattle.std.specs.Cmp.Lexicographic.{bytes_decides}
use Rattle.std.specs.Str.{bytes_eq}
use Rattle.std.specs.declared.alloc.Global.{Global}
use Rattle.indexmap.specs.IndexMap.{insert_entry}
use Rattle.el_subst.specs.Values.{Pairs, words_of}
use Rattle.el_subst.specs.Index.{KeyPlaces, place_of, stored_place, IsIndex}

bytes_eq-sym : (a b : List ℕ) → bytes_eq a b ≡ bytes_eq b a
bytes_eq-sym a b = by (bytes_eq a b) refl (bytes_eq b a) refl
  where
    by : (x : Bool) → bytes_eq a b ≡ x → (y : Bool) → bytes_eq b a ≡ y → x ≡ y
    by true e true f = refl
    by false e false f = refl
    by true e false f = absurd (true≢false (sym ((bytes_decides b a).1 (sym ((bytes_decides a b).0 e))) ∙ f))
    by false e true f = absurd (true≢false (sym ((bytes_decides a b).1 (sym ((bytes_decides b a).0 f))) ∙ e))

-- what a pair stored in the index answers
abbrev same_key : Vec ℕ Global → Vec ℕ Global → Bool
same_key k l = bytes_eq k.items l.items

pub stored_place-insert : (places : KeyPlaces) (stored : Vec ℕ Global) (place : ℕ) (key : List ℕ)
    → stored_place (insert_entry same_key places stored place) key ≡ (if bytes_eq key stored.items then Some place else stored_place places key)
stored_place-insert [] stored place key = refl
stored_place-insert (entry ∷ places) stored place key = by (bytes_eq stored.items entry.0.items) refl (bytes_eq key stored.items) refl (bytes_eq key entry.0.items) refl (stored_place-insert places stored place key)
  where
    by : (same : Bool) → bytes_eq stored.items entry.0.items ≡ same → (is : Bool) → bytes_eq key stored.items ≡ is → (other : Bool) → bytes_eq key entry.0.items ≡ other
        → stored_place (insert_entry same_key places stored place) key ≡ (if bytes_eq key stored.items then Some place else stored_place places key)
        → stored_place (if same then (entry.0, place) ∷ places else entry ∷ insert_entry same_key places stored place) key
        ≡ (if bytes_eq key stored.items then Some place else (if bytes_eq key entry.0.items then Some entry.1 else stored_place places key))
    by true e true f true g rest = rw (f, g) refl
    by true e false f false g rest = rw (f, g) refl
    by true e true f false g rest = absurd (true≢false (sym ((bytes_decides key entry.0.items).1 ((bytes_decides key stored.items).0 f ∙ (bytes_decides stored.items entry.0.items).0 e)) ∙ g))
    by true e false f true g rest = absurd (true≢false (sym ((bytes_decides key stored.items).1 ((bytes_decides key entry.0.items).0 g ∙ sym ((bytes_decides stored.items entry.0.items).0 e))) ∙ f))
    by false e true f true g rest = absurd (true≢false (sym ((bytes_decides stored.items entry.0.items).1 (sym ((bytes_decides key stored.items).0 f) ∙ (bytes_decides key entry.0.items).0 g)) ∙ e))
    by false e true f false g rest = rw (f, g) (rest ∙ ap (λ b. if b then Some place else stored_place places key) f)
    by false e false f true g rest = rw (f, g) refl
    by false e false f false g rest = rw (f, g) (rest ∙ ap (λ b. if b then Some place else stored_place places key) f)

-- the index of the pairs from a place on
abbrev pub IsIndexFrom : Pairs → ℕ → KeyPlaces → Type 0
IsIndexFrom pairs start places = (key : List ℕ) → stored_place places key ≡ option_map (λ place. start + place) (place_of (drop start pairs) key)

pub IsIndexFrom-none : (pairs : Pairs) (start : ℕ) → drop start pairs ≡ [] → IsIndexFrom pairs start []
IsIndexFrom-none pairs start none = λ key. sym (ap (λ rest. option_map (λ place. start + place) (place_of rest key)) none)

pub IsIndex-from : (pairs : Pairs) (places : KeyPlaces) → IsIndexFrom pairs 0 places → IsIndex pairs places
IsIndex-from pairs places is = λ key. is key ∙ by (place_of pairs key)
  where
    by : (place : Option ℕ) → option_map (λ place. 0 + place) place ≡ place
    by None = refl
    by (Some place) = let e : 0 + place ≡ place = omega arith in ap (λ n. Some n) e

-- one pair more, before the others
pub IsIndexFrom-more : (pairs : Pairs) (start : ℕ) (places : KeyPlaces) (stored : Vec ℕ Global) (pair : List ℕ × List (List ℕ)) → start < length pairs → pair ≡ slice_index_or pairs start pair
    → stored.items ≡ pair.0 → IsIndexFrom pairs (start + 1) places → IsIndexFrom pairs start (insert_entry same_key places stored start)
IsIndexFrom-more pairs start places stored pair within is key_is more = λ key.
    stored_place-insert places stored start key
    ∙ ap (λ b. if b then Some start else stored_place places key) (ap (bytes_eq key) key_is ∙ bytes_eq-sym key pair.0)
    ∙ by key (bytes_eq pair.0 key)
    ∙ ap (λ rest. option_map (λ place. start + place) (place_of rest key))
    (sym (drop-cons pairs start pair within ∙ ap (λ (p : List ℕ × List (List ℕ)). p ∷ drop (suc start) pairs) (sym is)))
  where
    shifted : (place : Option ℕ) → option_map (λ k. start + 1 + k) place ≡ option_map (λ k. start + k) (option_map (λ k. suc k) place)
    shifted None = refl
    shifted (Some place) = let e : start + 1 + place ≡ start + suc place = omega arith in ap (λ n. Some n) e

    by : (key : List ℕ) (same : Bool) → (if same then Some start else stored_place places key)
        ≡ option_map (λ place. start + place) (if same then Some 0 else option_map (λ place. suc place) (place_of (drop (suc start) pairs) key))
    by key true = let e : start ≡ start + 0 = omega arith in ap (λ n. Some n) e
    by key false = more key ∙ shifted (place_of (drop (start + 1) pairs) key) ∙ ap (λ n. option_map (λ k. start + k) (option_map (λ k. suc k) (place_of (drop n pairs) key))) (add-one start)

-- the pair at the place of a key is the first with it
abbrev FirstAt : Pairs → List ℕ → Option ℕ → Type 0
FirstAt pairs key None = words_of pairs key ≡ None
FirstAt pairs key (Some place) = (place < length pairs) × ((pair : List ℕ × List (List ℕ)) → pair ≡ slice_index_or pairs place pair → words_of pairs key ≡ Some pair.1)

first_at : (pairs : Pairs) (key : List ℕ) → FirstAt pairs key (place_of pairs key)
first_at [] key = refl
first_at (first ∷ pairs) key = by (bytes_eq first.0 key) refl (place_of pairs key) (first_at pairs key)
  where
    by : (same : Bool) → bytes_eq first.0 key ≡ same → (place : Option ℕ) → FirstAt pairs key place
        → FirstAt (first ∷ pairs) key (if same then Some 0 else option_map (λ place. suc place) place)
    by true e place at = (omega arith, λ pair is. rw e (ap (λ (p : List ℕ × List (List ℕ)). Some p.1) (sym is)))
    by false e None at = rw e at
    by false e (Some place) at = let within = at.0 in (omega arith, λ pair is. rw e (at.1 pair is))

pub words_of-none : (pairs : Pairs) (key : List ℕ) → place_of pairs key ≡ None → words_of pairs key ≡ None
words_of-none pairs key none = subst (FirstAt pairs key) none (first_at pairs key)

pub words_of-some : (pairs : Pairs) (key : List ℕ) (place : ℕ) → place_of pairs key ≡ Some place
    → (place < length pairs) × ((pair : List ℕ × List (List ℕ)) → pair ≡ slice_index_or pairs place pair → words_of pairs key ≡ Some pair.1)
words_of-some pairs key place some = subst (FirstAt pairs key) some (first_at pairs key)
