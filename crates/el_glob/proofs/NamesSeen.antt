-- Names that were seen.
use Rattle.std.proofs.Common.{◌≡◌, ◌∙◌, sym, refl, ap, ℕ, suc, ◌<◌, ◌-◌, Bool, true, false, not, ◌&&◌, ◌||◌, List, [], ◌∷◌, length, drop, cond, arith, slice_index_or}
use Rattle.std.specs.Str.{bytes_eq}
use Rattle.std.specs.Cmp.{both_ways}
use Rattle.std.proofs.lemmas.Bool.{false≢true, and_from}
use Rattle.std.proofs.lemmas.Slice.Eq.{bytes_eq-Decides}
use Rattle.el_glob.specs.Names.{is_among, is_entry_name, are_entry_names}

pub bytes_eq-turned : (a b : List ℕ) → bytes_eq a b ≡ bytes_eq b a
bytes_eq-turned a b = both_ways (bytes_eq a b) (bytes_eq b a) (λ is. (bytes_eq-Decides b a).1 (sym ((bytes_eq-Decides a b).0 is))) (λ is. (bytes_eq-Decides a b).1 (sym ((bytes_eq-Decides b a).0 is)))

pub names_at : (names : List (List ℕ)) (place : ℕ) → place < length names → drop place names ≡ slice_index_or names place [] ∷ drop (suc place) names
names_at [] place lt = absurd (omega arith)
names_at (name ∷ names) Prim.Native.Nat.zero lt = refl
names_at (name ∷ names) (suc place) lt = names_at names place (omega arith)

-- one more name that wasn't seen
pub seen_more : (name : List ℕ) (names : List (List ℕ)) → is_entry_name name ≡ true → is_among names name ≡ false → are_entry_names names ≡ true → are_entry_names (name ∷ names) ≡ true
seen_more name names good new are = and_from _ _ (and_from _ _ good (ap not new)) are

-- a name that is none, or was seen
pub not_entry : (name : List ℕ) (names : List (List ℕ)) → is_entry_name name ≡ false → false ≡ are_entry_names (name ∷ names)
not_entry name names bad = sym (ap (λ b. b && not (is_among names name) && are_entry_names names) bad)

pub seen_already : (name : List ℕ) (names : List (List ℕ)) → is_among names name ≡ true → false ≡ are_entry_names (name ∷ names)
seen_already name names seen = by (is_entry_name name) (is_among names name) seen where
  by : (a b : Bool) → b ≡ true → false ≡ (a && not b && are_entry_names names)
  by true true is = refl
  by false true is = refl
  by true false wrong = absurd (false≢true wrong)
  by false false wrong = absurd (false≢true wrong)

-- the names from a place on aren't good, so all aren't
pub bad_later : (names : List (List ℕ)) (place : ℕ) → false ≡ are_entry_names (drop place names) → false ≡ are_entry_names names
bad_later names Prim.Native.Nat.zero bad = bad
bad_later [] (suc place) bad = bad
bad_later (name ∷ names) (suc place) bad = by (is_entry_name name && not (is_among names name)) (are_entry_names names) (bad_later names place bad) where
  by : (a b : Bool) → false ≡ b → false ≡ (a && b)
  by true b is = is
  by false b is = refl

-- the names from the place before on, by the name there
pub here_names : (names : List (List ℕ)) (place : ℕ) (name : List ℕ) → 0 < place → place - 1 < length names → name ≡ slice_index_or names (place - 1) [] → drop (place - 1) names ≡ name ∷ drop place names
here_names names place name some lt is =
    let next : suc (place - 1) ≡ place = omega (arith, some) in
    names_at names (place - 1) lt ∙ ap (λ n. slice_index_or names (place - 1) [] ∷ drop n names) next ∙ ap (λ first. first ∷ drop place names) (sym is)

-- what was seen behind one more name
pub more_seen : (name bytes : List ℕ) (rest : List (List ℕ)) (old new : Bool) → new ≡ cond (bytes_eq name bytes) true old → old ≡ is_among rest bytes → new ≡ is_among (name ∷ rest) bytes
more_seen name bytes rest old new is was = is ∙ by (bytes_eq name bytes) (bytes_eq bytes name) (bytes_eq-turned name bytes) was where
  by : (a b : Bool) → a ≡ b → old ≡ is_among rest bytes → cond a true old ≡ (b || is_among rest bytes)
  by true true same was = refl
  by true false same was = absurd (false≢true (sym same))
  by false true same was = absurd (false≢true same)
  by false false same was = was
