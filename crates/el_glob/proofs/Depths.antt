-- How deep a path lies: how many names it has.
use Rattle.std.proofs.Common.{◌≡◌, ◌∙◌, sym, refl, ap, ℕ, suc, ◌+◌, ◌==◌, Bool, true, false, ◌||◌, List, [], ◌∷◌, ◌++◌, length, inl, inr, cond, arith, zero-add}
use Rattle.std.specs.List.{list_any}
use Rattle.std.specs.Str.{bytes_eq}
use Rattle.std.proofs.lemmas.Bool.{false≢true, and_parts, not-true}
use Rattle.std.proofs.lemmas.Slice.Eq.{bytes_eq-Decides}
use Rattle.el_glob.specs.Names.{IsIn, is_entry_name, are_entry_names}
use Rattle.el_glob.specs.Listings.{join}

-- a byte by whether it is a `/` and whether a name may begin at it
names_by : (slash fresh : Bool) → (rest : Bool → ℕ) → ℕ
names_by true fresh rest = rest true
names_by false true rest = suc (rest false)
names_by false false rest = rest false

names_in : List ℕ → (fresh : Bool) → ℕ
names_in [] fresh = 0
names_in (byte ∷ bytes) fresh = names_by (byte == 47) fresh (names_in bytes)

pub depth : (path : List ℕ) → ℕ
depth path = names_in path true

-- ---- a name has depth 1

no_further : (name : List ℕ) → list_any (λ byte. byte == 47) name ≡ false → names_in name false ≡ 0
unfolding names_in names_by
no_further [] none = refl
no_further (byte ∷ bytes) none = by (byte == 47) none (no_further bytes) where
  by : (s : Bool) → (s || list_any (λ byte. byte == 47) bytes) ≡ false → (list_any (λ byte. byte == 47) bytes ≡ false → names_in bytes false ≡ 0) → names_by s false (names_in bytes) ≡ 0
  by true none later = absurd (false≢true (sym none))
  by false none later = later none

named : (name : List ℕ) → (length name == 0) ≡ false → list_any (λ byte. byte == 47) name ≡ false → depth name ≡ 1
unfolding depth names_in names_by
named [] some none = absurd (false≢true (sym some))
named (byte ∷ bytes) some none = by (byte == 47) none (no_further bytes) where
  by : (s : Bool) → (s || list_any (λ byte. byte == 47) bytes) ≡ false → (list_any (λ byte. byte == 47) bytes ≡ false → names_in bytes false ≡ 0) → names_by s true (names_in bytes) ≡ 1
  by true none later = absurd (false≢true (sym none))
  by false none later = ap (λ n. suc n) (later none)

entry-depth : (name : List ℕ) → is_entry_name name ≡ true → depth name ≡ 1
entry-depth name is =
    let a = and_parts _ _ is in
    let b = and_parts _ _ a.0 in
    let c = and_parts _ _ b.0 in
    named name (not-true _ c.0) (not-true _ c.1)

pub entries-depth : (names : List (List ℕ)) (name : List ℕ) → are_entry_names names ≡ true → IsIn names name → depth name ≡ 1
entries-depth [] name is h = absurd h
entries-depth (first ∷ names) name is (inl same) = ap depth same ∙ entry-depth first (and_parts _ _ (and_parts _ _ is).0).0
entries-depth (first ∷ names) name is (inr h) = entries-depth names name (and_parts _ _ is).1 h

pub dot-depth : depth (46 ∷ []) ≡ 1
unfolding depth names_in names_by
dot-depth = refl

pub dots-depth : depth (46 ∷ 46 ∷ []) ≡ 1
unfolding depth names_in names_by
dots-depth = refl

-- ---- a path and a name

names_in-append : (path name : List ℕ) (fresh : Bool) → names_in (path ++ 47 ∷ name) fresh ≡ names_in path fresh + names_in name true
unfolding names_in names_by
names_in-append [] name fresh = sym (zero-add (names_in name true))
names_in-append (byte ∷ path) name fresh = by (byte == 47) fresh (names_in-append path name) where
  by : (s fresh : Bool) → ((f : Bool) → names_in (path ++ 47 ∷ name) f ≡ names_in path f + names_in name true) → names_by s fresh (names_in (path ++ 47 ∷ name)) ≡ names_by s fresh (names_in path) + names_in name true
  by true fresh later = later true
  by false true later = let same = later false in omega (arith, same)
  by false false later = later false

pub depth-join : (path name : List ℕ) → depth name ≡ 1 → depth (join path name) ≡ suc (depth path)
unfolding depth names_in names_by
depth-join [] name one = one
depth-join (byte ∷ path) name one = by (bytes_eq (byte ∷ path) (47 ∷ [])) refl where
  by : (b : Bool) → bytes_eq (byte ∷ path) (47 ∷ []) ≡ b → names_in (cond b (47 ∷ name) ((byte ∷ path) ++ 47 ∷ name)) true ≡ suc (names_in (byte ∷ path) true)
  by true is = one ∙ ap (λ (bytes : List ℕ). suc (names_in bytes true)) (sym ((bytes_eq-Decides (byte ∷ path) (47 ∷ [])).0 is))
  by false is = let whole = names_in-append (byte ∷ path) name true in omega (arith, whole, one)
