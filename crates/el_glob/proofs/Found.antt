-- Which paths are among those found.
use Rattle.std.proofs.Common.{◌≡◌, ◌∙◌, sym, refl, ap, ℕ, Bool, true, false, List, [], ◌∷◌, inl, inr, ◌⊎◌, cond}
use Rattle.std.specs.Ordering.{nat_cmp, is_eq, match_ordering}
use Rattle.std.specs.declared.cmp.Ordering.{Ordering}
use Rattle.std.specs.declared.cmp.Ordering.TheVariants.{Less, Equal, Greater}
use Rattle.std.specs.Cmp.Lexicographic.{slice_cmp}
use Rattle.std.proofs.lemmas.Bool.{false≢true}
use Rattle.std.proofs.lemmas.Map.Text.{is_eq-slice_cmp}
use Rattle.std.proofs.lemmas.Slice.Eq.{bytes_eq-Decides}
use Rattle.el_glob.specs.declared.piece.Piece.{Piece}
use Rattle.el_glob.specs.Fits.{fits}
use Rattle.el_glob.specs.Names.{IsIn}
use Rattle.el_glob.specs.Listings.{join, placed, with_names, with_joined}

abbrev by_bytes : List ℕ → List ℕ → Ordering
by_bytes = slice_cmp nat_cmp

-- paths that compare equal are one
equal-one : (p q : List ℕ) → by_bytes p q ≡ Equal → p ≡ q
equal-one p q is = (bytes_eq-Decides p q).0 (sym (is_eq-slice_cmp p q) ∙ ap is_eq is)

-- ---- one path more

pub in-placed : (ps : List (List ℕ)) (p q : List ℕ) → IsIn (placed ps p) q → (q ≡ p) ⊎ IsIn ps q
in-placed [] p q (inl is) = inl is
in-placed [] p q (inr none) = absurd none
in-placed (x ∷ xs) p q h = by (by_bytes p x) h (in-placed xs p q) where
  by : (o : Ordering) → IsIn (match_ordering o (p ∷ x ∷ xs) (x ∷ xs) (x ∷ placed xs p)) q → (IsIn (placed xs p) q → (q ≡ p) ⊎ IsIn xs q) → (q ≡ p) ⊎ (q ≡ x) ⊎ IsIn xs q
  by Less h later = h
  by Equal h later = inr h
  by Greater (inl is) later = inr (inl is)
  by Greater (inr more) later = elim (later more) [ inl is ↦ inl is | inr old ↦ inr (inr old) ]

pub placed-in : (ps : List (List ℕ)) (p q : List ℕ) → (q ≡ p) ⊎ IsIn ps q → IsIn (placed ps p) q
placed-in [] p q h = h
placed-in (x ∷ xs) p q h = by (by_bytes p x) refl h (placed-in xs p q) where
  by : (o : Ordering) → by_bytes p x ≡ o → (q ≡ p) ⊎ (q ≡ x) ⊎ IsIn xs q → ((q ≡ p) ⊎ IsIn xs q → IsIn (placed xs p) q) → IsIn (match_ordering o (p ∷ x ∷ xs) (x ∷ xs) (x ∷ placed xs p)) q
  by Less is h later = h
  by Equal is (inl same) later = inl (same ∙ equal-one p x is)
  by Equal is (inr old) later = old
  by Greater is (inl same) later = inr (later (inl same))
  by Greater is (inr (inl same)) later = inl same
  by Greater is (inr (inr old)) later = inr (later (inr old))

-- ---- the names of a directory

module _ (pieces : List Piece) (path : List ℕ) where
  -- the path of one of these names, which fits
  abbrev pub OfNames : (names : List (List ℕ)) → (q : List ℕ) → Type 0
  OfNames names q = (name : List ℕ) × (IsIn names name × ((fits pieces name ≡ true) × (q ≡ join path name)))

  pub in-names : (names found : List (List ℕ)) (q : List ℕ) → IsIn (with_names pieces path names found) q → IsIn found q ⊎ OfNames names q
  in-names [] found q h = inl h
  in-names (name ∷ names) found q h = by (fits pieces name) refl (in-names names (cond (fits pieces name) (placed found (join path name)) found) q h) where
    wider : OfNames names q → OfNames (name ∷ names) q
    wider of = (of.0, (inr of.1.0, of.1.1))

    by : (b : Bool) → fits pieces name ≡ b → IsIn (cond b (placed found (join path name)) found) q ⊎ OfNames names q → IsIn found q ⊎ OfNames (name ∷ names) q
    by true is (inl h) = elim (in-placed found (join path name) q h) [ inl same ↦ inr (name, (inl refl, (is, same))) | inr old ↦ inl old ]
    by false is (inl h) = inl h
    by true is (inr of) = inr (wider of)
    by false is (inr of) = inr (wider of)

  pub names-keep : (names found : List (List ℕ)) (q : List ℕ) → IsIn found q → IsIn (with_names pieces path names found) q
  names-keep [] found q h = h
  names-keep (name ∷ names) found q h = names-keep names (cond (fits pieces name) (placed found (join path name)) found) q (by (fits pieces name)) where
    by : (b : Bool) → IsIn (cond b (placed found (join path name)) found) q
    by true = placed-in found (join path name) q (inr h)
    by false = h

  pub names-in : (names found : List (List ℕ)) (name : List ℕ) → IsIn names name → fits pieces name ≡ true → IsIn (with_names pieces path names found) (join path name)
  names-in [] found name h is = absurd h
  names-in (first ∷ names) found name (inr h) is = names-in names (cond (fits pieces first) (placed found (join path first)) found) name h is
  names-in (first ∷ names) found name (inl same) is = names-keep names (cond (fits pieces first) (placed found (join path first)) found) (join path name) (by (fits pieces first) (ap (fits pieces) (sym same) ∙ is)) where
    by : (b : Bool) → b ≡ true → IsIn (cond b (placed found (join path first)) found) (join path name)
    by true is = placed-in found (join path first) (join path name) (inl (ap (join path) same))
    by false wrong = absurd (false≢true wrong)

-- ---- a name behind each path

pub in-joined : (name : List ℕ) (paths found : List (List ℕ)) (q : List ℕ) → IsIn (with_joined name paths found) q → IsIn found q ⊎ ((path : List ℕ) × (IsIn paths path × (q ≡ join path name)))
in-joined name [] found q h = inl h
in-joined name (p ∷ ps) found q h = elim (in-joined name ps (placed found (join p name)) q h) [
  | inl h ↦ elim (in-placed found (join p name) q h) [ inl same ↦ inr (p, (inl refl, same)) | inr old ↦ inl old ]
  | inr of ↦ inr (of.0, (inr of.1.0, of.1.1))
]

pub joined-keep : (name : List ℕ) (paths found : List (List ℕ)) (q : List ℕ) → IsIn found q → IsIn (with_joined name paths found) q
joined-keep name [] found q h = h
joined-keep name (p ∷ ps) found q h = joined-keep name ps (placed found (join p name)) q (placed-in found (join p name) q (inr h))

pub joined-in : (name : List ℕ) (paths found : List (List ℕ)) (path : List ℕ) → IsIn paths path → IsIn (with_joined name paths found) (join path name)
joined-in name [] found path h = absurd h
joined-in name (p ∷ ps) found path (inr h) = joined-in name ps (placed found (join p name)) path h
joined-in name (p ∷ ps) found path (inl same) = joined-keep name ps (placed found (join p name)) (join path name) (placed-in found (join p name) (join path name) (inl (ap (λ (bytes : List ℕ). join bytes name) same)))
