-- That what is found rises.
use Rattle.std.proofs.Common.{◌≡◌, ◌∙◌, refl, ap, subst, ℕ, Bool, true, false, List, [], ◌∷◌, Some, Ok, Err, cond}
use Rattle.std.specs.Ordering.{nat_cmp, match_ordering, ordering_reverse}
use Rattle.std.specs.declared.cmp.Ordering.{Ordering}
use Rattle.std.specs.declared.cmp.Ordering.TheVariants.{Less, Equal, Greater}
use Rattle.std.specs.Cmp.Lexicographic.{slice_cmp, nat_list_cmp_total}
use Rattle.el_glob.specs.declared.piece.Piece.{Piece}
use Rattle.el_glob.specs.declared.part.Part.{Part}
use Rattle.el_glob.specs.declared.part.Part.TheVariants.{Dot, DotDot, Names}
use Rattle.el_glob.specs.declared.listed.Listed.TheVariants.{Names as NamesOf, NoDirectory}
use Rattle.el_glob.specs.Fits.{fits}
use Rattle.el_glob.specs.Listings.{Answer, Next, listed, with_names, with_joined, placed, join, globbed_from}
use Rattle.el_glob.specs.Rising.{IsBelow, Rises}

abbrev by_bytes : List ℕ → List ℕ → Ordering
by_bytes = slice_cmp nat_cmp

below-below : (p q : List ℕ) (qs : List (List ℕ)) → by_bytes p q ≡ Less → IsBelow q qs → IsBelow p qs
below-below p q [] lt h = tt
below-below p q (r ∷ rs) lt h = (nat_list_cmp_total.trans p q r lt h.0, below-below p q rs lt h.1)

turned : (o r : Ordering) → r ≡ ordering_reverse o → o ≡ Greater → r ≡ Less
turned o r is greater = is ∙ ap ordering_reverse greater

below-placed : (x p : List ℕ) (ps : List (List ℕ)) → by_bytes x p ≡ Less → IsBelow x ps → IsBelow x (placed ps p)
below-placed x p [] lt h = (lt, tt)
below-placed x p (q ∷ qs) lt h = by (by_bytes p q) (below-placed x p qs lt h.1) where
  by : (o : Ordering) → IsBelow x (placed qs p) → IsBelow x (match_ordering o (p ∷ q ∷ qs) (q ∷ qs) (q ∷ placed qs p))
  by Less later = (lt, h)
  by Equal later = h
  by Greater later = (h.0, later)

pub rises-placed : (ps : List (List ℕ)) (p : List ℕ) → Rises ps → Rises (placed ps p)
rises-placed [] p h = (tt, tt)
rises-placed (q ∷ qs) p h = by (by_bytes p q) refl (rises-placed qs p h.1) where
  by : (o : Ordering) → by_bytes p q ≡ o → Rises (placed qs p) → Rises (match_ordering o (p ∷ q ∷ qs) (q ∷ qs) (q ∷ placed qs p))
  by Less is later = ((is, below-below p q qs is h.0), h)
  by Equal is later = h
  by Greater is later = (below-placed q p qs (turned (by_bytes p q) (by_bytes q p) (nat_list_cmp_total.antisymm q p) is) h.0, later)

rises-if : (b : Bool) (ps qs : List (List ℕ)) → Rises ps → Rises qs → Rises (cond b ps qs)
rises-if true ps qs h k = h
rises-if false ps qs h k = k

rises-names : (pieces : List Piece) (path : List ℕ) (all found : List (List ℕ)) → Rises found → Rises (with_names pieces path all found)
rises-names pieces path [] found h = h
rises-names pieces path (name ∷ all) found h = rises-names pieces path all _ (rises-if (fits pieces name) (placed found (join path name)) found (rises-placed found (join path name) h) h)

rises-joined : (name : List ℕ) (paths found : List (List ℕ)) → Rises found → Rises (with_joined name paths found)
rises-joined name [] found h = h
rises-joined name (path ∷ paths) found h = rises-joined name paths (placed found (join path name)) (rises-placed found (join path name) h)

-- what a plan finds rises, if what it begins with does
abbrev RisesOn : Next → Type 0
RisesOn next = (found : List (List ℕ)) (answers : List Answer) (paths : List (List ℕ)) → Rises found → (next found answers).found ≡ Some paths → Rises paths

module _ (dir : List ℕ) where
  rises-listed : (pieces : List Piece) (ps found : List (List ℕ)) (answers : List Answer) (next : Next) (paths : List (List ℕ)) → RisesOn next → Rises found → (listed dir pieces ps found answers next).found ≡ Some paths → Rises paths
  rises-listed pieces [] found answers next paths on h is = on found answers paths h is
  rises-listed pieces (p ∷ ps) found [] next paths on h is = rises-listed pieces ps found [] next paths on h is
  rises-listed pieces (p ∷ ps) found (Ok (NamesOf all) ∷ answers) next paths on h is = rises-listed pieces ps (with_names pieces p all found) answers next paths on (rises-names pieces p all found h) is
  rises-listed pieces (p ∷ ps) found (Ok NoDirectory ∷ answers) next paths on h is = rises-listed pieces ps found answers next paths on h is
  rises-listed pieces (p ∷ ps) found (Err fault ∷ answers) next paths on h is = let fails : ⊥ = cc in absurd fails

  rises-from : (parts : List Part) → RisesOn (globbed_from dir parts)
  rises-from [] found answers paths h is = let same : found ≡ paths = cc in let P : List (List ℕ) → Type 0 = Rises in subst P same h
  rises-from (Dot ∷ parts) found answers paths h is = rises-from parts _ answers paths (rises-joined (46 ∷ []) found [] tt) is
  rises-from (DotDot ∷ parts) found answers paths h is = rises-from parts _ answers paths (rises-joined (46 ∷ 46 ∷ []) found [] tt) is
  rises-from (Names pieces ∷ parts) found answers paths h is = rises-listed pieces found [] answers (globbed_from dir parts) paths (rises-from parts) tt is

  pub rises-globbed : (parts : List Part) (start : List ℕ) (answers : List Answer) (paths : List (List ℕ)) → (globbed_from dir parts (start ∷ []) answers).found ≡ Some paths → Rises paths
  rises-globbed parts start answers paths is = rises-from parts (start ∷ []) answers paths (tt, tt) is
