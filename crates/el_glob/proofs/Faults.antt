-- Nothing is found exactly where a listing failed.
use Rattle.std.proofs.Common.{◌≡◌, ◌↔◌, refl, ℕ, true, true≢false, sym, List, [], ◌∷◌, None, Ok, Err}
use Rattle.el_glob.specs.declared.piece.Piece.{Piece}
use Rattle.el_glob.specs.declared.part.Part.{Part}
use Rattle.el_glob.specs.declared.part.Part.TheVariants.{Dot, DotDot, Names}
use Rattle.el_glob.specs.declared.listed.Listed.TheVariants.{Names as NamesOf, NoDirectory}
use Rattle.el_glob.specs.Listers.{has_fault}
use Rattle.el_glob.specs.Listings.{Answer, Globbed, Next, listed, with_names, with_joined, globbed_from}

abbrev IsToldBy : Globbed → Type 0
IsToldBy globbed = (globbed.found ≡ None) ↔ (has_fault globbed.asked ≡ true)

module _ (dir : List ℕ) where
  told-listed : (pieces : List Piece) (ps found : List (List ℕ)) (answers : List Answer) (next : Next) → ((found : List (List ℕ)) (answers : List Answer) → IsToldBy (next found answers)) → IsToldBy (listed dir pieces ps found answers next)
  told-listed pieces [] found answers next told = told found answers
  told-listed pieces (p ∷ ps) found [] next told = told-listed pieces ps found [] next told
  told-listed pieces (p ∷ ps) found (Ok (NamesOf all) ∷ answers) next told = told-listed pieces ps (with_names pieces p all found) answers next told
  told-listed pieces (p ∷ ps) found (Ok NoDirectory ∷ answers) next told = told-listed pieces ps found answers next told
  told-listed pieces (p ∷ ps) found (Err fault ∷ answers) next told = ((λ _. refl), (λ _. refl))

  pub told-from : (parts : List Part) (paths : List (List ℕ)) (answers : List Answer) → IsToldBy (globbed_from dir parts paths answers)
  told-from [] paths answers = ((λ none. let fails : ⊥ = cc in absurd fails), (λ some. absurd (true≢false (sym some))))
  told-from (Dot ∷ parts) paths answers = told-from parts (with_joined (46 ∷ []) paths []) answers
  told-from (DotDot ∷ parts) paths answers = told-from parts (with_joined (46 ∷ 46 ∷ []) paths []) answers
  told-from (Names pieces ∷ parts) paths answers = told-listed pieces paths [] answers (globbed_from dir parts) (told-from parts)
