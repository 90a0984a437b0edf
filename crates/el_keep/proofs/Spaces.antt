-- Spaces that are written one by one.
use Rattle.std.proofs.Common.{◌≡◌, ℕ, suc, ◌+◌, List, [], ◌∷◌, ◌++◌, refl, ap, ◌∙◌, arith}
use Rattle.el_keep.specs.Seams.{spaces}

spaces-last : (count : ℕ) → spaces (suc count) ≡ spaces count ++ 32 ∷ []
spaces-last Prim.Native.Nat.zero = refl
spaces-last (suc count) = ap (λ (more : List ℕ). 32 ∷ more) (spaces-last count)

pub spaces-more : (count : ℕ) → spaces (count + 1) ≡ spaces count ++ 32 ∷ []
spaces-more count = let same : count + 1 ≡ suc count = omega arith in ap spaces same ∙ spaces-last count
