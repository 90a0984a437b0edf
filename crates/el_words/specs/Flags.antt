-- That a set of bytes gives its flags back, which is what lets it be copied. Only the code's contracts need it.
use Rattle.std.proofs.Common.{◌≡◌, ℕ, suc, ◌+◌, ◌<◌, Bool, true, false, List, [], ◌∷◌, refl, sym, ap, ◌∙◌, slice_index_or, nat_eq, length, ◌||◌, arith, eq-eqb}
use Rattle.std.specs.List.{list_any}
use Rattle.std.specs.Ordering.{nat_cmp}
use Rattle.std.specs.FinSet as set
use Rattle.std.specs.FinSet.{contains-from_list_nat}
use Rattle.std.proofs.lemmas.List.FromFn.{fill_by_all}
use Rattle.el_words.specs.ByteSet.{places_of, flags_of}

-- no place below the first is counted
below : (m n : ℕ) (flags : List Bool) → m < n → list_any (λ y. nat_eq y m) (places_of n flags) ≡ false
below m n [] lt = refl
below m n (true ∷ flags) lt = let ne : nat_eq n m ≡ false = grind arith in rw ne (below m (n + 1) flags (omega arith))
below m n (false ∷ flags) lt = below m (n + 1) flags (omega arith)

plus_one : (n q : ℕ) → n + suc q ≡ (n + 1) + q
plus_one n q = omega arith

at : (n q : ℕ) (flags : List Bool) → list_any (λ y. nat_eq y (n + q)) (places_of n flags) ≡ slice_index_or flags q false
at n Prim.Native.Nat.zero [] = refl
at n (suc q) [] = refl
at n Prim.Native.Nat.zero (true ∷ flags) = ap (λ b. b || list_any (λ y. nat_eq y (n + 0)) (places_of (n + 1) flags)) (eq-eqb n (n + 0) (omega arith))
at n Prim.Native.Nat.zero (false ∷ flags) = below (n + 0) (n + 1) flags (omega arith)
at n (suc q) (true ∷ flags) = let ne : nat_eq n (n + suc q) ≡ false = grind arith in
    ap (λ b. b || list_any (λ y. nat_eq y (n + suc q)) (places_of (n + 1) flags)) ne ∙ (ap (λ m. list_any (λ y. nat_eq y m) (places_of (n + 1) flags)) (plus_one n q) ∙ at (n + 1) q flags)
at n (suc q) (false ∷ flags) = (ap (λ m. list_any (λ y. nat_eq y m) (places_of (n + 1) flags)) (plus_one n q) ∙ at (n + 1) q flags)

-- a number is in the set where its flag is true
pub contains-places : (flags : List Bool) (q : ℕ) → set.contains {R = nat_cmp} (set.from_list (places_of 0 flags)) q ≡ slice_index_or flags q false
contains-places flags q = contains-from_list_nat (places_of 0 flags) q ∙ ap (λ m. list_any (λ y. nat_eq y m) (places_of 0 flags)) (omega arith) ∙ at 0 q flags

-- 256 flags are those of their set
pub flags_of-places : (flags : List Bool) → length flags ≡ 256 → flags_of (set.from_list (places_of 0 flags)) ≡ flags
unfolding flags_of
flags_of-places flags len = sym (fill_by_all _ flags 256 false len (λ k lt. sym (contains-places flags k)))
