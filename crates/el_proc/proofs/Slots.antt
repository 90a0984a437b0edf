-- A list that is changed in place, from the front on.
use Rattle.std.proofs.Common.{◌≡◌, ℕ, suc, ◌+◌, ◌<◌, List, [], ◌∷◌, ◌++◌, take, drop, length, map, get_or, refl, sym, ap, ◌∙◌, add-one, arith}
use Rattle.std.proofs.Math.ListN.{set}

module _ {A : Type 0} (f : A → A) (d : A) where
  -- so many are changed
  abbrev pub changed_to : ℕ → List A → List A
  changed_to n xs = map f (take n xs) ++ drop n xs

  -- one more
  changed_suc : (n : ℕ) (xs : List A) → n < length xs → set (changed_to n xs) n (f (get_or (changed_to n xs) n d)) ≡ changed_to (suc n) xs
  changed_suc n [] below = absurd (omega arith)
  changed_suc Prim.Native.Nat.zero (x ∷ xs) below = refl
  changed_suc (suc n) (x ∷ xs) below = ap (λ rest. f x ∷ rest) (changed_suc n xs (omega arith))

  pub changed_more : (n : ℕ) (xs ys : List A) (y : A) → n < length xs → ys ≡ changed_to n xs → y ≡ f (get_or ys n d) → set ys n y ≡ changed_to (n + 1) xs
  changed_more n xs ys y below is one = (λ i. set (is i) n (one' i)) ∙ changed_suc n xs below ∙ ap (λ m. changed_to m xs) (sym (add-one n))
    where
      one' : y ≡ f (get_or (changed_to n xs) n d)
      one' = one ∙ ap (λ ys. f (get_or ys n d)) is

  -- all
  pub changed_all : (n : ℕ) (xs : List A) → n ≡ length xs → changed_to n xs ≡ map f xs
  changed_all Prim.Native.Nat.zero [] all = refl
  changed_all Prim.Native.Nat.zero (x ∷ xs) all = absurd (omega arith)
  changed_all (suc n) [] all = absurd (omega arith)
  changed_all (suc n) (x ∷ xs) all = ap (λ rest. f x ∷ rest) (changed_all n xs (omega arith))
