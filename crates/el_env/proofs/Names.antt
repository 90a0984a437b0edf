-- Which names are bad.
use Rattle.std.proofs.Common.{◌≡◌, ◌⊎◌, inl, inr, ℕ, suc, ◌==◌, Bool, true, false, not, ◌||◌, List, [], ◌∷◌, Contains, refl, sym, ap, ◌∙◌, true≢false, arith}
use Rattle.std.specs.List.{list_any}
use Rattle.el_env.specs.Name.{is_good_name, IsBadName}

holds_from : (bytes : List ℕ) → list_any (λ byte. byte == 61) bytes ≡ true → Contains bytes 61
holds_from [] found = absurd (true≢false (sym found))
holds_from (b ∷ bs) found = by (b == 61) refl (holds_from bs)
  where
    by : (t : Bool) → (b == 61) ≡ t → (list_any (λ byte. byte == 61) bs ≡ true → Contains bs 61) → Contains (b ∷ bs) 61
    by true is later = let same : b ≡ 61 = grind (arith, is) in (0, omega arith, same)
    by false other later =
        let rest = later (sym (ap (λ t. t || list_any (λ byte. byte == 61) bs) other) ∙ found) in
        (suc rest.0, omega (arith, rest.1), rest.2)

holds_to : (bytes : List ℕ) → Contains bytes 61 → list_any (λ byte. byte == 61) bytes ≡ true
holds_to [] (k, below, is) = absurd (omega arith)
holds_to (b ∷ bs) (Prim.Native.Nat.zero, below, is) = let first : (b == 61) ≡ true = grind (arith, is) in ap (λ t. t || list_any (λ byte. byte == 61) bs) first
holds_to (b ∷ bs) (suc k, below, is) = by (b == 61) (holds_to bs (k, omega arith, is))
  where
    by : (t : Bool) → list_any (λ byte. byte == 61) bs ≡ true → (t || list_any (λ byte. byte == 61) bs) ≡ true
    by true later = refl
    by false later = later

pub IsBadName-is : (name : List ℕ) → IsBadName name → (name ≡ []) ⊎ Contains name 61
IsBadName-is [] bad = inl refl
IsBadName-is (b ∷ bs) bad = by (list_any (λ byte. byte == 61) (b ∷ bs)) refl bad
  where
    by : (t : Bool) → list_any (λ byte. byte == 61) (b ∷ bs) ≡ t → not t ≡ false → (b ∷ bs ≡ []) ⊎ Contains (b ∷ bs) 61
    by true is _ = inr (holds_from (b ∷ bs) is)
    by false _ bad = absurd (true≢false bad)

pub IsBadName-from : (name : List ℕ) → (name ≡ []) ⊎ Contains name 61 → IsBadName name
IsBadName-from name (inl empty) = ap is_good_name empty
IsBadName-from [] (inr holds) = refl
IsBadName-from (b ∷ bs) (inr holds) = ap not (holds_to (b ∷ bs) holds)
