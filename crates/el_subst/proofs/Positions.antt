-- Lists of pairs, one more at a time.
use Rattle.std.proofs.Common.{◌≡◌, ℕ, zero, suc, ◌+◌, List, [], ◌∷◌, ◌++◌, length, true, false, not, ◌==◌, ◌||◌, refl, ap, ◌∙◌, arith, add-one, append_assoc}
use Rattle.std.specs.Fmt.{decimal}
use Rattle.el_subst.specs.Values.{Pairs}
use Rattle.el_subst.specs.Pairs.{numbered, is_good_key}
use Rattle.std.specs.List.{list_any}

-- one argument more was put, and fewer are left
pub numbered-next : (first next : Pairs) (n : ℕ) (key arg : List ℕ) (value args : List (List ℕ)) → next ≡ first ++ (key, value) ∷ [] → key ≡ decimal n → value ≡ arg ∷ []
    → next ++ numbered (n + 1) 0 args ≡ first ++ numbered n 0 (arg ∷ args)
numbered-next first next n key arg value args is same same' =
    ap (λ (pairs : Pairs). pairs ++ numbered (n + 1) 0 args) is
    ∙ append_assoc first ((key, value) ∷ []) (numbered (n + 1) 0 args)
    ∙ (λ i. first ++ (same i, same' i) ∷ numbered (add-one n i) 0 args)

-- one missing argument more
pub numbered-missing : (n more : ℕ) → numbered n (more + 1) [] ≡ numbered n more [] ++ (decimal (n + more), [] ∷ []) ∷ []
numbered-missing n zero = let e : n ≡ n + 0 = omega arith in ap (λ k. (decimal k, [] ∷ []) ∷ []) e
numbered-missing n (suc more) =
    let e : suc more + 1 ≡ suc (more + 1) = omega arith in
    let f : suc n + more ≡ n + suc more = omega arith in
    ap (λ k. numbered n k []) e
    ∙ ap (λ (pairs : Pairs). (decimal n, [] ∷ []) ∷ pairs) (numbered-missing (suc n) more)
    ∙ ap (λ k. (decimal n, [] ∷ []) ∷ (numbered (suc n) more [] ++ (decimal k, [] ∷ []) ∷ [])) f

-- the arguments, and then the missing ones
pub numbered-both : (n more : ℕ) (args : List (List ℕ)) → numbered n more args ≡ numbered n 0 args ++ numbered (length args + n) more []
numbered-both n more [] = let e : n ≡ 0 + n = omega arith in by more ∙ ap (λ k. numbered k more []) e
  where
    by : (more : ℕ) → numbered n more [] ≡ numbered n 0 [] ++ numbered n more []
    by more = refl
numbered-both n zero (arg ∷ args) =
    let e : length args + suc n ≡ suc (length args) + n = omega arith in
    ap (λ (pairs : Pairs). (decimal n, arg ∷ []) ∷ pairs) (numbered-both (suc n) zero args ∙ ap (λ k. numbered (suc n) 0 args ++ numbered k zero []) e)
numbered-both n (suc more) (arg ∷ args) =
    let e : length args + suc n ≡ suc (length args) + n = omega arith in
    ap (λ (pairs : Pairs). (decimal n, arg ∷ []) ∷ pairs) (numbered-both (suc n) (suc more) args ∙ ap (λ k. numbered (suc n) 0 args ++ numbered k (suc more) []) e)

-- pairs put one behind the other
pub put_in_turn : (first second third fourth fifth xs ys : Pairs) (a b z : List ℕ × List (List ℕ))
    → first ≡ a ∷ [] → second ≡ first ++ b ∷ [] → third ≡ second ++ xs → fourth ≡ third ++ ys → fifth ≡ fourth ++ z ∷ [] → fifth ≡ a ∷ b ∷ ((xs ++ ys) ++ z ∷ [])
put_in_turn first second third fourth fifth xs ys a b z one two three four five =
    five ∙ ap (λ pairs. pairs ++ z ∷ []) (four ∙ ap (λ pairs. pairs ++ ys) (three ∙ ap (λ pairs. pairs ++ xs) (two ∙ ap (λ pairs. pairs ++ b ∷ []) one)))

pub is_good_key-some : (key : List ℕ) → false ≡ (length key == 0) → is_good_key key ≡ not (list_any (λ byte. (byte == 36) || (byte == 125)) key)
is_good_key-some [] some = let wrong : false ≡ true = some in absurd (cc)
is_good_key-some (byte ∷ bytes) some = refl

pub pushed : (old new : Pairs) (key key' : List ℕ) (value value' : List (List ℕ)) → new ≡ old ++ (key, value) ∷ [] → key ≡ key' → value ≡ value' → new ≡ old ++ (key', value') ∷ []
pushed old new key key' value value' is same same' = is ∙ (λ i. old ++ (same i, same' i) ∷ [])
