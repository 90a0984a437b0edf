-- Products by their place.
use Rattle.std.proofs.Common.{◌≡◌, ℕ, suc, zero, ◌+◌, ◌*◌, ◌/◌, ◌%◌, ◌<◌, List, [], ◌∷◌, ◌++◌, map, flat_map, length, take, drop, slice_index_or, refl, sym, ap, subst, ◌∙◌, arith, append_assoc, append-nil, length-append, length-take, drop-cons, add-one, take-append-drop, ⊎_elim}
use Rattle.std.proofs.lemmas.List.{take_more, length-map, get_or-map, map-append}
use Rattle.std.proofs.lemmas.List.Concat.{get_or-flat_map}
use Rattle.std.proofs.lemmas.Nat.{div-add-mod', div_below, mod_below, div-mul-add}
use Rattle.std.proofs.lemmas.List.Elements.{Contains-append_cases}
use Rattle.el_words.specs.Word.{HasNul}
use Rattle.el_subst.specs.Values.{products}
use Rattle.el_subst.specs.Places.{count_of, product_at}
use Rattle.el_subst.specs.Pieces.{choices_of, piece_choices}
use Rattle.el_words.specs.Room.{Filling}
use Rattle.el_subst.specs.Sizes.{capped, HasRoom, Puts}
use Rattle.el_subst.proofs.Sizes.{capped-first, HasRoom-first, HasRoom-then, Puts-then}
use Rattle.el_subst.specs.declared.piece.Piece.{Piece}

-- each of the first words before each of the rest
abbrev rows : List (List ℕ) → List (List ℕ) → List (List ℕ)
rows rest choice = flat_map (λ first. map (λ more. first ++ more) rest) choice

length-rows : (rest choice : List (List ℕ)) → length (rows rest choice) ≡ length choice * length rest
length-rows rest [] = omega arith
length-rows rest (first ∷ choice) =
    length-append (map (λ more. first ++ more) rest) (rows rest choice)
    ∙ ap (λ n. n + length (rows rest choice)) (length-map rest (λ more. first ++ more))
    ∙ ap (λ n. length rest + n) (length-rows rest choice)
    ∙ grind arith

pub length-products : (choices : List (List (List ℕ))) → length (products choices) ≡ count_of choices
length-products [] = refl
length-products (choice ∷ choices) = length-rows (products choices) choice ∙ ap (λ n. length choice * n) (length-products choices)

right_positive : (a b n : ℕ) → n < a * b → 0 < b
right_positive a zero n h = absurd (omega (arith, h))
right_positive a (suc b) n h = omega arith

row_at : (rest choice : List (List ℕ)) (i j : ℕ) → i < length choice → j < length rest
    → slice_index_or (rows rest choice) (i * length rest + j) [] ≡ slice_index_or choice i [] ++ slice_index_or rest j []
row_at rest choice i j low high =
    let f : List ℕ → List (List ℕ) = λ first. map (λ more. first ++ more) rest in
    let before : length (rows rest (take i choice)) ≡ i * length rest =
    length-rows rest (take i choice) ∙ ap (λ n. n * length rest) (omega (arith, length-take i choice)) in
    let within : j < length (f (slice_index_or choice i [])) = omega (arith, length-map rest (λ more. slice_index_or choice i [] ++ more)) in
    ap (λ n. slice_index_or (rows rest choice) (n + j) []) (sym before)
    ∙ get_or-flat_map f choice i j [] [] low within
    ∙ get_or-map (λ more. slice_index_or choice i [] ++ more) rest j [] [] high

-- the product at a place
pub product_at-is : (choices : List (List (List ℕ))) (place : ℕ) → place < count_of choices → slice_index_or (products choices) place [] ≡ product_at choices place
product_at-is [] zero h = refl
product_at-is [] (suc place) h = absurd (omega arith)
product_at-is (choice ∷ choices) place h =
    let n = count_of choices in
    let size : length (products choices) ≡ n = length-products choices in
    let some : 0 < n = right_positive (length choice) n place h in
    let first : place / n < length choice = div_below place n (length choice) some h in
    let left : place % n < n = mod_below place n some in
    let left' : place % n < length (products choices) = omega arith in
    ap (λ k. slice_index_or (products (choice ∷ choices)) k []) (sym (div-add-mod' place n) ∙ ap (λ k. place / n * k + place % n) (sym size))
    ∙ row_at (products choices) choice (place / n) (place % n) first left'
    ∙ ap (λ more. slice_index_or choice (place / n) [] ++ more) (product_at-is choices (place % n) left)

-- one product more
pub take_products-more : (choices : List (List (List ℕ))) (place : ℕ) → place < count_of choices
    → take (place + 1) (products choices) ≡ take place (products choices) ++ product_at choices place ∷ []
take_products-more choices place h =
    let within : place < length (products choices) = omega (arith, length-products choices) in
    take_more (products choices) place [] within ∙ ap (λ word. take place (products choices) ++ word ∷ []) (product_at-is choices place h)

-- a product that is being made: what is left of the choices and of the place, and what was put so far
pub record Making (choices rest : List (List (List ℕ))) (place stride left : ℕ) (made : List ℕ) : Type 0 where
  pub stride_is : stride ≡ count_of rest
  pub within : left < stride
  pub text : made ++ product_at rest left ≡ product_at choices place
  pub no_nul : HasNul made → ⊥

pub choices_of-drop : (pieces : List Piece) (i : ℕ) (piece : Piece) → i < length pieces → piece ≡ slice_index_or pieces i piece
    → choices_of (drop i pieces) ≡ piece_choices piece ∷ choices_of (drop (i + 1) pieces)
choices_of-drop pieces i piece within is =
    ap choices_of (drop-cons pieces i piece within ∙ ap (λ k. slice_index_or pieces i piece ∷ drop k pieces) (sym (add-one i)))
    ∙ ap (λ p. piece_choices p ∷ choices_of (drop (i + 1) pieces)) (sym is)

quotient : (a b : ℕ) → 0 < a → a * b / a ≡ b
quotient a b some = ap (λ n. n / a) (grind arith) ∙ div-mul-add b a 0 some

-- one choice put, of so many
pub Making-step : (choices rest : List (List (List ℕ))) (choice : List (List ℕ)) (count place stride left : ℕ) (made : List ℕ) → count ≡ length choice
    → Making choices (choice ∷ rest) place stride left made
    → (0 < count) × (0 < stride / count) × (left / (stride / count) < length choice)
    × ((HasNul (slice_index_or choice (left / (stride / count)) []) → ⊥)
    → Making choices rest place (stride / count) (left % (stride / count)) (made ++ slice_index_or choice (left / (stride / count)) []))
Making-step choices rest choice count place stride left made size m =
    let below : left < length choice * count_of rest = subst (λ n. left < n) m.stride_is m.within in
    let some : 0 < count_of rest = right_positive (length choice) (count_of rest) left below in
    let some' : 0 < length choice = right_positive (count_of rest) (length choice) left (subst (λ n. left < n) (grind arith) below) in
    let next : stride / count ≡ count_of rest = ap (λ n. stride / n) size ∙ ap (λ n. n / length choice) m.stride_is ∙ quotient (length choice) (count_of rest) some' in
    rw next (
      omega arith,
      some,
      div_below left (count_of rest) (length choice) some below,
      λ none. record {
        stride_is = refl;
        within = mod_below left (count_of rest) some;
        text = append_assoc made (slice_index_or choice (left / count_of rest) []) (product_at rest (left % count_of rest)) ∙ m.text;
        no_nul = λ nul. ⊎_elim m.no_nul none (Contains-append_cases made (slice_index_or choice (left / count_of rest) []) 0 nul);
      },
    )

-- one piece more is counted
pub count_of-step : (pieces : List Piece) (i count total total' whole : ℕ) (piece : Piece) → i < length pieces → piece ≡ slice_index_or pieces i piece
    → count ≡ length (piece_choices piece) → total' ≡ capped (total * count) → capped (total * count_of (choices_of (drop i pieces))) ≡ capped whole
    → capped (total' * count_of (choices_of (drop (i + 1) pieces))) ≡ capped whole
count_of-step pieces i count total total' whole piece within is size next so_far =
    let rest = count_of (choices_of (drop (i + 1) pieces)) in
    ap (λ n. capped (n * rest)) next
    ∙ capped-first (total * count) rest
    ∙ ap (λ n. capped (total * n * rest)) size
    ∙ ap capped (let e : total * length (piece_choices piece) * rest ≡ total * (length (piece_choices piece) * rest) = grind arith in e)
    ∙ ap (λ choices. capped (total * count_of choices)) (sym (choices_of-drop pieces i piece within is)) ∙ so_far

-- where there is room for all products, their number is counted exactly
pub counted_all : (filling : Filling) (choices : List (List (List ℕ))) (total : ℕ) → HasRoom filling (products choices) → total ≡ capped (count_of choices) → total ≡ count_of choices
counted_all filling choices total h is = omega (arith, h.few, length-products choices, is)

-- there is room for each product in turn
pub HasRoom-product : (old mid : Filling) (choices : List (List (List ℕ))) (place : ℕ) → place < count_of choices → HasRoom old (products choices)
    → Puts old mid (take place (products choices)) → HasRoom mid (product_at choices place ∷ [])
HasRoom-product old mid choices place within h p =
    let done = take place (products choices) in
    let next = product_at choices place ∷ [] in
    let all : products choices ≡ (done ++ next) ++ drop (place + 1) (products choices) =
    sym (take-append-drop (place + 1) (products choices)) ∙ ap (λ texts. texts ++ drop (place + 1) (products choices)) (take_products-more choices place within) in
    HasRoom-then old mid done next (HasRoom-first old (done ++ next) (drop (place + 1) (products choices)) (subst (HasRoom old) all h)) p

pub Puts-product : (old mid new : Filling) (choices : List (List (List ℕ))) (place : ℕ) → place < count_of choices
    → Puts old mid (take place (products choices)) → Puts mid new (product_at choices place ∷ []) → Puts old new (take (place + 1) (products choices))
Puts-product old mid new choices place within p q =
    subst (Puts old new) (sym (take_products-more choices place within)) (Puts-then old mid new (take place (products choices)) (product_at choices place ∷ []) p q)

-- what stands behind some choices can be read in another way
products-behind : (front back back' : List (List (List ℕ))) → products back ≡ products back' → products (front ++ back) ≡ products (front ++ back')
products-behind [] back back' same = same
products-behind (choice ∷ front) back back' same = ap (λ rest. rows rest choice) (products-behind front back back' same)

-- two pieces more
pub products-more : (pieces more : List Piece) (first second : Piece) (rest rest' : List (List (List ℕ))) (whole : List (List ℕ))
    → more ≡ (pieces ++ first ∷ []) ++ second ∷ [] → products (choices_of pieces ++ rest) ≡ whole → products rest ≡ products (piece_choices first ∷ piece_choices second ∷ rest')
    → products (choices_of more ++ rest') ≡ whole
products-more pieces more first second rest rest' whole is so_far found =
    ap (λ ps. products (choices_of ps ++ rest')) (is ∙ append_assoc pieces (first ∷ []) (second ∷ []))
    ∙ ap (λ choices. products (choices ++ rest')) (map-append piece_choices pieces (first ∷ second ∷ []))
    ∙ ap products (append_assoc (choices_of pieces) (piece_choices first ∷ piece_choices second ∷ []) rest')
    ∙ sym (products-behind (choices_of pieces) rest (piece_choices first ∷ piece_choices second ∷ rest') found)
    ∙ so_far

-- and the last one, whose bytes stay
pub products-last : (pieces more : List Piece) (last : Piece) (text : List ℕ) (rest : List (List (List ℕ))) (whole : List (List ℕ))
    → more ≡ pieces ++ last ∷ [] → piece_choices last ≡ text ∷ [] → products (choices_of pieces ++ rest) ≡ whole → products rest ≡ text ∷ []
    → products (choices_of more) ≡ whole
products-last pieces more last text rest whole is same so_far stays =
    ap (λ ps. products (choices_of ps)) is
    ∙ ap products (map-append piece_choices pieces (last ∷ []))
    ∙ sym (products-behind (choices_of pieces) rest (piece_choices last ∷ []) (stays ∙ sym (ap (λ choice. rows ([] ∷ []) choice) same ∙ ap (λ (made : List ℕ). made ∷ []) (append-nil text))))
    ∙ so_far
