-- Lists and pairs that are compared.
use Rattle.el_room.proofs.Vocabulary.{Decides, bytes_eq, pointwise, drop_more, slice_eq-Decides, bytes_eq-Decides, Vars, right_of, eqb-true, Event, Handle, call_of}
use Rattle.std.proofs.Common.{◌≡◌, ◌≤◌, ◌<◌, ℕ, Bool, true, false, ◌&&◌, Option, None, Some, ◌==◌, List, [], ◌∷◌, length, drop, get_or, map as mapped, refl, ◌+◌, sym, ap, ◌∙◌, arith, true≢false}
use Rattle.std.proofs.Math.ListN.{drop_of_length-le}
use Rattle.std.specs.FinMap as map
use Rattle.el_words.proofs.Truths.{left_of}
use Rattle.std.specs.Option.{option_eq}
use Rattle.std.proofs.lemmas.Bool.{eq-eqb}
use Rattle.el_trace.specs.Same.{same_pair}

module _ {A B : Type 0} (of : A → B) (same : B → B → Bool) (decides : (a b : B) → Decides (same a b) (a ≡ b)) (ones others : List A) (place : ℕ) where
  -- where nothing is left, all is the same
  pub all_same : length ones ≤ place → length ones ≡ length others
      → pointwise same (mapped of (drop place ones)) (mapped of (drop place others)) ≡ pointwise same (mapped of ones) (mapped of others) → Decides true (mapped of ones ≡ mapped of others)
  all_same end lengths rest =
      slice_eq-Decides decides (mapped of ones) (mapped of others) true
      (sym (sym rest ∙ ap (λ (left : List A). pointwise same (mapped of left) (mapped of (drop place others))) (drop_of_length-le ones end)
      ∙ ap (λ (left : List A). pointwise same [] (mapped of left)) (drop_of_length-le others (omega (arith, end, lengths)))))

  -- where two differ, not all are the same
  pub one_differs : (one other : A) → place < length ones → length ones ≡ length others → one ≡ get_or ones place one → other ≡ get_or others place other → same (of one) (of other) ≡ false
      → pointwise same (mapped of (drop place ones)) (mapped of (drop place others)) ≡ pointwise same (mapped of ones) (mapped of others) → Decides false (mapped of ones ≡ mapped of others)
  one_differs one other within lengths here there differ rest =
      let ones_are : drop place ones ≡ one ∷ drop (place + 1) ones = drop_more ones place one within ∙ ap (λ (a : A). a ∷ drop (place + 1) ones) (sym here) in
      let others_are : drop place others ≡ other ∷ drop (place + 1) others = drop_more others place other (omega (arith, within, lengths)) ∙ ap (λ (a : A). a ∷ drop (place + 1) others) (sym there) in
      slice_eq-Decides decides (mapped of ones) (mapped of others) false
      (sym (sym rest ∙ ap (λ (left : List A). pointwise same (mapped of left) (mapped of (drop place others))) ones_are
      ∙ ap (λ (left : List A). pointwise same (mapped of (one ∷ drop (place + 1) ones)) (mapped of left)) others_are
      ∙ ap (λ b. b && pointwise same (mapped of (drop (place + 1) ones)) (mapped of (drop (place + 1) others))) differ))

pub pair-Decides : (one other : List ℕ × List ℕ) → Decides (same_pair one other) (one ≡ other)
pair-Decides one other = (
  λ is. by ((bytes_eq-Decides one.0 other.0).0 (left_of (bytes_eq one.0 other.0) _ is)) ((bytes_eq-Decides one.1 other.1).0 (right_of (bytes_eq one.0 other.0) _ is)),
  λ same. both ((bytes_eq-Decides one.0 other.0).1 (ap (λ (pair : List ℕ × List ℕ). pair.0) same)) ((bytes_eq-Decides one.1 other.1).1 (ap (λ (pair : List ℕ × List ℕ). pair.1) same)),
)
  where
    by : one.0 ≡ other.0 → one.1 ≡ other.1 → one ≡ other
    by first second = λ i. (first i, second i)

    both : bytes_eq one.0 other.0 ≡ true → bytes_eq one.1 other.1 ≡ true → same_pair one other ≡ true
    both first second = rw (first, second) refl

-- where no word is left, all are the same
pub all_words_same : (ones others : List (List ℕ)) (place : ℕ) → length ones ≤ place → length ones ≡ length others
    → pointwise bytes_eq (drop place ones) (drop place others) ≡ pointwise bytes_eq ones others → Decides true (ones ≡ others)
all_words_same ones others place end lengths rest =
    slice_eq-Decides bytes_eq-Decides ones others true
    (sym (sym rest ∙ ap (λ (left : List (List ℕ)). pointwise bytes_eq left (drop place others)) (drop_of_length-le ones end) ∙ ap (pointwise bytes_eq []) (drop_of_length-le others (omega (arith, end, lengths)))))

-- variables are the same where their entries are
pub same_vars : (one other : Vars) (ones others : List (List ℕ × List ℕ)) (same : Bool) → ones ≡ map.entries one → others ≡ map.entries other → Decides same (ones ≡ others) → Decides same (one ≡ other)
same_vars one other ones others same is there decides = (
  λ yes. map.same_entries_map one other (sym is ∙ decides.0 yes ∙ there),
  λ equal. decides.1 (is ∙ ap map.entries equal ∙ sym there),
)

-- an event isn't one that is another call
pub another_call : (event other : Event) → ((found : Event) → Some other ≡ Some found → call_of found ≡ call_of event → ⊥) → Decides false (event ≡ other)
another_call event other miss = (λ no. absurd (true≢false (sym no)), λ same. absurd (miss other refl (ap call_of (sym same))))

-- handles are the same where their numbers are
pub handle-Decides : (one other : Handle) → Decides (one.number == other.number) (one ≡ other)
handle-Decides one other = (λ yes. ap (λ (number : ℕ). record { number = number }) (eqb-true one.number other.number yes), λ same. eq-eqb one.number other.number (ap (λ (handle : Handle). handle.number) same))

-- and options where both have the same value or none
pub option-Decides : {T : Type 0} {same : T → T → Bool} → ((a b : T) → Decides (same a b) (a ≡ b)) → (one other : Option T) → Decides (option_eq same one other) (one ≡ other)
option-Decides decides None None = (λ _. refl, λ _. refl)
option-Decides decides None (Some other) = (λ no. absurd (true≢false (sym no)), λ no. absurd (cc))
option-Decides decides (Some one) None = (λ no. absurd (true≢false (sym no)), λ no. absurd (cc))
option-Decides {T} decides (Some one) (Some other) = (λ yes. ap Some ((decides one other).0 yes), λ same. (decides one other).1 (let equal : one ≡ other = cc in equal))
