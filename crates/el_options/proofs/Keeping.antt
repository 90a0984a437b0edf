-- Letters that keep their rules are refused for nothing.
use Rattle.std.proofs.Common.{◌≡◌, ℕ, ◌==◌, Bool, true, false, ◌&&◌, ◌||◌, cond, if◌then◌else◌, List, [], ◌∷◌, reverse, Option, Some, None, refl, sym, ap, ◌∙◌}
use Rattle.std.specs.List.{list_any, list_all, find}
use Rattle.std.proofs.lemmas.Bool.{eqb-true, and_parts}
use Rattle.el_words.proofs.Truths.{neither_of}
use Rattle.el_options.specs.Reading.{Value, Letter}
use Rattle.el_options.specs.Rules.{is_among, rivals, last_among, if_this, text_of, text_in, value_in_force, Rule, is_wrong_use, is_bad_number, fails, has_wrong_use, has_bad_number, keeps_rule, keep_rules}

-- ---- tests of lists

module _ {X : Type 0} (test : X → Bool) where
  all-onto : (xs ys : List X) → list_all test xs ≡ true → list_all test ys ≡ true → list_all test (mathlib.Core.List.reverse_aux xs ys) ≡ true
  all-onto [] ys here there = there
  all-onto (x ∷ xs) ys here there =
      let holds = and_parts (test x) (list_all test xs) here in
      all-onto xs (x ∷ ys) holds.1 (ap (λ b. b && list_all test ys) holds.0 ∙ there)

  -- what is found passes the test of all
  found-passes : (wanted : X → Bool) (xs : List X) (x : X) → list_all test xs ≡ true → find wanted xs ≡ Some x → test x ≡ true
  found-passes wanted [] x all is = absurd (cc)
  found-passes wanted (y ∷ xs) x all is = by_test (wanted y) is (λ is. found-passes wanted xs x holds.1 is)
    where
      holds : (test y ≡ true) × (list_all test xs ≡ true)
      holds = and_parts (test y) (list_all test xs) all

      by_test : (here : Bool) → cond here (Some y) (find wanted xs) ≡ Some x → (find wanted xs ≡ Some x → test x ≡ true) → test x ≡ true
      by_test true is next = let same : y ≡ x = cc in ap test (sym same) ∙ holds.0
      by_test false is next = next is

  none-passes : (xs : List X) → ((x : X) → test x ≡ false) → list_any test xs ≡ false
  none-passes [] never = refl
  none-passes (x ∷ xs) never = ap (λ b. b || list_any test xs) (never x) ∙ none-passes xs never

-- ---- values in force

-- neither test fails
pub record Keeps (rule : Rule) (text : Option (List ℕ)) : Type 0 where
  pub right_use : fails (is_wrong_use rule) text ≡ false
  pub good_number : fails (is_bad_number rule) text ≡ false

value-keeps : (rule : Rule) (value : Option Value) → keeps_rule rule value ≡ true → Keeps rule (text_of value)
value-keeps rule None kept = record { right_use = refl; good_number = refl }
value-keeps rule (Some value) kept =
    let tests = neither_of (is_wrong_use rule value.text) (is_bad_number rule value.text) kept in
    record { right_use = tests.0; good_number = tests.1 }

module _ (groups : List (List ℕ)) (rule : ℕ → Rule) (letters : List Letter) (kept : keep_rules rule letters ≡ true) where
  in-force-keeps : (letter : ℕ) → Keeps (rule letter) (value_in_force groups letter letters)
  in-force-keeps letter = by_last (last_among (rivals groups letter) letters) refl
    where
      by_letter : (read : Letter) (same : Bool) → (read.letter == letter) ≡ same → keeps_rule (rule read.letter) read.value ≡ true → Keeps (rule letter) (text_in (if same then Some read else None))
      by_letter read true same keeps = value-keeps (rule letter) read.value (ap (λ letter. keeps_rule (rule letter) read.value) (sym (eqb-true read.letter letter same)) ∙ keeps)
      by_letter read false same keeps = record { right_use = refl; good_number = refl }

      by_last : (last : Option Letter) → last_among (rivals groups letter) letters ≡ last → Keeps (rule letter) (text_in (if_this letter last))
      by_last None is = record { right_use = refl; good_number = refl }
      by_last (Some read) is =
          by_letter read (read.letter == letter) refl
          (found-passes (λ (read : Letter). keeps_rule (rule read.letter) read.value) (λ (read : Letter). is_among (rivals groups letter) read.letter) (reverse letters) read
          (all-onto (λ (read : Letter). keeps_rule (rule read.letter) read.value) letters [] kept refl) is)

  pub no-wrong-use : has_wrong_use groups rule letters ≡ false
  no-wrong-use = none-passes (λ (read : Letter). fails (is_wrong_use (rule read.letter)) (value_in_force groups read.letter letters)) letters (λ read. (in-force-keeps read.letter).right_use)

  pub no-bad-number : has_bad_number groups rule letters ≡ false
  no-bad-number = none-passes (λ (read : Letter). fails (is_bad_number (rule read.letter)) (value_in_force groups read.letter letters)) letters (λ read. (in-force-keeps read.letter).good_number)
