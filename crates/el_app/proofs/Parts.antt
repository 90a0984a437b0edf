-- What stands round the last byte of a kind.
use Rattle.el_room.proofs.Vocabulary.{false_from_ne_true, after_last}
use Rattle.std.proofs.Common.{◌≡◌, ℕ, ◌+◌, ◌-◌, ◌<◌, Bool, not, List, None, Some, length, drop, sym, ap, ◌∙◌, arith, get_or}
use Rattle.std.proofs.lemmas.Bool.{not_from_false}
use Rattle.std.specs.List.{suffix_len}
use Rattle.std.proofs.lemmas.List.Sums.{suffix_len_is}
use Rattle.memchr.specs.Find.{IsLastByte}

module _ (test : ℕ → Bool) (xs : List ℕ) where
  suffix_len-last : (place : ℕ) → IsLastByte test xs (Some place) → suffix_len (λ x. not (test x)) xs ≡ length xs - (place + 1)
  suffix_len-last place is = suffix_len_is (λ x. not (test x)) xs (place + 1) 0 (omega (arith, is.0.high))
      (λ k low high. not_from_false _ (false_from_ne_true (test (get_or xs k 0)) (is.0.after k low high)))
      (λ some. let at : place + 1 - 1 ≡ place = omega arith in rw at (ap not is.1))

  suffix_len-none : IsLastByte test xs None → suffix_len (λ x. not (test x)) xs ≡ length xs
  suffix_len-none is = suffix_len_is (λ x. not (test x)) xs 0 0 (omega arith) (λ k low high. not_from_false _ (false_from_ne_true (test (get_or xs k 0)) (is k low high))) (λ none. absurd (omega arith)) ∙ omega arith

  -- after the last byte that passes
  pub after_last-found : (place : ℕ) → IsLastByte test xs (Some place) → drop (place + 1) xs ≡ after_last test xs
  after_last-found place is =
      let high : place < length xs = is.0.high in
      let same : place + 1 ≡ length xs - (length xs - (place + 1)) = omega arith in
      ap (λ n. drop n xs) (same ∙ ap (λ n. length xs - n) (sym (suffix_len-last place is)))

  pub after_last-none : IsLastByte test xs None → xs ≡ after_last test xs
  after_last-none is =
      let nothing : 0 ≡ length xs - length xs = omega arith in
      ap (λ n. drop n xs) (nothing ∙ ap (λ n. length xs - n) (sym (suffix_len-none is)))
