-- How far two lists of events agree.
use Rattle.el_room.proofs.Vocabulary.{Decides, slice_get, Event, Close, Handle, call_of, close}
use Rattle.std.proofs.Common.{◌≡◌, ℕ, suc, ◌+◌, ◌≤◌, min, Bool, List, [], ◌∷◌, length, drop, Option, None, Some, is_some, refl, sym, ap, subst, ◌∙◌, arith, true≢false}
use Rattle.el_trace.specs.Agreeing.{AgreeUpto}
use Rattle.el_trace.specs.Answers.{IsAnswer}
use Rattle.el_trace.proofs.NewHandles.{here}

-- with a list that is over, no event more
agree_none : (ones : List Event) → AgreeUpto 0 ones []
agree_none [] = tt
agree_none (one ∷ ones) = tt

-- where one of them is over
pub agree_over : (ones others : List Event) (place : ℕ) → min (length ones) (length others) ≤ place → AgreeUpto 0 (drop place ones) (drop place others)
agree_over [] others Prim.Native.Nat.zero le = tt
agree_over [] others (suc place) le = tt
agree_over (one ∷ ones) [] Prim.Native.Nat.zero le = tt
agree_over (one ∷ ones) [] (suc place) le = agree_none (drop place ones)
agree_over (one ∷ ones) (other ∷ others) Prim.Native.Nat.zero le = absurd (omega (arith, le))
agree_over (one ∷ ones) (other ∷ others) (suc place) le = agree_over ones others place (omega (arith, le))

module _ (ones others : List Event) (place : ℕ) (one other : Event) (is : Some one ≡ slice_get ones place) (there : Some other ≡ slice_get others place) where
  -- where two events differ
  pub agree_no_more : (one ≡ other → ⊥) → AgreeUpto 0 (drop place ones) (drop place others)
  agree_no_more differ =
      subst (λ left. AgreeUpto 0 left (drop place others)) (sym (here ones place one is))
      (subst (λ left. AgreeUpto 0 (one ∷ drop (place + 1) ones) left) (sym (here others place other there)) differ)

  -- where they are the same
  pub agree_on : one ≡ other → (at : ℕ) → AgreeUpto at (drop (place + 1) ones) (drop (place + 1) others) → AgreeUpto (suc at) (drop place ones) (drop place others)
  agree_on same at rest =
      subst (λ left. AgreeUpto (suc at) left (drop place others)) (sym (here ones place one is))
      (subst (λ left. AgreeUpto (suc at) (one ∷ drop (place + 1) ones) left) (sym (here others place other there)) (same, rest))

-- whether an event is a close
pub is_close : (other : Event) (handle : Handle) (found : Option (Unit {0})) (closes : Bool) → closes ≡ is_some found → IsAnswer (Some other) (close handle) found → Decides closes (Close handle ≡ other)
is_close other handle None closes is answer = (λ yes. absurd (true≢false (sym yes ∙ is)), λ same. absurd (answer other refl (ap call_of (sym same))))
is_close other handle (Some found) closes is answer = (λ _. let same : other ≡ Close handle = cc in sym same, λ _. is)
