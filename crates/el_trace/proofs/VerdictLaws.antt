-- Verdicts exclude one another.
use Rattle.el_room.proofs.Vocabulary.{right_of, Event, given_by}
use Rattle.std.proofs.Common.{◌≡◌, ℕ, suc, true, List, [], ◌∷◌, refl, sym, ap, ◌∙◌, true≢false}
use Rattle.el_words.proofs.Truths.{left_of}
use Rattle.el_trace.specs.declared.verdict.Verdict.TheVariants.{Yes, Differs, Unlawful}
use Rattle.el_trace.specs.Agreeing.{AgreeUpto}
use Rattle.el_trace.specs.NewHandles.{are_new, next_behind, keep_numbers, BreakNumbersAt, first_number}
use Rattle.el_trace.specs.Laws.{YesSaysRun, VerdictIsOne}

-- where the rule is kept, it is broken nowhere
kept_unbroken : (next : ℕ) (events : List Event) (at : ℕ) → keep_numbers next events ≡ true → BreakNumbersAt next events at → ⊥
kept_unbroken next [] at keeps breaks = breaks
kept_unbroken next (event ∷ events) Prim.Native.Nat.zero keeps breaks = true≢false (sym (left_of (are_new next (given_by event)) _ keeps) ∙ breaks)
kept_unbroken next (event ∷ events) (suc at) keeps breaks = kept_unbroken (next_behind next (given_by event)) events at (right_of (are_new next (given_by event)) _ keeps) breaks.1

-- it is broken first at one place
one_break : (next : ℕ) (events : List Event) (at other : ℕ) → BreakNumbersAt next events at → BreakNumbersAt next events other → at ≡ other
one_break next [] at other p q = absurd p
one_break next (event ∷ events) Prim.Native.Nat.zero Prim.Native.Nat.zero p q = refl
one_break next (event ∷ events) Prim.Native.Nat.zero (suc other) p q = absurd (true≢false (sym q.0 ∙ p))
one_break next (event ∷ events) (suc at) Prim.Native.Nat.zero p q = absurd (true≢false (sym p.0 ∙ q))
one_break next (event ∷ events) (suc at) (suc other) p q = ap suc (one_break (next_behind next (given_by event)) events at other p.1 q.1)

-- lists agree up to one place
one_length : (ones others : List Event) (at other : ℕ) → AgreeUpto at ones others → AgreeUpto other ones others → at ≡ other
one_length [] others Prim.Native.Nat.zero Prim.Native.Nat.zero p q = refl
one_length [] others Prim.Native.Nat.zero (suc other) p q = absurd q
one_length [] others (suc at) other p q = absurd p
one_length (one ∷ ones) [] Prim.Native.Nat.zero Prim.Native.Nat.zero p q = refl
one_length (one ∷ ones) [] Prim.Native.Nat.zero (suc other) p q = absurd q
one_length (one ∷ ones) [] (suc at) other p q = absurd p
one_length (one ∷ ones) (first ∷ others) Prim.Native.Nat.zero Prim.Native.Nat.zero p q = refl
one_length (one ∷ ones) (first ∷ others) Prim.Native.Nat.zero (suc other) p q = absurd (p q.0)
one_length (one ∷ ones) (first ∷ others) (suc at) Prim.Native.Nat.zero p q = absurd (q p.0)
one_length (one ∷ ones) (first ∷ others) (suc at) (suc other) p q = ap suc (one_length ones others at other p.1 q.1)

pub yes-says-run : YesSaysRun
yes-says-run meant events ending Yes is = (λ _. is, λ _. refl)
yes-says-run meant events ending (Differs at) is = (λ same. absurd (cc), λ run. absurd (is.1 run.1))
yes-says-run meant events ending (Unlawful at) is = (λ same. absurd (cc), λ run. absurd (kept_unbroken first_number events at run.0 is))

pub verdict-is-one : VerdictIsOne
verdict-is-one meant events ending Yes Yes p q = refl
verdict-is-one meant events ending Yes (Differs at) p q = absurd (q.1 p.1)
verdict-is-one meant events ending Yes (Unlawful at) p q = absurd (kept_unbroken first_number events at p.0 q)
verdict-is-one meant events ending (Differs at) Yes p q = absurd (p.1 q.1)
verdict-is-one meant events ending (Differs at) (Differs other) p q = ap Differs (one_length events meant.events at other p.2 q.2)
verdict-is-one meant events ending (Differs at) (Unlawful other) p q = absurd (kept_unbroken first_number events other p.0 q)
verdict-is-one meant events ending (Unlawful at) Yes p q = absurd (kept_unbroken first_number events at q.0 p)
verdict-is-one meant events ending (Unlawful at) (Differs other) p q = absurd (kept_unbroken first_number events at q.0 p)
verdict-is-one meant events ending (Unlawful at) (Unlawful other) p q = ap Unlawful (one_break first_number events at other p q)
