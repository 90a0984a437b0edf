-- There is one whole family of a process, and a family that is whole doesn't grow beyond.
use Rattle.std.proofs.Common.{◌≡◌, ℕ, suc, ◌+◌, ◌-◌, ◌≤◌, List, length, Option, Some, None, sym, ap, ◌∙◌, arith, slice_get, ◌⊎◌, inl, inr, []}
use Rattle.std.proofs.lemmas.Option.{slice_get_past}
use Rattle.el_family.specs.Processes.{Process}
use Rattle.el_family.specs.Courses.{run_with}
use Rattle.el_family.specs.Families.{grown_by, after_run}
use Rattle.el_family.specs.Reports.{family_after, IsWhole, GrowsBeyond}
use Rattle.el_family.proofs.Grown.{length-grown}

-- a family doesn't get smaller
grows-or_stays : (family : List Process) (place budget : ℕ) → length family ≤ length (after_run family place [] budget)
grows-or_stays family place budget = by (slice_get family place)
  where
    by : (one : Option Process) → length family ≤ length (grown_by one family place [] budget)
    by None = omega arith
    by (Some process) = let run = run_with process [] budget in let all = length-grown family place run in omega (arith, all)

module _ (words : List (List ℕ)) (budget : ℕ) where
  -- behind the last member nothing is changed
  still-at : (count : ℕ) → length (family_after count words budget) ≤ count → family_after (suc count) words budget ≡ family_after count words budget
  unfolding family_after
  still-at count all = let family = family_after count words budget in ap (λ one. grown_by one family count [] budget) (slice_get_past family count all)

  still-after : (count more : ℕ) → length (family_after count words budget) ≤ count → family_after (more + count) words budget ≡ family_after count words budget
  still-after count Prim.Native.Nat.zero all = ap (λ n. family_after n words budget) (omega arith)
  still-after count (suc more) all =
      let so_far = still-after count more all in
      let size : length (family_after (more + count) words budget) ≡ length (family_after count words budget) = ap length so_far in
      let next : suc more + count ≡ suc (more + count) = omega arith in
      ap (λ n. family_after n words budget) next ∙ still-at (more + count) (omega (arith, size, all)) ∙ so_far

  longer-after : (count more : ℕ) → length (family_after count words budget) ≤ length (family_after (more + count) words budget)
  unfolding family_after
  longer-after count Prim.Native.Nat.zero = let same : 0 + count ≡ count = omega arith in let sizes = ap (λ n. length (family_after n words budget)) same in omega (arith, sizes)
  longer-after count (suc more) =
      let one = grows-or_stays (family_after (more + count) words budget) (more + count) budget in
      let rest = longer-after count more in
      let after : suc more + count ≡ suc (more + count) = omega arith in
      let next = ap (λ n. length (family_after n words budget)) after in
      omega (arith, one, rest, next)

  split : (one other : ℕ) → (one ≡ (one - other) + other) ⊎ (other ≡ (other - one) + one)
  split one other = grind arith

  same_counts : (one other : ℕ) → length (family_after one words budget) ≤ one → length (family_after other words budget) ≤ other → family_after one words budget ≡ family_after other words budget
  same_counts one other p q = by (split one other)
    where
      by : (one ≡ (one - other) + other) ⊎ (other ≡ (other - one) + one) → family_after one words budget ≡ family_after other words budget
      by (inl is) = ap (λ n. family_after n words budget) is ∙ still-after other (one - other) q
      by (inr is) = sym (ap (λ n. family_after n words budget) is ∙ still-after one (other - one) p)

  pub one_whole : (one other : List Process) → IsWhole words budget one → IsWhole words budget other → one ≡ other
  one_whole one other p q =
      let all = ap length p.reached in
      let all_too = ap length q.reached in
      p.reached ∙ same_counts p.count q.count (omega (arith, all, p.all)) (omega (arith, all_too, q.all)) ∙ sym q.reached

  pub whole_stays : (family : List Process) → IsWhole words budget family → GrowsBeyond words budget → ⊥
  whole_stays family p q = by (split q.count p.count)
    where
      all : length family ≡ length (family_after p.count words budget)
      all = ap length p.reached

      by : (q.count ≡ (q.count - p.count) + p.count) ⊎ (p.count ≡ (p.count - q.count) + q.count) → ⊥
      by (inl is) =
          let same : length (family_after q.count words budget) ≡ length (family_after p.count words budget) =
          ap (λ n. length (family_after n words budget)) is ∙ ap length (still-after p.count (q.count - p.count) (omega (arith, all, p.all))) in
          omega (arith, same, all, p.within, q.beyond)
      by (inr is) =
          let same : length (family_after p.count words budget) ≡ length (family_after ((p.count - q.count) + q.count) words budget) = ap (λ n. length (family_after n words budget)) is in
          let longer = longer-after q.count (p.count - q.count) in
          omega (arith, same, longer, all, p.within, q.beyond)
