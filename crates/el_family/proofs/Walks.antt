-- How lists are gone through, one after another.
use Rattle.std.proofs.Common.{◌≡◌, ℕ, Bool, true, false, ◌+◌, ◌≤◌, List, [], ◌∷◌, ◌++◌, drop, length, cond, count_by, Some, sym, ap, ◌∙◌, append-nil, append_assoc, arith, ◌&&◌}
use Rattle.std.specs.List.{slice_get, list_all}
use Rattle.std.proofs.Math.Seq.{drop-length}
use Rattle.std.proofs.lemmas.List.{drop_more}
use Rattle.std.proofs.lemmas.List.Sums.{sum_by-cons}
use Rattle.std.proofs.lemmas.Option.{slice_get_within, get_or_from_slice_get}
use Rattle.el_world.specs.declared.event.Event.{Event}
use Rattle.el_app.specs.Tallies.{is_start, is_wait}
use Rattle.el_family.specs.declared.counts.Counts.{Counts}
use Rattle.el_family.specs.Processes.{Process}
use Rattle.el_family.specs.Reports.{counts_of, member_line, lines_from}

module _ {A : Type 0} where
  pub rest_at : (list : List A) (place : ℕ) (one : A) → slice_get list place ≡ Some one → drop place list ≡ one ∷ drop (place + 1) list
  rest_at list place one is =
      drop_more list place one (slice_get_within list place one is) ∙ ap (λ first. first ∷ drop (place + 1) list) (get_or_from_slice_get list place one one is)

  pub over : (list : List A) (place : ℕ) → length list ≤ place → place ≤ length list → drop place list ≡ []
  over list place from to = let same : place ≡ length list = omega (arith, from, to) in ap (λ n. drop n list) same ∙ drop-length list

  -- the first of the rest passes, so that all do where the others do
  pub all_on : (test : A → Bool) (list : List A) (place : ℕ) (one : A) → slice_get list place ≡ Some one → test one ≡ true → list_all test (drop place list) ≡ list_all test list
      → list_all test (drop (place + 1) list) ≡ list_all test list
  all_on test list place one is passes so_far = sym (ap (list_all test) (rest_at list place one is) ∙ ap (λ b. b && list_all test (drop (place + 1) list)) passes) ∙ so_far

  -- the first of the rest doesn't pass
  pub not_all : (test : A → Bool) (list : List A) (place : ℕ) (one : A) → slice_get list place ≡ Some one → test one ≡ false → list_all test (drop place list) ≡ list_all test list → false ≡ list_all test list
  not_all test list place one is fails so_far = sym (ap (list_all test) (rest_at list place one is) ∙ ap (λ b. b && list_all test (drop (place + 1) list)) fails) ∙ so_far

-- ---- counting

-- these are the counts so far; the rest is to come
pub record Counting (events rest : List Event) (counts : Counts) : Type 0 where
  pub starts : counts.starts + count_by is_start rest ≡ count_by is_start events
  pub waits : counts.waits + count_by is_wait rest ≡ count_by is_wait events

counted_on : (test : Event → Bool) (event : Event) (events rest behind : List Event) (so_far more : ℕ) → rest ≡ event ∷ behind → so_far + count_by test rest ≡ count_by test events → more ≡ so_far + cond (test event) 1 0
    → more + count_by test behind ≡ count_by test events
counted_on test event events rest behind so_far more is all one =
    let first : count_by test rest ≡ cond (test event) 1 0 + count_by test behind = ap (count_by test) is ∙ sum_by-cons (λ x. cond (test x) 1 0) event behind in
    omega (arith, first, all, one)

-- an event is counted
pub counting_on : {events : List Event} {counts more : Counts} (place : ℕ) (event : Event) → slice_get events place ≡ Some event → Counting events (drop place events) counts
    → more.starts ≡ counts.starts + cond (is_start event) 1 0 → more.waits ≡ counts.waits + cond (is_wait event) 1 0 → Counting events (drop (place + 1) events) more
counting_on {events} {counts} {more} place event is p starts waits = record {
  starts = counted_on is_start event events (drop place events) (drop (place + 1) events) counts.starts more.starts (rest_at events place event is) p.starts starts;
  waits = counted_on is_wait event events (drop place events) (drop (place + 1) events) counts.waits more.waits (rest_at events place event is) p.waits waits;
}

-- all are counted
pub all_counted : {events rest : List Event} {counts : Counts} → rest ≡ [] → Counting events rest counts → counts ≡ counts_of events
all_counted {events} {rest} {counts} none p =
    let starts : counts.starts ≡ count_by is_start events = let no : count_by is_start rest ≡ 0 = ap (count_by is_start) none in omega (arith, no, p.starts) in
    let waits : counts.waits ≡ count_by is_wait events = let no : count_by is_wait rest ≡ 0 = ap (count_by is_wait) none in omega (arith, no, p.waits) in
    λ i. record { starts = starts i; waits = waits i }

-- ---- lines

pub line_put : (old mid new : List ℕ) (family : List Process) (number : ℕ) (process : Process) → slice_get family number ≡ Some process → mid ++ lines_from number (drop number family) ≡ old
    → new ≡ mid ++ member_line number process → new ++ lines_from (number + 1) (drop (number + 1) family) ≡ old
unfolding lines_from
line_put old mid new family number process is so_far put =
    let rest = lines_from (number + 1) (drop (number + 1) family) in
    ap (λ lines. lines ++ rest) put ∙ append_assoc mid (member_line number process) rest ∙ ap (λ left. mid ++ lines_from number left) (sym (rest_at family number process is)) ∙ so_far

pub all_lines : (old new : List ℕ) (family : List Process) (number : ℕ) → length family ≤ number → number ≤ length family → new ++ lines_from number (drop number family) ≡ old → new ≡ old
unfolding lines_from
all_lines old new family number from to so_far = sym (append-nil new) ∙ ap (λ left. new ++ lines_from number left) (sym (over family number from to)) ∙ so_far
