-- How a log is gone through.
use Rattle.el_room.proofs.Vocabulary.{slice_get, drop_more, sum_by-cons, slice_get_within, get_or_from_slice_get, Event}
use Rattle.std.proofs.Common.{◌≡◌, ℕ, Bool, ◌+◌, List, ◌∷◌, drop, cond, count_by, Some, sym, ap, ◌∙◌, subst, arith}
use Rattle.el_app.specs.declared.tallies.Numbers.{Numbers}
use Rattle.el_app.specs.declared.tallies.Tally.{Tally}
use Rattle.el_app.specs.Played.{first_numbers}
use Rattle.el_app.specs.Plain.{IsPlain, numbers_behind, ArePlain}
use Rattle.el_app.specs.Tallies.{is_start, is_wait, is_pipe, is_close}

-- So far the events are plain, and these are the next numbers and the counts; the rest is to come.
pub record Counting (events rest : List Event) (numbers : Numbers) (tally : Tally) : Type 0 where
  pub plain : ArePlain rest numbers → ArePlain events first_numbers
  pub starts : tally.starts + count_by is_start rest ≡ count_by is_start events
  pub waits : tally.waits + count_by is_wait rest ≡ count_by is_wait events
  pub pipes : tally.pipes + count_by is_pipe rest ≡ count_by is_pipe events
  pub closes : tally.closes + count_by is_close rest ≡ count_by is_close events

pub rest_at : (events : List Event) (place : ℕ) (event : Event) → slice_get events place ≡ Some event → drop place events ≡ event ∷ drop (place + 1) events
rest_at events place event is =
    drop_more events place event (slice_get_within events place event is) ∙ ap (λ first. first ∷ drop (place + 1) events) (get_or_from_slice_get events place event event is)

counted_on : (p : Event → Bool) (event : Event) (events rest behind : List Event) (so_far more : ℕ) → rest ≡ event ∷ behind → so_far + count_by p rest ≡ count_by p events → more ≡ so_far + cond (p event) 1 0
    → more + count_by p behind ≡ count_by p events
counted_on p event events rest behind so_far more is all one =
    let first : count_by p rest ≡ cond (p event) 1 0 + count_by p behind = ap (count_by p) is ∙ sum_by-cons (λ x. cond (p x) 1 0) event behind in
    omega (arith, first, all, one)

-- an event is plain, and counted
pub goes_on : {events : List Event} {numbers next : Numbers} {tally more : Tally} (place : ℕ) (event : Event) → slice_get events place ≡ Some event → Counting events (drop place events) numbers tally
    → IsPlain event numbers → next ≡ numbers_behind event numbers
    → more.starts ≡ tally.starts + cond (is_start event) 1 0 → more.waits ≡ tally.waits + cond (is_wait event) 1 0
    → more.pipes ≡ tally.pipes + cond (is_pipe event) 1 0 → more.closes ≡ tally.closes + cond (is_close event) 1 0
    → Counting events (drop (place + 1) events) next more
goes_on {events} {numbers} {next} {tally} {more} place event is p plain then starts waits pipes closes =
    let rest = drop place events in
    let behind = drop (place + 1) events in
    let same = rest_at events place event is in
    record {
      plain = λ are. p.plain (subst (λ rest. ArePlain rest numbers) (sym same) (plain, subst (ArePlain behind) then are));
      starts = counted_on is_start event events rest behind tally.starts more.starts same p.starts starts;
      waits = counted_on is_wait event events rest behind tally.waits more.waits same p.waits waits;
      pipes = counted_on is_pipe event events rest behind tally.pipes more.pipes same p.pipes pipes;
      closes = counted_on is_close event events rest behind tally.closes more.closes same p.closes closes;
    }
