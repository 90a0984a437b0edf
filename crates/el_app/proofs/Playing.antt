-- A run whose events are plain is the plan's, played.
use Rattle.el_room.proofs.Vocabulary.{Event, Call, AnswerOf, event_of, start, wait, open_file, pipe, feed, read, write, close, enter, Plan, gives, ends, takes, calls, Outcome, ended, Does, Seen, extended, State, Task, came_out, Follows}
use Rattle.std.proofs.Common.{◌≡◌, ℕ, suc, ◌+◌, ◌-◌, ◌<◌, ◌≤◌, List, [], ◌∷◌, Some, Err, refl, sym, ap, ◌∙◌, subst, arith}
use Rattle.el_world.specs.declared.finish.Finish.TheVariants.{Status}
use Rattle.el_world.specs.States as end
use Rattle.el_app.specs.declared.tallies.Numbers.{Numbers}
use Rattle.el_app.specs.Played.{first_numbers, plain_answer, numbers_after, Played, behind_event, behind_unit, played}
use Rattle.el_app.specs.Plain.{IsPlain, numbers_behind, ArePlain}
use Rattle.el_app.specs.Tallies.{tally_of, tally_line, line_of}

-- a plain event has the plain answer of its call
plain-event : (call : Call) (answer : AnswerOf call) (numbers : Numbers) → IsPlain (event_of call answer) numbers
    → (answer ≡ plain_answer call numbers) × (numbers_behind (event_of call answer) numbers ≡ numbers_after call numbers)
plain-event (start words env dir streams) answer numbers is = (is, refl)
plain-event (wait pid) answer numbers is = (is, refl)
plain-event (open_file dir path mode) answer numbers is = absurd is
plain-event pipe answer numbers is = (is, refl)
plain-event (feed bytes) answer numbers is = absurd is
plain-event (read handle) answer numbers is = absurd is
plain-event (write handle bytes) answer numbers is = absurd is
plain-event (close handle) answer numbers is = (refl, refl)
plain-event (enter dir path) answer numbers is = absurd is

one_more : (units left : ℕ) → left ≤ units → units - left + 1 ≡ suc units - left
one_more units left within = omega (arith, within)

module _ {E A : Type 0} where
  abbrev shown : List Event → Outcome E A → ℕ → Played E A
  shown events out units = record { events = events; outcome = out; units = units }

  played-does : (plan : Plan E A) (units : ℕ) (events : List Event) (out : Outcome E A) (left : ℕ) (numbers : Numbers) → Does plan units events out left → 0 < left → ArePlain events numbers
      → (left ≤ units) × (played plan numbers ≡ shown events out (units - left))
  unfolding played
  played-does (gives a) units [] out left numbers p some plain =
      let same = p.1 in
      let none : 0 ≡ units - left = omega (arith, same) in
      (omega (arith, same), λ i. shown [] (sym p.0 i) (none i))
  played-does (gives a) units (event ∷ events) out left numbers p some plain = absurd p
  played-does (ends end) units [] out left numbers p some plain =
      let same = p.1 in
      let none : 0 ≡ units - left = omega (arith, same) in
      (omega (arith, same), λ i. shown [] (sym p.0 i) (none i))
  played-does (ends end) units (event ∷ events) out left numbers p some plain = absurd p
  played-does (takes end plan) Prim.Native.Nat.zero [] out left numbers p some plain = let none = p.1 in absurd (omega (arith, none, some))
  played-does (takes end plan) Prim.Native.Nat.zero (event ∷ events) out left numbers p some plain = absurd p
  played-does (takes end plan) (suc units) events out left numbers p some plain =
      let rest = played-does plan units events out left numbers p some plain in
      let within = rest.0 in
      (omega (arith, within), ap behind_unit rest.1 ∙ ap (shown events out) (one_more units left within))
  played-does (calls call after) units [] out left numbers p some plain = absurd p
  played-does (calls call after) units (event ∷ events) out left numbers p some plain =
      let next = numbers_after call numbers in
      let is = plain-event call p.0 numbers (subst (λ event. IsPlain event numbers) p.1 plain.0) in
      let after_it : numbers_behind event numbers ≡ next = ap (λ event. numbers_behind event numbers) p.1 ∙ is.1 in
      let rest = played-does (after p.0) units events out left next p.2 some (subst (ArePlain events) after_it plain.1) in (
        rest.0,
        ap (λ answer. behind_event (event_of call answer) (played (after answer) next)) (sym is.0)
            ∙ ap (λ event. behind_event event (played (after p.0) next)) (sym p.1)
            ∙ ap (behind_event event) rest.1,
      )

module _ {old new : Seen} {run : Task ⊥} {units left code : ℕ} {state : State} {events : List Event} where
  -- code that followed a plan in a world that tells plain events, and left a unit
  pub followed_played : Follows {A = ⊥} {B = ⊥} old new run units (Err (Status code)) (λ never. never) state left → old.log ≡ Some [] → new.log ≡ Some events → 0 < left → ArePlain events first_numbers
      → played run first_numbers ≡ record { events = events; outcome = ended (end.Status code state); units = units - left }
  unfolding came_out extended
  followed_played p begun told some plain =
      let all = sym told ∙ p.ran.added.told ∙ ap (λ log. extended log p.ran.events) begun in
      let same : events ≡ p.ran.events = cc in
      let does = subst (λ events. Does run units events (ended (end.Status code state)) left) (sym same) p.ran.agrees in
      (played-does run units events (ended (end.Status code state)) left first_numbers does some plain).1

  -- so the line of the plan's run is told of these events
  pub line_played : Follows {A = ⊥} {B = ⊥} old new run units (Err (Status code)) (λ never. never) state left → old.log ≡ Some [] → new.log ≡ Some events → 0 < left → ArePlain events first_numbers
      → Some (tally_line (units - left) (tally_of events) code) ≡ line_of (played run first_numbers)
  line_played p begun told some plain = ap line_of (sym (followed_played p begun told some plain))
