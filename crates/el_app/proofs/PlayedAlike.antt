-- Plans that make the same events on the same answers are played alike.
use Rattle.el_room.proofs.Vocabulary.{Event, Call, AnswerOf, event_of, call_of, Found, found_in, taken, start, wait, open_file, pipe, feed, read, write, close, enter, Plan, gives, ends, takes, calls, Outcome, ended, Made, made, answered, Does, made-does}
use Rattle.std.proofs.Common.{◌≡◌, ℕ, suc, ◌+◌, ◌-◌, ◌^◌, ◌<◌, ◌≤◌, List, [], ◌∷◌, append-nil, Option, None, Some, refl, sym, ap, ◌∙◌, subst, arith}
use Rattle.el_app.specs.declared.tallies.Numbers.{Numbers}
use Rattle.el_app.specs.Played.{plain_answer, numbers_after, Played, behind_event, behind_unit, played}

-- the event has the plain answer of its call
abbrev IsAnswered : Event → Numbers → Type 0
IsAnswered event numbers = event ≡ event_of (call_of event) (plain_answer (call_of event) numbers)

-- so it is with each event in turn
abbrev AreAnswered : List Event → Numbers → Type 0
AreAnswered [] numbers = Unit {0}
AreAnswered (event ∷ events) numbers = IsAnswered event numbers × AreAnswered events (numbers_after (call_of event) numbers)

-- ---- one call

first-answered : (call : Call) (numbers : Numbers) (events : List Event) → AreAnswered events (numbers_after call numbers) → AreAnswered (event_of call (plain_answer call numbers) ∷ events) numbers
first-answered (start words env dir streams) numbers events rest = (refl, rest)
first-answered (wait pid) numbers events rest = (refl, rest)
first-answered (open_file dir path mode) numbers events rest = (refl, rest)
first-answered pipe numbers events rest = (refl, rest)
first-answered (feed bytes) numbers events rest = (refl, rest)
first-answered (read handle) numbers events rest = (refl, rest)
first-answered (write handle bytes) numbers events rest = (refl, rest)
first-answered (close handle) numbers events rest = (refl, rest)
first-answered (enter dir path) numbers events rest = (refl, rest)

-- an answer that is so, the next numbers, and the answers behind it
record IsPlainAnswer (call : Call) (answer : AnswerOf call) (numbers : Numbers) (events : List Event) : Type 0 where
  pub plain : answer ≡ plain_answer call numbers
  pub rest : AreAnswered events (numbers_after call numbers)
  pub found : taken call (found_in (event_of call answer ∷ events)) ≡ Some (answer, found_in events)

plain-answer : (call : Call) (answer : AnswerOf call) (numbers : Numbers) (events : List Event) → AreAnswered (event_of call answer ∷ events) numbers → IsPlainAnswer call answer numbers events
plain-answer (start words env dir streams) answer numbers events are = let is = are.0 in record { plain = cc; rest = are.1; found = refl }
plain-answer (wait pid) answer numbers events are = let is = are.0 in record { plain = cc; rest = are.1; found = refl }
plain-answer (open_file dir path mode) answer numbers events are = let is = are.0 in record { plain = cc; rest = are.1; found = refl }
plain-answer pipe answer numbers events are = let is = are.0 in record { plain = cc; rest = are.1; found = refl }
plain-answer (feed bytes) answer numbers events are = let is = are.0 in record { plain = cc; rest = are.1; found = refl }
plain-answer (read handle) answer numbers events are = let is = are.0 in record { plain = cc; rest = are.1; found = refl }
plain-answer (write handle bytes) answer numbers events are = let is = are.0 in record { plain = cc; rest = are.1; found = refl }
plain-answer (close handle) answer numbers events are = record { plain = refl; rest = are.1; found = refl }
plain-answer (enter dir path) answer numbers events are = let is = are.0 in record { plain = cc; rest = are.1; found = refl }

-- the answers behind the one that was taken
abbrev left_behind : (call : Call) → Option (AnswerOf call × List Found) → List Found
left_behind call None = []
left_behind call (Some next) = next.1

-- ---- plans

one_more : (units left : ℕ) → left ≤ units → units - left + 1 ≡ suc units - left
one_more units left within = omega (arith, within)

module _ {E A : Type 0} where
  -- with a unit more than it takes, a plan does what is played of it
  played-does : (plan : Plan E A) (numbers : Numbers) (more : ℕ) → Does plan ((played plan numbers).units + more) (played plan numbers).events (played plan numbers).outcome more
  unfolding played
  played-does (gives a) numbers more = (refl, omega arith)
  played-does (ends end) numbers more = (refl, omega arith)
  played-does (takes end plan) numbers more =
      let run = played plan numbers in
      let same : suc (run.units + more) ≡ run.units + 1 + more = omega arith in
      subst (λ units. Does (takes end plan) units run.events run.outcome more) same (played-does plan numbers more)
  played-does (calls call after) numbers more = (plain_answer call numbers, refl, played-does (after (plain_answer call numbers)) (numbers_after call numbers) more)

  played-answered : (plan : Plan E A) (numbers : Numbers) → AreAnswered (played plan numbers).events numbers
  unfolding played
  played-answered (gives a) numbers = tt
  played-answered (ends end) numbers = tt
  played-answered (takes end plan) numbers = played-answered plan numbers
  played-answered (calls call after) numbers =
      first-answered call numbers (played (after (plain_answer call numbers)) (numbers_after call numbers)).events (played-answered (after (plain_answer call numbers)) (numbers_after call numbers))

  abbrev all_made : List Event → E → ℕ → Made E A
  all_made events end left = record { events = events; outcome = ended end; units = left; left = [] }

  abbrev all_played : List Event → E → ℕ → Played E A
  all_played events end units = record { events = events; outcome = ended end; units = units }

  -- what a plan makes of such events is what is played of it, where a unit is left
  made-played : (plan : Plan E A) (units : ℕ) (events : List Event) (numbers : Numbers) (end : E) (left : ℕ) → AreAnswered events numbers → made plan units (found_in events) ≡ all_made events end left → 0 < left
      → (left ≤ units) × (played plan numbers ≡ all_played events end (units - left))
  unfolding played
  made-played (gives a) units events numbers end left are is some = let out = ap (λ (m : Made E A). m.outcome) is in absurd (cc)
  made-played (ends other) units events numbers end left are is some =
      let same : units ≡ left = ap (λ (m : Made E A). m.units) is in
      let none : 0 ≡ units - left = omega (arith, same) in
      (omega (arith, same), λ i. record { events = (is i).events; outcome = (is i).outcome; units = none i })
  made-played (takes other plan) Prim.Native.Nat.zero events numbers end left are is some = let none : 0 ≡ left = ap (λ (m : Made E A). m.units) is in absurd (omega (arith, none, some))
  made-played (takes other plan) (suc units) events numbers end left are is some =
      let rest = made-played plan units events numbers end left are is some in
      let within = rest.0 in
      (omega (arith, within), ap behind_unit rest.1 ∙ ap (all_played events end) (one_more units left within))
  made-played (calls call after) units events numbers end left are is some =
      by (λ answer behind are is. made-played (after answer) units behind (numbers_after call numbers) end left are is some) (taken call (found_in events)) refl is
    where
      -- the same of what comes behind an answer
      Later : Type 0
      Later = (answer : AnswerOf call) (behind : List Event) → AreAnswered behind (numbers_after call numbers) → made (after answer) units (found_in behind) ≡ all_made behind end left
          → (left ≤ units) × (played (after answer) (numbers_after call numbers) ≡ all_played behind end (units - left))

      makes : Option (AnswerOf call × List Found) → Made E A
      makes next = answered call (λ a rest. made (after a) units rest) units (found_in events) next

      -- behind the answer of the first event
      on : Later → (answer : AnswerOf call) (behind : List Event) → AreAnswered (event_of call answer ∷ behind) numbers → (rest : List Found) → taken call (found_in (event_of call answer ∷ behind)) ≡ Some (answer, rest)
          → made (after answer) units rest ≡ all_made behind end left
          → (left ≤ units) × (played (calls call after) numbers ≡ all_played (event_of call answer ∷ behind) end (units - left))
      on again answer behind are rest found made_so =
          let plain = plain-answer call answer numbers behind are in
          let same : rest ≡ found_in behind = ap (left_behind call) (sym found ∙ plain.found) in
          let later = again answer behind plain.rest (ap (made (after answer) units) (sym same) ∙ made_so) in (
            later.0,
            ap (λ answer. behind_event (event_of call answer) (played (after answer) (numbers_after call numbers))) (sym plain.plain)
                ∙ ap (behind_event (event_of call answer)) later.1,
          )

      first : Later → (events : List Event) (next : AnswerOf call × List Found) → AreAnswered events numbers → taken call (found_in events) ≡ Some next → event_of call next.0 ∷ (made (after next.0) units next.1).events ≡ events
          → (made (after next.0) units next.1).outcome ≡ ended end → (made (after next.0) units next.1).units ≡ left → (made (after next.0) units next.1).left ≡ []
          → (left ≤ units) × (played (calls call after) numbers ≡ all_played events end (units - left))
      first again [] next are found same out units_left none = absurd (cc)
      first again (event ∷ behind) next are found same out units_left none =
          let one : event_of call next.0 ≡ event = cc in
          let rest : (made (after next.0) units next.1).events ≡ behind = cc in
          let all = on again next.0 behind (subst (λ event. AreAnswered (event ∷ behind) numbers) (sym one) are) next.1 (ap (λ event. taken call (found_in (event ∷ behind))) one ∙ found)
          (λ i. record { events = rest i; outcome = out i; units = units_left i; left = none i }) in
          (all.0, all.1 ∙ ap (λ event. all_played (event ∷ behind) end (units - left)) one)

      by : Later → (next : Option (AnswerOf call × List Found)) → taken call (found_in events) ≡ next → makes next ≡ all_made events end left → (left ≤ units) × (played (calls call after) numbers ≡ all_played events end (units - left))
      by again None found is = let out = ap (λ (m : Made E A). m.outcome) is in absurd (cc)
      by again (Some next) found is =
          first again events next are found (ap (λ (m : Made E A). m.events) is) (ap (λ (m : Made E A). m.outcome) is) (ap (λ (m : Made E A). m.units) is) (ap (λ (m : Made E A). m.left) is)

  -- where one that ends makes what the other does, the other is played as it
  pub played-same : (plan other : Plan E A) (numbers : Numbers) (end : E) → ((units : ℕ) (found : List Found) → units < 2 ^ 64 → made plan units found ≡ made other units found)
      → (played other numbers).outcome ≡ ended end → (played other numbers).units + 1 < 2 ^ 64 → played plan numbers ≡ played other numbers
  played-same plan other numbers end same out few =
      let run = played other numbers in
      let none = append-nil (found_in run.events) in
      let makes : made other (run.units + 1) (found_in run.events) ≡ all_made run.events end 1 =
      ap (made other (run.units + 1)) (sym none)
      ∙ made-does other (run.units + 1) run.events run.outcome 1 [] (played-does other numbers 1)
      ∙ ap (λ (out : Outcome E A). record { events = run.events; outcome = out; units = 1; left = [] }) out in
      let all = made-played plan (run.units + 1) run.events numbers end 1 (played-answered other numbers) (same (run.units + 1) (found_in run.events) few ∙ makes) (omega arith) in
      let units : run.units + 1 - 1 ≡ run.units = omega arith in
      all.1 ∙ (λ i. record { events = run.events; outcome = sym out i; units = units i })
