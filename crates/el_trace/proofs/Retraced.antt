-- What is made on recorded answers, where a run over a world that replays them is known.
use Rattle.el_room.proofs.Vocabulary.{Event, Call, AnswerOf, call_of, event_of, Found, found_in, taken, start, wait, open_file, pipe, feed, read, write, close, enter, Plan, gives, ends, takes, calls, Outcome, starved, made, answered, Does}
use Rattle.std.proofs.Common.{◌≡◌, inl, inr, ℕ, suc, List, [], ◌∷◌, Option, None, Some, refl, sym, ap, subst, ◌∙◌}
use Rattle.el_trace.specs.Agreeing.{AgreeUpto}
use Rattle.el_trace.specs.Replays.{Retraces}

-- the call of a call's event
pub call_back : (call : Call) (answer : AnswerOf call) → call_of (event_of call answer) ≡ call
call_back (start words env dir streams) answer = refl
call_back (wait pid) answer = refl
call_back (open_file dir path mode) answer = refl
call_back pipe answer = refl
call_back (feed bytes) answer = refl
call_back (read handle) answer = refl
call_back (write handle bytes) answer = refl
call_back (close handle) answer = refl
call_back (enter dir path) answer = refl

-- the answer that was found is taken first
pub take_back : (call : Call) (answer : AnswerOf call) (events : List Event) → taken call (found_in (event_of call answer ∷ events)) ≡ Some (answer, found_in events)
take_back (start words env dir streams) answer events = refl
take_back (wait pid) answer events = refl
take_back (open_file dir path mode) answer events = refl
take_back pipe answer events = refl
take_back (feed bytes) answer events = refl
take_back (read handle) answer events = refl
take_back (write handle bytes) answer events = refl
take_back (close handle) answer events = refl
take_back (enter dir path) answer events = refl

module _ {E A : Type 0} where
  -- what a call makes of recorded events, of which the first is its own
  made-first : (call : Call) (after : AnswerOf call → Plan E A) (u : ℕ) (recorded : List Event) (event : Event) (answer : AnswerOf call) → event ≡ event_of call answer
      → (made (calls call after) u (found_in (event ∷ recorded))).events ≡ event ∷ (made (after answer) u (found_in recorded)).events
  made-first call after u recorded event answer is =
      ap (λ (first : Event). (made (calls call after) u (found_in (first ∷ recorded))).events) is
      ∙ ap (λ (next : Option (AnswerOf call × List Found)). (answered call (λ answer left. made (after answer) u left) u (found_in (event_of call answer ∷ recorded)) next).events) (take_back call answer recorded)
      ∙ ap (λ (first : Event). first ∷ (made (after answer) u (found_in recorded)).events) (sym is)

  made-first-outcome : (call : Call) (after : AnswerOf call → Plan E A) (u : ℕ) (recorded : List Event) (event : Event) (answer : AnswerOf call) → event ≡ event_of call answer
      → (made (calls call after) u (found_in (event ∷ recorded))).outcome ≡ (made (after answer) u (found_in recorded)).outcome
  made-first-outcome call after u recorded event answer is =
      ap (λ (first : Event). (made (calls call after) u (found_in (first ∷ recorded))).outcome) is
      ∙ ap (λ (next : Option (AnswerOf call × List Found)). (answered call (λ answer left. made (after answer) u left) u (found_in (event_of call answer ∷ recorded)) next).outcome) (take_back call answer recorded)

  -- where another call is recorded, the first event made is not that one
  parted : (call : Call) (after : AnswerOf call → Plan E A) (u : ℕ) (recorded : List Event) (event : Event) → (call_of event ≡ call → ⊥) → AgreeUpto 0 (event ∷ recorded) (made (calls call after) u (found_in (event ∷ recorded))).events
  parted call after u recorded event other = by (taken call (found_in (event ∷ recorded)))
    where
      by : (next : Option (AnswerOf call × List Found)) → AgreeUpto 0 (event ∷ recorded) (answered call (λ answer left. made (after answer) u left) u (found_in (event ∷ recorded)) next).events
      by None = tt
      by (Some next) = λ same. other (ap call_of same ∙ call_back call next.0)

  -- The plan did these events over a world that retraced the recorded ones. What it makes on the recorded answers agrees with the recorded
  -- events just as far as these do.
  pub agree_alike : (plan : Plan E A) (u : ℕ) (own : List Event) (out : Outcome E A) (v : ℕ) → Does plan u own out v → (recorded : List Event) → Retraces recorded own → (at : ℕ) → AgreeUpto at recorded own
      → AgreeUpto at recorded (made plan u (found_in recorded)).events
  agree_alike (gives a) u [] out v does recorded retraces at agree = agree
  agree_alike (gives a) u (event ∷ own) out v does recorded retraces at agree = absurd does
  agree_alike (ends end) u [] out v does recorded retraces at agree = agree
  agree_alike (ends end) u (event ∷ own) out v does recorded retraces at agree = absurd does
  agree_alike (takes end plan) Prim.Native.Nat.zero [] out v does recorded retraces at agree = agree
  agree_alike (takes end plan) Prim.Native.Nat.zero (event ∷ own) out v does recorded retraces at agree = absurd does
  agree_alike (takes end plan) (suc u) own out v does recorded retraces at agree = agree_alike plan u own out v does recorded retraces at agree
  agree_alike (calls call after) u [] out v does recorded retraces at agree = absurd does
  agree_alike (calls call after) u (event ∷ own) out v does [] retraces Prim.Native.Nat.zero agree = tt
  agree_alike (calls call after) u (event ∷ own) out v does [] retraces (suc at) agree = absurd agree
  agree_alike (calls call after) u (event ∷ own) out v does (first ∷ recorded) (inl same) Prim.Native.Nat.zero agree = absurd (agree same.0)
  agree_alike (calls call after) u (event ∷ own) out v does (first ∷ recorded) (inl same) (suc at) agree =
      subst (λ (events : List Event). AgreeUpto (suc at) (first ∷ recorded) events) (sym (made-first call after u recorded first does.0 (same.0 ∙ does.1)))
      (refl, agree_alike (after does.0) u own out v does.2 recorded same.1 at agree.1)
  agree_alike (calls call after) u (event ∷ own) out v does (first ∷ recorded) (inr other) Prim.Native.Nat.zero agree =
      parted call after u recorded first (λ same. other (same ∙ sym (ap call_of does.1 ∙ call_back call does.0)))
  agree_alike (calls call after) u (event ∷ own) out v does (first ∷ recorded) (inr other) (suc at) agree = absurd (other (ap call_of agree.0))

  -- Where the plan makes all of the recorded events on their answers and ends, they are those that it did.
  pub all_retraced : (plan : Plan E A) (u : ℕ) (own : List Event) (out : Outcome E A) (v : ℕ) → Does plan u own out v → (recorded : List Event) → Retraces recorded own
      → (made plan u (found_in recorded)).events ≡ recorded → ((made plan u (found_in recorded)).outcome ≡ starved → ⊥) → recorded ≡ own
  all_retraced (gives a) u [] out v does recorded retraces same fed = sym same
  all_retraced (gives a) u (event ∷ own) out v does recorded retraces same fed = absurd does
  all_retraced (ends end) u [] out v does recorded retraces same fed = sym same
  all_retraced (ends end) u (event ∷ own) out v does recorded retraces same fed = absurd does
  all_retraced (takes end plan) Prim.Native.Nat.zero [] out v does recorded retraces same fed = sym same
  all_retraced (takes end plan) Prim.Native.Nat.zero (event ∷ own) out v does recorded retraces same fed = absurd does
  all_retraced (takes end plan) (suc u) own out v does recorded retraces same fed = all_retraced plan u own out v does recorded retraces same fed
  all_retraced (calls call after) u [] out v does recorded retraces same fed = absurd does
  all_retraced (calls call after) u (event ∷ own) out v does [] retraces same fed = by (taken call []) same fed
    where
      by : (next : Option (AnswerOf call × List Found)) → (answered call (λ answer left. made (after answer) u left) u [] next).events ≡ []
          → ((answered call (λ answer left. made (after answer) u left) u [] next).outcome ≡ starved → ⊥) → [] ≡ event ∷ own
      by None same fed = absurd (fed refl)
      by (Some next) same fed = absurd (cc)
  all_retraced (calls call after) u (event ∷ own) out v does (first ∷ recorded) (inl same) all fed =
      let is = same.0 ∙ does.1 in
      let rest : (made (after does.0) u (found_in recorded)).events ≡ recorded = tail (sym (made-first call after u recorded first does.0 is) ∙ all) in
      λ i. same.0 i ∷ all_retraced (after does.0) u own out v does.2 recorded same.1 rest (λ none. fed (made-first-outcome call after u recorded first does.0 is ∙ none)) i
    where
      tail : {one other : Event} {ones others : List Event} → one ∷ ones ≡ other ∷ others → ones ≡ others
      tail same = cc
  all_retraced (calls call after) u (event ∷ own) out v does (first ∷ recorded) (inr other) all fed =
      absurd (by (taken call (found_in (first ∷ recorded))) all)
    where
      by : (next : Option (AnswerOf call × List Found)) → (answered call (λ answer left. made (after answer) u left) u (found_in (first ∷ recorded)) next).events ≡ first ∷ recorded → ⊥
      by None same = cc
      by (Some next) same =
          let head : event_of call next.0 ≡ first = cc in
          other (ap call_of (sym head) ∙ call_back call next.0 ∙ sym (ap call_of does.1 ∙ call_back call does.0))
