-- What the top call makes over a world in memory is the course of its plan.
use Rattle.std.proofs.Common.{◌≡◌, ℕ, suc, List, [], ◌∷◌, ◌++◌, true, true≢false, Some, refl, sym, ap, subst, ◌∙◌, append-nil, append_assoc}
use Rattle.std.specs.Prelude.{map}
use Rattle.std.proofs.lemmas.List.{append_cancel_left}
use Rattle.el_world.specs.declared.answer.Answer.{Answer}
use Rattle.el_world.specs.declared.event.Event.{Event}
use Rattle.el_world.specs.declared.finish.Finish.{Finish}
use Rattle.el_world.specs.declared.finish.Finish.TheVariants.{Status, Spent, NoMemory}
use Rattle.el_world.specs.Calls.{Call, AnswerOf, event_of, call_of, start, wait, open_file, pipe, feed, read, write, close, enter}
use Rattle.el_world.specs.Plans.{Plan, gives, ends, takes, calls, ended, Does}
use Rattle.el_world.specs.World.{extended, answering}
use Rattle.el_world.specs.Runs.{RanWith, Tells, PlanAgrees}
use Rattle.el_world.specs.Scripted.{Script, seen_of, begun, reply_to, after_call, after_calls, Replays}
use Rattle.el_app.specs.Calls.{Ending, status, spent, execline_call, outcome_of}
use Rattle.el_family.specs.Processes.{Process}
use Rattle.el_family.specs.Courses.{finish_of, behind_event, course_of, with_budget, run_with, has_ended, IsRunOf, AreAnsweredFrom}

-- ---- the log of a world that answers from a list

log-after : (world : Script) (call : Call) → (after_call world call).log ≡ world.log ++ event_of call (reply_to world call) ∷ []
log-after world (start words env dir streams) = refl
log-after world (wait pid) = refl
log-after world (open_file dir path mode) = refl
log-after world pipe = refl
log-after world (feed bytes) = refl
log-after world (read handle) = refl
log-after world (write handle bytes) = refl
log-after world (close handle) = refl
log-after world (enter dir path) = refl

-- a world only adds to its log
log-grows : (world : Script) (many : List Call) → (more : List Event) × ((after_calls world many).log ≡ world.log ++ more)
log-grows world [] = ([], sym (append-nil world.log))
log-grows world (call ∷ many) =
    let rest = log-grows (after_call world call) many in
    let event = event_of call (reply_to world call) in
    (event ∷ rest.0, rest.1 ∙ ap (λ log. log ++ rest.0) (log-after world call) ∙ append_assoc world.log (event ∷ []) rest.0)

call-of_event : (call : Call) (answer : AnswerOf call) → call_of (event_of call answer) ≡ call
call-of_event (start words env dir streams) answer = refl
call-of_event (wait pid) answer = refl
call-of_event (open_file dir path mode) answer = refl
call-of_event pipe answer = refl
call-of_event (feed bytes) answer = refl
call-of_event (read handle) answer = refl
call-of_event (write handle bytes) answer = refl
call-of_event (close handle) answer = refl
call-of_event (enter dir path) answer = refl

same-answer : (call : Call) (one other : AnswerOf call) → event_of call one ≡ event_of call other → one ≡ other
same-answer (start words env dir streams) one other e = let same : one ≡ other = cc in same
same-answer (wait pid) one other e = let same : one ≡ other = cc in same
same-answer (open_file dir path mode) one other e = let same : one ≡ other = cc in same
same-answer pipe one other e = let same : one ≡ other = cc in same
same-answer (feed bytes) one other e = let same : one ≡ other = cc in same
same-answer (read handle) one other e = let same : one ≡ other = cc in same
same-answer (write handle bytes) one other e = let same : one ≡ other = cc in same
same-answer (close handle) one other e = refl
same-answer (enter dir path) one other e = let same : one ≡ other = cc in same

-- where the log is what the calls give, the first answer is the one that was due, and the rest of the log is what the other calls give
first_reply : (world : Script) (call : Call) (answer : AnswerOf call) (event : Event) (events : List Event) → event ≡ event_of call answer
    → (after_calls world (map call_of (event ∷ events))).log ≡ world.log ++ event ∷ events
    → (reply_to world call ≡ answer) × ((after_calls (after_call world call) (map call_of events)).log ≡ (after_call world call).log ++ events)
first_reply world call answer event events is told =
    let others = map call_of events in
    let next = after_call world call in
    let replied = event_of call (reply_to world call) in
    let told_next : (after_calls next others).log ≡ world.log ++ event ∷ events =
    subst (λ c. (after_calls (after_call world c) others).log ≡ world.log ++ event ∷ events) (ap call_of is ∙ call-of_event call answer) told in
    let grows = log-grows next others in
    let both : replied ∷ grows.0 ≡ event ∷ events =
    append_cancel_left world.log _ _ (sym (ap (λ log. log ++ grows.0) (log-after world call) ∙ append_assoc world.log (replied ∷ []) grows.0) ∙ sym grows.1 ∙ told_next) in
    let head : replied ≡ event = cc in
    let tail : grows.0 ≡ events = cc in
    (same-answer call (reply_to world call) answer (head ∙ is), grows.1 ∙ ap (λ more. next.log ++ more) tail)

-- ---- courses

course-does : (plan : Plan Ending ⊥) (units : ℕ) (world : Script) (events : List Event) (end : Ending) (left : ℕ) → Does plan units events (ended end) left
    → (after_calls world (map call_of events)).log ≡ world.log ++ events → course_of plan units world ≡ record { events = events; finish = finish_of end }
course-does (gives never) units world events end left p told = absurd never
course-does (ends other) units world [] end left p told = let same : other ≡ end = let e = p.0 in cc in ap (λ end. record { events = []; finish = finish_of end }) same
course-does (ends other) units world (event ∷ events) end left p told = absurd p
course-does (takes other plan) Prim.Native.Nat.zero world [] end left p told = let same : other ≡ end = let e = p.0 in cc in ap (λ end. record { events = []; finish = finish_of end }) same
course-does (takes other plan) Prim.Native.Nat.zero world (event ∷ events) end left p told = absurd p
course-does (takes other plan) (suc units) world events end left p told = course-does plan units world events end left p told
course-does (calls call after) units world [] end left p told = absurd p
course-does (calls call after) units world (event ∷ events) end left p told =
    let next = after_call world call in
    let first = first_reply world call p.0 event events p.1 told in
    ap (λ answer. behind_event (event_of call answer) (course_of (after answer) units next)) first.0
    ∙ ap (λ event. behind_event event (course_of (after p.0) units next)) (sym p.1)
    ∙ ap (behind_event event) (course-does (after p.0) units next events end left p.2 first.1)

-- the world gives the events of a course by its calls
course-answered : (plan : Plan Ending ⊥) (units : ℕ) (world : Script) → (after_calls world (map call_of (course_of plan units world).events)).log ≡ world.log ++ (course_of plan units world).events
course-answered (gives never) units world = absurd never
course-answered (ends end) units world = sym (append-nil world.log)
course-answered (takes end plan) Prim.Native.Nat.zero world = sym (append-nil world.log)
course-answered (takes end plan) (suc units) world = course-answered plan units world
course-answered (calls call after) units world =
    let reply = reply_to world call in
    let event = event_of call reply in
    let rest = course_of (after reply) units (after_call world call) in
    ap (λ c. (after_calls (after_call world c) (map call_of rest.events)).log) (call-of_event call reply)
    ∙ course-answered (after reply) units (after_call world call)
    ∙ ap (λ log. log ++ rest.events) (log-after world call)
    ∙ append_assoc world.log (event ∷ []) rest.events

pub answered_from : (process : Process) (answers : List Answer) (budget : ℕ) → AreAnsweredFrom answers (run_with process answers budget).events
unfolding run_with
answered_from process answers budget = course-answered (execline_call process.words process.env process.dir) budget (begun answers)

-- ---- a run over a world in memory

module _ (old new : Script) (process : Process) (answers : List Answer) (budget : ℕ) (finish : Finish) (events : List Event) where
  -- which began with no events, took the course of its plan
  pub run_course : RanWith (seen_of old) (seen_of new) (execline_call process.words process.env process.dir) budget (outcome_of finish) → old ≡ begun answers → Replays new → events ≡ new.log → has_ended finish ≡ true
      → record { budget = budget; events = events; finish = finish } ≡ run_with process answers budget
  unfolding extended run_with
  run_course with_left begun_so replays is over =
      let ran = with_left.ran in
      let log : new.log ≡ ran.events = some_inj (ran.added.told ∙ ap (λ (s : Script). Some (s.log ++ ran.events)) begun_so) in
      let origin : new.origin ≡ answers = answers_inj (ran.added.origin ∙ ap (λ (s : Script). answering s.origin) begun_so) in
      let replayed : (after_calls (begun answers) (map call_of ran.events)).log ≡ ran.events =
      sym (sym log ∙ ap (λ (s : Script). s.log) replays.replayed ∙ ap (λ from. (after_calls (begun from) (map call_of new.log)).log) origin ∙ ap (λ es. (after_calls (begun answers) (map call_of es)).log) log) in
      ap (λ es. record { budget = budget; events = es; finish = finish }) (is ∙ log) ∙ sym (ap (with_budget budget) (by finish over ran.events with_left.left ran.agrees replayed))
    where
      some_inj : {one two : List Event} → Some one ≡ Some two → one ≡ two
      some_inj e = cc

      answers_inj : {one two : List Answer} → answering one ≡ answering two → one ≡ two
      answers_inj e = cc

      by : (finish : Finish) → has_ended finish ≡ true → (es : List Event) (left : ℕ) → PlanAgrees (execline_call process.words process.env process.dir) budget es (outcome_of finish) left
          → (after_calls (begun answers) (map call_of es)).log ≡ es → course_of (execline_call process.words process.env process.dir) budget (begun answers) ≡ record { events = es; finish = finish }
      by (Status code) over es left agrees replayed = course-does _ budget (begun answers) es (status code) left agrees replayed
      by Spent over es left agrees replayed = course-does _ budget (begun answers) es spent left agrees replayed
      by NoMemory over es left agrees replayed = absurd (true≢false (sym over))

  -- and told it
  pub run_told : Tells (seen_of old) (seen_of new) (execline_call process.words process.env process.dir) budget (outcome_of finish) → old ≡ begun answers → events ≡ new.log → has_ended finish ≡ true
      → IsRunOf process (record { budget = budget; events = events; finish = finish })
  run_told tells begun_so is over =
      let told = tells.told [] (ap (λ (s : Script). Some s.log) begun_so) in
      let all : Some new.log ≡ Some told.0 = told.1 in
      let same : told.0 ≡ events = cc in
      subst (λ es. IsRunOf process (record { budget = budget; events = es; finish = finish })) same (record { lawful = told.2; ended = over; meant = told.3 })
