-- Tasks that make events that are alike.
use Rattle.el_room.proofs.Vocabulary.{Vars, Event, Fault, Handle, Pid, StartFault, event_of, Found, start, write, Act, and_do, gives, takes, calls, and_then, and_go_on, Outcome, given, ended, starved, Made, made, after_event, End, Task, go_on-then, by_outcome, made-then}
use Rattle.std.proofs.Common.{◌≡◌, ℕ, zero, suc, List, [], ◌∷◌, ◌++◌, Option, Result, refl, sym, ◌∙◌, subst}
use Rattle.el_world.specs.Calls.{start_answer, write_answer}
use Rattle.el_world.proofs.Algebra.{do-go_on}
use Rattle.el_upgrade.specs.Alike.{Alike, the_same, AllAlike, MadeAlike}

-- ---- what is made

all-same : (events : List Event) → AllAlike events events
all-same [] = tt
all-same (event ∷ events) = (the_same refl, all-same events)

all-append : (one other more others : List Event) → AllAlike one other → AllAlike more others → AllAlike (one ++ more) (other ++ others)
all-append [] [] more others h k = k
all-append [] (like ∷ other) more others h k = absurd h
all-append (event ∷ one) [] more others h k = absurd h
all-append (event ∷ one) (like ∷ other) more others h k = (h.0, all-append one other more others h.1 k)

module _ {A : Type 0} where
  made-same : (one : Made End A) → MadeAlike one one
  made-same one = record { events = all-same one.events; outcome = refl; units = refl; left = refl }

  made-as : {one new other like : Made End A} → one ≡ new → other ≡ like → MadeAlike one other → MadeAlike new like
  made-as {one} {new} {other} {like} e d h = subst (λ made. MadeAlike made like) e (subst (MadeAlike one) d h)

  made-after : (event like : Event) (one other : Made End A) → Alike event like → MadeAlike one other → MadeAlike (after_event event one) (after_event like other)
  made-after event like one other h k = record { events = (h, k.events); outcome = k.outcome; units = k.units; left = k.left }

-- ---- tasks

module _ {A : Type 0} where
  -- two tasks make what is alike, with whatever units and answers
  pub record TasksAlike (one other : Task A) : Type 0 where
    pub made_alike : (units : ℕ) (found : List Found) → MadeAlike (made one units found) (made other units found)

  pub alike-same : {task : Task A} → TasksAlike task task
  alike-same {task} = record { made_alike = λ units found. made-same (made task units found) }

  pub alike-is : {one other : Task A} → one ≡ other → TasksAlike one other
  alike-is {one} {other} e = subst (TasksAlike one) e alike-same

  -- the tasks written in another way
  pub alike-as : {one new other like : Task A} → one ≡ new → other ≡ like → TasksAlike one other → TasksAlike new like
  alike-as {one} {new} {other} {like} e d h = subst (λ task. TasksAlike task like) e (subst (TasksAlike one) d h)

  pub alike-takes : {end : End} {one other : Task A} → TasksAlike one other → TasksAlike (takes end one) (takes end other)
  alike-takes {end} {one} {other} h = record { made_alike = by }
    where
      by : (units : ℕ) (found : List Found) → MadeAlike (made (takes end one) units found) (made (takes end other) units found)
      by zero found = made-same (made (takes end one) 0 found)
      by (suc units) found = h.made_alike units found

  -- behind starts that are alike, whatever they answer
  pub alike-start : {one other : List (List ℕ)} {env : Vars} {dir : List ℕ} {streams : List (Option Handle)} {f g : Result Pid StartFault → Task A}
      → ((answer : Result Pid StartFault) → Alike (event_of (start one env dir streams) answer) (event_of (start other env dir streams) answer))
      → ((answer : Result Pid StartFault) → TasksAlike (f answer) (g answer)) → TasksAlike (calls (start one env dir streams) f) (calls (start other env dir streams) g)
  alike-start {one} {other} {env} {dir} {streams} {f} {g} like h = record { made_alike = by }
    where
      by : (units : ℕ) (found : List Found) → MadeAlike (made (calls (start one env dir streams) f) units found) (made (calls (start other env dir streams) g) units found)
      by units (start_answer answer ∷ found) =
          made-after (event_of (start one env dir streams) answer) (event_of (start other env dir streams) answer) (made (f answer) units found) (made (g answer) units found) (like answer) ((h answer).made_alike units found)
      by units found = made-same (record { events = []; outcome = starved; units = units; left = found })

  -- behind writes that are alike
  pub alike-write : {handle : Handle} {one other : List ℕ} {f g : Result (Unit {0}) Fault → Task A} → ((answer : Result (Unit {0}) Fault) → Alike (event_of (write handle one) answer) (event_of (write handle other) answer))
      → ((answer : Result (Unit {0}) Fault) → TasksAlike (f answer) (g answer)) → TasksAlike (calls (write handle one) f) (calls (write handle other) g)
  alike-write {handle} {one} {other} {f} {g} like h = record { made_alike = by }
    where
      by : (units : ℕ) (found : List Found) → MadeAlike (made (calls (write handle one) f) units found) (made (calls (write handle other) g) units found)
      by units (write_answer answer ∷ found) = made-after (event_of (write handle one) answer) (event_of (write handle other) answer) (made (f answer) units found) (made (g answer) units found) (like answer) ((h answer).made_alike units found)
      by units found = made-same (record { events = []; outcome = starved; units = units; left = found })

module _ {A B : Type 0} where
  -- tasks that are alike, and then such by the same result
  pub alike-then : {one other : Task A} {f g : A → Task B} → TasksAlike one other → ((a : A) → TasksAlike (f a) (g a)) → TasksAlike (and_then one f) (and_then other g)
  alike-then {one} {other} {f} {g} h k = record {
    made_alike = λ units found.
        let m = h.made_alike units found in
        let first : Made End A = made one units found in
        let second : Made End A = made other units found in
        let same : by_outcome g second.events first.outcome first.units first.left ≡ by_outcome g second.events second.outcome second.units second.left = λ i. by_outcome g second.events (m.outcome i) (m.units i) (m.left i) in
        made-as (sym (made-then f one units found)) (same ∙ sym (made-then g other units found)) (by first.events second.events first.outcome first.units first.left m.events);
  }
    where
      by : (events others : List Event) (out : Outcome End A) (units : ℕ) (left : List Found) → AllAlike events others → MadeAlike (by_outcome f events out units left) (by_outcome g others out units left)
      by events others (given a) units left e =
          let next = (k a).made_alike units left in
          record { events = all-append events others (made (f a) units left).events (made (g a) units left).events e next.events; outcome = next.outcome; units = next.units; left = next.left }
      by events others (ended end) units left e = record { events = e; outcome = refl; units = refl; left = refl }
      by events others starved units left e = record { events = e; outcome = refl; units = refl; left = refl }

-- ---- acts

module _ {A : Type 0} where
  -- acts are alike as tasks that give their result
  pub record ActsAlike (one other : Act A) : Type 0 where
    pub tasks : TasksAlike (and_go_on one gives) (and_go_on other gives)

  pub acts-same : {one : Act A} → ActsAlike one one
  acts-same = record { tasks = alike-same }

module _ {A B : Type 0} where
  given-on : (first : Act A) (f : A → Task B) → and_then (and_go_on first gives) f ≡ and_go_on first f
  unfolding and_then
  given-on first f = go_on-then first gives f

  -- acts that are alike, and then tasks by the same result
  pub alike-act : {one other : Act A} {f g : A → Task B} → ActsAlike one other → ((a : A) → TasksAlike (f a) (g a)) → TasksAlike (and_go_on one f) (and_go_on other g)
  alike-act {one} {other} {f} {g} h k = alike-as (given-on one f) (given-on other g) (alike-then h.tasks k)

  -- acts that are alike, and then acts
  pub acts-do : {one other : Act A} {f g : A → Act B} → ActsAlike one other → ((a : A) → ActsAlike (f a) (g a)) → ActsAlike (and_do one f) (and_do other g)
  acts-do {one} {other} {f} {g} h k = record { tasks = alike-as (sym (do-go_on one f gives)) (sym (do-go_on other g gives)) (alike-act h (λ a. let next = k a in next.tasks)) }
