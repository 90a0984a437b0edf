-- A flat run that is under way.
use Rattle.el_room.proofs.Vocabulary.{Prog, program_named, Seen, Event, Finish, takes, given, Does, State, Task, came_out, Follows, plan_then, follows_exit, Next, most_units, Left, way_of, entered, plan_stopped}
use Rattle.std.proofs.Common.{◌≡◌, ◌≢◌, ℕ, suc, ◌<◌, ◌≤◌, ◌^◌, None, Some, Result, Ok, Err, List, [], ◌∷◌, arith, refl, sym, subst}
use Rattle.std.specs.Prelude.{slice_index_or}
use Rattle.el_world.specs.declared.finish.Finish.TheVariants.{Status}
use Rattle.el_world.specs.States as end
use Rattle.el_world.proofs.Units.{does-units}
use Rattle.el_machine.specs.Commands.{last_command}
use Rattle.el_machine.specs.Effects.{effect}
use Rattle.el_machine.specs.Flat.{flat_step, first_program, run_by, flat_within, flat_run}

-- a step answers how it came out
pub follows_way : {now new : Seen} {task : Task Left} {g : Unit {0} → Left} {state : State} {units left : ℕ} {result : Result (Unit {0}) Finish} (next : Next)
    → way_of next ≡ result → Follows now new task units result g state left → Follows now new task units (way_of next) g state left
follows_way next is p = rw is p

-- how code that runs all comes out
abbrev pub Runs : (now new : Seen) → Task ⊥ → (units : ℕ) → Finish → State → (left : ℕ) → Type 0
Runs now new run units finish state left = Follows {A = ⊥} {B = ⊥} now new run units (Err finish) (λ never. never) state left

-- a program takes one unit at least
pub step_falls : {now new : Seen} (program : Prog) (words : List (List ℕ)) (here : State) {state : State} {g : Unit {0} → Left} {units left : ℕ}
    → Follows now new (flat_step program words here) units (Ok tt) g state left → left < units
unfolding flat_step came_out
step_falls program words here {g = g} {units = units} {left = left} p = by units p.ran.events p.ran.agrees
  where
    by : (units : ℕ) (events : List Event) → Does (takes (end.Spent here) (entered (effect program) program words here)) units events (given (g tt)) left → left < units
    by Prim.Native.Nat.zero [] q = let no : ⊥ = let e = q.0 in cc in absurd no
    by Prim.Native.Nat.zero (event ∷ events) q = absurd q
    by (suc units) events q = let h : left ≤ units = does-units (entered (effect program) program words here) units events (given (g tt)) left q in omega arith

-- whatever run goes on from here is a run from the start
pub record RunsOn (before now : Seen) (from : Left) (start : ℕ) (here : Left) (units : ℕ) : Type 0 where
  pub programs : ℕ
  pub enough : units < programs
  pub rest : (new : Seen) (finish : Finish) (state : State) (left : ℕ) → Runs now new (flat_within programs here.words here.state) units finish state left → Runs before new (flat_run from.words from.state) start finish state left

pub begun : {world : Seen} (from : Left) (start : ℕ) → start < 2 ^ 64 → RunsOn world world from start from start
unfolding flat_run most_units
begun from start below = record { programs = most_units; enough = below; rest = λ new finish state left p. p }

-- so many programs are left, and one more
record OneMore (before now : Seen) (from : Left) (start : ℕ) (here : Left) (units : ℕ) : Type 0 where
  programs : ℕ
  enough : units < suc programs
  rest : (new : Seen) (finish : Finish) (state : State) (left : ℕ) → Runs now new (flat_within (suc programs) here.words here.state) units finish state left → Runs before new (flat_run from.words from.state) start finish state left

module _ {before now : Seen} {from : Left} {start : ℕ} {here : Left} {units : ℕ} where
  one_more : RunsOn before now from start here units → OneMore before now from start here units
  one_more on = by on.programs on.enough on.rest
    where
      by : (programs : ℕ) → units < programs
          → ((new : Seen) (finish : Finish) (state : State) (left : ℕ) → Runs now new (flat_within programs here.words here.state) units finish state left → Runs before new (flat_run from.words from.state) start finish state left)
          → OneMore before now from start here units
      by Prim.Native.Nat.zero few rest = absurd (omega arith)
      by (suc programs) few rest = record { programs = programs; enough = few; rest = rest }

  module _ (on : RunsOn before now from start here units) where
    -- the words are over
    pub runs_out : here.words ≡ [] → Runs before now (flat_run from.words from.state) start (Status 0) here.state units
    unfolding flat_within
    runs_out over =
        let more = one_more on in
        more.rest _ _ _ _ (subst (λ words. Runs now now (run_by (first_program words) words here.state (λ left. flat_within more.programs left.words left.state)) units (Status 0) here.state units) (sym over) follows_exit)

    -- the last command
    pub runs_last : {new : Seen} {finish : Finish} {state : State} {left : ℕ} → first_program here.words ≡ None → here.words ≢ []
        → Runs now new (last_command here.words here.state) units finish state left → Runs before new (flat_run from.words from.state) start finish state left
    unfolding flat_within
    runs_last {new} {finish} {state} {left} none some p =
        let more = one_more on in
        more.rest _ _ _ _ (rw none (by here.words some p (λ here'. flat_within more.programs here'.words here'.state)))
      where
        by : (words : List (List ℕ)) → words ≢ [] → Runs now new (last_command words here.state) units finish state left → (next : Left → Task ⊥) → Runs now new (run_by None words here.state next) units finish state left
        by [] some p next = absurd (some refl)
        by (word ∷ words) some p next = p

    module _ {program : Prog} (is : first_program here.words ≡ Some program) where
      -- a program that ends the process
      pub runs_end : {new : Seen} {finish : Finish} {g : Unit {0} → Left} {state : State} {left : ℕ} → Follows now new (flat_step program here.words here.state) units (Err finish) g state left
          → Runs before new (flat_run from.words from.state) start finish state left
      unfolding flat_within
      runs_end p = let more = one_more on in more.rest _ _ _ _ (rw is (plan_stopped _ p refl))

      -- a program that leaves words
      pub runs_on : {new : Seen} {next : Left} {g : Unit {0} → Left} {state : State} {left : ℕ} → g tt ≡ next → Follows now new (flat_step program here.words here.state) units (Ok tt) g state left
          → RunsOn before new from start next left
      unfolding flat_within
      runs_on {next} same p = let more = one_more on in record {
        programs = more.programs;
        enough = let enough = more.enough in let less = step_falls program here.words here.state p in omega arith;
        rest = λ later finish state left q. more.rest later finish state left (rw is (plan_then _ p (rw same q)));
      }

-- the program that a first word names
pub first_of : (words : List (List ℕ)) → words ≢ [] → first_program words ≡ program_named (slice_index_or words 0 [])
first_of [] some = absurd (some refl)
first_of (word ∷ words) some = refl
