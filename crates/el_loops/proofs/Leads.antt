-- Plans that are under way.
use Rattle.el_room.proofs.Vocabulary.{Finish, Seen, Act, takes, and_then, and_go_on, Done, State, End, Task, Follows, act_then, unit_then, plan_then}
use Rattle.std.proofs.Common.{ℕ, ◌-◌, ◌<◌, Some, Result, Ok}

-- whatever follows what is left of a plan follows all of it
pub record Leads (A : Type 0) {B : Type 0} (before now : Seen) (all : Task B) (start : ℕ) (left : Task B) (units : ℕ) (state : State) : Type 0 where
  pub rest : (new : Seen) (result : Result A Finish) (gives : A → B) (unused : ℕ) → Follows now new left units result gives state unused → Follows before new all start result gives state unused

module _ {A B : Type 0} {before now : Seen} {all : Task B} {start units : ℕ} {state : State} where
  -- behind a plan
  pub leads_then : {mid : Seen} {X C : Type 0} {run : Task C} (next : C → Task B) {g : X → C} {x : X} {earlier : State} {left : ℕ}
      → Leads A before now all start (and_then run next) units state → Follows now mid run units (Ok x) g earlier left → Leads A before mid all start (next (g x)) left state
  leads_then next on p = record { rest = λ new result gives unused q. on.rest new result gives unused (plan_then next p q) }

  -- behind an act
  pub leads_act : {mid : Seen} {X : Type 0} {act : Act X} (next : X → Task B) {x : X} → Leads A before now all start (and_go_on act next) units state → Done now mid act (Some x) → Leads A before mid all start (next x) units state
  leads_act next on p = record { rest = λ new result gives unused q. on.rest new result gives unused (act_then next p q) }

  -- behind a unit
  pub leads_unit : (end : End) {run : Task B} → Leads A before now all start (takes end run) units state → 0 < units → Leads A before now all start run (units - 1) state
  leads_unit end on some = record { rest = λ new result gives unused q. on.rest new result gives unused (unit_then end some q) }
