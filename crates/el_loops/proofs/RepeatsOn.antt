-- Turns of loopwhilex that are under way.
use Rattle.el_room.proofs.Vocabulary.{IsErrAnd, name_text, Loopwhilex, Ended, Finish, Spent, Seen, takes, and_then, State, Task, Follows, plan_stopped, follows_exit, follows_spent, child, code_of, most_units, Read, Way, onward}
use Rattle.std.proofs.Common.{◌≡◌, ℕ, suc, ◌-◌, ◌<◌, ◌^◌, true, false, Result, Ok, Err, subst, arith}
use Rattle.el_world.specs.declared.finish.Finish.TheVariants.{Status}
use Rattle.el_world.specs.States as end
use Rattle.el_loops.specs.Loopwhilex.{goes_on_behind, after_turn, repeating}
use Rattle.el_loops.proofs.Leads.{Leads, leads_then, leads_unit}

-- whatever follows from here, with fewer units than turns, follows the start
pub record RepeatsOn (before now : Seen) (read : Read) (state : State) (start units : ℕ) : Type 0 where
  pub turns : ℕ
  pub enough : units < turns
  pub on : Leads (Unit {0}) before now (repeating most_units read state) start (repeating turns read state) units state

pub begun : (world : Seen) (read : Read) (state : State) (start : ℕ) → start < 2 ^ 64 → RepeatsOn world world read state start start
unfolding most_units
begun world read state start below = record { turns = most_units; enough = below; on = record { rest = λ new result gives left p. p } }

-- what is left behind a child
abbrev behind : (read : Read) (state : State) (turns : ℕ) → Ended → Task Way
behind read state turns = λ ended. after_turn state read (repeating turns read state) (code_of ended)

-- how the code comes out of all turns
abbrev Comes : (before new : Seen) → Read → (start : ℕ) → Result (Unit {0}) Finish → State → (left : ℕ) → Type 0
Comes before new read start result state left = Follows before new (repeating most_units read state) start result (λ _. onward state) state left

module _ {before now : Seen} {read : Read} {state : State} {start units : ℕ} (on : RepeatsOn before now read state start units) where
  -- one more turn is left
  one_more : (turns : ℕ) × (units < suc turns) × Leads (Unit {0}) before now (repeating most_units read state) start (takes (end.Spent state) (and_then (child state (name_text Loopwhilex) read.rest) (behind read state turns))) units state
  unfolding repeating
  one_more = by on.turns on.enough on.on
    where
      by : (turns : ℕ) → units < turns → Leads (Unit {0}) before now (repeating most_units read state) start (repeating turns read state) units state
          → (turns : ℕ) × (units < suc turns) × Leads (Unit {0}) before now (repeating most_units read state) start (takes (end.Spent state) (and_then (child state (name_text Loopwhilex) read.rest) (behind read state turns))) units state
      by Prim.Native.Nat.zero few rest = absurd (omega arith)
      by (suc turns) few rest = (turns, few, rest)

  -- no unit is left
  pub out_of_units : units ≡ 0 → Comes before now read start (Err Spent) state (units - 1)
  out_of_units none =
      let same : units ≡ units - 1 = omega arith in
      subst (λ left. Comes before now read start (Err Spent) state left) same (one_more.2.rest _ _ _ _ (follows_spent none))

  module _ (some : 0 < units) {new : Seen} {left : ℕ} where
    -- the child fails, or memory is wanting
    pub turn_stopped : {finish : Finish} {result : Result (Unit {0}) Finish} → Follows now new (child state (name_text Loopwhilex) read.rest) (units - 1) (Err finish) (λ (ended : Ended). ended) state left → IsErrAnd result (λ e. e ≡ finish)
        → Comes before new read start result state left
    turn_stopped p is = (leads_unit _ one_more.2 some).rest _ _ _ _ (plan_stopped _ p is)

    module _ {ended : Ended} (p : Follows now new (child state (name_text Loopwhilex) read.rest) (units - 1) (Ok ended) (λ ended. ended) state left) where
      -- what is left behind one that ended
      turned : Leads (Unit {0}) before new (repeating most_units read state) start (behind read state one_more.0 ended) left state
      turned = leads_then (behind read state one_more.0) (leads_unit _ one_more.2 some) p

      -- the last turn
      pub turn_ends : goes_on_behind read (code_of ended) ≡ false → Comes before new read start (Err (Status (code_of ended))) state left
      turn_ends last = turned.rest _ _ _ _ (rw last follows_exit)

      -- one of many
      pub turn_passed : goes_on_behind read (code_of ended) ≡ true → left ≡ units - 1 → RepeatsOn before new read state start left
      turn_passed passed is = record { turns = one_more.0; enough = let few = one_more.1 in omega arith; on = rw passed at turned }
