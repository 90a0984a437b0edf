-- Turns that are under way.
use Rattle.el_room.proofs.Vocabulary.{drop_more, drop_all, IsErrAnd, Finish, Seen, Task, Follows, plan_stopped, follows_done}
use Rattle.std.proofs.Common.{◌≡◌, ℕ, ◌+◌, ◌<◌, ◌≤◌, List, [], ◌∷◌, length, drop, Result, Ok, Err, Option, None, refl}
use Rattle.std.specs.Prelude.{slice_index_or}
use Rattle.el_loops.specs.declared.turn.Turn.{Turn}
use Rattle.el_loops.specs.Turns.{Looping, turn, turns, turn_code, or_first, first_ending}
use Rattle.el_loops.proofs.Leads.{Leads, leads_then}

-- ---- a turn for each value

module _ {before now : Seen} (looping : Looping) (made : List Turn) {all : Task (List Turn)} (left_values : List (List ℕ)) {start units : ℕ} (on : Leads (Unit {0}) before now all start (turns looping made left_values) units looping.state) where
  module _ {new : Seen} {more : List (List ℕ)} {value : List ℕ} {next : List Turn} {left : ℕ} (is : left_values ≡ value ∷ more) where
    pub one_turned : Follows now new (turn looping made value) units (Ok tt) (λ (_ : Unit {0}). next) looping.state left → Leads (Unit {0}) before new all start (turns looping next more) left looping.state
    unfolding turns
    one_turned p = leads_then (λ made. turns looping made more) (rw is at on) p

    pub turned_last : {finish : Finish} {result : Result (Unit {0}) Finish} → Follows now new (turn looping made value) units (Err finish) (λ (_ : Unit {0}). next) looping.state left → IsErrAnd result (λ e. e ≡ finish)
        → Follows before new all start result (λ _. next) looping.state left
    unfolding turns
    turned_last {result = result} p error = on.rest new result (λ _. next) left (rw is (plan_stopped (λ made. turns looping made more) p error))

  pub all_turned : left_values ≡ [] → Follows before now all start (Ok tt) (λ (_ : Unit {0}). made) looping.state units
  unfolding turns
  all_turned is = on.rest now (Ok tt) (λ _. made) units (rw is (follows_done refl))

-- ---- the codes of turns

module _ {before now : Seen} (looping : Looping) (found : Option ℕ) (all : List Turn) (index : ℕ) {units : ℕ} (on : Leads (Option ℕ) before now (first_ending looping None all) units (first_ending looping found (drop index all)) units looping.state) where
  module _ {new : Seen} {turn : Turn} (default : Turn) (inside : index < length all) (is : turn ≡ slice_index_or all index default) where
    pub one_found : {code : ℕ} → Follows now new (turn_code looping turn) units (Ok code) (λ code. code) looping.state units
        → Leads (Option ℕ) before new (first_ending looping None all) units (first_ending looping (or_first looping.read found code) (drop (index + 1) all)) units looping.state
    unfolding first_ending
    one_found p = leads_then (λ code. first_ending looping (or_first looping.read found code) (drop (index + 1) all)) (rw (drop_more all index default inside) at on) (rw is at p)

    pub found_last : {finish : Finish} {result : Result (Option ℕ) Finish} → Follows now new (turn_code looping turn) units (Err finish) (λ (code : ℕ). code) looping.state units → IsErrAnd result (λ e. e ≡ finish)
        → Follows before new (first_ending looping None all) units result (λ code. code) looping.state units
    unfolding first_ending
    found_last {result = result} p error = on.rest new result (λ code. code) units (rw (drop_more all index default inside) (plan_stopped _ (rw is at p) error))

  pub all_found : length all ≤ index → Follows before now (first_ending looping None all) units (Ok found) (λ code. code) looping.state units
  unfolding first_ending
  all_found end = on.rest now (Ok found) (λ code. code) units (rw (drop_all index all end) (follows_done refl))
