-- How loops go on, and how they end before their input.
use Rattle.el_room.proofs.Vocabulary.{get-insert, slice_cmp-IsAntisymmetric, nat_cmp-IsAntisymmetric, nat_cmp, eq_by_cmp, slice_cmp, nat_list_cmp_total, Vars, Handle, Finish, State, Task, are_usable, Follows, Seen, act_then, Proc, Trouble, state_of, follows_refused, First, read_of, the_text}
use Rattle.std.proofs.Common.{◌≡◌, ℕ, Bool, true, false, cond, if◌then◌else◌, List, Option, Some, Result, Ok, Err, IfOk, refl, sym, ap, ◌∙◌, subst}
use Rattle.std.specs.FinMap as map
use Rattle.std.specs.FinMap.{same_map}
use Rattle.el_pipes.specs.Putting.{puts_values}
use Rattle.el_loops.specs.declared.turning.Loop.{Loop}
use Rattle.el_loops.specs.Turns.{Looping, breaking_off}
use Rattle.el_loops.specs.Loops.{looping_of, env_for_turns, vars_set, CanTurn, AreForTurns, MayTurn, BreaksOff}

-- ---- ends

pub follows_broken : {A B : Type 0} {old new : Seen} {u : ℕ} {f : A → B} {looping : Looping} {trouble : Trouble} {finish : Finish}
    → BreaksOff old new looping trouble finish → Follows old new (breaking_off looping trouble) u (Err finish) f looping.state u
unfolding breaking_off
follows_broken h = act_then _ h.closed (follows_refused h.refused)

-- ---- what turns need

-- where nothing was closed or given
pub can_still : {held now : List Handle} {fds : List (Option Handle)} {each : Loop} → now ≡ held → CanTurn held fds each → CanTurn now fds each
can_still {held} {now} {fds} {each} same can = subst (λ held. CanTurn held fds each) (sym same) can

pub usable_still : {held : List Handle} {fds : List (Option Handle)} {each : Loop} → CanTurn held fds each → are_usable held fds ≡ true
usable_still can = can.usable

-- the process's own variables, as a loop begins with them, are for turns
pub own_vars : (vars : Vars) (looping : Looping) → vars ≡ env_for_turns looping.read looping.state.env → AreForTurns vars looping
own_vars vars looping is = record { same = λ value. ap (λ vars. vars_set looping.read vars value) is ∙ by value (puts_values looping.read) }
  where
    by : (value : List ℕ) (puts : Bool) → (let vars = if puts then map.remove looping.state.env (the_text First looping.read) else looping.state.env in if puts then vars else map.insert vars (the_text First looping.read) value)
        ≡ (if puts then map.remove looping.state.env (the_text First looping.read) else map.insert looping.state.env (the_text First looping.read) value)
    by value true = refl
    by value false = refl

-- what is set twice has the second value
set_again : (vars : Vars) (name one other : List ℕ) → map.insert (map.insert vars name one) name other ≡ map.insert vars name other
set_again vars name one other = same_map nat_list_cmp_total (slice_cmp-IsAntisymmetric nat_cmp-IsAntisymmetric) _ _ (λ q. get-insert nat_list_cmp_total (map.insert vars name one) name other q
    ∙ by q (eq_by_cmp (slice_cmp nat_cmp) q name) refl ∙ sym (get-insert nat_list_cmp_total vars name other q))
  where
    by : (q : List ℕ) (here : Bool) → eq_by_cmp (slice_cmp nat_cmp) q name ≡ here
        → cond (eq_by_cmp (slice_cmp nat_cmp) q name) (Some other) (map.get (map.insert vars name one) q) ≡ cond (eq_by_cmp (slice_cmp nat_cmp) q name) (Some other) (map.get vars q)
    by q true is = rw is refl
    by q false is = rw is (get-insert nat_list_cmp_total vars name one q ∙ ap (λ b. cond b (Some one) (map.get vars q)) is)

-- once it was set in them, they still are
pub still_for_turns : {vars now : Vars} {looping : Looping} (value : List ℕ) → now ≡ vars_set looping.read vars value → AreForTurns vars looping → AreForTurns now looping
still_for_turns {vars} {now} {looping} value is are = record { same = λ other. ap (λ vars. vars_set looping.read vars other) is ∙ by other (puts_values looping.read) ∙ are.same other }
  where
    by : (other : List ℕ) (puts : Bool) → (let now = if puts then vars else map.insert vars (the_text First looping.read) value in if puts then now else map.insert now (the_text First looping.read) other)
        ≡ (if puts then vars else map.insert vars (the_text First looping.read) other)
    by other true = refl
    by other false = set_again vars (the_text First looping.read) value other

-- what the next turn needs is there behind one that didn't end the process
pub may_still : {A : Type 0} (result : Result A Finish) (now : List Handle) (proc : Proc) {held : List Handle} {each : Loop} {before : Proc} {vars set : Vars} (value : List ℕ)
    → MayTurn held each before vars → IfOk result (λ _. CanTurn now proc.fds each) → state_of proc ≡ state_of before → set ≡ vars_set (read_of each.front.now) vars value
    → IfOk result (λ _. MayTurn now each proc set)
may_still (Ok x) now proc {each = each} {before = before} {vars = vars} {set = set} value may can same is = record {
  good = may.good;
  can = can;
  are = subst (λ (s : State). AreForTurns set (looping_of each s)) (sym same) (still_for_turns {looping = looping_of each (state_of before)} value is may.are);
}
may_still (Err e) now proc value may can same is = tt

-- behind what changes neither the handles nor the state
pub may_as : {held now : List Handle} {each : Loop} {before : Proc} (proc : Proc) {vars : Vars} → MayTurn held each before vars → now ≡ held → state_of proc ≡ state_of before → MayTurn now each proc vars
may_as {held} {now} {each} {before} proc {vars} may is same = record {
  good = may.good;
  can = can_still is (subst (λ (s : State). CanTurn held s.fds each) (sym same) may.can);
  are = subst (λ (s : State). AreForTurns vars (looping_of each s)) (sym same) may.are;
}

-- a plan of a process in an equal state
pub plan_as : {A B : Type 0} {now new : Seen} (run : State → Task B) {u : ℕ} {result : Result A Finish} {f : A → B} {here after state : State} {left : ℕ} → here ≡ state → after ≡ here
    → Follows now new (run here) u result f after left → Follows now new (run state) u result f state left
plan_as {now = now} {new = new} run {u} {result} {f} {here} {after} {state} {left} same is p =
    subst (λ (s : State). Follows now new (run s) u result f s left) same (subst (λ (s : State). Follows now new (run here) u result f s left) is p)

pub ruleset breaks = (follows_broken, can_still, usable_still)
