-- How a call of elglob goes: its listings, and then its run.
use Rattle.std.proofs.Common.{◌≡◌, inl, inr, ◌∙◌, sym, refl, ap, subst, ℕ, suc, ◌-◌, ◌<◌, true, List, [], ◌∷◌, Some, None, Ok, Err, arith}
use Rattle.std.specs.List.{list_all}
use Rattle.std.proofs.lemmas.Bool.{and_parts, and_from}
use Rattle.el_env.specs.Vars.{Vars}
use Rattle.el_world.specs.declared.finish.Finish.{Finish}
use Rattle.el_world.specs.declared.finish.Finish.TheVariants.{Status, Spent, NoMemory}
use Rattle.el_world.specs.World.{Seen}
use Rattle.el_world.specs.States.{State, Task}
use Rattle.el_world.specs.Follows.{Follows, came_out}
use Rattle.el_world.proofs.Runs.{not_run}
use Rattle.el_world.proofs.Follows.{unit_then, follows_spent, follows_as, follows_tells}
use Rattle.el_proc.specs.declared.trouble.Trouble.TheVariants.{Failed}
use Rattle.el_glob.specs.declared.asked.Asked.{Asked}
use Rattle.el_glob.specs.declared.listed.ListEvent.{ListEvent}
use Rattle.el_glob.specs.declared.refusal.Refusal.TheVariants.{Common}
use Rattle.el_glob.specs.Listers.{ListerSeen, extended, is_lawful, are_lawful}
use Rattle.el_glob.specs.Listings.{Answer, globbed, start_path}
use Rattle.el_glob.specs.Listings as listings
use Rattle.el_glob.specs.Lists.{answers_in, Globs, GlobsShort}
use Rattle.el_glob.specs.Asked.{asked}
use Rattle.el_glob.specs.Elglob.{refusing, put_and_run, run_on, asked_run, elglob_run, lists_for, elglob_lists, first_state}
use Rattle.el_glob.specs.Calls.{AreLists, RunsOn, Globbed, Tells}
use Rattle.el_glob.proofs.Listers.{nothing_added}
use Rattle.el_glob.proofs.Order.{rises-globbed}
use Rattle.el_glob.proofs.Reached.{matched}

-- listings that are just those due
are_lists : (old new : Seen) (result : Finish) (made due : List ListEvent) → due ≡ made → AreLists result made due old new
are_lists old new (Status code) made due is = is
are_lists old new Spent made due is = is
are_lists old new NoMemory made due is = inl is

module _ {lister : ListerSeen} {old new : Seen} {u left : ℕ} {result : Finish} {end : State} where
  -- nothing is listed
  pub runs_without : (run : List Answer → Task ⊥) → Follows {A = ⊥} {B = ⊥} old new (run []) u (Err result) (λ never. never) end left → RunsOn lister lister old new (λ answers. []) run u result end left
  runs_without run h = record { events = []; added = nothing_added lister; due = are_lists _ _ result [] [] refl; follows = h }

-- want of memory before all
pub runs_nothing : {lister : ListerSeen} {world : Seen} {u : ℕ} {state : State} (lists : List Answer → List ListEvent) (run : List Answer → Task ⊥) → RunsOn lister lister world world lists run u NoMemory state u
unfolding came_out
runs_nothing {lister = lister} lists run = record { events = []; added = nothing_added lister; due = inr (record { later = lists []; begun = refl; nothing = refl }); follows = record { ran = not_run; spent = λ e. absurd (cc) } }

-- ---- the unit

pub runs_spent : {lister : ListerSeen} {world : Seen} (u : ℕ) (words : List (List ℕ)) (state : State) → u ≡ 0 → RunsOn lister lister world world (elglob_lists u state.dir words) (λ answers. elglob_run words answers state) u Spent state u
unfolding elglob_run
runs_spent {lister = lister} u words state none = record { events = []; added = nothing_added lister; due = by u none; follows = follows_spent none } where
  by : (u : ℕ) → u ≡ 0 → elglob_lists u state.dir words [] ≡ []
  by Prim.Native.Nat.zero none = refl
  by (suc u) none = absurd (omega arith)

pub runs_unit : {lister_old lister_new : ListerSeen} {old new : Seen} {left : ℕ} {result : Finish} {end : State} (u : ℕ) (words : List (List ℕ)) (state : State) → 0 < u
    → RunsOn lister_old lister_new old new (lists_for state.dir (asked words)) (λ answers. asked_run (asked words) answers state) (u - 1) result end left
    → RunsOn lister_old lister_new old new (elglob_lists u state.dir words) (λ answers. elglob_run words answers state) u result end left
unfolding elglob_run
runs_unit {old = old} {new = new} {result = result} u words state some h = record { events = h.events; added = h.added; due = by u some h.due; follows = unit_then _ some h.follows } where
  by : (u : ℕ) → 0 < u → AreLists result h.events (lists_for state.dir (asked words) (answers_in h.events)) old new → AreLists result h.events (elglob_lists u state.dir words (answers_in h.events)) old new
  by Prim.Native.Nat.zero some due = absurd (omega arith)
  by (suc u) some due = due

-- ---- what is asked for

module _ {lister_old lister_new : ListerSeen} (asking : Asked) (state : State) where
  pub runs_found : {old new : Seen} {u left : ℕ} {result : Finish} {end : State} (matches : List (List ℕ)) → Globs lister_old lister_new (globbed state.dir asking.pattern) (Some matches)
      → Follows {A = ⊥} {B = ⊥} old new (put_and_run asking matches state) u (Err result) (λ never. never) end left
      → RunsOn lister_old lister_new old new (lists_for state.dir (Ok asking)) (λ answers. asked_run (Ok asking) answers state) u result end left
  unfolding asked_run run_on
  runs_found {result = result} matches g h = record {
    events = g.events;
    added = g.added;
    due = are_lists _ _ result g.events _ (ap (λ (globbed : listings.Globbed). globbed.asked) g.made);
    follows = follows_as (sym (ap (λ (globbed : listings.Globbed). run_on asking globbed.found state) g.made)) h;
  }

  pub runs_failed : {old new : Seen} {u left : ℕ} {result : Finish} {end : State} → Globs lister_old lister_new (globbed state.dir asking.pattern) None
      → Follows {A = ⊥} {B = ⊥} old new (refusing state (Common Failed)) u (Err result) (λ never. never) end left
      → RunsOn lister_old lister_new old new (lists_for state.dir (Ok asking)) (λ answers. asked_run (Ok asking) answers state) u result end left
  unfolding asked_run run_on
  runs_failed {result = result} g h = record {
    events = g.events;
    added = g.added;
    due = are_lists _ _ result g.events _ (ap (λ (globbed : listings.Globbed). globbed.asked) g.made);
    follows = follows_as (sym (ap (λ (globbed : listings.Globbed). run_on asking globbed.found state) g.made)) h;
  }

  pub runs_short : {world : Seen} {u : ℕ} → GlobsShort lister_old lister_new (globbed state.dir asking.pattern)
      → RunsOn lister_old lister_new world world (lists_for state.dir (Ok asking)) (λ answers. asked_run (Ok asking) answers state) u NoMemory state u
  unfolding came_out
  runs_short g = record { events = g.events; added = g.added; due = inr (record { later = g.later; begun = g.begun; nothing = refl }); follows = record { ran = not_run; spent = λ e. absurd (cc) } }

-- ---- from outside

lawful-answers : (events : List ListEvent) → are_lawful events ≡ true → list_all is_lawful (answers_in events) ≡ true
lawful-answers [] is = refl
lawful-answers (event ∷ events) is =
    let both = and_parts (is_lawful event.answer) (are_lawful events) is in and_from (is_lawful event.answer) (list_all is_lawful (answers_in events)) both.0 (lawful-answers events both.1)

pub tells : {lister_old lister_new : ListerSeen} {old new : Seen} {words : List (List ℕ)} {env : Vars} {dir : List ℕ} {units : ℕ} {result : Finish}
    → Globbed lister_old lister_new old new words env dir units result → Tells lister_old lister_new old new words env dir units result
unfolding extended came_out
tells {dir = dir} g = record {
  lists = g.runs.events;
  listed = λ before is. g.runs.added.told ∙ ap (λ log. extended log g.runs.events) is;
  unlisted = λ is. g.runs.added.told ∙ ap (λ log. extended log g.runs.events) is;
  lawful = g.runs.added.lawful;
  due = g.runs.due;
  matched = λ asking is matches found. record {
    all = matched dir asking.pattern (answers_in g.runs.events) matches (lawful-answers g.runs.events g.runs.added.lawful) found;
    rise = rises-globbed dir asking.pattern.parts (start_path asking.pattern.rooted) (answers_in g.runs.events) matches found;
  };
  state = g.state;
  told = follows_tells g.runs.follows;
}

-- a call begins in its first state, with its whole budget
pub called : {lister_old lister_new : ListerSeen} {old new : Seen} {words : List (List ℕ)} {env : Vars} {dir : List ℕ} {units left : ℕ} {result : Finish} {end : State} (start : State) (u : ℕ) → start ≡ first_state env dir → u ≡ units
    → RunsOn lister_old lister_new old new (elglob_lists u start.dir words) (λ answers. elglob_run words answers start) u result end left
    → Globbed lister_old lister_new old new words env dir units result
called {lister_old} {lister_new} {old} {new} {words} {env} {dir} {units} {left} {result} {end} start u same-state same-units h = record {
  state = end;
  left = left;
  runs = subst (λ (u : ℕ). RunsOn lister_old lister_new old new (elglob_lists u dir words) (λ answers. elglob_run words answers (first_state env dir)) u result end left) same-units
      (subst (λ (at : State). RunsOn lister_old lister_new old new (elglob_lists u at.dir words) (λ answers. elglob_run words answers at) u result end left) same-state h);
}
