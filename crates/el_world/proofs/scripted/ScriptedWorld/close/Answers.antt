use Rattle.std.proofs.Common.{not, ◌==◌, [], ◌∷◌, ◌++◌, drop, filter, ap, subst, ◌∙◌, Some, arith}
use Rattle.el_world.specs.declared.event.Handle.{Handle}
use Rattle.el_world.specs.Scripted.{Script, after_call, Replays}
use Rattle.el_world.specs.Calls.{close}
use Rattle.el_world.specs.World.{extended}
use Rattle.el_world.specs.Handles.{is_held, is_given, without}
use Rattle.el_world.specs.declared.event.Event.TheVariants.{Close}
use Rattle.el_world.proofs.Held.{below_without, held-filter, filter-swap}
use Rattle.el_world.proofs.Inside.{replays-on}
use Rattle.el_world.proofs.scripted.ScriptedWorld.close.Goals as goal

pub take_out-requires : goal.take_out-requires
take_out-requires c = ap (λ (s : Script). is_held s.held c.args.handle) c.self.view_is ∙ held-filter is_given c.args.self.now.held c.args.handle c.requires

pub put_close-requires : goal.put_close-requires
put_close-requires c = omega (arith, c.self.invariant.closes_due, c.take_out.ensures.fewer)

pub invariant_of-self : goal.invariant_of-self
invariant_of-self c =
    let state = (λ i. record { origin = c.self.inside.answers; log = c.put_close.ensures.events i; answers = drop c.self.inside.taken c.self.inside.answers; faults = c.self.inside.faults; held = c.take_out.ensures.items i; next_pid = c.self.inside.next_pid; next_handle = c.self.inside.next_handle }) ∙ ap (λ (s : Script). after_call s (close c.args.handle)) c.self.view_is in
    record {
      taken_within = c.self.invariant.taken_within;
      closes_due = omega (arith, c.self.invariant.closes_due, c.take_out.ensures.fewer, c.put_close.ensures.closes);
      own_below = c.self.invariant.own_below;
      all_below = rw c.take_out.ensures.items (below_without c.self.inside.held.items c.args.handle c.self.inside.next_handle c.self.invariant.all_below);
      replays = replays-on c.args.self.now _ (Close c.args.handle) (subst Replays c.self.view_is c.self.invariant.replays) state (ap (λ (s : Script). s.origin) c.self.view_is)
          (c.put_close.ensures.events ∙ ap (λ (s : Script). s.log ++ Close c.args.handle ∷ []) c.self.view_is);
    }

pub returns-clause-log : goal.returns-clause-log
unfolding extended
returns-clause-log c = ap Some (c.put_close.ensures.events ∙ ap (λ (s : Script). s.log ++ Close c.args.handle ∷ []) c.self.view_is)

pub returns-clause-held : goal.returns-clause-held
returns-clause-held c =
    ap (filter is_given) c.take_out.ensures.items ∙ filter-swap is_given (λ (other : Handle). not (other.number == c.args.handle.number)) c.self.inside.held.items
    ∙ ap (λ (s : Script). without (filter is_given s.held) c.args.handle) c.self.view_is
