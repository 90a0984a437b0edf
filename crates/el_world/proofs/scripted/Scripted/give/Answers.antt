use Rattle.std.proofs.Common.{◌≡◌, [], ◌∷◌, ◌+◌, ◌-◌, ◌^◌, min, ap, subst, ◌∙◌, arith, length, length-append, ◌++◌}
use Rattle.el_world.specs.Scripted.{Script, noted, holding, numbered, Replays}
use Rattle.el_world.proofs.Inside.{one_taken, counted-min, replays-on}
use Rattle.el_world.proofs.Held.{all-append, below_more, is_below}
use Rattle.el_world.proofs.scripted.Scripted.give.Goals as goal

pub returns-clause-ok : goal.returns-clause-ok
returns-clause-ok c =
    let answers = one_taken c.self.inside.taken c.min-self-inside.result c.self.inside.answers c.self.invariant.taken_within (omega (arith, c.len.ensures, c.len.type_inv))
    (c.min-self-inside.ensures ∙ ap (λ n. min n c.len.result) c.saturating_add.ensures ∙ ap (λ n. min (min (c.self.inside.taken + 1) (2 ^ 64 - 1)) n) c.len.ensures) in
    let faults = c.saturating_add-self-inside.ensures ∙ ap (λ n. min (c.self.inside.faults + n) (2 ^ 64 - 1)) c.from.ensures ∙ counted-min c.args.failed c.self.inside.faults (omega (arith, c.self.ranges)) in
    let log = c.put.ensures.events ∙ ap (λ es. es ++ c.args.event ∷ []) c.make_room.ensures.events in
    (λ i. record { origin = c.self.inside.answers; log = log i; answers = answers i; faults = faults i; held = c.in_ok-extend_from_slice.ensures.items i; next_pid = c.args.next_pid; next_handle = c.args.next_handle })
    ∙ ap (λ (s : Script). numbered (holding (noted s c.args.event c.args.failed) c.args.given.now c.args.next_handle) c.args.next_pid) c.self.view_is

pub invariant_of-self : goal.invariant_of-self
invariant_of-self c = rw (c.make_room.ensures.events, c.make_room.ensures.closes) c.self.invariant

pub invariant_of-self-2 : goal.invariant_of-self-2
invariant_of-self-2 c =
    let next : c.self.inside.next_handle ≡ c.args.self.now.next_handle = ap (λ (s : Script). s.next_handle) c.self.view_is in
    let held = ap length c.in_ok-extend_from_slice.ensures.items ∙ length-append c.self.inside.held.items c.args.given.now in
    let answers = one_taken c.self.inside.taken c.min-self-inside.result c.self.inside.answers c.self.invariant.taken_within (omega (arith, c.len.ensures, c.len.type_inv))
    (c.min-self-inside.ensures ∙ ap (λ n. min n c.len.result) c.saturating_add.ensures ∙ ap (λ n. min (min (c.self.inside.taken + 1) (2 ^ 64 - 1)) n) c.len.ensures) in
    let faults = c.saturating_add-self-inside.ensures ∙ ap (λ n. min (c.self.inside.faults + n) (2 ^ 64 - 1)) c.from.ensures ∙ counted-min c.args.failed c.self.inside.faults (omega (arith, c.self.ranges)) in
    let log = c.put.ensures.events ∙ ap (λ es. es ++ c.args.event ∷ []) c.make_room.ensures.events in
    let state = (λ i. record { origin = c.self.inside.answers; log = log i; answers = answers i; faults = faults i; held = c.in_ok-extend_from_slice.ensures.items i; next_pid = c.args.next_pid; next_handle = c.args.next_handle })
    ∙ ap (λ (s : Script). numbered (holding (noted s c.args.event c.args.failed) c.args.given.now c.args.next_handle) c.args.next_pid) c.self.view_is in
    record {
      taken_within = omega arith;
      closes_due = omega (arith, held, c.self.invariant.closes_due, c.put.ensures.closes, c.make_room.ensures.closes);
      own_below = omega arith;
      all_below = rw c.in_ok-extend_from_slice.ensures.items (all-append (is_below c.args.next_handle) c.self.inside.held.items c.args.given.now (below_more c.self.inside.held.items c.self.inside.next_handle c.args.next_handle (omega arith) c.self.invariant.all_below) c.requires.below);
      replays = replays-on c.args.self.now _ c.args.event (subst Replays c.self.view_is c.self.invariant.replays) (state ∙ c.requires.reply) (ap (λ (s : Script). s.origin) c.self.view_is)
          (log ∙ ap (λ (s : Script). s.log ++ c.args.event ∷ []) c.self.view_is);
    }
