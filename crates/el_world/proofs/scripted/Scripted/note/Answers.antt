use Rattle.std.proofs.Common.{◌∙◌, ap}
use Rattle.el_world.specs.Scripted.{Script, noted}
use Rattle.el_world.proofs.Inside.{holding-none}
use Rattle.el_world.proofs.scripted.Scripted.note.Goals as goal

pub give-requires-clause-reply : goal.give-requires-clause-reply
give-requires-clause-reply c =
    holding-none (noted c.args.self.now c.args.event c.args.failed) c.self.inside.next_pid c.self.inside.next_handle (ap (λ (s : Script). s.next_pid) c.self.view_is) (ap (λ (s : Script). s.next_handle) c.self.view_is) ∙ c.requires

pub returns-clause-ok : goal.returns-clause-ok
returns-clause-ok c =
    c.in_ok-give.ensures.ok ∙ holding-none (noted c.args.self.now c.args.event c.args.failed) c.self.inside.next_pid c.self.inside.next_handle (ap (λ (s : Script). s.next_pid) c.self.view_is) (ap (λ (s : Script). s.next_handle) c.self.view_is)
