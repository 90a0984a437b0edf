use Rattle.std.proofs.Common.{not, ◌==◌, ◌∙◌, ap, rules}
use Rattle.std.proofs.lemmas.Fn.{filter_same}
use Rattle.el_real.specs.declared.stream.Held.{Held}
use Rattle.el_real.specs.Held.{handles_of, stream_of}
use Rattle.el_real.proofs.Holding.{handles_of-left}
use Rattle.el_real.proofs.Streams.{taken-out}
use Rattle.el_real.proofs.real_world.handles.take_out.Goals as goal

pub returns-clause-handles : goal.returns-clause-handles
returns-clause-handles c =
    ap handles_of (filter_same _ (λ (one : Held). not (one.handle.number == c.args.handle.number)) _ (λ x b f k. search rules) _ _ c.retain.ensures.filtered)
    ∙ handles_of-left c.args.held.now.items c.args.handle

pub returns-clause-streams : goal.returns-clause-streams
returns-clause-streams c =
    λ other. ap (λ held. stream_of held other) (filter_same _ (λ (one : Held). not (one.handle.number == c.args.handle.number)) _ (λ x b f k. search rules) _ _ c.retain.ensures.filtered)
    ∙ taken-out c.args.held.now.items c.args.handle other
