use Rattle.std.proofs.Common.{◌∙◌, ap, sym, map as mapped}
use Rattle.el_env.specs.Variable.{pair_of}
use Rattle.el_env.specs.Inherited.{listed}
use Rattle.el_env.proofs.Named.{from_entries-entries}
use Rattle.el_env.proofs.Lent.{next_lent, none_next}
use Rattle.el_env.proofs.NoFrames.{not_read, none_seen, one_seen, none_framed}
use Rattle.el_env.proofs.env.Env.has_frames.Goals as goal

pub loop-variable-init : goal.loop-variable-init
loop-variable-init c = none_seen _

pub loop-variable-preserved : goal.loop-variable-preserved
loop-variable-preserved c = one_seen _ _ _ _ (next_lent _ _ c.variable-item.result c.loop-variable-test.true c.variable-item.is)
    (not_read _ c.parse_frame.result _ (sym c.is_some.ensures ∙ c.if-is_some.false) c.parse_frame.ensures) c.loop-variable.invariant

pub returns : goal.returns
returns c = λ _. none_framed _ _ _ (ap (λ vs. listed (mapped pair_of vs)) c.deref-variable-items.ensures.value ∙ ap listed c.in_ok-variables.ensures ∙ from_entries-entries c.args.self.now) (none_next _ _ c.loop-variable-test.false) c.loop-variable.invariant
