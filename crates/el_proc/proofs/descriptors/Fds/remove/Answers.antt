use Rattle.std.proofs.Common.{◌≡◌, None, cond, length, ap, ◌∙◌, arith}
use Rattle.el_proc.specs.Descriptors.{is_this, without_handle}
use Rattle.el_proc.proofs.Slots.{changed_more, changed_all}
use Rattle.el_proc.proofs.descriptors.Fds.remove.Goals as goal

pub loop-number-preserved : goal.loop-number-preserved
loop-number-preserved c =
    changed_more (λ held. cond (is_this c.args.handle held) None held) None c.loop-number.number c.self.inside.slots c.loop-number.self-inside.slots _ (omega (arith, c.self.invariant)) c.loop-number.invariant c.unless_this.ensures

pub returns : goal.returns
returns c =
    let all : c.loop-number.number ≡ length c.self.inside.slots = omega (arith, c.self.invariant) in
    c.loop-number.invariant ∙ changed_all (λ held. cond (is_this c.args.handle held) None held) None c.loop-number.number c.self.inside.slots all ∙ ap (λ slots. without_handle slots c.args.handle) c.self.view_is
