use Rattle.std.proofs.Common.{◌+◌, ap, ◌∙◌, sym, subst}
use Rattle.std.specs.Option.{option_copied}
use Rattle.el_env.proofs.Arguments.{IsReading, none_read, one_read, gap_read, all_read}
use Rattle.el_env.proofs.env.Env.numbered.Goals as goal

pub loop-place-init : goal.loop-place-init
loop-place-init c = subst (IsReading c.args.count 0 c.args.self.now) (sym c.new-args.ensures) (none_read _ _)

pub loop-place-preserved : goal.loop-place-preserved
loop-place-preserved c =
    subst (IsReading c.args.count (c.loop-place.place + 1) c.args.self.now)
    (sym (c.in_ok-push.ensures.ok))
    (one_read _ _ _ _ _ _ c.loop-place-test.true (c.as_bytes.ensures.same ∙ c.in_ok-name.ensures.text) (sym c.get.ensures.value ∙ ap option_copied c.in_ok-arg.ensures.ok_part) c.loop-place.invariant)

pub returns-clause-value : goal.returns-clause-value
returns-clause-value c = all_read _ _ _ _ c.loop-place-test.false c.loop-place.invariant

pub returns-in_err-arg-clause-no_value : goal.returns-in_err-arg-clause-no_value
returns-in_err-arg-clause-no_value c = λ _. gap_read _ _ _ _ _ c.loop-place-test.true (c.as_bytes.ensures.same ∙ c.in_ok-name.ensures.text) (sym c.get.ensures.value ∙ ap option_copied c.in_err-arg.ensures.ok_part) c.loop-place.invariant
