use Rattle.std.proofs.Common.{◌≡◌, ◌-◌, length, ap, ◌∙◌, Err, arith}
use Rattle.el_test.specs.declared.walking.Standing.TheVariants.{Settled}
use Rattle.el_test.specs.Walking.{fresh}
use Rattle.el_test.proofs.Endings.{with_result, accepted, refused, told_nothing}
use Rattle.el_test.proofs.call.check.Goals as goal

pub returns-in-Ok : goal.returns-in-Ok
returns-in-Ok c = accepted c.args.dir.now c.args.words.now told_nothing told_nothing c.in-Ok.field-0 c.requires (with_result c.args.dir.now c.args.words.now (fresh Settled) told_nothing told_nothing _ _ c.in-Ok.is c.walk.ensures)

pub returns-in-Err-Wrong : goal.returns-in-Err-Wrong
returns-in-Err-Wrong c =
    let found = refused c.args.dir.now c.args.words.now told_nothing told_nothing c.in-Err-Wrong.stop c.requires (with_result c.args.dir.now c.args.words.now (fresh Settled) told_nothing told_nothing _ _ (c.in-Err-Wrong.is ∙ ap Err c.in-Err-Wrong.field-0-is) c.walk.ensures) in
    let place : length c.args.words.now - c.in-Err-Wrong.stop.left ≡ c.saturating_sub.result = omega arith in
    found ∙ ap (λ at. Err (record { kind = c.in-Err-Wrong.stop.kind; at = at })) place
