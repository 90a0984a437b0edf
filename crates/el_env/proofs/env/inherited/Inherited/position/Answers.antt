use Rattle.std.proofs.Common.{◌∙◌, sym, ap}
use Rattle.el_env.specs.Places.{pairs_at}
use Rattle.el_env.specs.Inherited.{value_in}
use Rattle.el_env.proofs.Places.{within_of, one_passed, one_found, all_passed}
use Rattle.el_env.proofs.env.inherited.Inherited.position.Goals as goal

pub is_named-requires : goal.is_named-requires
is_named-requires c = within_of _ _ _ _ _ _ c.deref.ensures.value c.deref-place-items.ensures.value c.loop-at-test.true c.self.invariant.sound

pub loop-at-init : goal.loop-at-init
loop-at-init c = ap (λ ps. value_in c.args.name.now (pairs_at c.self.inside.bytes.items ps)) (sym c.deref-place-items.ensures.value)

pub loop-at-preserved : goal.loop-at-preserved
loop-at-preserved c = c.loop-at.invariant ∙ one_passed _ _ _ _ _ _ c.deref.ensures.value c.loop-at-test.true (sym c.is_named.ensures ∙ c.if-is_named.false)

pub returns-then-is_named-clause-found : goal.returns-then-is_named-clause-found
returns-then-is_named-clause-found c =
    one_found _ _ _ _ _ _ _ _ c.deref.ensures.value c.deref-place-items.ensures.value c.loop-at-test.true (sym c.is_named.ensures ∙ c.if-is_named.true) c.self.view_is c.loop-at.invariant

pub returns-then-not-has-clause-none : goal.returns-then-not-has-clause-none
returns-then-not-has-clause-none c =
    ap (value_in c.args.name.now) (sym c.self.view_is) ∙ c.self.invariant.marked.unmarked c.args.name.now (sym c.has.ensures ∙ c.if-not-has.true)

pub returns-clause-none : goal.returns-clause-none
returns-clause-none c = all_passed _ _ _ _ _ _ c.loop-at-test.false c.self.view_is c.loop-at.invariant
