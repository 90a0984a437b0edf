use Rattle.std.proofs.Common.{◌∙◌, sym, ap, subst, [], ◌∷◌, ◌++◌, map as mapped}
use Rattle.el_env.specs.Variable.{pair_of}
use Rattle.el_env.specs.Inherited.{AreRising}
use Rattle.el_env.proofs.Places.{within_of, pairs_at-more_taken, all_taken, mapped-push}
use Rattle.el_env.proofs.env.inherited.Inherited.lend.Goals as goal

pub variable-requires-clause-within : goal.variable-requires-clause-within
variable-requires-clause-within c = within_of _ _ _ _ _ _ c.deref.ensures.value c.deref-place-items.ensures.value c.loop-place-test.true c.self.invariant.sound

pub loop-place-init : goal.loop-place-init
loop-place-init c = ap (mapped pair_of) c.in_ok-lent.ensures.items

pub loop-place-preserved : goal.loop-place-preserved
loop-place-preserved c =
    let pair = pair_of c.variable.result in
    ap (mapped pair_of) c.in_ok-push.ensures.items ∙ mapped-push _ c.variable.result ∙ ap (λ ps. ps ++ pair ∷ []) c.loop-place.invariant
    ∙ sym (pairs_at-more_taken _ _ _ _ _ c.variable.result c.deref.ensures.value c.loop-place-test.true c.variable.ensures)

pub returns-clause-all : goal.returns-clause-all
returns-clause-all c = c.loop-place.invariant ∙ all_taken _ _ _ _ _ c.deref-place-items.ensures.value c.loop-place-test.false c.self.view_is

pub returns-clause-rising : goal.returns-clause-rising
returns-clause-rising c = subst AreRising c.self.view_is c.self.invariant.rising
