use Rattle.std.proofs.Common.{◌++◌, ap, sym, ◌∙◌, subst, true≢false, IsSome, map as mapped}
use Rattle.el_env.specs.Entries.{named}
use Rattle.el_env.specs.Variable.{pair_of}
use Rattle.el_env.proofs.Lent.{stored_are_good}
use Rattle.el_env.proofs.Sorting.{begun, one_placed, none_own, all_placed}
use Rattle.el_env.proofs.env.table.Table.sorted.Goals as goal

pub lend_set-requires : goal.lend_set-requires
lend_set-requires c = stored_are_good _ _ _ c.self.view_is c.self.invariant

pub loop-variable-init : goal.loop-variable-init
loop-variable-init c =
    begun _ _ (named c.self.inside.vars.entries) c.self.inside.inherited c.args.self.now
    (c.in_ok-lend_set.ensures ∙ ap (λ vs. mapped pair_of vs ++ named c.self.inside.vars.entries) c.in_ok-own.ensures.items)
    c.in_ok-sorted.ensures.all
    c.self.view_is c.in_ok-sorted.ensures.rising

pub loop-variable-preserved : goal.loop-variable-preserved
loop-variable-preserved c =
    one_placed _ _ _ _ c.in-Some.variable c.args.self.now c.in-Some.ensures.items c.in_ok-put_in_order.ensures c.loop-variable.invariant

pub returns : goal.returns
returns c =
    all_placed _ _ c.args.self.now (none_own _ _ c.loop-variable.own.ok.0 (λ some. true≢false (sym (subst IsSome c.in_default.is (c.pop.ensures.variant.1 some))))) c.loop-variable.invariant
