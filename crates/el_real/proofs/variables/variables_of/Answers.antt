use Rattle.std.proofs.Common.{[], ◌∷◌, ◌++◌, Vec, Global, option_map, take, sym, ap, ◌∙◌, subst, arith}
use Rattle.std.proofs.lemmas.List.{take_more}
use Rattle.el_env.specs.Variable.{pair_of}
use Rattle.el_env.specs.declared.env.variable.Variable.{Variable}
use Rattle.el_real.proofs.Entries.{AreRead, none_read, entry_read, entry_passed, all_read}
use Rattle.el_real.proofs.variables.variables_of.Goals as goal
use Rattle.el_real.proofs.variables.variables_of.Goals.{in-Some+in_ok-push, in_default}

pub loop-place-init : goal.loop-place-init
loop-place-init c = subst (AreRead _) (sym c.in_ok-variables.ensures.items) none_read

pub loop-place-preserved : goal.loop-place-preserved
loop-place-preserved c =
    let entries = c.args.entries.now in
    let place = c.loop-place.place in
    let next = ap (λ entry. take place entries ++ entry ∷ []) c.at.ensures.same ∙ sym (take_more entries place [] (omega arith)) in
    subst (λ es. AreRead es c.match-variable_of.variables.items) next (elim c.match-variable_of.branch [
      | in-Some+in_ok-push w ↦ subst (AreRead _) (sym (ap (λ (vs : Vec Variable Global). vs.items) w.variables-is ∙ w.in_ok-push.ensures.items))
          (entry_read _ _ _ w.in-Some.variable (sym c.variable_of.ensures.split ∙ ap (option_map pair_of) w.in-Some.is) w.in-Some.ensures.good c.loop-place.invariant)
      | in_default w ↦ subst (AreRead _) (sym (ap (λ (vs : Vec Variable Global). vs.items) w.variables-is))
          (entry_passed _ _ _ (sym c.variable_of.ensures.split ∙ ap (option_map pair_of) w.in_default.is) c.loop-place.invariant)
    ])

pub returns : goal.returns
returns c = all_read c.args.entries.now c.loop-place.place c.loop-place.variables.items c.inherited.result (omega arith) c.inherited.ensures c.loop-place.invariant
