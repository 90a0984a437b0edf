use Rattle.std.proofs.Common.{ap, ◌∙◌, sym, is_some}
use Rattle.std.specs.FinMap as map
use Rattle.std.specs.Option.{option_copied}
use Rattle.el_env.specs.Vars.{Vars}
use Rattle.el_env.proofs.Kept.{retain_keys-one, retain_keys-none}
use Rattle.el_env.proofs.env.Env.keep_only.Goals as goal
use Rattle.el_env.proofs.env.Env.keep_only.Goals.{in-Some+in_ok-put, in_default}

pub returns-clause-ok : goal.returns-clause-ok
returns-clause-ok c =
    c.kept-2.view_is ∙ (elim c.match-get.branch [
      | in-Some+in_ok-put w ↦
          w.kept-is ∙ w.in_ok-put.ensures.ok ∙ ap (λ (m : Vars). map.insert m c.args.name.now w.in-Some.value.now) c.new-kept.ensures
          ∙ retain_keys-one _ _ _ (sym w.in-Some.ensures.value)
      | in_default w ↦ w.kept-is ∙ c.new-kept.ensures ∙ retain_keys-none _ _ (sym c.get.ensures.value ∙ ap option_copied w.in_default.is)
    ])

pub put-requires-clause-name : goal.put-requires-clause-name
put-requires-clause-name c =
    c.names_are_good.ensures c.args.name.now (ap is_some (sym c.in-Some.ensures.value))
