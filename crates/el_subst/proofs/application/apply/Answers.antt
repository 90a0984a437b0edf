use Rattle.std.proofs.Common.{◌≡◌, ℕ, ap, ◌∙◌}
use Rattle.std.proofs.lemmas.Result.{IfOk-weaker}
use Rattle.el_words.specs.Args.{Args, spelled}
use Rattle.el_subst.specs.Values.{words_value}
use Rattle.el_subst.specs.Scopes.{put}
use Rattle.el_subst.proofs.Spelled.{values_spelled}
use Rattle.el_subst.proofs.application.apply.Goals as goal

pub returns-clause-spelling : goal.returns-clause-spelling
returns-clause-spelling c =
    IfOk-weaker c.all_values.result
    (λ made. made ≡ words_value c.in_ok-lookup.lookup c.args.words.now)
    (λ made. (depth : ℕ) (args : Args) → c.args.words.now ≡ spelled depth args → made ≡ spelled depth (put c.args.subst.now args))
    (λ made is depth args same.
    is ∙ ap (λ pairs. words_value pairs c.args.words.now) c.in_ok-lookup.ensures ∙ ap (words_value c.args.subst.now) same ∙ values_spelled c.args.subst.now depth args)
    c.all_values.ensures
