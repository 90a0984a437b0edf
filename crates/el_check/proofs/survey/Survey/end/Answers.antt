use Rattle.std.proofs.Common.{sym, ◌∙◌}
use Rattle.el_check.proofs.SurveyEnds.{braces-wrong, tree-wrong, nothing-wrong}
use Rattle.el_check.proofs.survey.Survey.end.Goals as goal

pub returns-in-Some : goal.returns-in-Some
returns-in-Some g c = λ first tokens is. braces-wrong g.R.TokenReader.has_read g.R.TokenReader.depth first c.args.self tokens is c.in-Some.fault c.from.result (sym c.in-Some.is ∙ c.end.ensures) c.from.ensures

pub returns-in-Some-misread : goal.returns-in-Some-misread
returns-in-Some-misread g c = λ first tokens is.
    tree-wrong g.R.TokenReader.has_read g.R.TokenReader.depth first c.args.self tokens is c.in-Some-misread.misread c.from-in-Some-misread.result (sym c.in_default.is ∙ c.end.ensures) c.in-Some-misread.is c.from-in-Some-misread.ensures

pub returns-in-None : goal.returns-in-None
returns-in-None g c = λ first tokens is. nothing-wrong g.R.TokenReader.has_read g.R.TokenReader.depth first c.args.self tokens is (sym c.in_default.is ∙ c.end.ensures) c.in-None.is
