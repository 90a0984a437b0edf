use Rattle.el_script.proofs.Vocabulary.{none_there, PlacedFault}
use Rattle.std.proofs.Common.{sym, ◌∙◌, subst}
use Rattle.std.specs.Prelude.{Option}
use Rattle.el_reader.specs.Readers.{IsTaken}
use Rattle.el_check.proofs.SurveyGoes.{brace-wrong, still-wrong, right-read}
use Rattle.el_check.proofs.survey.Survey.put.Goals as goal
use Rattle.el_check.proofs.survey.Survey.put.Goals.{then-is_some-via-then-is_some, then-is_some-via-else-is_some+then-is_some-2}

pub returns-then-is_some : goal.returns-then-is_some
returns-then-is_some g c = elim c.then-is_some.branch [
  | then-is_some-via-then-is_some w ↦
      brace-wrong g.R.TokenReader.has_read g.R.TokenReader.depth c.args.self.now c.put.new.self c.args.token c.put.ensures.goes c.put.ensures.before (sym c.is_some.ensures ∙ w.if-is_some.true)
  | then-is_some-via-else-is_some+then-is_some-2 w ↦
      still-wrong g.R.TokenReader.has_read g.R.TokenReader.depth c.args.self.now c.put.new.self c.args.token c.put.ensures.goes c.put.ensures.before (sym w.is_some-else-is_some.ensures ∙ w.if-is_some-2.true)
]

pub returns-in-None : goal.returns-in-None
returns-in-None g c =
    let taken = subst (λ (found : Option PlacedFault). IsTaken g.R.TokenReader.has_read g.R.TokenReader.depth c.args.self.now.reader c.take.new.self c.args.token found) c.in-None.is c.in_ok-found.ensures in
    right-read g.R.TokenReader.has_read g.R.TokenReader.depth c.args.self.now c.put.new.self c.args.token c.put.ensures.goes c.put.ensures.before c.take.new.self c.token_line-line.result (none_there c.args.self.now.misread (sym c.is_some-else-is_some.ensures ∙ c.if-is_some-2.false)) taken
    c.token_line-line.ensures c.put.ensures.depth
