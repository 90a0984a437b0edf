use Rattle.el_script.proofs.Vocabulary.{lexed, to_come}
use Rattle.std.proofs.Common.{◌≡◌, [], ap, length, arith, ⊎_elim}
use Rattle.std.proofs.lemmas.Result.{err_from_is_err_and}
use Rattle.el_reader.specs.Inspections.{first_scope}
use Rattle.el_check.specs.Checks.{checked_in}
use Rattle.el_check.proofs.SurveyEnds.{lex-verdict, lex-wrong, survey-ends}
use Rattle.el_check.proofs.checking.survey.Goals as goal

pub returns-in_err-lexer : goal.returns-in_err-lexer
unfolding checked_in
returns-in_err-lexer g c =
    let p = err_from_is_err_and c.from_residual.result c.from_residual.ensures.1 in
    rw p.1 (lex-verdict (first_scope c.args.places) (lexed c.args.script.now) c.in_err-lexer.field-0.0 p.0 c.in_err-lexer.ensures.err p.2)

pub returns-in_err-part : goal.returns-in_err-part
unfolding checked_in
returns-in_err-part g c =
    let p = err_from_is_err_and c.from_residual-in_err-part.result c.from_residual-in_err-part.ensures.1 in
    rw p.1 (lex-wrong g.R.TokenReader.has_read g.R.TokenReader.depth (first_scope c.args.places) c.args.script.now (to_come c.loop-survey.lexer) c.loop-survey.survey c.loop-survey.invariant c.in_err-part.field-0.0 p.0 c.in_err-part.ensures.err p.2)

pub returns-then-is_empty : goal.returns-then-is_empty
returns-then-is_empty g c =
    let first = first_scope c.args.places in
    let none : c.in_ok-part.part ≡ [] = c.is_empty.ensures.0 c.if-is_empty.true in
    let few = ap length none in
    let over = ⊎_elim (λ full. absurd (omega (arith, few, full))) (λ left. left.1) c.in_ok-part.ensures.whole in
    survey-ends g.R.TokenReader.has_read g.R.TokenReader.depth first c.args.script.now (to_come c.loop-survey.lexer) c.loop-survey.survey c.loop-survey.invariant (to_come c.next_part.new.self) c.in_ok-part.part c.end.result c.in_ok-part.ensures.ok none over (c.end.ensures first)
