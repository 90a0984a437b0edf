use Rattle.std.proofs.Common.{ap, subst, length, arith}
use Rattle.std.specs.Vec.Iter.{into_iter_items}
use Rattle.el_check.specs.Surveys.{GoesOn}
use Rattle.el_check.proofs.SurveyGoes.{still-surveyed, one-read}
use Rattle.el_check.proofs.checking.survey_part.Goals as goal

pub put-requires : goal.put-requires
put-requires g c = still-surveyed g.R.TokenReader.has_read g.R.TokenReader.depth c.args.survey.now c.loop-token.survey c.args.part (into_iter_items c.loop-token.token-iterator) c.requires c.loop-token.invariant.0

pub loop-token-preserved : goal.loop-token-preserved
loop-token-preserved g c =
    let old = c.args.survey.now in
    let gone = c.in-Some.ensures.steps.1 in
    let short = ap length c.in-Some.ensures.steps.0 in
    let before = c.loop-token.invariant.1 in
    let goes = subst (GoesOn g.R.TokenReader.has_read g.R.TokenReader.depth old c.args.part c.loop-token.survey) c.in-Some.ensures.steps.0 c.loop-token.invariant.0 in (
      one-read g.R.TokenReader.has_read g.R.TokenReader.depth old c.loop-token.survey c.put.new.self c.args.part c.in-Some.token (into_iter_items c.next.new.self) goes c.in_ok-put.ensures,
      omega (arith, gone, short, before),
    )
