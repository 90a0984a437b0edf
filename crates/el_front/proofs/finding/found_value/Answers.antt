use Rattle.std.proofs.Common.{◌∙◌, sym}
use Rattle.el_front.proofs.Told.{value_none, value_some}
use Rattle.el_front.proofs.finding.found_value.Goals as goal

pub returns-in-Some-clause-same : goal.returns-in-Some-clause-same
returns-in-Some-clause-same c = c.value_of.ensures.same ∙ sym (value_some c.args.words.now c.args.letters.now c.args.letter c.in-Some.place _ c.in-Some.ensures.place c.in-Some.ensures.within)

pub returns-in-None-clause-same : goal.returns-in-None-clause-same
returns-in-None-clause-same c = sym (value_none c.args.words.now c.args.letters.now c.args.letter c.in-None.ensures.place)
