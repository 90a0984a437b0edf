use Rattle.std.proofs.Common.{Some, sym, ap, ◌∙◌}
use Rattle.el_reader.specs.Roles.{both_seen}
use Rattle.el_reader.proofs.LettersSeen.{letter-judged}
use Rattle.el_reader.proofs.options.judge_letters.Goals as goal

pub loop-rest-preserved : goal.loop-rest-preserved
loop-rest-preserved c = λ opts is.
    letter-judged c.args.program opts c.args.letters.now c.loop-rest.rest.now c.loop-rest.seen c.and-seen.result c.in-len1-up.len_at_least is
    (sym c.takes_value.ensures ∙ c.in-Some-false.is ∙ ap Some c.in-Some-false.field-0-test) (c.loop-rest.invariant opts is) (c.and-seen.ensures ∙ ap (both_seen c.loop-rest.seen) c.letter.ensures)
