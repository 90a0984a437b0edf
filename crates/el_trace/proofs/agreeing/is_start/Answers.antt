use Rattle.el_room.proofs.Vocabulary.{Start, start}
use Rattle.std.proofs.Common.{Some, subst}
use Rattle.el_trace.specs.Answers.{IsAnswer}
use Rattle.el_trace.proofs.Sameness.{another_call}
use Rattle.el_trace.proofs.agreeing.is_start.Goals as goal

pub returns-in-None : goal.returns-in-None
returns-in-None c =
    another_call (Start c.args.words.now c.args.env.now c.args.dir.now c.args.ends.now c.args.answer.now) c.args.other.now
    (subst (IsAnswer (Some c.args.other.now) (start c.args.words.now c.args.env.now c.args.dir.now c.args.ends.now)) c.in-None.is c.in_ok-found.ensures)
