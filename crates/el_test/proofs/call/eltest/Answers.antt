use Rattle.el_test.proofs.Endings.{no_words, checked_ok, checked_err}
use Rattle.el_test.proofs.call.eltest.Goals as goal

pub returns-then-is_empty : goal.returns-then-is_empty
returns-then-is_empty g c = no_words c.args.dir.now c.args.words.now (g.A.Asker.heard c.args.asker.now) (c.is_empty.ensures.0 c.if-is_empty.true)

pub tell-requires : goal.tell-requires
tell-requires g c = checked_ok _ c.in-Ok.field-0 c.args.words.now c.check.ensures c.in-Ok.is

pub returns-in-Err : goal.returns-in-Err
returns-in-Err g c = checked_err _ c.in-Err.end c.args.dir.now c.args.words.now (g.A.Asker.heard c.args.asker.now) c.check.ensures c.in-Err.is
