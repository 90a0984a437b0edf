use Rattle.std.proofs.Common.{ap, ◌∙◌, Ok, Err, true, false}
use Rattle.el_test.specs.declared.walking.Standing.TheVariants.{Open as Undecided}
use Rattle.el_test.specs.Truth.{True, False, Failed}
use Rattle.el_test.specs.Walking.{fresh}
use Rattle.el_test.proofs.Endings.{with_result, never_wrong, broken, evaluated}
use Rattle.el_test.proofs.call.tell.Goals as goal

pub returns-in-Ok-true : goal.returns-in-Ok-true
returns-in-Ok-true g c =
    let w = with_result c.args.dir.now c.args.words.now (fresh Undecided) (g.A.Asker.heard c.args.asker.now) (g.A.Asker.heard c.walk.new.asker) c.walk.result (Ok true) (c.in-Ok-true.is ∙ ap Ok c.in-Ok-true.field-0-test) c.walk.ensures in
    evaluated c.args.dir.now c.args.words.now (g.A.Asker.heard c.args.asker.now) (g.A.Asker.heard c.walk.new.asker) True w.asks c.requires w.log w.later w.ends

pub returns-in-Ok-false : goal.returns-in-Ok-false
returns-in-Ok-false g c =
    let w = with_result c.args.dir.now c.args.words.now (fresh Undecided) (g.A.Asker.heard c.args.asker.now) (g.A.Asker.heard c.walk.new.asker) c.walk.result (Ok false) (c.in-Ok-false.is ∙ ap Ok c.in-Ok-false.field-0-test) c.walk.ensures in
    evaluated c.args.dir.now c.args.words.now (g.A.Asker.heard c.args.asker.now) (g.A.Asker.heard c.walk.new.asker) False w.asks c.requires w.log w.later w.ends

pub returns-in-Err-Failed : goal.returns-in-Err-Failed
returns-in-Err-Failed g c =
    let w = with_result c.args.dir.now c.args.words.now (fresh Undecided) (g.A.Asker.heard c.args.asker.now) (g.A.Asker.heard c.walk.new.asker) _ _ (c.in-Err-Failed.is ∙ ap Err c.in-Err-Failed.field-0-is) c.walk.ensures in
    (evaluated c.args.dir.now c.args.words.now (g.A.Asker.heard c.args.asker.now) (g.A.Asker.heard c.walk.new.asker) Failed w.asks c.requires w.log w.later w.ends.0, w.ends.1)

pub returns-in-Err-NoMemory : goal.returns-in-Err-NoMemory
returns-in-Err-NoMemory g c = broken c.args.dir.now c.args.words.now (g.A.Asker.heard c.args.asker.now) (g.A.Asker.heard c.walk.new.asker) c.requires (with_result c.args.dir.now c.args.words.now (fresh Undecided) (g.A.Asker.heard c.args.asker.now) (g.A.Asker.heard c.walk.new.asker) _ _ (c.in-Err-NoMemory.is ∙ ap Err c.in-Err-NoMemory.field-0-is) c.walk.ensures)

pub unreachable-requires : goal.unreachable-requires
unreachable-requires g c = absurd (never_wrong c.args.dir.now c.args.words.now (g.A.Asker.heard c.args.asker.now) (g.A.Asker.heard c.walk.new.asker) _ c.requires (with_result c.args.dir.now c.args.words.now (fresh Undecided) (g.A.Asker.heard c.args.asker.now) (g.A.Asker.heard c.walk.new.asker) _ _ (c.in-Err-Wrong.is ∙ ap Err c.in-Err-Wrong.field-0-is) c.walk.ensures))
