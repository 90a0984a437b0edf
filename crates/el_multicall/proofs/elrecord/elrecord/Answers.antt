use Rattle.el_room.proofs.Vocabulary.{leb-true, NoMemory}
use Rattle.std.proofs.Common.{sym}
use Rattle.el_multicall.proofs.Recorded.{no_file, a_file, not_begun, recorded_told}
use Rattle.el_multicall.proofs.elrecord.elrecord.Goals as goal

pub returns-then-not-has_file : goal.returns-then-not-has_file
returns-then-not-has_file g c =
    let recorded = no_file c.args.words.now c.args.env c.args.dir c.args.budget c.complain-finish.result (sym c.if-not-has_file.ensures) c.complain-finish.ensures in
    record { told = recorded_told c.args.words.now c.args.env c.args.dir c.args.budget c.complain-finish.result recorded; recorded = recorded }

pub new-requires : goal.new-requires
new-requires g c = leb-true 2 _ (sym c.if-not-has_file.ensures)

pub returns-in-Ok : goal.returns-in-Ok
returns-in-Ok g c =
    let recorded = a_file c.args.words.now c.args.env c.args.dir c.args.budget c.run.result.0 c.in-Ok.recording.words c.in-Ok.recording.file c.in-Ok.recording.dir (sym c.if-not-has_file.ensures)
    c.in-Ok.ensures.words c.in-Ok.ensures.file c.in-Ok.ensures.dir c.run.ensures in
    record { told = recorded_told c.args.words.now c.args.env c.args.dir c.args.budget c.run.result.0 recorded; recorded = recorded }

pub returns-in-Err : goal.returns-in-Err
returns-in-Err g c =
    let recorded = not_begun (g.W.World.seen c.args.world) c.args.words.now c.args.env c.args.dir c.args.budget (sym c.if-not-has_file.ensures) in
    record { told = recorded_told c.args.words.now c.args.env c.args.dir c.args.budget NoMemory recorded; recorded = recorded }
