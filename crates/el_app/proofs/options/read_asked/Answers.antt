use Rattle.el_room.proofs.Vocabulary.{IfOk-weaker, groups_told}
use Rattle.std.proofs.Common.{sym, ◌∙◌}
use Rattle.el_app.proofs.Readings.{letter_refused, number_refused, letters_ask}
use Rattle.el_app.proofs.options.read_asked.Goals as goal

pub returns-in-Ok : goal.returns-in-Ok
returns-in-Ok g c =
    number_refused (groups_told c.args.groups.now) c.args.table.now.opts c.args.words.now c.in-Ok.letters (rw c.in-Ok.is at c.in_ok-letters.ensures)
    (sym c.has_bad_last_number.ensures ∙ c.if-has_bad_last_number.true)

pub returns-in-Ok-2 : goal.returns-in-Ok-2
returns-in-Ok-2 g c =
    let asks = letters_ask (groups_told c.args.groups.now) c.args.table.now.opts c.args.words.now c.in-Ok.letters (rw c.in-Ok.is at c.in_ok-letters.ensures)
    (sym c.has_bad_last_number.ensures ∙ c.if-has_bad_last_number.false) in
    IfOk-weaker c.asked_behind.result _ _ (λ read is. is ∙ asks) c.asked_behind.ensures

pub returns-in-Err : goal.returns-in-Err
returns-in-Err g c = rw c.trouble_of.ensures (letter_refused (groups_told c.args.groups.now) c.args.table.now.opts c.args.words.now c.in-Err.fault (rw c.in-Err.is at c.in_ok-letters.ensures))

pub asked_behind-requires : goal.asked_behind-requires
asked_behind-requires g c = (rw c.in-Ok.is at c.in_ok-letters.ensures).within
