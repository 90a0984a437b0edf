use Rattle.std.proofs.Common.{subst}
use Rattle.el_front.specs.Calls.{IsCall}
use Rattle.el_front.specs.Choosing.{groups_told}
use Rattle.el_lint.proofs.LettersFound.{letter-found}
use Rattle.el_lint.proofs.letters.has_letter.Goals as goal

pub returns-in-Ok : goal.returns-in-Ok
returns-in-Ok g c =
    let read = subst (IsCall (groups_told c.args.groups.now) c.args.table.now.opts c.in_ok-words.words) c.in-Ok.is c.in_ok-letters.ensures in
    letter-found (groups_told c.args.groups.now) c.args.table.now.opts c.args.options.now c.in_ok-words.words c.in-Ok.letters c.args.letter c.has.result c.in_ok-words.ensures read c.requires.stands c.has.ensures
