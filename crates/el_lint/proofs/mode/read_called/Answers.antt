use Rattle.std.proofs.Common.{drop, Option, Ok, sym, ap, ◌∙◌}
use Rattle.el_front.specs.Choosing.{groups_told}
use Rattle.el_check.specs.declared.params.Params.{Params}
use Rattle.el_lint.proofs.Calling.{number-refused, letters-say}
use Rattle.el_lint.proofs.mode.read_called.Goals as goal

pub returns-then-has_bad_last_number-clause-called : goal.returns-then-has_bad_last_number-clause-called
returns-then-has_bad_last_number-clause-called g c =
    number-refused (groups_told c.args.groups.now) c.args.table.now.opts c.args.words.now c.in-Ok.letters (rw c.in-Ok.is at c.in_ok-letters.ensures)
    (sym c.has_bad_last_number.ensures ∙ c.if-has_bad_last_number.true)

pub returns-clause-called : goal.returns-clause-called
returns-clause-called g c =
    ap (λ (mode : Option Params). Ok (record { mode = mode; rest = drop c.in-Ok.letters.used c.args.words.now })) c.mode_in.ensures
    ∙ letters-say (groups_told c.args.groups.now) c.args.table.now.opts c.args.words.now c.in-Ok.letters (rw c.in-Ok.is at c.in_ok-letters.ensures)
    (sym c.has_bad_last_number.ensures ∙ c.if-has_bad_last_number.false)
