use Rattle.el_room.proofs.Vocabulary.{memory_short, gives_then, follows_done, refused_then, First, read_of, text_at, acting, acted}
use Rattle.std.proofs.Common.{◌≡◌, None, Err, refl, sym, ap, ◌∙◌, arith}
use Rattle.el_vars.specs.Shift.{shift_number, shift}
use Rattle.el_vars.proofs.programs.shift.shift.Goals as goal

pub returns-in_default : goal.returns-in_default
unfolding acting shift
returns-in_default g c =
    let bad : shift_number (text_at First (read_of c.args.front)) ≡ None = grind arith in
    acted (rw bad (refused_then _ c.refused.ensures.run)) c.refused.ensures.usable

pub returns-in_err-shift_by-in-Ok : goal.returns-in_err-shift_by-in-Ok
returns-in_err-shift_by-in-Ok g c = acted (memory_short c.from_residual.ensures.1) c.requires

pub returns-in-Ok : goal.returns-in-Ok
unfolding acting shift
returns-in-Ok g c =
    let number = sym c.shift_number.ensures ∙ c.in-Some.is in
    acted (rw (c.into_rest.ensures, number, c.in-Ok.ensures.value, c.in_ok-shift_by-in-Ok.ensures) (gives_then _ _ (follows_done refl))) c.requires

pub returns-in-Err-NoFrame : goal.returns-in-Err-NoFrame
unfolding acting shift
returns-in-Err-NoFrame g c =
    let number = sym c.shift_number.ensures ∙ c.in-Some.is in
    acted (rw (number, c.in-Err-NoFrame.ensures.no_value (ap Err c.in-Err-NoFrame.field-0-is)) (refused_then _ c.refused-in-Err-NoFrame.ensures.run)) c.refused-in-Err-NoFrame.ensures.usable

pub returns : goal.returns
returns g c = acted (memory_short refl) c.requires
