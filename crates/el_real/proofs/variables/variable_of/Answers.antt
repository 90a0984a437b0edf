use Rattle.std.proofs.Common.{◌≡◌, ◌+◌, ◌-◌, ◌∙◌, sym, subst, arith, length, take, drop}
use Rattle.std.proofs.lemmas.Grind.{common_steps}
use Rattle.memchr.specs.Find.{IsFirstByte, is_byte}
use Rattle.el_real.proofs.Entries.{good_before, first_equals, no_equals, variable_of-some, variable_of-unnamed, variable_of-none}
use Rattle.el_real.proofs.variables.variable_of.Goals as goal
use Rattle.el_real.proofs.variables.variable_of.Goals.{in_default-via-in-Some+else-at-gt0, in_default-via-in_default}

pub returns-in-Some-clause-split : goal.returns-in-Some-clause-split
returns-in-Some-clause-split c =
    let entry = c.args.entry.now in
    let at = c.in-Some.at in
    let all : take (length entry - (at + 1)) (drop (at + 1) entry) ≡ drop (at + 1) entry = grind (arith, common_steps) in
    rw all (sym (variable_of-some entry at (first_equals entry at c.in-Some.ensures) c.if-at-gt0.true c.in-Some.ensures.0.high))

pub returns-in-Some-clause-good : goal.returns-in-Some-clause-good
returns-in-Some-clause-good c = good_before c.args.entry.now c.in-Some.at (first_equals c.args.entry.now c.in-Some.at c.in-Some.ensures) c.if-at-gt0.true c.in-Some.ensures.0.high

pub returns-in_default-clause-split : goal.returns-in_default-clause-split
returns-in_default-clause-split c =
    let entry = c.args.entry.now in
    elim c.in_default.branch [
      | in_default-via-in-Some+else-at-gt0 w ↦ sym (variable_of-unnamed entry (first_equals entry w.in-Some.at w.in-Some.ensures ∙ omega (arith, w.if-at-gt0.false)))
      | in_default-via-in_default w ↦ sym (variable_of-none entry (no_equals entry (subst (IsFirstByte (is_byte 61) entry) w.in_default.is c.memchr.ensures)))
    ]
