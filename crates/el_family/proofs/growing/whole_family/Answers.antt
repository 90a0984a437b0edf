use Rattle.std.proofs.Common.{sym, ap, ◌∙◌, arith, Result, Ok, Err}
use Rattle.std.proofs.lemmas.Result.{err_from_is_err_and}
use Rattle.el_family.specs.declared.family.FamilyFault.{FamilyFault}
use Rattle.el_family.specs.declared.family.FamilyFault.TheVariants.{NoMemory}
use Rattle.el_family.proofs.Whole.{grows_first, grows_on, refused_full, refused_only}
use Rattle.el_family.proofs.growing.whole_family.Goals as goal

pub loop-number-init : goal.loop-number-init
loop-number-init c = grows_first c.args.words c.args.budget c.in_ok-family.family (rw (c.new.ensures, c.in_ok-root.ensures) at c.in_ok-family.ensures)

abbrev fault_in : {T : Type 0} → Result T FamilyFault → FamilyFault
fault_in (Ok value) = NoMemory
fault_in (Err fault) = fault

pub returns-in_err-run_member-clause-full : goal.returns-in_err-run_member-clause-full
returns-in_err-run_member-clause-full c =
    let p = err_from_is_err_and c.from_residual-in_err-run_member.result c.from_residual-in_err-run_member.ensures.1 in
    λ is.
    refused_full c.loop-number.number c.in_err-run_member.field-0.0 p.0 (sym p.2) c.loop-number.invariant (omega (arith, c.if-number-len.false, c.len.ensures)) (rw c.new-in-loop-number.ensures at c.in_err-run_member.ensures.refused) (ap fault_in (sym p.1 ∙ is))

pub returns-in_err-run_member-clause-only : goal.returns-in_err-run_member-clause-only
returns-in_err-run_member-clause-only c =
    let p = err_from_is_err_and c.from_residual-in_err-run_member.result c.from_residual-in_err-run_member.ensures.1 in
    refused_only c.loop-number.number c.in_err-run_member.field-0.0 p.0 (sym p.2) c.from_residual-in_err-run_member.result p.1 c.loop-number.invariant (omega (arith, c.if-number-len.false, c.len.ensures)) (rw c.new-in-loop-number.ensures at c.in_err-run_member.ensures.refused)

pub loop-number-preserved : goal.loop-number-preserved
loop-number-preserved c = grows_on c.loop-number.number c.loop-number.invariant (rw c.new-in-loop-number.ensures at c.in_ok-run_member.ensures.ok) (rw c.new-in-loop-number.ensures at c.in_ok-run_member.ensures.due)
