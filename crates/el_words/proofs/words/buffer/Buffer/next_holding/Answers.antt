use Rattle.std.proofs.Common.{arith, sym, length, subst, Some, None}
use Rattle.std.proofs.lemmas.List.{take_rest}
use Rattle.memchr.specs.Find.{IsFirst, IsFirstByte, is_byte}
use Rattle.el_words.specs.Word.{HoldsByteAt}
use Rattle.el_words.proofs.Slices.{length-value}
use Rattle.el_words.proofs.Between.{among}
use Rattle.el_words.proofs.Holding.{begins-le, left-ordered, none-holds, some-holds}
use Rattle.el_words.proofs.words.buffer.Buffer.next_holding.Goals as goal

pub overflow_add-self-inside : goal.overflow_add-self-inside
overflow_add-self-inside c = omega (arith, among _ _ _ c.self.invariant.0 _ c.self.view_is c.args.from c.requires)

pub start_of-start-requires : goal.start_of-start-requires
start_of-start-requires c = omega (arith, c.deref.ensures.len, among _ _ _ c.self.invariant.0 _ c.self.view_is c.args.from c.requires)

pub slice_bounds-memchr-count : goal.slice_bounds-memchr-count
slice_bounds-memchr-count c = begins-le _ _ _ c.self.invariant.0 _ c.self.view_is c.args.from c.requires c.start_of-start.result _ _ c.deref.ensures.value c.deref-2.ensures.value c.start_of-start.ensures

pub slice_bounds-memchr-start : goal.slice_bounds-memchr-start
slice_bounds-memchr-start c = begins-le _ _ _ c.self.invariant.0 _ c.self.view_is c.args.from c.requires c.start_of-start.result _ _ c.deref.ensures.value c.deref-2.ensures.value c.start_of-start.ensures

pub overflow_add-self-inside-2 : goal.overflow_add-self-inside-2
overflow_add-self-inside-2 c = omega (arith, among _ _ _ c.self.invariant.0 _ c.self.view_is c.args.from c.requires)

pub offset_bounds-deref-self-inside : goal.offset_bounds-deref-self-inside
offset_bounds-deref-self-inside c = omega (arith, c.deref-3.ensures.len, among _ _ _ c.self.invariant.0 _ c.self.view_is c.args.from c.requires)

pub slice_bounds-ending_by-count : goal.slice_bounds-ending_by-count
slice_bounds-ending_by-count c = omega (arith, c.deref-3.ensures.len, among _ _ _ c.self.invariant.0 _ c.self.view_is c.args.from c.requires)

pub slice_bounds-ending_by-start : goal.slice_bounds-ending_by-start
slice_bounds-ending_by-start c = omega (arith, c.deref-3.ensures.len, among _ _ _ c.self.invariant.0 _ c.self.view_is c.args.from c.requires)

pub ending_by-requires : goal.ending_by-requires
ending_by-requires c = left-ordered _ _ _ c.self.invariant.0 _ c.self.view_is c.args.from c.requires _ _ c.deref-3.ensures.value (take_rest c.deref-3.result.now _)

pub returns-in_err-at-clause-first : goal.returns-in_err-at-clause-first
returns-in_err-at-clause-first c =
    let none = subst (λ hay. IsFirstByte (is_byte c.args.byte) hay None) (take_rest c.deref-2.result.now c.start_of-start.result) c.in_err-at.ensures in
    subst (λ found. IsFirst (HoldsByteAt c.args.self.now c.args.byte) c.args.from (length c.args.self.now) found) (sym c.from_residual.ensures)
    (none-holds _ _ _ c.self.invariant.0 _ c.self.view_is c.args.from c.requires c.start_of-start.result c.args.byte _ _ c.deref.ensures.value c.deref-2.ensures.value c.start_of-start.ensures none)

pub returns-in_err-at-clause-few : goal.returns-in_err-at-clause-few
returns-in_err-at-clause-few c = omega (arith, length-value _ _ _ c.self.invariant.0 _ c.self.view_is)

pub returns-clause-first : goal.returns-clause-first
returns-clause-first c =
    let some = subst (λ hay. IsFirstByte (is_byte c.args.byte) hay (Some c.in_ok-at.field-0)) (take_rest c.deref-2.result.now c.start_of-start.result) c.in_ok-at.ensures in
    some-holds _ _ _ c.self.invariant.0 _ c.self.view_is c.args.from c.requires c.start_of-start.result c.args.byte c.in_ok-at.field-0 c.ending_by.result _ _ _ _
    c.deref.ensures.value c.deref-2.ensures.value c.deref-3.ensures.value c.start_of-start.ensures some (take_rest c.deref-3.result.now _) c.ending_by.ensures

pub returns-clause-few : goal.returns-clause-few
returns-clause-few c = omega (arith, length-value _ _ _ c.self.invariant.0 _ c.self.view_is)
