use Rattle.std.proofs.Common.{arith}
use Rattle.el_words.proofs.Between.{among, ends_are}
use Rattle.el_words.proofs.words.buffer.Buffer.ends_between.Goals as goal

pub overflow_add-self-inside : goal.overflow_add-self-inside
overflow_add-self-inside c = omega (arith, among _ _ _ c.self.invariant.0 _ c.self.view_is c.args.from (omega (arith, c.requires.order, c.requires.within)))

pub start_of-start-requires : goal.start_of-start-requires
start_of-start-requires c = omega (arith, c.deref.ensures.len, among _ _ _ c.self.invariant.0 _ c.self.view_is c.args.from (omega (arith, c.requires.order, c.requires.within)))

pub overflow_add-result : goal.overflow_add-result
overflow_add-result c = omega (arith, among _ _ _ c.self.invariant.0 _ c.self.view_is c.args.from (omega (arith, c.requires.order, c.requires.within)))

pub overflow_add-result-2 : goal.overflow_add-result-2
overflow_add-result-2 c = omega (arith, among _ _ _ c.self.invariant.0 _ c.self.view_is c.args.to c.requires.within)

pub offset_bounds-deref-self-inside : goal.offset_bounds-deref-self-inside
offset_bounds-deref-self-inside c = omega (arith, c.deref-2.ensures.len, among _ _ _ c.self.invariant.0 _ c.self.view_is c.args.from (omega (arith, c.requires.order, c.requires.within)))

pub slice_bounds-result-end : goal.slice_bounds-result-end
slice_bounds-result-end c = omega (arith, c.deref-2.ensures.len, among _ _ _ c.self.invariant.0 _ c.self.view_is c.args.to c.requires.within)

pub returns : goal.returns
returns c = ends_are _ _ _ c.self.invariant.0 _ c.self.view_is c.args.from c.args.to c.requires.order c.requires.within _ _ c.start_of-start.result c.deref.ensures.value c.deref-2.ensures.value c.start_of-start.ensures
