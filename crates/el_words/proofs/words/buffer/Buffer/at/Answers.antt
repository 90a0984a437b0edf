use Rattle.std.proofs.Common.{arith}
use Rattle.el_words.proofs.Slices.{length-value, part_at}
use Rattle.el_words.proofs.words.buffer.Buffer.at.Goals as goal

pub overflow_add-place : goal.overflow_add-place
overflow_add-place c = omega (arith, c.requires, length-value _ _ _ c.self.invariant.0 _ c.self.view_is)

pub start_of-requires : goal.start_of-requires
start_of-requires c = omega (arith, c.requires, length-value _ _ _ c.self.invariant.0 _ c.self.view_is)

pub index-requires : goal.index-requires
index-requires c = omega (arith, c.requires, length-value _ _ _ c.self.invariant.0 _ c.self.view_is)

pub slice_bounds-result-count : goal.slice_bounds-result-count
slice_bounds-result-count c = (part_at _ _ _ c.self.invariant.0 _ c.self.view_is c.args.place c.start_of.result c.index.result.now _ c.requires c.deref-2.ensures.value c.start_of.ensures c.index.ensures).0

pub slice_bounds-result-start : goal.slice_bounds-result-start
slice_bounds-result-start c = (part_at _ _ _ c.self.invariant.0 _ c.self.view_is c.args.place c.start_of.result c.index.result.now _ c.requires c.deref-2.ensures.value c.start_of.ensures c.index.ensures).0

pub slice_bounds-result-end : goal.slice_bounds-result-end
slice_bounds-result-end c = rw c.deref.ensures.value (part_at _ _ _ c.self.invariant.0 _ c.self.view_is c.args.place c.start_of.result c.index.result.now _ c.requires c.deref-2.ensures.value c.start_of.ensures c.index.ensures).1

pub returns-clause-same : goal.returns-clause-same
returns-clause-same c = rw c.deref.ensures.value (part_at _ _ _ c.self.invariant.0 _ c.self.view_is c.args.place c.start_of.result c.index.result.now _ c.requires c.deref-2.ensures.value c.start_of.ensures c.index.ensures).2
