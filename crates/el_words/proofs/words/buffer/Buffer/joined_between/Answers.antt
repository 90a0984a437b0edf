use Rattle.std.proofs.Common.{arith}
use Rattle.el_words.proofs.Between.{among, between, between-no_nul}
use Rattle.el_words.proofs.words.buffer.Buffer.joined_between.Goals as goal

pub overflow_add-self-inside : goal.overflow_add-self-inside
overflow_add-self-inside c = omega (arith, among _ _ _ c.self.invariant.0 _ c.self.view_is c.args.from (omega (arith, c.requires.order, c.requires.within)))

pub start_of-start-requires : goal.start_of-start-requires
start_of-start-requires c = omega (arith, c.deref.ensures.len, among _ _ _ c.self.invariant.0 _ c.self.view_is c.args.from (omega (arith, c.requires.order, c.requires.within)))

pub overflow_add-self-inside-2 : goal.overflow_add-self-inside-2
overflow_add-self-inside-2 c = omega (arith, among _ _ _ c.self.invariant.0 _ c.self.view_is c.args.to c.requires.within)

pub start_of-end-requires : goal.start_of-end-requires
start_of-end-requires c = omega (arith, c.deref-2.ensures.len, among _ _ _ c.self.invariant.0 _ c.self.view_is c.args.to c.requires.within)

pub slice_bounds-result-count : goal.slice_bounds-result-count
slice_bounds-result-count c = (between _ _ _ c.self.invariant.0 _ c.self.view_is c.args.from c.args.to c.requires.order c.requires.within _ _ c.start_of-start.result c.start_of-end.result _ c.deref.ensures.value c.deref-2.ensures.value c.deref-3.ensures.value c.start_of-start.ensures c.start_of-end.ensures).0

pub slice_bounds-result-start : goal.slice_bounds-result-start
slice_bounds-result-start c = (between _ _ _ c.self.invariant.0 _ c.self.view_is c.args.from c.args.to c.requires.order c.requires.within _ _ c.start_of-start.result c.start_of-end.result _ c.deref.ensures.value c.deref-2.ensures.value c.deref-3.ensures.value c.start_of-start.ensures c.start_of-end.ensures).0

pub slice_bounds-result-end : goal.slice_bounds-result-end
slice_bounds-result-end c = (between _ _ _ c.self.invariant.0 _ c.self.view_is c.args.from c.args.to c.requires.order c.requires.within _ _ c.start_of-start.result c.start_of-end.result _ c.deref.ensures.value c.deref-2.ensures.value c.deref-3.ensures.value c.start_of-start.ensures c.start_of-end.ensures).1

pub returns-clause-same : goal.returns-clause-same
returns-clause-same c = (between _ _ _ c.self.invariant.0 _ c.self.view_is c.args.from c.args.to c.requires.order c.requires.within _ _ c.start_of-start.result c.start_of-end.result _ c.deref.ensures.value c.deref-2.ensures.value c.deref-3.ensures.value c.start_of-start.ensures c.start_of-end.ensures).2

pub returns-clause-no_nul : goal.returns-clause-no_nul
returns-clause-no_nul c = between-no_nul _ _ _ c.self.invariant.0 _ c.self.view_is c.args.from c.args.to c.requires.order c.requires.within c.start_of-start.result c.start_of-end.result _ c.deref-3.ensures.value
