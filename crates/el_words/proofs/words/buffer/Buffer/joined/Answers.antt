use Rattle.std.proofs.Common.{◌∙◌}
use Rattle.std.proofs.lemmas.List.{take_rest}
use Rattle.el_words.proofs.Slices.{part_from}
use Rattle.el_words.proofs.words.buffer.Buffer.joined.Goals as goal

pub slice_bounds-result-count : goal.slice_bounds-result-count
slice_bounds-result-count c = (part_from _ _ _ c.self.invariant.0 _ c.self.view_is c.start_of.result _ _ c.deref-2.ensures.value c.deref.ensures.value c.start_of.ensures).0

pub slice_bounds-result-start : goal.slice_bounds-result-start
slice_bounds-result-start c = (part_from _ _ _ c.self.invariant.0 _ c.self.view_is c.start_of.result _ _ c.deref-2.ensures.value c.deref.ensures.value c.start_of.ensures).0

pub returns : goal.returns
returns c = take_rest c.deref.result.now c.start_of.result ∙ (part_from _ _ _ c.self.invariant.0 _ c.self.view_is c.start_of.result _ _ c.deref-2.ensures.value c.deref.ensures.value c.start_of.ensures).1
