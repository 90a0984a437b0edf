use Rattle.std.proofs.Common.{List, ℕ, length, subst}
use Rattle.el_words.specs.Words.{RiseTo}
use Rattle.el_words.proofs.Slices.{start-le}
use Rattle.el_words.proofs.words.iter.WordsIterIterator.next.Goals as goal

pub slice_bounds-result-end : goal.slice_bounds-result-end
slice_bounds-result-end c =
    let P : List ℕ → Type 0 = λ ends. RiseTo c.self.inside.start ends (length c.self.inside.bytes.now) in
    let rise = subst P c.in_ok-end.ensures.steps c.self.invariant.0 in
    start-le _ _ _ rise.1
