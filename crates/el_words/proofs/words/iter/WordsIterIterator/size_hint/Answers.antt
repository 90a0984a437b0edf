use Rattle.el_words.proofs.Slices.{length-slices}
use Rattle.el_words.proofs.words.iter.WordsIterIterator.size_hint.Goals as goal

pub returns-clause-lower : goal.returns-clause-lower
returns-clause-lower c = rw (← c.self.view_is, length-slices) c.size_hint.ensures.lower

pub returns-clause-upper : goal.returns-clause-upper
returns-clause-upper c = rw (← c.self.view_is, length-slices) c.size_hint.ensures.upper
