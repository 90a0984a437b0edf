use Rattle.el_words.proofs.words.RefWordsIntoIterator.into_iter.Goals as goal

pub returns : goal.returns
returns c = record { into_iter_gives = (c.iter.ensures.rest, c.iter.ensures.few, c.iter.ensures.no_nul, c.iter.ensures.runs) }
