use Rattle.el_meaning.proofs.Turns.{turn-words, turn-meets, turn-is-meaning}
use Rattle.el_meaning.proofs.laws.turn_is_meaning.Goals as goal

pub returns-clause-words : goal.returns-clause-words
returns-clause-words c = turn-words

pub returns-clause-marks : goal.returns-clause-marks
returns-clause-marks c = turn-meets

pub returns-clause-run : goal.returns-clause-run
returns-clause-run c = turn-is-meaning
