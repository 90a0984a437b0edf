use Rattle.std.proofs.Common.{◌≡◌, length}
use Rattle.std.specs.Vec.Iter.{into_iter_items, into_iter_len}
use Rattle.el_check.specs.Surveys.{GoesOn}
use Rattle.el_check.proofs.checking.survey_part.Given as goal

-- the tokens before those that are left are known
abbrev pub invariant-loop-token : goal.invariant-loop-token
invariant-loop-token g l = GoesOn g.R.TokenReader.has_read g.R.TokenReader.depth l.fn.survey l.fn.part l.survey (into_iter_items l.token-iterator) × (into_iter_len l.token-iterator ≡ length (into_iter_items l.token-iterator))
