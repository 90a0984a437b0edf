use Rattle.el_script.proofs.Vocabulary.{lexed, to_come}
use Rattle.el_lex.specs.Lexers.{bytes_left}
use Rattle.el_reader.specs.Inspections.{first_scope}
use Rattle.el_check.specs.Surveys.{IsSurveying}
use Rattle.el_check.proofs.checking.survey.Given as goal

-- what is known of the tokens before those that are to come
abbrev pub invariant-loop-survey : goal.invariant-loop-survey
invariant-loop-survey g l = IsSurveying g.R.TokenReader.has_read g.R.TokenReader.depth (first_scope l.fn.places) (lexed l.fn.script) l.survey (to_come l.lexer)

abbrev pub decreases-loop-survey : goal.decreases-loop-survey
decreases-loop-survey g l = bytes_left l.lexer
