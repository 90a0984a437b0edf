use Rattle.std.proofs.Common.{arith, inr}
use Rattle.el_lex.proofs.Lexed.{answer-ok, answer-fault, answer-exact, lexed-long}
use Rattle.el_lex.proofs.lexer.lex.Goals as goal

pub returns-then-script-gt-MAX_SCRIPT-clause-exact : goal.returns-then-script-gt-MAX_SCRIPT-clause-exact
returns-then-script-gt-MAX_SCRIPT-clause-exact c = inr (lexed-long c.args.script.now (omega arith))

pub returns-clause-ok : goal.returns-clause-ok
returns-clause-ok c = answer-ok c.args.script.now c.tokens.result (omega arith) c.tokens.ensures

pub returns-clause-fault : goal.returns-clause-fault
returns-clause-fault c = answer-fault c.args.script.now c.tokens.result (omega arith) c.tokens.ensures

pub returns-clause-exact : goal.returns-clause-exact
returns-clause-exact c = answer-exact c.args.script.now c.tokens.result (omega arith) c.tokens.ensures
