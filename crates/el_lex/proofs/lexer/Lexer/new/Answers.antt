use Rattle.std.proofs.Common.{◌∙◌, sym, ap₂, arith, inr}
use Rattle.el_lex.specs.Scan.{AtGap, scan}
use Rattle.el_lex.proofs.Lexed.{lexed-short, lexed-long}
use Rattle.el_lex.proofs.lexer.Lexer.new.Goals as goal

pub returns-then-script-gt-MAX_SCRIPT-clause-err : goal.returns-then-script-gt-MAX_SCRIPT-clause-err
returns-then-script-gt-MAX_SCRIPT-clause-err c = inr (lexed-long c.args.script.now (omega arith))

pub returns-clause-ok : goal.returns-clause-ok
returns-clause-ok c = ap₂ (λ rest line. scan rest 0 AtGap line) c.new.ensures.rest c.new.ensures.line ∙ sym (lexed-short c.args.script.now (omega arith))
