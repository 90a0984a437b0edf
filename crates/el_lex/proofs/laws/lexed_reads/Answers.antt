use Rattle.el_lex.proofs.Lexed.{lexed-reads, reads-lexed}
use Rattle.el_lex.proofs.laws.lexed_reads.Goals as goal

pub returns : goal.returns
returns c = λ script tokens. (lexed-reads script tokens, reads-lexed script tokens)
