use Rattle.el_lex.proofs.Lexed.{lexed-faults, faults-lexed}
use Rattle.el_lex.proofs.laws.lexed_faults.Goals as goal

pub returns-clause-only : goal.returns-clause-only
returns-clause-only c = lexed-faults

pub returns-clause-always : goal.returns-clause-always
returns-clause-always c = faults-lexed
