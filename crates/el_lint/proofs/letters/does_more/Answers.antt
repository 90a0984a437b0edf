use Rattle.std.proofs.lemmas.Result.{IfOk-weaker}
use Rattle.el_lint.proofs.LettersFound.{imports-alike}
use Rattle.el_lint.proofs.letters.does_more.Goals as goal

pub returns-in-Importas : goal.returns-in-Importas
returns-in-Importas c =
    IfOk-weaker c.imports_more.result _ _ (λ does here. imports-alike c.args.program c.args.options.now does c.in-Importas.is here) c.imports_more.ensures
