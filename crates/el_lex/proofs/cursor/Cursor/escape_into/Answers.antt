use Rattle.std.proofs.Common.{◌∙◌, ◌++◌, ap, sym, refl, append-nil}
use Rattle.el_lex.specs.Escapes.{meant_bytes}
use Rattle.el_lex.proofs.Scans.{escape-meant, same_quotes}
use Rattle.el_lex.proofs.cursor.Cursor.escape_into.Goals as goal

pub returns-in_ok-push-clause-ok : goal.returns-in_ok-push-clause-ok
returns-in_ok-push-clause-ok c = λ opened.
    escape-meant _ _ _ c.args.draft.now.bytes _ _ c.args.draft.now.line opened c.in_ok-byte.ensures.ok
    ∙ same_quotes _ _ _ _ _ _ _ c.push.ensures.line (c.in_ok-push.ensures.bytes ∙ ap (λ meant. c.args.draft.now.bytes ++ meant_bytes meant) (sym c.in-Some.is))

pub returns-in_default-clause-ok : goal.returns-in_default-clause-ok
returns-in_default-clause-ok c = λ opened.
    escape-meant _ _ _ c.args.draft.now.bytes _ _ c.args.draft.now.line opened c.in_ok-byte.ensures.ok
    ∙ same_quotes _ _ _ _ _ _ _ refl (sym (append-nil _) ∙ ap (λ meant. c.args.draft.now.bytes ++ meant_bytes meant) (sym c.in_default.is))
