use Rattle.std.proofs.Common.{◌∙◌, ◌∷◌, [], ap, sym, refl}
use Rattle.std.proofs.lemmas.Result.{err_from_is_err_and}
use Rattle.el_lex.specs.declared.ordinary.Inside.TheVariants.{Word}
use Rattle.el_lex.specs.Scan.{AtGap, scan, in_front}
use Rattle.el_lex.proofs.Scans.{scan-word_over, word-shorter, shorter-twice, fault_along}
use Rattle.el_lex.proofs.OrdinaryRuns.{word-ordinary, left-behind}
use Rattle.el_lex.proofs.cursor.Cursor.word.Goals as goal

pub returns-then-is_over-clause-ok : goal.returns-then-is_over-clause-ok
returns-then-is_over-clause-ok c =
    let line = c.args.self.now.line in
    let new = c.ordinary-run.new.self.rest.now in
    let below = c.ordinary-run.new.self.line in
    word-ordinary c.args.self.now.rest.now new c.ordinary-run.result.now [] _ line below line line
    c.ordinary-run.ensures.run c.ordinary-run.ensures.rest c.ordinary-run.ensures.line refl c.in_ok-word.ensures
    ∙ scan-word_over new below line _ (sym c.if-is_over.ensures)

pub returns-then-is_over-clause-shorter : goal.returns-then-is_over-clause-shorter
returns-then-is_over-clause-shorter c = λ byte next dark.
    let rest = c.args.self.now.rest.now in
    let new = c.ordinary-run.new.self.rest.now in
    word-shorter rest new byte (left-behind Word rest new c.ordinary-run.ensures.rest) (sym c.if-is_over.ensures) next dark

pub returns-clause-ok : goal.returns-clause-ok
returns-clause-ok c =
    word-ordinary c.args.self.now.rest.now c.ordinary-run.new.self.rest.now c.ordinary-run.result.now [] _
    c.args.self.now.line c.ordinary-run.new.self.line c.args.self.now.line _
    c.ordinary-run.ensures.run c.ordinary-run.ensures.rest c.ordinary-run.ensures.line c.in_ok-draft.ensures.line c.in_ok-draft.ensures.bytes
    ∙ c.in_ok-pieces.ensures.ok
    ∙ scan-word_over c.pieces.new.self.rest.now c.pieces.new.self.line c.pieces.new.draft.line c.pieces.new.draft.bytes c.in_ok-pieces.ensures.over
    ∙ ap (λ token. in_front (token ∷ []) (scan c.pieces.new.self.rest.now 0 AtGap c.pieces.new.self.line)) (sym c.into_token.ensures)

pub returns-clause-shorter : goal.returns-clause-shorter
returns-clause-shorter c = λ byte next dark.
    let rest = c.args.self.now.rest.now in
    let mid = c.ordinary-run.new.self.rest.now in
    let new = c.pieces.new.self.rest.now in
    word-shorter rest new byte (shorter-twice rest mid new (left-behind Word rest mid c.ordinary-run.ensures.rest) c.in_ok-pieces.ensures.shorter)
    c.in_ok-pieces.ensures.over next dark

pub returns-in_err-pieces-clause-err : goal.returns-in_err-pieces-clause-err
returns-in_err-pieces-clause-err c =
    let p = err_from_is_err_and c.from_residual-in_err-pieces.result c.from_residual-in_err-pieces.ensures.1 in
    rw (p.1, p.2) (fault_along _ _ _ (word-ordinary c.args.self.now.rest.now c.ordinary-run.new.self.rest.now c.ordinary-run.result.now [] _
    c.args.self.now.line c.ordinary-run.new.self.line c.args.self.now.line _
    c.ordinary-run.ensures.run c.ordinary-run.ensures.rest c.ordinary-run.ensures.line c.in_ok-draft.ensures.line c.in_ok-draft.ensures.bytes)
    c.in_err-pieces.ensures.err)
