use Rattle.std.proofs.Common.{◌≡◌, ◌∙◌, ◌∷◌, [], Some, None, sym, ap, length, arith, inl, inr}
use Rattle.std.specs.Prelude.{slice_get}
use Rattle.std.proofs.lemmas.Result.{err_from_is_err_and}
use Rattle.el_lex.specs.Scan.{AtGap, in_front}
use Rattle.el_lex.specs.Cursors.{given}
use Rattle.el_lex.proofs.Scans.{in_front-nil, in_front-append, scan-whitespace, scan-hash, fault_along, fault_behind, none-given, drop-shorter, append-length}
use Rattle.el_lex.proofs.lexer.read_part.Goals as goal
use Rattle.el_lex.proofs.lexer.read_part.Goals.{else-loop-alloc-test, then-loop-alloc-test+in-None-1}

pub loop-alloc-init : goal.loop-alloc-init
loop-alloc-init c =
    let old = given AtGap c.args.cursor in
    let none = ap length c.new-tokens.ensures in
    (sym (in_front-nil old) ∙ ap (λ tokens. in_front tokens old) (sym c.new-tokens.ensures), omega (arith, none), omega (arith, none))

pub loop-alloc-preserved-then-is_whitespace : goal.loop-alloc-preserved-then-is_whitespace
loop-alloc-preserved-then-is_whitespace c =
    let old = c.loop-alloc.cursor in
    let next : slice_get old.rest.now 0 ≡ Some c.in-Some.byte = cc in
    let fewer = drop-shorter old.rest.now c.next.new.self.rest.now c.in-Some.byte next c.next.ensures.rest in
    let before = c.loop-alloc.invariant.1 in (
      c.loop-alloc.invariant.0 ∙ ap (in_front c.loop-alloc.tokens) (scan-whitespace old.rest.now c.next.new.self.rest.now c.in-Some.byte old.line c.next.new.self.line
          next c.next.ensures.rest c.next.ensures.line (sym c.if-is_whitespace.ensures)),
      omega (arith, fewer, before),
      c.loop-alloc.invariant.2,
    )

pub loop-alloc-preserved-in_ok-comment : goal.loop-alloc-preserved-in_ok-comment
loop-alloc-preserved-in_ok-comment c =
    let old = c.loop-alloc.cursor in
    let behind = c.next-then-byte-eq35.new.self in
    let next : slice_get old.rest.now 0 ≡ Some 35 = cc in
    let fewer = drop-shorter old.rest.now behind.rest.now 35 next c.next-then-byte-eq35.ensures.rest in
    let before = c.loop-alloc.invariant.1 in
    let comment = c.in_ok-comment.ensures.shorter in (
      c.loop-alloc.invariant.0 ∙ ap (in_front c.loop-alloc.tokens) (scan-hash old.rest.now behind.rest.now old.line behind.line
          next c.next-then-byte-eq35.ensures.rest c.next-then-byte-eq35.ensures.line ∙ c.in_ok-comment.ensures.ok),
      omega (arith, fewer, before, comment),
      c.loop-alloc.invariant.2,
    )

pub returns-in_err-comment-clause-err : goal.returns-in_err-comment-clause-err
returns-in_err-comment-clause-err c =
    let old = c.loop-alloc.cursor in
    let behind = c.next-then-byte-eq35.new.self in
    let next : slice_get old.rest.now 0 ≡ Some 35 = cc in
    let p = err_from_is_err_and c.from_residual.result c.from_residual.ensures.1 in
    rw (p.1, p.2) (fault_along _ _ _ (c.loop-alloc.invariant.0 ∙ ap (in_front c.loop-alloc.tokens)
    (scan-hash old.rest.now behind.rest.now old.line behind.line
    next c.next-then-byte-eq35.ensures.rest c.next-then-byte-eq35.ensures.line)) (fault_behind c.loop-alloc.tokens _ _ c.in_err-comment.ensures.err))

pub returns-in_err-token-clause-err : goal.returns-in_err-token-clause-err
returns-in_err-token-clause-err c =
    let p = err_from_is_err_and c.from_residual-in_err-token.result c.from_residual-in_err-token.ensures.1 in
    rw (p.1, p.2) (fault_along _ _ _ c.loop-alloc.invariant.0 (fault_behind c.loop-alloc.tokens _ _ c.in_err-token.ensures.err))

pub loop-alloc-preserved : goal.loop-alloc-preserved
loop-alloc-preserved c =
    let rest = given AtGap c.token.new.self in
    let fewer = c.in_ok-token.ensures.shorter in
    let before = c.loop-alloc.invariant.1 in
    let few = c.loop-alloc-test.true in
    let more = ap length c.in_ok-push.ensures.ok ∙ append-length c.loop-alloc.tokens c.in_ok-token.field-0 in (
      c.loop-alloc.invariant.0 ∙ ap (in_front c.loop-alloc.tokens) c.in_ok-token.ensures.ok
          ∙ sym (in_front-append c.loop-alloc.tokens (c.in_ok-token.field-0 ∷ []) rest) ∙ ap (λ tokens. in_front tokens rest) (sym c.in_ok-push.ensures.ok),
      omega (arith, fewer, before, more),
      omega (arith, few, more),
    )

pub returns-clause-ok : goal.returns-clause-ok
returns-clause-ok c = c.loop-alloc.invariant.0

pub returns-clause-whole : goal.returns-clause-whole
returns-clause-whole c =
    let most = c.loop-alloc.invariant.2 in
    elim c.loop-alloc-test.branch [
      | else-loop-alloc-test w ↦ inl (let full = w.loop-alloc-test.false in omega (arith, most, full))
      | then-loop-alloc-test+in-None-1 w ↦
          let end : slice_get c.loop-alloc.cursor.rest.now 0 ≡ None = cc in
          let few = w.loop-alloc-test.true in
          let len = c.len.ensures in
          inr (omega (arith, few, len), none-given c.loop-alloc.cursor.rest.now c.loop-alloc.cursor.line end)
    ]

pub returns-clause-shorter : goal.returns-clause-shorter
returns-clause-shorter c = c.loop-alloc.invariant.1
