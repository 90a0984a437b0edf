use Rattle.std.proofs.Common.{◌≡◌, ◌∙◌, [], Ok, sym, ap, ap₂, length, arith, append-nil, ⊎_elim}
use Rattle.std.proofs.lemmas.List.{nil_from_length}
use Rattle.el_lex.specs.Scan.{AtGap, scan, in_front}
use Rattle.el_lex.specs.Cursors.{given}
use Rattle.el_lex.proofs.Scans.{nothing-given}
use Rattle.el_lex.proofs.lexer.tokens.Goals as goal

pub returns : goal.returns
returns c =
    let tokens = c.in_ok-tokens.tokens in
    let behind = c.in_ok-tokens.field-0-1 in
    let starts = ap₂ (λ rest line. scan rest 0 AtGap line) (sym c.new.ensures.rest) (sym c.new.ensures.line) in
    let few = c.requires in
    let script = ap length c.new.ensures.rest in
    let shorter = c.in_ok-tokens.ensures.shorter in
    let over : given AtGap behind ≡ Ok [] = ⊎_elim (λ full. nothing-given behind.rest.now behind.line (nil_from_length behind.rest.now (omega (arith, few, script, shorter, full)))) (λ left. left.1) c.in_ok-tokens.ensures.whole in
    starts ∙ c.in_ok-tokens.ensures.ok ∙ ap (in_front tokens) over ∙ ap Ok (append-nil tokens)
