use Rattle.std.proofs.Common.{◌∙◌, List, ℕ, sym, ap, subst, take, drop}
use Rattle.el_words.specs.Word.{HasNul}
use Rattle.el_lex.proofs.OrdinaryRuns.{length_run, take_run, run_no_nul}
use Rattle.el_lex.proofs.cursor.Cursor.ordinary.Goals as goal

pub returns-clause-run : goal.returns-clause-run
returns-clause-run c =
    let rest = c.args.self.now.rest.now in
    c.split_at.ensures.front ∙ ap (λ n. take n rest) (c.count_ordinary.ensures.count ∙ sym (length_run c.args.inside rest)) ∙ take_run c.args.inside rest

pub returns-clause-no_nul : goal.returns-clause-no_nul
returns-clause-no_nul c =
    let rest = c.args.self.now.rest.now in
    let P : List ℕ → Type 0 = λ bytes. HasNul bytes → ⊥ in
    subst P (sym (c.split_at.ensures.front ∙ ap (λ n. take n rest) (c.count_ordinary.ensures.count ∙ sym (length_run c.args.inside rest)) ∙ take_run c.args.inside rest))
    (run_no_nul c.args.inside rest)

pub returns-clause-rest : goal.returns-clause-rest
returns-clause-rest c =
    let rest = c.args.self.now.rest.now in
    c.split_at.ensures.back ∙ ap (λ n. drop n rest) (c.count_ordinary.ensures.count ∙ sym (length_run c.args.inside rest))
